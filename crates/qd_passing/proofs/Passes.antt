-- What came of the text of replies puts the first of what they gave.
use Rattle.std.proofs.Common.{◌≡◌, inl, inr, ℕ, suc, ◌≤◌, ◌<◌, Bool, true, false, cond, nat_eq, nat_lt, Option, Some, None, List, [], ◌∷◌, ◌++◌, length, map, refl, sym, ap, ◌∙◌, arith, append_assoc, subst, length-append}
use Rattle.std.specs.Prelude.{Result, Ok, Err}
use Rattle.std.specs.List.{AllByRecursion}
use Rattle.std.proofs.lemmas.Bool.Decides.{nat_tests}
use Rattle.std.proofs.lemmas.List.{append-nil}
use Rattle.qd_buffer.specs.Filled.{Filled}
use Rattle.qd_scheme.specs.declared.defs.RecordDef.{RecordDef}
use Rattle.qd_scheme.specs.declared.key.Event.{Event}
use Rattle.qd_scheme.specs.declared.key.Key.{Key}
use Rattle.qd_scheme.specs.declared.key.Record.{Record}
use Rattle.qd_scheme.specs.Schemes.{IsScheme}
use Rattle.qd_sub.specs.declared.sub.Want.{Want}
use Rattle.qd_sub.specs.declared.op.Reply.{Reply}
use Rattle.qd_sub.specs.declared.op.Reply.TheVariants as replies
use Rattle.qd_stream.specs.declared.item.StreamItem.{StreamItem}
use Rattle.qd_stream.specs.declared.item.StreamItem.TheVariants as stream_items
use Rattle.qd_stream.specs.Items.{key_of_item}
use Rattle.qd_hist_rules.specs.declared.item.HistItem.{HistItem}
use Rattle.qd_hist_rules.specs.declared.reply.HistoryReply.{HistoryReply}
use Rattle.qd_hist_rules.specs.declared.reply.HistoryReply.TheVariants as events
use Rattle.qd_grammar.specs.declared.fault.Fault.{Fault}
use Rattle.qd_grammar.specs.declared.item.Item.{Item}
use Rattle.qd_grammar.specs.declared.item.Item.TheVariants as items
use Rattle.qd_grammar.specs.declared.item.Message.{Message}
use Rattle.qd_grammar.specs.declared.item.Message.TheVariants.{TickerData, StreamData, HistoryData, StreamLost, TickerAdd, StreamAdd, HistoryAdd, TickerRemove, StreamRemove, HistoryRemove}
use Rattle.qd_grammar.specs.declared.item.Mode.TheVariants as modes
use Rattle.qd_grammar.specs.Items.{IsOneOf, data_heads}
use Rattle.qd_line.specs.Lines.{joined, IsCut, AreLines}
use Rattle.qd_items.specs.Judging.{items_of, said, state_of, with_said}
use Rattle.qd_items.proofs.LineOrder.{goes_on, joined_more}
use Rattle.qd_path.specs.declared.call.Asked.{Asked}
use Rattle.qd_path.specs.declared.call.Call.{Call}
use Rattle.qd_path.specs.declared.side.Side.TheVariants.{Up}
use Rattle.qd_path.specs.Groups.{is_foreign}
use Rattle.qd_path.specs.Calls.{Place, place_of, joined_by, AskFor, calls}
use Rattle.qd_path.specs.Made.{Made}
use Rattle.qd_path.specs.Texts.{ReplyItem, ticker_item, stream_item, history_item, want_item, history_want_item, reply_items, history_items, items_in}
use Rattle.qd_passing.specs.Passing.{only, put_in, said_in, records_in, record_said, item_said, event_said, EachPut}
use Rattle.qd_passing.specs.Passing as puts
use Rattle.qd_passing.specs.Replies.{MayPass, AllPass, link_text, given_by, records_given, items_given, events_of, events_given, given_in, RecordsPass, ItemsPass, EventsPass}
use Rattle.qd_passing.proofs.Putting.{only-append}
use Rattle.qd_passing.proofs.Sorts.{records_put, items_put, events_put}
use Rattle.qd_passing.proofs.Reading.{written, lines_of, written-text, IsRight, AllRight, gains, all_gains, reads-all}

-- lines of a text and of its beginning
longer : (ls more : List (List ℕ)) (line : List ℕ) → suc (length (joined ls)) ≤ length (joined (line ∷ (more ++ ls)))
longer ls more line =
    let a = joined_more more ls in
    let b = length-append (joined (more ++ ls)) (line ++ 10 ∷ []) in
    let c = length-append line (10 ∷ []) in
    omega (arith, a, b, c)

nothing-behind : (text rest : List ℕ) (ls more : List (List ℕ)) → text ≡ joined ls → text ≡ joined (more ++ ls) ++ rest → more ≡ []
nothing-behind text rest ls [] e f = refl
nothing-behind text rest ls (line ∷ more) e f =
    let a = longer ls more line in
    let b = ap length (sym e ∙ f) in
    let c = length-append (joined (line ∷ (more ++ ls))) rest in
    absurd (omega (arith, a, b, c))

begins : (text late rest : List ℕ) (all some : List (List ℕ)) (bytes : List ℕ) → text ≡ joined all → AreLines all → IsCut bytes some rest → bytes ++ late ≡ text → (more : List (List ℕ)) × (all ≡ more ++ some)
begins text late rest all some bytes whole each cut e = go (nat_lt (length all) (length some)) refl
  where
    one : IsCut text some (rest ++ late)
    one = record { whole = sym e ∙ ap (λ b. b ++ late) cut.whole ∙ append_assoc (joined some) rest late; each = cut.each }

    other : IsCut text all []
    other = record { whole = whole ∙ sym (append-nil (joined all)); each = each }

    go : (b : Bool) → nat_lt (length all) (length some) ≡ b → (more : List (List ℕ)) × (all ≡ more ++ some)
    go false f = goes_on text some all (rest ++ late) [] one other (grind (arith, nat_tests))
    go true f =
        let g = goes_on text all some [] (rest ++ late) other one (grind (arith, nat_tests)) in
        let none = nothing-behind text (rest ++ late) all g.0 whole (one.whole ∙ ap (λ ls. joined ls ++ (rest ++ late)) g.1) in
        ([], sym (g.1 ∙ ap (λ m. m ++ all) none))

module _ {X : Type 0} (key : X → Key) (says : Option Message → Item → List X) (k : Key) (defs : List RecordDef) where
  -- later lines only say more
  said-later : (more lines : List (List ℕ)) → (extra : List X) × (said_in key says k (items_of modes.Up defs (more ++ lines)) ≡ said_in key says k (items_of modes.Up defs lines) ++ extra)
  said-later [] lines = ([], sym (append-nil (said_in key says k (items_of modes.Up defs lines))))
  said-later (line ∷ more) lines = go (said modes.Up defs (state_of modes.Up defs (more ++ lines)) line) (said-later more lines)
    where
      go : (r : Result (Option Item) Fault) → (extra : List X) × (said_in key says k (items_of modes.Up defs (more ++ lines)) ≡ said_in key says k (items_of modes.Up defs lines) ++ extra)
          → (extra : List X) × (said_in key says k (with_said (length (line ∷ (more ++ lines))) r (items_of modes.Up defs (more ++ lines))) ≡ said_in key says k (items_of modes.Up defs lines) ++ extra)
      go (Ok None) g = g
      go (Err f) g = g
      go (Ok (Some item)) g =
          let new : List X = only key k (says (place_of (items_of modes.Up defs (more ++ lines))).message item) in
          (g.0 ++ new, ap (λ xs. xs ++ new) g.1 ∙ append_assoc (said_in key says k (items_of modes.Up defs lines)) g.0 new)

-- wants are no data
no_want : (add remove : Message) → (IsOneOf add data_heads → ⊥) → (IsOneOf remove data_heads → ⊥) → (w : Want) → IsOneOf (want_item add remove w).message data_heads → ⊥
no_want add remove a r w h = go w.total h
  where
    go : (o : Option ℕ) → IsOneOf (let y : ReplyItem = elim o [ None ↦ record { message = remove; item = items.Sub w.key } | Some limit ↦ record { message = add; item = items.Sub w.key } ] in y).message data_heads → ⊥
    go None h = r h
    go (Some limit) h = a h

no_history_want : (w : Want) → IsOneOf (history_want_item w).message data_heads → ⊥
no_history_want w h = go w.total h
  where
    go : (o : Option ℕ) → IsOneOf (let y : ReplyItem = elim o [ None ↦ record { message = HistoryRemove; item = items.Sub w.key } | Some limit ↦ record { message = HistoryAdd; item = items.HistSub (record { key = w.key; limit = limit }) } ] in y).message data_heads → ⊥
    go None (inl e) = cc e
    go None (inr (inl e)) = cc e
    go None (inr (inr (inl e))) = cc e
    go None (inr (inr (inr (inl e)))) = cc e
    go None (inr (inr (inr (inr n)))) = absurd n
    go (Some limit) (inl e) = cc e
    go (Some limit) (inr (inl e)) = cc e
    go (Some limit) (inr (inr (inl e))) = cc e
    go (Some limit) (inr (inr (inr (inl e)))) = cc e
    go (Some limit) (inr (inr (inr (inr n)))) = absurd n

no_ticker_add : IsOneOf TickerAdd data_heads → ⊥
no_ticker_add (inl e) = cc e
no_ticker_add (inr (inl e)) = cc e
no_ticker_add (inr (inr (inl e))) = cc e
no_ticker_add (inr (inr (inr (inl e)))) = cc e
no_ticker_add (inr (inr (inr (inr n)))) = absurd n

no_ticker_remove : IsOneOf TickerRemove data_heads → ⊥
no_ticker_remove (inl e) = cc e
no_ticker_remove (inr (inl e)) = cc e
no_ticker_remove (inr (inr (inl e))) = cc e
no_ticker_remove (inr (inr (inr (inl e)))) = cc e
no_ticker_remove (inr (inr (inr (inr n)))) = absurd n

no_stream_add : IsOneOf StreamAdd data_heads → ⊥
no_stream_add (inl e) = cc e
no_stream_add (inr (inl e)) = cc e
no_stream_add (inr (inr (inl e))) = cc e
no_stream_add (inr (inr (inr (inl e)))) = cc e
no_stream_add (inr (inr (inr (inr n)))) = absurd n

no_stream_remove : IsOneOf StreamRemove data_heads → ⊥
no_stream_remove (inl e) = cc e
no_stream_remove (inr (inl e)) = cc e
no_stream_remove (inr (inr (inl e))) = cc e
no_stream_remove (inr (inr (inr (inl e)))) = cc e
no_stream_remove (inr (inr (inr (inr n)))) = absurd n

-- the reply has no items
abbrev no_items : HistoryReply → Bool
no_items (events.Items given) = false
no_items events.Done = true
no_items (events.Wants told) = true
no_items events.TooManyKeys = true
no_items events.TooManySubs = true
no_items events.HistoryFull = true
no_items events.Spent = true
no_items events.NoMemory = true

no-events : (reply : HistoryReply) → no_items reply ≡ true → events_of reply ≡ []
no-events (events.Items given) h = cc h
no-events events.Done h = refl
no-events (events.Wants told) h = refl
no-events events.TooManyKeys h = refl
no-events events.TooManySubs h = refl
no-events events.HistoryFull h = refl
no-events events.Spent h = refl
no-events events.NoMemory h = refl

module _ (defs : List RecordDef) where
  -- a list of wants that may pass is empty
  none-wanted : (f : Want → ReplyItem) → ((w : Want) → IsOneOf (f w).message data_heads → ⊥) → (ws : List Want) → AllByRecursion (MayPass defs) (map f ws) → ws ≡ []
  none-wanted f bad [] p = refl
  none-wanted f bad (w ∷ ws) p = absurd (bad w p.0.a_head)

  body-message : (foreign : Bool) (item : Item) (p : Place) → (cond {A = Place} foreign p (joined_by item p)).message ≡ p.message
  body-message true item p = refl
  body-message false item p = refl

  right-record : (r : Record) → IsRight defs (ticker_item r)
  right-record r = record {
    may = λ s st cur. record { started = st; message = TickerData; current = cur; one = inl refl };
    keeps = λ s. refl;
    keeps_message = λ p. body-message (is_foreign p.message (items.Rec r)) (items.Rec r) p;
  }

  right-item : (i : StreamItem) → IsRight defs (stream_item i)
  right-item (stream_items.Rec r) = record {
    may = λ s st cur. record { started = st; message = StreamData; current = cur; one = inr (inl refl) };
    keeps = λ s. refl;
    keeps_message = λ p. body-message (is_foreign p.message (items.Rec r)) (items.Rec r) p;
  }
  right-item (stream_items.Lost j c) = record {
    may = λ s st cur. record { started = st; message = StreamLost; current = cur; one = inl refl };
    keeps = λ s. refl;
    keeps_message = λ p. body-message (is_foreign p.message (items.Lost j c)) (items.Lost j c) p;
  }

  right-event : (i : HistItem) → IsRight defs (history_item i)
  right-event i = record {
    may = λ s st cur. record { started = st; message = HistoryData; current = cur; one = inl refl };
    keeps = λ s. refl;
    keeps_message = λ p. body-message (is_foreign p.message (items.Ev i.event)) (items.Ev i.event) p;
  }

  each-right : {T : Type 0} (f : T → ReplyItem) → ((t : T) → IsRight defs (f t)) → (ts : List T) → AllByRecursion (IsRight defs) (map f ts)
  each-right f w [] = tt
  each-right f w (t ∷ ts) = (w t, each-right f w ts)

  wanted-right : (f : Want → ReplyItem) → ((w : Want) → IsOneOf (f w).message data_heads → ⊥) → (ws : List Want) → AllByRecursion (MayPass defs) (map f ws) → AllByRecursion (IsRight defs) (map f ws)
  wanted-right f bad ws p = subst (λ us. AllByRecursion (IsRight defs) (map f us)) (sym (none-wanted f bad ws p)) tt

  reply-right : {T : Type 0} (f : T → ReplyItem) (g : Want → ReplyItem) → ((t : T) → IsRight defs (f t)) → ((w : Want) → IsOneOf (g w).message data_heads → ⊥) → (reply : Reply T) → AllByRecursion (MayPass defs) (reply_items f g reply) → AllByRecursion (IsRight defs) (reply_items f g reply)
  reply-right f g w bad replies.Done p = tt
  reply-right f g w bad (replies.Items given) p = each-right f w given.items
  reply-right f g w bad (replies.Wants told) p = wanted-right g bad told.items p
  reply-right f g w bad replies.TooManyKeys p = tt
  reply-right f g w bad replies.TooManySubs p = tt
  reply-right f g w bad replies.NoMemory p = tt

  history-right : (reply : HistoryReply) → AllByRecursion (MayPass defs) (history_items reply) → AllByRecursion (IsRight defs) (history_items reply)
  history-right events.Done p = tt
  history-right (events.Items given) p = each-right history_item right-event given.items
  history-right (events.Wants told) p = wanted-right history_want_item no_history_want told.items p
  history-right events.TooManyKeys p = tt
  history-right events.TooManySubs p = tt
  history-right events.HistoryFull p = tt
  history-right events.Spent p = tt
  history-right events.NoMemory p = tt

  made-right : (x : Made) → AllByRecursion (MayPass defs) (items_in x) → AllByRecursion (IsRight defs) (items_in x)
  made-right (Made.Ticker stripe op reply) p = reply-right ticker_item (want_item TickerAdd TickerRemove) right-record (no_want TickerAdd TickerRemove no_ticker_add no_ticker_remove) reply p
  made-right (Made.Stream stripe op reply) p = reply-right stream_item (want_item StreamAdd StreamRemove) right-item (no_want StreamAdd StreamRemove no_stream_add no_stream_remove) reply p
  made-right (Made.History stripe op reply) p = history-right reply p

  all-right : (made : List Made) → AllPass defs made → AllRight defs made
  all-right [] p = tt
  all-right (x ∷ before) p = (made-right x p.0, all-right before p.1)

  -- what replies give, their items say
  module _ {X : Type 0} (key : X → Key) (says : Option Message → Item → List X) (k : Key) (gives : Made → List X)
      (same : (x : Made) → AllByRecursion (MayPass defs) (items_in x) → gains key says k (items_in x) ≡ only key k (gives x)) where
    all-given : (made : List Made) → AllPass defs made → all_gains key says k made ≡ given_in key gives k made
    all-given [] p = refl
    all-given (x ∷ before) p = ap (λ xs. xs ++ gains key says k (items_in x)) (all-given before p.1) ∙ ap (λ xs. given_in key gives k before ++ xs) (same x p.0)

  -- the law, for one sort of items
  module _ {X : Type 0} (key : X → Key) (part : Call → List X) (says : Option Message → Item → List X) (k : Key) (gives : Made → List X) (put : EachPut key part says)
      (same : (x : Made) → AllByRecursion (MayPass defs) (items_in x) → gains key says k (items_in x) ≡ only key k (gives x)) (scheme : IsScheme defs)
      (head_says : (m : Option Message) (message : Message) → says m (items.Head message) ≡ []) (beat_says : (m : Option Message) → says m items.Heartbeat ≡ []) (protocol_says : (m : Option Message) → says m items.Protocol ≡ []) where
    passes : (watcher n : ℕ) (made : List Made) (bytes late : List ℕ) (asked : List Asked) → 0 < n → AllPass defs made → bytes ++ late ≡ link_text defs made → AskFor defs (Up watcher) n bytes asked
        → (in_flight : List X) × (put_in key part k asked ++ in_flight ≡ given_in key gives k made)
    passes watcher n made bytes late asked some p whole (lines, rest, judged, is) =
        let r = reads-all key says k defs scheme head_says beat_says protocol_says made p (all-right made p) in
        let b = begins (link_text defs made) late rest (lines_of defs (written made)) lines bytes (sym (written-text defs made p)) r.1.each judged.taken.cut whole in
        let e = put defs watcher n lines k some in
        let m = said-later key says k defs b.0 lines in
        let all : said_in key says k (items_of modes.Up defs (b.0 ++ lines)) ≡ given_in key gives k made =
        ap (λ ls. said_in key says k (items_of modes.Up defs ls)) (sym b.1) ∙ r.1.told ∙ all-given key says k gives same made p in (
          e.0 ++ m.0,
          ap (λ a. put_in key part k a ++ (e.0 ++ m.0)) is ∙ sym (append_assoc (put_in key part k (calls defs (Up watcher) n lines)) e.0 m.0) ∙ ap (λ xs. xs ++ m.0) e.1 ∙ sym m.1 ∙ all,
        )

  -- what the items of a reply say of one sort
  module _ {X : Type 0} (key : X → Key) (part : Call → List X) (says : Option Message → Item → List X) (k : Key) where
    gains-none : {T : Type 0} (f : T → ReplyItem) → ((t : T) → says (Some (f t).message) (f t).item ≡ []) → (ts : List T) → gains key says k (map f ts) ≡ []
    gains-none f h [] = refl
    gains-none f h (t ∷ ts) = ap (λ xs. only key k xs ++ gains key says k (map f ts)) (h t) ∙ gains-none f h ts

    gains-each : {T : Type 0} (f : T → ReplyItem) (value : T → X) → ((t : T) → MayPass defs (f t) → says (Some (f t).message) (f t).item ≡ value t ∷ []) → (ts : List T) → AllByRecursion (MayPass defs) (map f ts) → gains key says k (map f ts) ≡ only key k (map value ts)
    gains-each f value h [] p = refl
    gains-each f value h (t ∷ ts) p =
        ap (λ xs. only key k xs ++ gains key says k (map f ts)) (h t p.0) ∙ ap (λ xs. only key k (value t ∷ []) ++ xs) (gains-each f value h ts p.1) ∙ sym (only-append key part k (value t ∷ []) (map value ts))

    reply-gains : {T : Type 0} (f : T → ReplyItem) (g : Want → ReplyItem) → ((w : Want) → IsOneOf (g w).message data_heads → ⊥) → (out : List T → List X) → out [] ≡ [] → ((ts : List T) → AllByRecursion (MayPass defs) (map f ts) → gains key says k (map f ts) ≡ only key k (out ts))
        → (reply : Reply T) → AllByRecursion (MayPass defs) (reply_items f g reply) → gains key says k (reply_items f g reply) ≡ only key k (out (given_by reply))
    reply-gains f g bad out e h replies.Done p = ap (only key k) (sym e)
    reply-gains f g bad out e h (replies.Items given) p = h given.items p
    reply-gains f g bad out e h (replies.Wants told) p = ap (λ ws. gains key says k (map g ws)) (none-wanted g bad told.items p) ∙ ap (only key k) (sym e)
    reply-gains f g bad out e h replies.TooManyKeys p = ap (only key k) (sym e)
    reply-gains f g bad out e h replies.TooManySubs p = ap (only key k) (sym e)
    reply-gains f g bad out e h replies.NoMemory p = ap (only key k) (sym e)

    history-gains : (out : HistoryReply → List X) → ((given : Filled HistItem) → AllByRecursion (MayPass defs) (map history_item given.items) → gains key says k (map history_item given.items) ≡ only key k (out (events.Items given))) → ((reply : HistoryReply) → no_items reply ≡ true → out reply ≡ [])
        → (reply : HistoryReply) → AllByRecursion (MayPass defs) (history_items reply) → gains key says k (history_items reply) ≡ only key k (out reply)
    history-gains out h e events.Done p = ap (only key k) (sym (e events.Done refl))
    history-gains out h e (events.Items given) p = h given p
    history-gains out h e (events.Wants told) p = ap (λ ws. gains key says k (map history_want_item ws)) (none-wanted history_want_item no_history_want told.items p) ∙ ap (only key k) (sym (e (events.Wants told) refl))
    history-gains out h e events.TooManyKeys p = ap (only key k) (sym (e events.TooManyKeys refl))
    history-gains out h e events.TooManySubs p = ap (only key k) (sym (e events.TooManySubs refl))
    history-gains out h e events.HistoryFull p = ap (only key k) (sym (e events.HistoryFull refl))
    history-gains out h e events.Spent p = ap (only key k) (sym (e events.Spent refl))
    history-gains out h e events.NoMemory p = ap (only key k) (sym (e events.NoMemory refl))

    -- a reply of which this sort has nothing
    reply-silent : {T : Type 0} (f : T → ReplyItem) (g : Want → ReplyItem) → ((w : Want) → IsOneOf (g w).message data_heads → ⊥) → ((t : T) → says (Some (f t).message) (f t).item ≡ [])
        → (reply : Reply T) → AllByRecursion (MayPass defs) (reply_items f g reply) → gains key says k (reply_items f g reply) ≡ []
    reply-silent f g bad h reply p = reply-gains f g bad (λ ts. []) refl (λ ts q. gains-none f h ts) reply p

    history-silent : ((i : HistItem) → says (Some HistoryData) (items.Ev i.event) ≡ []) → (reply : HistoryReply) → AllByRecursion (MayPass defs) (history_items reply) → gains key says k (history_items reply) ≡ []
    history-silent h reply p = history-gains (λ r. []) (λ given q. gains-none history_item h given.items) (λ r q. refl) reply p

  map-same : {X : Type 0} (xs : List X) → map (λ x. x) xs ≡ xs
  map-same [] = refl
  map-same (x ∷ xs) = ap (λ ys. x ∷ ys) (map-same xs)

  abbrev record_key : Record → Key
  record_key r = r.key

  abbrev event_key : Event → Key
  event_key e = e.key

  stream_no_record : (i : StreamItem) → record_said (Some (stream_item i).message) (stream_item i).item ≡ []
  stream_no_record (stream_items.Rec r) = refl
  stream_no_record (stream_items.Lost j c) = refl

  stream_no_event : (i : StreamItem) → event_said (Some (stream_item i).message) (stream_item i).item ≡ []
  stream_no_event (stream_items.Rec r) = refl
  stream_no_event (stream_items.Lost j c) = refl

  records-same : (k : Key) (x : Made) → AllByRecursion (MayPass defs) (items_in x) → gains record_key record_said k (items_in x) ≡ only record_key k (records_given x)
  records-same k (Made.Ticker stripe op reply) p =
      reply-gains record_key records_in record_said k ticker_item (want_item TickerAdd TickerRemove) (no_want TickerAdd TickerRemove no_ticker_add no_ticker_remove) (λ rs. rs) refl
      (λ rs q. gains-each record_key records_in record_said k ticker_item (λ r. r) (λ r m. refl) rs q ∙ ap (only record_key k) (map-same rs)) reply p
  records-same k (Made.Stream stripe op reply) p = reply-silent record_key records_in record_said k stream_item (want_item StreamAdd StreamRemove) (no_want StreamAdd StreamRemove no_stream_add no_stream_remove) stream_no_record reply p
  records-same k (Made.History stripe op reply) p = history-silent record_key records_in record_said k (λ i. refl) reply p

  item-told : (i : StreamItem) → MayPass defs (stream_item i) → item_said (Some (stream_item i).message) (stream_item i).item ≡ i ∷ []
  item-told (stream_items.Rec r) m = refl
  item-told (stream_items.Lost j c) m = rw (positive c m.is.1.0) refl
    where
      positive : (c : ℕ) → 0 < c → nat_eq c 0 ≡ false
      positive c h = grind (arith, nat_tests)

  items-same : (k : Key) (x : Made) → AllByRecursion (MayPass defs) (items_in x) → gains key_of_item item_said k (items_in x) ≡ only key_of_item k (items_given x)
  items-same k (Made.Stream stripe op reply) p =
      reply-gains key_of_item puts.items_in item_said k stream_item (want_item StreamAdd StreamRemove) (no_want StreamAdd StreamRemove no_stream_add no_stream_remove) (λ is. is) refl
      (λ is q. gains-each key_of_item puts.items_in item_said k stream_item (λ i. i) item-told is q ∙ ap (only key_of_item k) (map-same is)) reply p
  items-same k (Made.Ticker stripe op reply) p = reply-silent key_of_item puts.items_in item_said k ticker_item (want_item TickerAdd TickerRemove) (no_want TickerAdd TickerRemove no_ticker_add no_ticker_remove) (λ r. refl) reply p
  items-same k (Made.History stripe op reply) p = history-silent key_of_item puts.items_in item_said k (λ i. refl) reply p

  event-told : (i : HistItem) → MayPass defs (history_item i) → event_said (Some HistoryData) (items.Ev i.event) ≡ i.event ∷ []
  event-told i m = rw (below i.event.index m.is.index) refl
    where
      below : (n : ℕ) → n < 9223372036854775808 → nat_lt n 9223372036854775808 ≡ true
      below n h = grind (arith, nat_tests)

  events-same : (k : Key) (x : Made) → AllByRecursion (MayPass defs) (items_in x) → gains event_key event_said k (items_in x) ≡ only event_key k (events_given x)
  events-same k (Made.History stripe op reply) p =
      history-gains event_key puts.events_in event_said k events_of (λ given q. gains-each event_key puts.events_in event_said k history_item (λ i. i.event) event-told given.items q) no-events reply p
  events-same k (Made.Ticker stripe op reply) p = reply-silent event_key puts.events_in event_said k ticker_item (want_item TickerAdd TickerRemove) (no_want TickerAdd TickerRemove no_ticker_add no_ticker_remove) (λ r. refl) reply p
  events-same k (Made.Stream stripe op reply) p = reply-silent event_key puts.events_in event_said k stream_item (want_item StreamAdd StreamRemove) (no_want StreamAdd StreamRemove no_stream_add no_stream_remove) stream_no_event reply p

pub records_pass : RecordsPass
records_pass defs watcher n made bytes late asked k some scheme p whole ask =
    passes defs (λ r. r.key) records_in record_said k records_given records_put (records-same defs k) scheme (λ m message. refl) (λ m. refl) (λ m. refl) watcher n made bytes late asked some p whole ask

pub items_pass : ItemsPass
items_pass defs watcher n made bytes late asked k some scheme p whole ask =
    passes defs key_of_item puts.items_in item_said k items_given items_put (items-same defs k) scheme (λ m message. refl) (λ m. refl) (λ m. refl) watcher n made bytes late asked some p whole ask

pub events_pass : EventsPass
events_pass defs watcher n made bytes late asked k some scheme p whole ask =
    passes defs (λ e. e.key) puts.events_in event_said k events_given events_put (events-same defs k) scheme (λ m message. refl) (λ m. refl) (λ m. refl) watcher n made bytes late asked some p whole ask
