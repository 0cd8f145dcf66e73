-- The text of replies, read again by a peer below.
use Rattle.std.proofs.Common.{◌≡◌, ℕ, Bool, true, false, if◌then◌else◌, nat_eq, Option, Some, None, List, [], ◌∷◌, ◌++◌, length, map, refl, sym, ap, ◌∙◌, append_assoc, subst}
use Rattle.std.specs.Prelude.{Result, Ok}
use Rattle.std.specs.List.{AllByRecursion}
use Rattle.std.proofs.lemmas.List.{append-nil}
use Rattle.qd_scheme.specs.declared.defs.RecordDef.{RecordDef}
use Rattle.qd_scheme.specs.declared.key.Key.{Key}
use Rattle.qd_scheme.specs.Schemes.{IsScheme}
use Rattle.qd_grammar.specs.declared.item.Item.{Item}
use Rattle.qd_grammar.specs.declared.item.Item.TheVariants as items
use Rattle.qd_grammar.specs.declared.item.Message.{Message}
use Rattle.qd_grammar.specs.declared.item.Mode.TheVariants as modes
use Rattle.qd_grammar.specs.declared.state.State.{State}
use Rattle.qd_grammar.specs.Canonical.{canonical}
use Rattle.qd_grammar.specs.Items.{IsItem, MayStand, IsStarted, IsOneOf, data_heads}
use Rattle.qd_grammar.specs.Lines.{Spells, is_skipped, item_of, answer_of}
use Rattle.qd_grammar.specs.Lines as grammar
use Rattle.qd_grammar.specs.Parts.{◌>>=◌}
use Rattle.qd_grammar.proofs.EachItem.{each_spells}
use Rattle.qd_line.specs.Lines.{joined, AreLines}
use Rattle.qd_line.specs.Cutter.{AreShort}
use Rattle.qd_items.specs.Judging.{Numbered, items_of, said, state_of, with_said}
use Rattle.qd_text.specs.Reading.{state_after}
use Rattle.qd_path.specs.Calls.{Place, place_of}
use Rattle.qd_path.specs.Calls as groups
use Rattle.qd_path.specs.Made.{Made}
use Rattle.qd_path.specs.Texts.{ReplyItem, number_of, line_of, head_before, fits, items_text, text_of, items_in, sent}
use Rattle.qd_passing.specs.Passing.{only, said_in}
use Rattle.qd_passing.specs.Replies.{IsPlainLine, MayPass, AllPass, link_text}
use Rattle.qd_passing.proofs.Heads.{head-plain, beat-plain, protocol-plain, same-message}

-- the items that are written of a reply's items, the newest first, behind others
abbrev head_at : Option Message → Message → List Item → List Item
head_at None message acc = items.Head message ∷ acc
head_at (Some last) message acc = if nat_eq (number_of last) (number_of message) then acc else items.Head message ∷ acc

abbrev push : Option Message → List ReplyItem → List Item → List Item
push last [] acc = acc
push last (x ∷ xs) acc = push (Some x.message) xs (x.item ∷ head_at last x.message acc)

abbrev behind : List ReplyItem → List Item → List Item
behind [] acc = acc
behind (x ∷ xs) acc = items.Heartbeat ∷ push None (x ∷ xs) acc

-- all that is written for a peer, the newest first
abbrev pub written : List Made → List Item
written [] = items.Protocol ∷ []
written (x ∷ before) = behind (items_in x) (written before)

module _ (defs : List RecordDef) where
  abbrev pub lines_of : List Item → List (List ℕ)
  lines_of acc = map (canonical defs) acc

  head-text : (last : Option Message) (message : Message) (acc : List Item) → joined (lines_of (head_at last message acc)) ≡ joined (lines_of acc) ++ head_before defs last message
  head-text None message acc = refl
  head-text (Some last) message acc = elim (nat_eq (number_of last) (number_of message)) as (λ b. joined (lines_of (if b then acc else items.Head message ∷ acc)) ≡ joined (lines_of acc) ++ (if b then [] else line_of defs (items.Head message))) [
    | true ↦ sym (append-nil (joined (lines_of acc)))
    | false ↦ refl
  ]

  push-text : (last : Option Message) (xs : List ReplyItem) (acc : List Item) → AllByRecursion (MayPass defs) xs → joined (lines_of (push last xs acc)) ≡ joined (lines_of acc) ++ items_text defs last xs
  push-text last [] acc p = sym (append-nil (joined (lines_of acc)))
  push-text last (x ∷ xs) acc p =
      let rest = push-text (Some x.message) xs (x.item ∷ head_at last x.message acc) p.1 in
      let tail = items_text defs (Some x.message) xs in
      rest ∙ ap (λ t. (t ++ line_of defs x.item) ++ tail) (head-text last x.message acc)
      ∙ ap (λ t. t ++ tail) (append_assoc (joined (lines_of acc)) (head_before defs last x.message) (line_of defs x.item))
      ∙ append_assoc (joined (lines_of acc)) (head_before defs last x.message ++ line_of defs x.item) tail
      ∙ ap (λ t. joined (lines_of acc) ++ t) (sym (kept (fits defs x.item) p.0.fitting))
    where
      kept : (b : Bool) → b ≡ true → (if b then (head_before defs last x.message ++ line_of defs x.item) ++ items_text defs (Some x.message) xs else items_text defs last xs) ≡ (head_before defs last x.message ++ line_of defs x.item) ++ items_text defs (Some x.message) xs
      kept true e = refl
      kept false e = cc e

  behind-text : (xs : List ReplyItem) (acc : List Item) → AllByRecursion (MayPass defs) xs → joined (lines_of (behind xs acc)) ≡ joined (lines_of acc) ++ text_of defs xs
  unfolding text_of
  behind-text [] acc p = sym (append-nil (joined (lines_of acc)))
  behind-text (x ∷ xs) acc p =
      ap (λ t. t ++ line_of defs items.Heartbeat) (push-text None (x ∷ xs) acc p) ∙ append_assoc (joined (lines_of acc)) (items_text defs None (x ∷ xs)) (line_of defs items.Heartbeat)

  pub written-text : (made : List Made) → AllPass defs made → joined (lines_of (written made)) ≡ link_text defs made
  written-text [] p = sym (append-nil (line_of defs items.Protocol))
  written-text (x ∷ before) p =
      behind-text (items_in x) (written before) p.0 ∙ ap (λ t. t ++ text_of defs (items_in x)) (written-text before p.1)
      ∙ append_assoc (line_of defs items.Protocol) (sent defs before) (text_of defs (items_in x))

  -- a line that says its item
  module _ (scheme : IsScheme defs) where
    says-line : (s : State) (item : Item) → IsItem defs item → MayStand modes.Up s defs item → IsPlainLine (canonical defs item) → said modes.Up defs s (canonical defs item) ≡ Ok (Some item)
    says-line s item is may plain =
        let p = each_spells modes.Up s defs item scheme is may in
        ap (answer_of modes.Up s defs) plain.no_cr ∙ told (is_skipped (canonical defs item)) (item_of modes.Up s defs (canonical defs item)) p.counts p.judged
      where
        told : (b : Bool) (r : _) → b ≡ false → r ≡ Ok item → (if b then Ok None else r >>= λ i. Ok (Some i)) ≡ Ok (Some item)
        told true r e f = cc e
        told false r e f = rw f refl

-- an item of a reply may stand under its message, and changes neither the state nor the message of a text
pub record IsRight (defs : List RecordDef) (x : ReplyItem) : Type 0 where
  pub may : (s : State) → IsStarted s → s.message ≡ Some x.message → MayStand modes.Up s defs x.item
  pub keeps : (s : State) → grammar.after x.item s ≡ s
  pub keeps_message : (p : Place) → (groups.after x.item p).message ≡ p.message

-- each item of all these replies is
abbrev pub AllRight : List RecordDef → List Made → Type 0
AllRight defs [] = Unit {0}
AllRight defs (x ∷ before) = AllByRecursion (IsRight defs) (items_in x) × AllRight defs before

module _ {X : Type 0} (key : X → Key) (says : Option Message → Item → List X) (k : Key) where
  -- what a reply's items say of k
  abbrev pub gains : List ReplyItem → List X
  gains [] = []
  gains (x ∷ xs) = only key k (says (Some x.message) x.item) ++ gains xs

  -- and those of all these replies, the newest first
  abbrev pub all_gains : List Made → List X
  all_gains [] = []
  all_gains (x ∷ before) = all_gains before ++ gains (items_in x)

-- that items of replies are right, and what they say of a sort of items
module _ {X : Type 0} (key : X → Key) (says : Option Message → Item → List X) (k : Key) (defs : List RecordDef) (scheme : IsScheme defs)
    (head_says : (m : Option Message) (message : Message) → says m (items.Head message) ≡ []) (beat_says : (m : Option Message) → says m items.Heartbeat ≡ []) (protocol_says : (m : Option Message) → says m items.Protocol ≡ []) where
  abbrev state : List Item → State
  state acc = state_of modes.Up defs (lines_of defs acc)

  abbrev numbers : List Item → List Numbered
  numbers acc = items_of modes.Up defs (lines_of defs acc)

  -- how far the text is read
  pub record Reads (acc : List Item) (m : Option Message) (all : List X) : Type 0 where
    pub started : IsStarted (state acc)
    pub message : (state acc).message ≡ m
    pub place : (place_of (numbers acc)).message ≡ m
    pub told : said_in key says k (numbers acc) ≡ all
    pub each : AreLines (lines_of defs acc)
    pub short : AreShort (lines_of defs acc)

  -- one more line
  record More (acc : List Item) (item : Item) : Type 0 where
    state_is : state (item ∷ acc) ≡ grammar.after item (state acc)
    items_is : numbers (item ∷ acc) ≡ record { line = length (lines_of defs (item ∷ acc)); item = item } ∷ numbers acc

  one-more : (acc : List Item) (item : Item) → IsItem defs item → MayStand modes.Up (state acc) defs item → IsPlainLine (canonical defs item) → More acc item
  one-more acc item is may plain =
      let e = says-line defs scheme (state acc) item is may plain in
      record {
        state_is = ap (λ (r : Result (Option Item) _). state_after r (state acc)) e;
        items_is = ap (λ (r : Result (Option Item) _). with_said (length (lines_of defs (item ∷ acc))) r (numbers acc)) e;
      }

  next : (acc : List Item) (m n : Option Message) (all : List X) (item : Item) → Reads acc m all → More acc item → IsPlainLine (canonical defs item)
      → IsStarted (grammar.after item (state acc)) → (grammar.after item (state acc)).message ≡ n → (groups.after item (place_of (numbers acc))).message ≡ n
      → Reads (item ∷ acc) n (all ++ only key k (says m item))
  next acc m n all item r more plain st msg pl = record {
    started = ap (λ (s : State). s.started) more.state_is ∙ st;
    message = ap (λ (s : State). s.message) more.state_is ∙ msg;
    place = ap (λ (xs : List Numbered). (place_of xs).message) more.items_is ∙ pl;
    told = ap (λ (xs : List Numbered). said_in key says k xs) more.items_is ∙ ap (λ (o : Option Message). said_in key says k (numbers acc) ++ only key k (says o item)) r.place ∙ ap (λ xs. xs ++ only key k (says m item)) r.told;
    each = (plain.one, r.each);
    short = (plain.short, r.short);
  }

  silent : (acc : List Item) (n : Option Message) (all : List X) (xs : List X) → xs ≡ [] → Reads acc n (all ++ only key k xs) → Reads acc n all
  silent acc n all xs e r = subst (λ ys. Reads acc n ys) (ap (λ ys. all ++ only key k ys) e ∙ append-nil all) r

  head : (acc : List Item) (m : Option Message) (all : List X) (message : Message) → IsOneOf message data_heads → Reads acc m all → Reads (items.Head message ∷ acc) (Some message) all
  head acc m all message one r =
      let plain = head-plain defs message one in
      silent (items.Head message ∷ acc) (Some message) all (says m (items.Head message)) (head_says m message)
      (next acc m (Some message) all (items.Head message) r (one-more acc (items.Head message) tt (r.started, λ e. one) plain) plain r.started refl refl)

  beat : (acc : List Item) (m : Option Message) (all : List X) → Reads acc m all → Reads (items.Heartbeat ∷ acc) m all
  beat acc m all r =
      let plain = beat-plain defs in
      silent (items.Heartbeat ∷ acc) m all (says m items.Heartbeat) (beat_says m)
      (next acc m m all items.Heartbeat r (one-more acc items.Heartbeat tt r.started plain) plain r.started r.message r.place)

  item : (acc : List Item) (all : List X) (x : ReplyItem) → MayPass defs x → IsRight defs x → Reads acc (Some x.message) all → Reads (x.item ∷ acc) (Some x.message) (all ++ only key k (says (Some x.message) x.item))
  item acc all x p w r =
      next acc (Some x.message) (Some x.message) all x.item r (one-more acc x.item p.is (w.may (state acc) r.started r.message) p.plain) p.plain
      (ap (λ (s : State). s.started) (w.keeps (state acc)) ∙ r.started) (ap (λ (s : State). s.message) (w.keeps (state acc)) ∙ r.message) (w.keeps_message (place_of (numbers acc)) ∙ r.place)

  headed : (acc : List Item) (l : Message) (all : List X) (x : ReplyItem) → MayPass defs x → Reads acc (Some l) all → Reads (head_at (Some l) x.message acc) (Some x.message) all
  headed acc l all x p r = go (nat_eq (number_of l) (number_of x.message)) refl
    where
      go : (b : Bool) → nat_eq (number_of l) (number_of x.message) ≡ b → Reads (if b then acc else items.Head x.message ∷ acc) (Some x.message) all
      go true e = subst (λ n. Reads acc (Some n) all) (same-message l x.message e) r
      go false e = head acc (Some l) all x.message p.a_head r

  abbrev Found : List Item → List X → Type 0
  Found acc all = (m : Option Message) × Reads acc m all

  pushes : (xs : List ReplyItem) (acc : List Item) (l : Message) (all : List X) → AllByRecursion (MayPass defs) xs → AllByRecursion (IsRight defs) xs → Reads acc (Some l) all → Found (push (Some l) xs acc) (all ++ gains key says k xs)
  pushes [] acc l all p w r = (Some l, subst (λ ys. Reads acc (Some l) ys) (sym (append-nil all)) r)
  pushes (x ∷ xs) acc l all p w r =
      let h = headed acc l all x p.0 r in
      let i = item (head_at (Some l) x.message acc) all x p.0 w.0 h in
      let f = pushes xs (x.item ∷ head_at (Some l) x.message acc) x.message (all ++ only key k (says (Some x.message) x.item)) p.1 w.1 i in
      subst (λ ys. Found (push (Some l) (x ∷ xs) acc) ys) (append_assoc all (only key k (says (Some x.message) x.item)) (gains key says k xs)) f

  replies : (xs : List ReplyItem) (acc : List Item) (all : List X) → AllByRecursion (MayPass defs) xs → AllByRecursion (IsRight defs) xs → Found acc all → Found (behind xs acc) (all ++ gains key says k xs)
  replies [] acc all p w (m, r) = (m, subst (λ ys. Reads acc m ys) (sym (append-nil all)) r)
  replies (x ∷ xs) acc all p w (m, r) =
      let h = head acc m all x.message p.0.a_head r in
      let i = item (items.Head x.message ∷ acc) all x p.0 w.0 h in
      let f = pushes xs (x.item ∷ items.Head x.message ∷ acc) x.message (all ++ only key k (says (Some x.message) x.item)) p.1 w.1 i in
      let same = append_assoc all (only key k (says (Some x.message) x.item)) (gains key says k xs) in
      (f.0, subst (λ ys. Reads (behind (x ∷ xs) acc) f.0 ys) same (beat (push None (x ∷ xs) acc) f.0 ((all ++ only key k (says (Some x.message) x.item)) ++ gains key says k xs) f.1))

  first : Found (items.Protocol ∷ []) []
  first =
      let plain = protocol-plain defs in
      let more = one-more [] items.Protocol tt refl plain in (
        None,
        record {
          started = ap (λ (s : State). s.started) more.state_is;
          message = ap (λ (s : State). s.message) more.state_is;
          place = ap (λ (xs : List Numbered). (place_of xs).message) more.items_is;
          told = ap (λ (xs : List Numbered). said_in key says k xs) more.items_is ∙ ap (only key k) (protocol_says None);
          each = (plain.one, tt);
          short = (plain.short, tt);
        },
      )

  pub reads-all : (made : List Made) → AllPass defs made → AllRight defs made → Found (written made) (all_gains key says k made)
  reads-all [] p w = first
  reads-all (x ∷ before) p w = replies (items_in x) (written before) (all_gains key says k before) p.0 w.0 (reads-all before p.1 w.1)
