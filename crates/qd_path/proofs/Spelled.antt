-- What a line spells is of the current message.
use Rattle.std.proofs.Common.{ℕ, ◌≡◌, ◌<◌, ◌^◌, inl, inr, Bool, true, false, cond, Option, Some, None, List, [], ◌∷◌, length, refl, sym, ◌∙◌, subst, arith}
use Rattle.std.specs.Prelude.{Result, Ok, Err}
use Rattle.std.proofs.lemmas.Bool.Decides.{nat_tests}
use Rattle.qd_scheme.specs.declared.defs.RecordDef.{RecordDef}
use Rattle.qd_scheme.specs.declared.key.Event.{Event}
use Rattle.qd_scheme.specs.declared.key.Key.{Key}
use Rattle.qd_scheme.specs.declared.key.Record.{Record}
use Rattle.qd_sub.specs.declared.sub.Sub.{Sub}
use Rattle.qd_grammar.specs.declared.fault.Fault.{Fault}
use Rattle.qd_grammar.specs.declared.item.Item.{Item}
use Rattle.qd_grammar.specs.declared.item.Item.TheVariants as items
use Rattle.qd_grammar.specs.declared.item.Message.{Message}
use Rattle.qd_grammar.specs.declared.item.Message.TheVariants.{TickerData, StreamData, HistoryData, StreamLost, HistoryAdd, HistoryRemove}
use Rattle.qd_grammar.specs.declared.item.Mode.{Mode}
use Rattle.qd_grammar.specs.declared.state.State.{State}
use Rattle.qd_grammar.specs.Items.{IsItem, MayStand, IsOneOf, IsUnderOne, sub_heads}
use Rattle.qd_grammar.specs.Lines as grammar
use Rattle.qd_grammar.specs.Lines.{Spells, is_skipped, item_of, answer_of}
use Rattle.qd_grammar.specs.Parts.{◌>>=◌}
use Rattle.qd_grammar.proofs.OnlyItems.{spells_items}
use Rattle.qd_items.specs.Judging.{Numbered, items_of, said, state_of, with_said}
use Rattle.qd_line.specs.Lines.{without_cr}
use Rattle.qd_text.specs.Reading.{state_after}
use Rattle.qd_path.specs.Calls.{Place, after, joined_by, place_of}
use Rattle.qd_path.specs.Groups.{is_foreign}
use Rattle.qd_path.specs.Laws.{NoneForeign}

said_is : (skipped : Bool) (r : Result Item Fault) (item : Item) → cond {A = Result (Option Item) Fault} skipped (Ok None) (r >>= λ i. Ok (Some i)) ≡ Ok (Some item) → (skipped ≡ false) × (r ≡ Ok item)
said_is true r item h = absurd cc
said_is false (Ok x) item h = (refl, cc)
said_is false (Err f) item h = absurd cc

-- an item that a line says is spelled by it
pub spelled : (mode : Mode) (s : State) (defs : List RecordDef) (line : List ℕ) (item : Item) → answer_of mode s defs line ≡ Ok (Some item) → Spells mode s defs line item
spelled mode s defs line item h = let a = said_is (is_skipped line) (item_of mode s defs line) item h in record { counts = a.0; judged = a.1 }

-- so it may stand there
pub may_stand : (mode : Mode) (s : State) (defs : List RecordDef) (line : List ℕ) (item : Item) → said mode defs s line ≡ Ok (Some item) → IsItem defs item × MayStand mode s defs item
may_stand mode s defs line item h = spells_items mode s defs (without_cr line) item (spelled mode s defs (without_cr line) item h)

-- a body line leaves the current message
body_message : (foreign : Bool) (item : Item) (p : Place) → (cond {A = Place} foreign p (joined_by item p)).message ≡ p.message
body_message true item p = refl
body_message false item p = refl

after_message : (item : Item) (p : Place) (s : State) → p.message ≡ s.message → (after item p).message ≡ (grammar.after item s).message
after_message items.Protocol p s e = e
after_message (items.Head m) p s e = refl
after_message (items.Describe n) p s e = e
after_message (items.Rec r) p s e = body_message (is_foreign p.message (items.Rec r)) (items.Rec r) p ∙ e
after_message (items.Ev v) p s e = body_message (is_foreign p.message (items.Ev v)) (items.Ev v) p ∙ e
after_message (items.Sub k) p s e = body_message (is_foreign p.message (items.Sub k)) (items.Sub k) p ∙ e
after_message (items.HistSub u) p s e = body_message (is_foreign p.message (items.HistSub u)) (items.HistSub u) p ∙ e
after_message (items.Lost k n) p s e = body_message (is_foreign p.message (items.Lost k n)) (items.Lost k n) p ∙ e
after_message items.Heartbeat p s e = e
after_message items.End p s e = e
after_message (items.Time n) p s e = e
after_message (items.Link n) p s e = e
after_message (items.Take c n) p s e = e
after_message (items.Node n m) p s e = e
after_message (items.At n m) p s e = e
after_message (items.Pump n) p s e = e
after_message (items.Move n w b) p s e = e

said_message : (n : ℕ) (r : Result (Option Item) Fault) (before : List Numbered) (s : State) → (place_of before).message ≡ s.message → (place_of (with_said n r before)).message ≡ (state_after r s).message
said_message n (Ok (Some item)) before s e = after_message item (place_of before) s e
said_message n (Ok None) before s e = e
said_message n (Err f) before s e = e

-- the current message is the one under which the next line is read
pub place_message : (mode : Mode) (defs : List RecordDef) (lines : List (List ℕ)) → (place_of (items_of mode defs lines)).message ≡ (state_of mode defs lines).message
place_message mode defs [] = refl
place_message mode defs (line ∷ before) = said_message (length (line ∷ before)) (said mode defs (state_of mode defs before) line) (items_of mode defs before) (state_of mode defs before) (place_message mode defs before)

under : (s : State) (item : Item) (messages : List Message) → IsUnderOne s messages → ((m : Message) → IsOneOf m messages → is_foreign (Some m) item ≡ false) → is_foreign s.message item ≡ false
under s item messages u here = subst (λ (m : Option Message). is_foreign m item ≡ false) (sym u.current) (here u.message u.one)

rec_under : (r : Record) (m : Message) → IsOneOf m (TickerData ∷ StreamData ∷ []) → is_foreign (Some m) (items.Rec r) ≡ false
rec_under r m (inl e) = rw e refl
rec_under r m (inr (inl e)) = rw e refl
rec_under r m (inr (inr n)) = absurd n

event_under : (e : Event) (m : Message) → e.index < 2 ^ 63 → IsOneOf m (HistoryData ∷ []) → is_foreign (Some m) (items.Ev e) ≡ false
event_under e m h (inl s) = rw s (grind (arith, nat_tests))
event_under e m h (inr n) = absurd n

sub_under : (u : Sub) (m : Message) → u.limit < 2 ^ 63 → IsOneOf m (HistoryAdd ∷ []) → is_foreign (Some m) (items.HistSub u) ≡ false
sub_under u m h (inl s) = rw s (grind (arith, nat_tests))
sub_under u m h (inr n) = absurd n

lost_under : (k : Key) (n : ℕ) (m : Message) → 0 < n → IsOneOf m (StreamLost ∷ []) → is_foreign (Some m) (items.Lost k n) ≡ false
lost_under k n m h (inl s) = rw s (grind (arith, nat_tests))
lost_under k n m h (inr x) = absurd x

key_under : (k : Key) (m : Message) → IsOneOf m sub_heads → is_foreign (Some m) (items.Sub k) ≡ false
key_under k m (inl e) = rw e refl
key_under k m (inr (inl e)) = rw e refl
key_under k m (inr (inr (inl e))) = rw e refl
key_under k m (inr (inr (inr (inl e)))) = rw e refl
key_under k m (inr (inr (inr (inr n)))) = absurd n

gone_under : (k : Key) (m : Message) → IsOneOf m (HistoryRemove ∷ []) → is_foreign (Some m) (items.Sub k) ≡ false
gone_under k m (inl e) = rw e refl
gone_under k m (inr n) = absurd n

not_foreign : (mode : Mode) (s : State) (defs : List RecordDef) (item : Item) → IsItem defs item → MayStand mode s defs item → is_foreign s.message item ≡ false
not_foreign mode s defs (items.Rec r) is may = under s (items.Rec r) (TickerData ∷ StreamData ∷ []) may (rec_under r)
not_foreign mode s defs (items.Ev e) is may = under s (items.Ev e) (HistoryData ∷ []) may (λ m. event_under e m is.index)
not_foreign mode s defs (items.Sub k) is (inl may) = under s (items.Sub k) sub_heads may (key_under k)
not_foreign mode s defs (items.Sub k) is (inr may) = under s (items.Sub k) (HistoryRemove ∷ []) may.0 (gone_under k)
not_foreign mode s defs (items.HistSub u) is may = under s (items.HistSub u) (HistoryAdd ∷ []) may (λ m. sub_under u m is.1)
not_foreign mode s defs (items.Lost k n) is may = under s (items.Lost k n) (StreamLost ∷ []) may (λ m. lost_under k n m is.1.0)
not_foreign mode s defs items.Protocol is may = refl
not_foreign mode s defs (items.Head m) is may = refl
not_foreign mode s defs (items.Describe n) is may = refl
not_foreign mode s defs items.Heartbeat is may = refl
not_foreign mode s defs items.End is may = refl
not_foreign mode s defs (items.Time n) is may = refl
not_foreign mode s defs (items.Link n) is may = refl
not_foreign mode s defs (items.Take c n) is may = refl
not_foreign mode s defs (items.Node n m) is may = refl
not_foreign mode s defs (items.At n m) is may = refl
not_foreign mode s defs (items.Pump n) is may = refl
not_foreign mode s defs (items.Move n w b) is may = refl

pub none_foreign : NoneForeign
none_foreign mode defs lines line item h =
    let a = may_stand mode (state_of mode defs lines) defs line item h in
    subst (λ (m : Option Message). is_foreign m item ≡ false) (sym (place_message mode defs lines)) (not_foreign mode (state_of mode defs lines) defs item a.0 a.1)
