-- The canonical line of each item spells it wherever the item may stand.
use Rattle.std.proofs.Common.{◌≡◌, ℕ, zero, suc, ◌<◌, ◌≤◌, true, false, List, [], ◌∷◌, length, refl, sym, subst, arith, inl, inr}
use Rattle.std.specs.Prelude.{nat_lt, slice_get, Some, None, Ok}
use Rattle.std.specs.List.{AllByRecursion}
use Rattle.std.proofs.lemmas.Bool.Decides.{nat_tests}
use Rattle.qd_scheme.specs.Schemes.{IsScheme}
use Rattle.qd_scheme.specs.declared.defs.RecordDef.{RecordDef}
use Rattle.qd_grammar.specs.declared.state.State.{State}
use Rattle.qd_grammar.specs.declared.item.Mode.{Mode}
use Rattle.qd_grammar.specs.declared.item.Mode.TheVariants as modes
use Rattle.qd_grammar.specs.declared.item.Message.{Message}
use Rattle.qd_grammar.specs.declared.item.Message.TheVariants.{TickerData, StreamData, HistoryData, StreamLost, TickerAdd, StreamAdd, HistoryAdd, TickerRemove, StreamRemove, HistoryRemove}
use Rattle.qd_grammar.specs.declared.item.Item.{Item}
use Rattle.qd_grammar.specs.declared.item.Item.TheVariants.{Protocol, Head, Describe, Rec, Ev, Sub, HistSub, Lost, Heartbeat, End, Time, Link, Take, Node, At, Pump, Move}
use Rattle.qd_grammar.specs.declared.word.Word.{Word}
use Rattle.qd_grammar.specs.declared.word.Word.TheVariants as w
use Rattle.qd_grammar.specs.Body.{message_line}
use Rattle.qd_grammar.specs.Control.{behind_word, may_come}
use Rattle.qd_grammar.specs.Canonical.{canonical, head_text}
use Rattle.qd_grammar.specs.Items.{IsItem, IsOneOf, IsUnderOne, data_heads, MayStand}
use Rattle.qd_grammar.specs.Lines.{first_state, Spells}
use Rattle.qd_grammar.specs.Laws.{Fits, EachSpells, EachFits}
use Rattle.qd_grammar.proofs.Plain.{plain_scheme}
use Rattle.qd_grammar.proofs.LinesAgain.{IsAgain, IsBodyAgain, record_is_again, event_is_again, sub_is_again, hist_sub_is_again, lost_is_again}
use Rattle.qd_grammar.proofs.ControlAgain.{word_text, alone_is_again, one_is_again, two_is_again, time_is_again, take_is_again, move_is_again, protocol_is_again, control_is_again, described_again}
use Rattle.qd_grammar.proofs.Steps.{time_order}
use Rattle.qd_grammar.proofs.CanonicalAgain.{first_is_again, word_is_again, described_line_again, body_line_again, spelled_again}
use Rattle.qd_grammar.proofs.ItemFacts.{cells_facts, number_facts, loss_facts, flags_facts, number_is, key_facts}

-- a message that is one of several has what each of them has
one_of : (P : Message → Type 0) (message : Message) (messages : List Message) → IsOneOf message messages → AllByRecursion P messages → P message
one_of P message [] h all = absurd h
one_of P message (first ∷ others) h all = elim h [
  | inl e ↦ subst P (sym e) all.0
  | inr later ↦ one_of P message others later all.1
]

-- where words may stand

may_in_file : (mode : Mode) (word : Word) → mode ≡ modes.File → may_come modes.File word ≡ Ok tt → may_come mode word ≡ Ok tt
may_in_file mode word e h = subst (λ (m : Mode). may_come m word ≡ Ok tt) (sym e) h

head_may : (mode : Mode) (message : Message) → (mode ≡ modes.Up → IsOneOf message data_heads) → may_come mode (w.Head message) ≡ Ok tt
head_may modes.Down message h = refl
head_may modes.File message h = refl
head_may modes.Up message h = one_of (λ m. may_come modes.Up (w.Head m) ≡ Ok tt) message data_heads (h refl) (refl, (refl, (refl, (refl, tt))))

-- lines of a word, and under a message

word_spells : (mode : Mode) (s : State) (defs : List RecordDef) (item : Item) (word : Word) → s.started ≡ true → may_come mode word ≡ Ok tt → IsAgain (behind_word word s) defs item (word_text word) → Spells mode s defs (canonical defs item) item
word_spells mode s defs item word n m g = spelled_again mode s defs item (word_is_again mode s defs item word n (control_is_again mode s defs item word m g))

body_spells : (mode : Mode) (s : State) (defs : List RecordDef) (item : Item) (messages : List Message) → IsUnderOne s messages → AllByRecursion (λ m. IsBodyAgain (message_line defs m) defs item) messages → Spells mode s defs (canonical defs item) item
body_spells mode s defs item messages u all =
    let again = one_of (λ m. IsBodyAgain (message_line defs m) defs item) u.message messages u.one all in
    spelled_again mode s defs item (body_line_again mode s defs item u.started (record { message = u.message; is = u.current; again = again }))

-- the record of a number
there : (defs : List RecordDef) (rec : ℕ) → rec < length defs → (def : RecordDef) × (slice_get defs rec ≡ Some def)
there [] rec h = let no : ⊥ = omega arith in absurd no
there (def ∷ defs) zero h = (def, refl)
there (def ∷ defs) (suc rec) h = there defs rec (omega arith)

in_time : (s : State) (ms : ℕ) → s.time ≤ ms → time_order s ms ≡ Ok tt
in_time s ms h = let e : nat_lt ms s.time ≡ false = grind (arith, nat_tests) in rw e refl

pub each_spells : EachSpells
unfolding behind_word
each_spells mode s defs Protocol is h p = spelled_again mode s defs Protocol (first_is_again mode s defs Protocol p (protocol_is_again defs))
each_spells mode s defs (Head message) is h p = word_spells mode s defs (Head message) (w.Head message) p.0 (head_may mode message p.1) (alone_is_again defs (Head message) (head_text message) refl)
each_spells mode s defs (Describe rec) is h p =
    let d = there defs rec h in
    spelled_again mode s defs (Describe rec) (described_line_again mode s defs (Describe rec) p (described_again defs rec d.0 (plain_scheme defs is) d.1 (number_is defs rec d.0 is d.1)))
each_spells mode s defs (Rec r) is h p =
    let g = record_is_again defs r.key r.cells (key_facts false defs h.def r.key is h.key refl) (cells_facts defs r.key.rec h.def r.cells h.key.declared h.cells) in
    body_spells mode s defs (Rec r) (TickerData ∷ StreamData ∷ []) p (g, (g, tt))
each_spells mode s defs (Ev e) is h p =
    let g = event_is_again defs e.key e.index e.flags e.cells (key_facts true defs h.def e.key is h.key h.history) (number_facts e.index h.index) (flags_facts e.flags h.flags) (cells_facts defs e.key.rec h.def e.cells h.key.declared h.cells) in
    body_spells mode s defs (Ev e) (HistoryData ∷ []) p (g, tt)
each_spells mode s defs (Sub key) is h p = elim p [
  | inl q ↦ let g = sub_is_again false defs key (key_facts false defs h.0 key is h.1 refl) in body_spells mode s defs (Sub key) (TickerAdd ∷ StreamAdd ∷ TickerRemove ∷ StreamRemove ∷ []) q (g, (g, (g, (g, tt))))
  | inr q ↦ let g = sub_is_again true defs key (key_facts true defs q.1.0 key is q.1.1.0 q.1.1.1) in body_spells mode s defs (Sub key) (HistoryRemove ∷ []) q.0 (g, tt)
]
each_spells mode s defs (HistSub sub) is h p =
    let g = hist_sub_is_again defs sub.key sub.limit (key_facts true defs h.0.0 sub.key is h.0.1.0 h.0.1.1) (number_facts sub.limit h.1) in
    body_spells mode s defs (HistSub sub) (HistoryAdd ∷ []) p (g, tt)
each_spells mode s defs (Lost key n) is h p =
    let g = lost_is_again defs key n (key_facts false defs h.0.0 key is h.0.1 refl) (loss_facts n h.1.0 h.1.1) in
    body_spells mode s defs (Lost key n) (StreamLost ∷ []) p (g, tt)
each_spells mode s defs Heartbeat is h p = word_spells mode s defs Heartbeat w.Heartbeat p refl (alone_is_again defs Heartbeat (word_text w.Heartbeat) refl)
each_spells mode s defs End is h p = word_spells mode s defs End w.End p refl (alone_is_again defs End (word_text w.End) refl)
each_spells mode s defs (Time ms) is h p = word_spells mode s defs (Time ms) w.Time p.0.0 (may_in_file mode w.Time p.0.1 refl) (time_is_again defs s ms (number_facts ms h) (in_time s ms p.1))
each_spells mode s defs (Link n) is h p = word_spells mode s defs (Link n) w.Link p.0 (may_in_file mode w.Link p.1 refl) (one_is_again defs Link n (word_text w.Link) refl (number_facts n h))
each_spells mode s defs (Take c n) is h p = word_spells mode s defs (Take c n) w.Take p.0 (may_in_file mode w.Take p.1 refl) (take_is_again defs c n (number_facts n h))
each_spells mode s defs (Node n m) is h p = word_spells mode s defs (Node n m) w.Node p.0 (may_in_file mode w.Node p.1 refl) (two_is_again defs Node n m (word_text w.Node) refl (number_facts n h.0) (number_facts m h.1))
each_spells mode s defs (At n m) is h p = word_spells mode s defs (At n m) w.At p.0 (may_in_file mode w.At p.1 refl) (two_is_again defs At n m (word_text w.At) refl (number_facts n h.0) (number_facts m h.1))
each_spells mode s defs (Pump n) is h p = word_spells mode s defs (Pump n) w.Pump p.0 (may_in_file mode w.Pump p.1 refl) (one_is_again defs Pump n (word_text w.Pump) refl (number_facts n h))
each_spells mode s defs (Move n way b) is h p = word_spells mode s defs (Move n way b) w.Move p.0 (may_in_file mode w.Move p.1 refl) (move_is_again defs n way b (number_facts n h.0) (number_facts b h.1))

-- somewhere in a file an item may stand

at_place : (defs : List RecordDef) (item : Item) (s : State) → IsScheme defs → IsItem defs item → MayStand modes.File s defs item → Fits defs item
at_place defs item s is h p = (modes.File, (s, (canonical defs item, each_spells modes.File s defs item is h p)))

abbrev later : State
later = record { started = true; message = None; time = 0 }

abbrev under : Message → State
under message = record { started = true; message = Some message; time = 0 }

under_it : (message : Message) (others : List Message) → IsUnderOne (under message) (message ∷ others)
under_it message others = record { started = refl; message = message; current = refl; one = inl refl }

not_above : (message : Message) → modes.File ≡ modes.Up → IsOneOf message data_heads
not_above message e = let no : ⊥ = cc in absurd no

pub each_fits : EachFits
each_fits defs Protocol is h = at_place defs Protocol first_state is h refl
each_fits defs (Head message) is h = at_place defs (Head message) later is h (refl, not_above message)
each_fits defs (Describe rec) is h = at_place defs (Describe rec) later is h refl
each_fits defs (Rec r) is h = at_place defs (Rec r) (under TickerData) is h (under_it TickerData (StreamData ∷ []))
each_fits defs (Ev e) is h = at_place defs (Ev e) (under HistoryData) is h (under_it HistoryData [])
each_fits defs (Sub key) is h = at_place defs (Sub key) (under TickerAdd) is h (inl (under_it TickerAdd (StreamAdd ∷ TickerRemove ∷ StreamRemove ∷ [])))
each_fits defs (HistSub sub) is h = at_place defs (HistSub sub) (under HistoryAdd) is h (under_it HistoryAdd [])
each_fits defs (Lost key n) is h = at_place defs (Lost key n) (under StreamLost) is h (under_it StreamLost [])
each_fits defs Heartbeat is h = at_place defs Heartbeat later is h refl
each_fits defs End is h = at_place defs End later is h refl
each_fits defs (Time ms) is h = at_place defs (Time ms) later is h ((refl, refl), omega arith)
each_fits defs (Link n) is h = at_place defs (Link n) later is h (refl, refl)
each_fits defs (Take c n) is h = at_place defs (Take c n) later is h (refl, refl)
each_fits defs (Node n m) is h = at_place defs (Node n m) later is h (refl, refl)
each_fits defs (At n m) is h = at_place defs (At n m) later is h (refl, refl)
each_fits defs (Pump n) is h = at_place defs (Pump n) later is h (refl, refl)
each_fits defs (Move n way b) is h = at_place defs (Move n way b) later is h (refl, refl)
