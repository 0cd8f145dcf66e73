-- The items that fit are the items under the scheme.
use Rattle.std.proofs.Common.{ℕ, ◌≡◌, ◌<◌, true, nat_eq, nat_lt, Option, Some, None, List, length, refl, arith, ⊎_elim}
use Rattle.std.specs.Prelude.{not, bit_and, slice_get}
use Rattle.std.proofs.lemmas.Bool.{and_parts, and_from}
use Rattle.std.proofs.lemmas.Bool.Decides.{nat_tests}
use Rattle.std.proofs.lemmas.Option.{slice_get_cases, slice_get_within}
use Rattle.qd_scheme.specs.declared.defs.RecordDef.{RecordDef}
use Rattle.qd_scheme.specs.declared.key.Event.{Event}
use Rattle.qd_scheme.specs.declared.key.Key.{Key}
use Rattle.qd_scheme.specs.declared.key.Record.{Record}
use Rattle.qd_sub.specs.declared.sub.Sub.{Sub}
use Rattle.qd_grammar.specs.declared.item.Item.TheVariants as items
use Rattle.qd_grammar.specs.Items.{IsItem, IsKey, IsHistoryKey, IsRecordItem, IsEventItem, IsSymbolText}
use Rattle.qd_path.specs.Texts.{fits, has_cells, is_history}
use Rattle.qd_replies.specs.Laws.{FitsItems, HasValues}

cells_found : (cells : ℕ) (d : Option RecordDef) → has_cells cells d ≡ true → (def : RecordDef) × (d ≡ Some def) × (cells ≡ length def.fields)
cells_found cells None h = absurd (cc)
cells_found cells (Some def) h = (def, refl, grind (arith, nat_tests))

cells_are : (cells : ℕ) (d : Option RecordDef) (def : RecordDef) → d ≡ Some def → cells ≡ length def.fields → has_cells cells d ≡ true
cells_are cells d def e c = rw e (grind (arith, nat_tests))

history_found : (d : Option RecordDef) → is_history d ≡ true → (def : RecordDef) × (d ≡ Some def) × (def.hist ≡ true)
history_found None h = absurd (cc)
history_found (Some def) h = (def, refl, h)

history_is : (d : Option RecordDef) (def : RecordDef) → d ≡ Some def → def.hist ≡ true → is_history d ≡ true
history_is d def e h = rw e h

some_same : (d : Option RecordDef) (a b : RecordDef) → d ≡ Some a → d ≡ Some b → a ≡ b
some_same d a b p q = cc

rec_found : (defs : List RecordDef) (rec : ℕ) → nat_lt rec (length defs) ≡ true → (def : RecordDef) × (slice_get defs rec ≡ Some def)
rec_found defs rec h =
    let within : rec < length defs = grind (arith, nat_tests) in
    ⊎_elim (λ s. (s.0, s.2)) (λ past. let p = past.0 in absurd (omega (arith, p, within))) (slice_get_cases defs rec).1

rec_is : (defs : List RecordDef) (rec : ℕ) (def : RecordDef) → slice_get defs rec ≡ Some def → nat_lt rec (length defs) ≡ true
rec_is defs rec def e = let within : rec < length defs = slice_get_within defs rec def e in grind (arith, nat_tests)

record_fits : (defs : List RecordDef) (r : Record) → HasValues (items.Rec r) → (fits defs (items.Rec r) ≡ true → IsRecordItem defs r) × (IsRecordItem defs r → fits defs (items.Rec r) ≡ true)
record_fits defs r v = (
  λ h. let f = cells_found (length r.cells) (slice_get defs r.key.rec) h in record { def = f.0; key = record { declared = f.1; symbol = v.0 }; cells = record { count = f.2; each = v.1 } },
  λ i. cells_are (length r.cells) (slice_get defs r.key.rec) i.def i.key.declared i.cells.count,
)

event_found : (defs : List RecordDef) (e : Event) → HasValues (items.Ev e) → fits defs (items.Ev e) ≡ true → IsEventItem defs e
event_found defs e v h =
    let a = and_parts _ _ h in
    let b = and_parts _ _ a.0 in
    let c = and_parts _ _ b.0 in
    let d = and_parts _ _ c.0 in
    let cells = cells_found (length e.cells) (slice_get defs e.key.rec) d.0 in
    let hist = history_found (slice_get defs e.key.rec) d.1 in
    let same = some_same (slice_get defs e.key.rec) hist.0 cells.0 hist.1 cells.1 in
    let below = c.1 in
    let no_32 = b.1 in
    let no_128 = a.1 in
    record {
      def = cells.0;
      key = record { declared = cells.1; symbol = v.0 };
      history = rw same at hist.2;
      index = grind (arith, nat_tests);
      flags = record { few = v.2; no_0x20 = grind (arith, nat_tests); no_0x80 = grind (arith, nat_tests) };
      cells = record { count = cells.2; each = v.1 };
    }

event_is : (defs : List RecordDef) (e : Event) → IsEventItem defs e → fits defs (items.Ev e) ≡ true
event_is defs e i =
    let below = i.index in
    let no_32 = i.flags.no_0x20 in
    let no_128 = i.flags.no_0x80 in
    let a : nat_lt e.index 9223372036854775808 ≡ true = grind (arith, nat_tests) in
    let b : nat_eq (bit_and e.flags 32) 0 ≡ true = grind (arith, nat_tests) in
    let c : nat_eq (bit_and e.flags 128) 0 ≡ true = grind (arith, nat_tests) in
    and_from _ _ (and_from _ _ (and_from _ _ (and_from _ _ (cells_are (length e.cells) (slice_get defs e.key.rec) i.def i.key.declared i.cells.count) (history_is (slice_get defs e.key.rec) i.def i.key.declared i.history)) a) b) c

key_found : (defs : List RecordDef) (key : Key) → IsSymbolText key.sym → nat_lt key.rec (length defs) ≡ true → IsKey defs key
key_found defs key v h = let f = rec_found defs key.rec h in (f.0, record { declared = f.1; symbol = v })

key_is : (defs : List RecordDef) (key : Key) → IsKey defs key → nat_lt key.rec (length defs) ≡ true
key_is defs key (def, k) = rec_is defs key.rec def k.declared

history_key_found : (defs : List RecordDef) (key : Key) → IsSymbolText key.sym → is_history (slice_get defs key.rec) ≡ true → IsHistoryKey defs key
history_key_found defs key v h = let f = history_found (slice_get defs key.rec) h in (f.0, (record { declared = f.1; symbol = v }, f.2))

history_key_is : (defs : List RecordDef) (key : Key) → IsHistoryKey defs key → is_history (slice_get defs key.rec) ≡ true
history_key_is defs key (def, (k, hist)) = history_is (slice_get defs key.rec) def k.declared hist

limit_found : (n : ℕ) → nat_lt n 9223372036854775808 ≡ true → n < 9223372036854775808
limit_found n h = grind (arith, nat_tests)

limit_is : (n : ℕ) → n < 9223372036854775808 → nat_lt n 9223372036854775808 ≡ true
limit_is n h = grind (arith, nat_tests)

some_found : (n : ℕ) → not (nat_eq n 0) ≡ true → 0 < n
some_found n h = grind (arith, nat_tests)

some_is : (n : ℕ) → 0 < n → not (nat_eq n 0) ≡ true
some_is n h = grind (arith, nat_tests)

sub_fits : (defs : List RecordDef) (sub : Sub) → HasValues (items.HistSub sub) → (fits defs (items.HistSub sub) ≡ true → IsItem defs (items.HistSub sub)) × (IsItem defs (items.HistSub sub) → fits defs (items.HistSub sub) ≡ true)
sub_fits defs sub v = (
  λ h. let a = and_parts _ _ h in (history_key_found defs sub.key v a.0, limit_found sub.limit a.1),
  λ i. and_from _ _ (history_key_is defs sub.key i.0) (limit_is sub.limit i.1),
)

lost_fits : (defs : List RecordDef) (key : Key) (n : ℕ) → HasValues (items.Lost key n) → (fits defs (items.Lost key n) ≡ true → IsItem defs (items.Lost key n)) × (IsItem defs (items.Lost key n) → fits defs (items.Lost key n) ≡ true)
lost_fits defs key n v = (
  λ h. let a = and_parts _ _ h in (key_found defs key v.0 a.0, (some_found n a.1, v.1)),
  λ i. and_from _ _ (key_is defs key i.0) (some_is n i.1.0),
)

pub fitting_items : FitsItems
fitting_items defs items.Protocol body v = absurd (cc)
fitting_items defs (items.Head m) body v = absurd (cc)
fitting_items defs (items.Describe n) body v = absurd (cc)
fitting_items defs (items.Rec r) body v = record_fits defs r v
fitting_items defs (items.Ev e) body v = (event_found defs e v, event_is defs e)
fitting_items defs (items.Sub key) body v = (key_found defs key v, key_is defs key)
fitting_items defs (items.HistSub sub) body v = sub_fits defs sub v
fitting_items defs (items.Lost key n) body v = lost_fits defs key n v
fitting_items defs items.Heartbeat body v = absurd (cc)
fitting_items defs items.End body v = absurd (cc)
fitting_items defs (items.Time n) body v = absurd (cc)
fitting_items defs (items.Link n) body v = absurd (cc)
fitting_items defs (items.Take c n) body v = absurd (cc)
fitting_items defs (items.Node n m) body v = absurd (cc)
fitting_items defs (items.At n m) body v = absurd (cc)
fitting_items defs (items.Pump n) body v = absurd (cc)
fitting_items defs (items.Move n w b) body v = absurd (cc)
