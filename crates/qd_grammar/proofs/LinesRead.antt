-- What a body line spells is an item of its form.
use Rattle.std.proofs.Common.{◌≡◌, ℕ, ◌-◌, ◌^◌, ◌<◌, Bool, true, false, List, [], ◌∷◌, length, refl, ◌∙◌, subst, arith}
use Rattle.std.specs.Prelude.{◌||◌, not, slice_get, Option, Some, Result, Ok}
use Rattle.std.specs.List.{AllByRecursion}
use Rattle.std.proofs.lemmas.List.{length-map}
use lib.IntN.{ℤ}
use Rattle.qd_scheme.specs.declared.defs.RecordDef.{RecordDef}
use Rattle.qd_scheme.specs.declared.defs.FieldDef.{FieldDef}
use Rattle.qd_scheme.specs.declared.defs.FieldKind.{FieldKind}
use Rattle.qd_scheme.specs.declared.key.Key.{Key}
use Rattle.qd_scheme.specs.declared.key.Record.{Record}
use Rattle.qd_scheme.specs.declared.key.Event.{Event}
use Rattle.qd_sub.specs.declared.sub.Sub.{Sub as Subscribed}
use Rattle.qd_grammar.specs.declared.fault.Fault.{Fault}
use Rattle.qd_grammar.specs.declared.item.Item.{Item}
use Rattle.qd_grammar.specs.declared.item.Item.TheVariants.{Rec, Ev, Sub, HistSub, Lost}
use Rattle.qd_grammar.specs.Parts.{Part, no_part, ◌>>=◌}
use Rattle.qd_grammar.specs.Fields.{cell_at, cells_at, count_at, symbol_at, record_at, flags_at, loss_at}
use Rattle.qd_grammar.specs.Body.{kinds_at, key_at, record_line, event_line, sub_line, hist_sub_line, lost_line}
use Rattle.qd_grammar.specs.Items.{IsCell, AreCells, IsKeyOf, IsKey, IsHistoryKey, IsRecordItem, IsEventItem}
use Rattle.qd_grammar.proofs.Binds.{stepped, same_ok}
use Rattle.qd_grammar.proofs.PartsRead.{cell_told, number_told, are_flags_told, is_loss_told, is_symbol_told, is_record_told}
use Rattle.qd_grammar.proofs.LinesAgain.{said, count_part, cell_part, symbol_part, record_part, flags_part, loss_part}
use Rattle.qd_grammar.proofs.Steps.{kinds_of_rec, cells_done, record_item, record_cells, event_item, event_cells, event_flags, event_index, sub_done, number_done, hist_sub_item, hist_sub_limit, lost_count}

-- cells

record AreRead (kinds : List FieldKind) (values : List ℤ) : Type 0 where
  count : length values ≡ length kinds
  each : AllByRecursion IsCell values

cells_read : (kinds : List FieldKind) (end : ℕ) (parts : List Part) (read : List ℤ × List Part) → cells_at kinds end parts ≡ Ok read → AreRead kinds read.0
cells_read [] end parts read e = subst (λ (r : List ℤ × List Part). AreRead [] r.0) (same_ok _ _ e) (record { count = refl; each = tt })
cells_read (kind ∷ kinds) end parts read e =
    let front : ℤ × List Part → Result (List ℤ × List Part) Fault = λ cell. cells_at kinds end cell.1 >>= λ cells. Ok (cell.0 ∷ cells.0, cells.1) in
    let a = stepped (cell_at kind end parts) front read e in
    let b = stepped (cells_at kinds end a.of_first.1) (λ (cells : List ℤ × List Part). Ok (a.of_first.0 ∷ cells.0, cells.1)) read a.rest in
    let one = said (cell_part kind) end parts a.of_first a.was in
    let others = cells_read kinds end a.of_first.1 b.of_first b.was in
    let count : length (a.of_first.0 ∷ b.of_first.0) ≡ length (kind ∷ kinds) = let c = others.count in omega arith in
    subst (λ (r : List ℤ × List Part). AreRead (kind ∷ kinds) r.0) (same_ok _ _ b.rest)
    (record { count = count; each = (cell_told kind one.part.place one.part.bytes a.of_first.0 one.said, others.each) })

are_cells : (defs : List RecordDef) (rec : ℕ) (def : RecordDef) (end : ℕ) (parts : List Part) (read : List ℤ × List Part) → slice_get defs rec ≡ Some def → cells_at (kinds_of_rec defs rec) end parts ≡ Ok read → AreCells def.fields read.0
are_cells defs rec def end parts read at e =
    let c = subst (λ (o : Option RecordDef). AreRead (kinds_at o) read.0) at (cells_read (kinds_of_rec defs rec) end parts read e) in
    record { count = c.count ∙ length-map def.fields (λ (field : FieldDef). field.kind); each = c.each }

-- keys

record IsKeyRead (hist : Bool) (defs : List RecordDef) (key : Key) : Type 0 where
  def : RecordDef
  key_of : IsKeyOf defs def key
  allowed : (not hist || def.hist) ≡ true

key_read : (hist : Bool) (defs : List RecordDef) (end : ℕ) (parts : List Part) (read : Key × List Part) → key_at hist defs end parts ≡ Ok read → IsKeyRead hist defs read.0
unfolding key_at
key_read hist defs end parts read e =
    let a = stepped (record_at hist defs end parts) (λ (rec : ℕ × List Part). symbol_at end rec.1 >>= λ (s : List ℕ × List Part). Ok (record { rec = rec.0; sym = s.0 }, s.1)) read e in
    let b = stepped (symbol_at end a.of_first.1) (λ (s : List ℕ × List Part). Ok (record { rec = a.of_first.0; sym = s.0 }, s.1)) read a.rest in
    let one = said (record_part hist defs) end parts a.of_first a.was in
    let two = said symbol_part end a.of_first.1 b.of_first b.was in
    let r = is_record_told hist defs one.part.place one.part.bytes a.of_first.0 one.said in
    let symbol = is_symbol_told two.part.place two.part.bytes b.of_first.0 two.said in
    subst (λ (k : Key × List Part). IsKeyRead hist defs k.0) (same_ok _ _ b.rest)
    (record { def = r.def; key_of = record { declared = r.declared; symbol = symbol }; allowed = r.allowed })

pub number_read : (end : ℕ) (parts : List Part) (read : ℕ × List Part) → count_at (2 ^ 63 - 1) end parts ≡ Ok read → read.0 < 2 ^ 63
number_read end parts read e = let p = said (count_part (2 ^ 63 - 1)) end parts read e in number_told p.part.place p.part.bytes read.0 p.said

-- lines: what holds of each item of a form holds of what they spell

pub record_line_gives : (defs : List RecordDef) (end : ℕ) (parts : List Part) (item : Item) (P : Item → Type 0) → ((r : Record) → IsRecordItem defs r → P (Rec r)) → record_line defs end parts ≡ Ok item → P item
unfolding record_line
record_line_gives defs end parts item P all e =
    let a = stepped (key_at false defs end parts) (record_cells defs end) item e in
    let key : Key = a.of_first.0 in
    let b = stepped (cells_at (kinds_of_rec defs key.rec) end a.of_first.1) (cells_done (record_item key) end) item a.rest in
    let values : List ℤ = b.of_first.0 in
    let c = stepped (no_part end b.of_first.1) (λ u. Ok (record_item key values)) item b.rest in
    let k = key_read false defs end parts a.of_first a.was in
    let cells = are_cells defs key.rec k.def end a.of_first.1 b.of_first k.key_of.declared b.was in
    subst P (same_ok _ _ c.rest) (all (record { key = key; cells = values }) (record { def = k.def; key = k.key_of; cells = cells }))

pub event_line_gives : (defs : List RecordDef) (end : ℕ) (parts : List Part) (item : Item) (P : Item → Type 0) → ((e : Event) → IsEventItem defs e → P (Ev e)) → event_line defs end parts ≡ Ok item → P item
unfolding event_line
event_line_gives defs end parts item P all e =
    let a = stepped (key_at true defs end parts) (event_index defs end) item e in
    let key : Key = a.of_first.0 in
    let i = stepped (count_at (2 ^ 63 - 1) end a.of_first.1) (event_flags defs end key) item a.rest in
    let index : ℕ = i.of_first.0 in
    let f = stepped (flags_at end i.of_first.1) (event_cells defs end key index) item i.rest in
    let flags : ℕ = f.of_first.0 in
    let b = stepped (cells_at (kinds_of_rec defs key.rec) end f.of_first.1) (cells_done (event_item key index flags) end) item f.rest in
    let values : List ℤ = b.of_first.0 in
    let c = stepped (no_part end b.of_first.1) (λ u. Ok (event_item key index flags values)) item b.rest in
    let k = key_read true defs end parts a.of_first a.was in
    let f_part = said flags_part end i.of_first.1 f.of_first f.was in
    let event : Event = record { key = key; index = index; flags = flags; cells = values } in
    let is : IsEventItem defs event = record {
      def = k.def;
      key = k.key_of;
      history = k.allowed;
      index = number_read end a.of_first.1 i.of_first i.was;
      flags = are_flags_told f_part.part.place f_part.part.bytes flags f_part.said;
      cells = are_cells defs key.rec k.def end f.of_first.1 b.of_first k.key_of.declared b.was;
    } in
    subst P {x = event_item key index flags values} (same_ok (event_item key index flags values) item c.rest) (all event is)

pub sub_line_gives : (defs : List RecordDef) (end : ℕ) (parts : List Part) (item : Item) (P : Item → Type 0) → ((key : Key) → IsKey defs key → P (Sub key)) → sub_line false defs end parts ≡ Ok item → P item
unfolding sub_line
sub_line_gives defs end parts item P all e =
    let a = stepped (key_at false defs end parts) (sub_done end) item e in
    let c = stepped (no_part end a.of_first.1) (λ u. Ok (Sub a.of_first.0)) item a.rest in
    let k = key_read false defs end parts a.of_first a.was in
    subst P (same_ok _ _ c.rest) (all a.of_first.0 (k.def, k.key_of))

pub history_sub_line_gives : (defs : List RecordDef) (end : ℕ) (parts : List Part) (item : Item) (P : Item → Type 0) → ((key : Key) → IsHistoryKey defs key → P (Sub key)) → sub_line true defs end parts ≡ Ok item → P item
unfolding sub_line
history_sub_line_gives defs end parts item P all e =
    let a = stepped (key_at true defs end parts) (sub_done end) item e in
    let c = stepped (no_part end a.of_first.1) (λ u. Ok (Sub a.of_first.0)) item a.rest in
    let k = key_read true defs end parts a.of_first a.was in
    subst P (same_ok _ _ c.rest) (all a.of_first.0 (k.def, (k.key_of, k.allowed)))

pub hist_sub_line_gives : (defs : List RecordDef) (end : ℕ) (parts : List Part) (item : Item) (P : Item → Type 0) → ((s : Subscribed) → IsHistoryKey defs s.key → s.limit < 2 ^ 63 → P (HistSub s)) → hist_sub_line defs end parts ≡ Ok item → P item
unfolding hist_sub_line
hist_sub_line_gives defs end parts item P all e =
    let a = stepped (key_at true defs end parts) (hist_sub_limit end) item e in
    let key : Key = a.of_first.0 in
    let n = stepped (count_at (2 ^ 63 - 1) end a.of_first.1) (number_done hist_sub_item end key) item a.rest in
    let limit : ℕ = n.of_first.0 in
    let c = stepped (no_part end n.of_first.1) (λ u. Ok (hist_sub_item key limit)) item n.rest in
    let k = key_read true defs end parts a.of_first a.was in
    subst P (same_ok _ _ c.rest) (all (record { key = key; limit = limit }) (k.def, (k.key_of, k.allowed)) (number_read end a.of_first.1 n.of_first n.was))

pub lost_line_gives : (defs : List RecordDef) (end : ℕ) (parts : List Part) (item : Item) (P : Item → Type 0) → ((key : Key) (n : ℕ) → IsKey defs key → (0 < n) × (n < 2 ^ 64) → P (Lost key n)) → lost_line defs end parts ≡ Ok item → P item
unfolding lost_line
lost_line_gives defs end parts item P all e =
    let a = stepped (key_at false defs end parts) (lost_count end) item e in
    let key : Key = a.of_first.0 in
    let n = stepped (loss_at end a.of_first.1) (number_done Lost end key) item a.rest in
    let count : ℕ = n.of_first.0 in
    let c = stepped (no_part end n.of_first.1) (λ u. Ok (Lost key count)) item n.rest in
    let k = key_read false defs end parts a.of_first a.was in
    let p = said loss_part end a.of_first.1 n.of_first n.was in
    subst P (same_ok _ _ c.rest) (all key count (k.def, k.key_of) (is_loss_told p.part.place p.part.bytes count p.said))
