-- A cell is the number at the front of the bytes that are left.
use Rattle.std.proofs.Common.{◌≡◌, ℕ, ◌+◌, ◌-◌, ◌≤◌, ◌<◌, List, length, take, drop, slice_range, refl, sym, ◌∙◌, subst, arith, length-drop, length-take}
use Rattle.std.specs.Prelude.{IfErr, not, ◌==◌, Result, Ok, Err}
use Rattle.std.proofs.lemmas.List.{take_all}
use Rattle.std.proofs.lemmas.List.Sums.{prefix_len-le-length}
use lib.IntN.{ℤ}
use Rattle.qd_decimal.specs.Fronts.{part_len, with_len, front_read}
use Rattle.qd_decimal.specs.Reading.{dec_of, int_of}
use Rattle.qd_decimal.specs.declared.fault.DecFault.{DecFault}
use Rattle.qd_decimal.specs.declared.fronts.Front.{Front}
use Rattle.qd_decimal.proofs.Exactly.{reads}
use Rattle.qd_decimal.proofs.Wholes.{reads_whole}
use Rattle.qd_scheme.specs.declared.defs.FieldKind.{FieldKind}
use Rattle.qd_scheme.specs.declared.defs.FieldKind.TheVariants.{Int, Dec}
use Rattle.qd_grammar.specs.declared.fault.Fault.{Fault}
use Rattle.qd_grammar.specs.declared.fault.Why.TheVariants.{Form, Number}
use Rattle.qd_grammar.specs.Parts.{Part, fault, ◌>>=◌}
use Rattle.qd_grammar.specs.Fields.{told_at, fault_place, number_of_kind, cell_at}
use Rattle.qd_text.specs.Cursor.{left}
use Rattle.qd_text.specs.Near.{IsNear}
use Rattle.qd_text.proofs.Cuts.{parts_from, no_part_left}
use Rattle.qd_text.proofs.Near.{near_decimal, near_whole}

rest_is : (line : List ℕ) (at : ℕ) → slice_range line at (length line) ≡ drop at line
rest_is line at = take_all (length line - at) (drop at line) (omega (arith, length-drop at line))

-- a value, and the parts that are left behind it
abbrev pub then_left : List ℕ → ℕ → Result ℤ Fault → Result (ℤ × List Part) Fault
then_left line next told = told >>= λ value. Ok (value, left line next)

-- a cell, by the number of the part and the part's length
cell_is : (line : List ℕ) (at : ℕ) (kind : FieldKind) → at ≤ length line → cell_at kind (length line + 1) (left line at) ≡ then_left line (at + part_len (drop at line) + 1) (told_at (at + 1) (number_of_kind kind (take (part_len (drop at line)) (drop at line))))
unfolding cell_at
cell_is line at kind h =
    let n : at + part_len (drop at line) - at ≡ part_len (drop at line) = omega arith in
    rw (parts_from line at (at + part_len (drop at line)) h refl) (rw n refl)

-- what a number at the front tells, told or not
value_of : (read : Result ℤ DecFault) (line : List ℕ) (at n : ℕ) (front : Front) → Ok front ≡ with_len n read → Ok (front.value, left line (at + front.len + 1)) ≡ then_left line (at + n + 1) (told_at (at + 1) read)
value_of (Ok value) line at n front h = let e : front ≡ record { value = value; len = n } = cc in rw e refl
value_of (Err why) line at n front h = cc

fault_of : (read : Result ℤ DecFault) (line : List ℕ) (at n : ℕ) (why : DecFault) → Err why ≡ with_len n read → Err (record { place = fault_place (at + 1) why; why = Number why }) ≡ then_left line (at + n + 1) (told_at (at + 1) read)
fault_of (Ok value) line at n why h = cc
fault_of (Err other) line at n why h = let e : why ≡ other = cc in rw e refl

len_of : (read : Result ℤ DecFault) (n : ℕ) (front : Front) → Ok front ≡ with_len n read → front.len ≡ n
len_of (Ok value) n front h = let e : front ≡ record { value = value; len = n } = cc in rw e refl
len_of (Err why) n front h = cc

pub front_cell : (line : List ℕ) (at : ℕ) (front : Front) (kind : FieldKind) → at ≤ length line → Ok front ≡ front_read (number_of_kind kind) (slice_range line at (length line)) → Ok (front.value, left line (at + front.len + 1)) ≡ cell_at kind (length line + 1) (left line at)
front_cell line at front kind h e =
    let f : Ok front ≡ front_read (number_of_kind kind) (drop at line) = rw (rest_is line at) at e in
    value_of (number_of_kind kind (take (part_len (drop at line)) (drop at line))) line at (part_len (drop at line)) front f ∙ sym (cell_is line at kind h)

pub front_fault : (line : List ℕ) (at : ℕ) (why : DecFault) (kind : FieldKind) → at ≤ length line → Err why ≡ front_read (number_of_kind kind) (slice_range line at (length line)) → Err (record { place = fault_place (at + 1) why; why = Number why }) ≡ cell_at kind (length line + 1) (left line at)
front_fault line at why kind h e =
    let f : Err why ≡ front_read (number_of_kind kind) (drop at line) = rw (rest_is line at) at e in
    fault_of (number_of_kind kind (take (part_len (drop at line)) (drop at line))) line at (part_len (drop at line)) why f ∙ sym (cell_is line at kind h)

pub front_within : (line : List ℕ) (at : ℕ) (front : Front) (kind : FieldKind) → at ≤ length line → Ok front ≡ front_read (number_of_kind kind) (slice_range line at (length line)) → at + front.len + 1 ≤ length line + 1
front_within line at front kind h e =
    let f : Ok front ≡ front_read (number_of_kind kind) (drop at line) = rw (rest_is line at) at e in
    let n : front.len ≡ part_len (drop at line) = len_of (number_of_kind kind (take (part_len (drop at line)) (drop at line))) (part_len (drop at line)) front f in
    omega (arith, prefix_len-le-length (λ b. not (b == 9)) (drop at line), length-drop at line)

-- a fault at the front of a text of at most 4096 bytes is near
near_read : (read : Result ℤ DecFault) (n : ℕ) (why : DecFault) → IfErr read IsNear → Err why ≡ with_len n read → IsNear why
near_read (Ok value) n why h e = cc
near_read (Err other) n why h e = let q : other ≡ why = cc in subst IsNear q h

pub front_near : (text : List ℕ) (why : DecFault) (kind : FieldKind) → length text ≤ 4096 → Err why ≡ front_read (number_of_kind kind) text → IsNear why
front_near text why kind h e =
    let n : length (take (part_len text) text) ≤ 4096 = omega (arith, length-take (part_len text) text) in
    near_read (number_of_kind kind (take (part_len text) text)) (part_len text) why (near kind n) e
  where
    near : (kind : FieldKind) → length (take (part_len text) text) ≤ 4096 → IfErr (number_of_kind kind (take (part_len text) text)) IsNear
    near Int n = near_whole (take (part_len text) text) (int_of (take (part_len text) text)) n (reads_whole (take (part_len text) text))
    near (Dec scale) n = near_decimal scale (take (part_len text) text) (dec_of scale (take (part_len text) text)) n (reads scale (take (part_len text) text))

-- no cell is left past the end
pub no_cell : (line : List ℕ) (at : ℕ) (kind : FieldKind) → length line < at → fault (length line + 1) Form ≡ cell_at kind (length line + 1) (left line at)
unfolding cell_at
no_cell line at kind h = rw (no_part_left line at h) refl
