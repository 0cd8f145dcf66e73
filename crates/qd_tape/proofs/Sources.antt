-- What is left of a script that is read.
use Rattle.std.proofs.Common.{ℕ, ◌≡◌, ◌≤◌, ◌+◌, ◌-◌, List, [], ◌++◌, length, take, drop, ◌∙◌, sym, ap, append_assoc, arith, length-drop}
use Rattle.std.proofs.lemmas.List.{drop-drop, length-take, take-append-drop}
use Rattle.std.proofs.lemmas.Slice.{take-put_mid}
use borrow.Rule.Slice.PartMut.{put_mid}
use Rattle.qd_tape.specs.Scripts.{Script, generated, source_left}
use Rattle.qd_tape.specs.declared.script.Stage.TheVariants.{Opening}
use Rattle.qd_tape.proofs.Blocks.{at, text_left-generated}

pub source_left-new : (lines : List ℕ) (s : Script) (start count : ℕ) → lines ≡ [] → s ≡ at start count Opening → source_left lines 0 s ≡ generated start count
source_left-new lines s start count l e = rw (l, e) (text_left-generated start count)

-- bytes that are moved from what is left to what was given
pub given_more : (front more old left rest : List ℕ) → more ++ left ≡ old ++ front → more ++ (left ++ rest) ≡ old ++ (front ++ rest)
given_more front more old left rest e = sym (append_assoc more left rest) ∙ ap (λ (l : List ℕ). l ++ rest) e ∙ append_assoc old front rest

-- what a copy leaves of the bytes and of the buffer
pub copied : (bytes buf ys : List ℕ) (from at k n : ℕ) → ys ≡ take (from + n - from) (drop from bytes) → at ≤ length buf → n ≤ length bytes - from → from ≤ length bytes
    → take (at + n) (put_mid at k buf ys) ++ drop (from + n) bytes ≡ take at buf ++ drop from bytes
copied bytes buf ys from at k n e fits few within =
    let same : from + n - from ≡ n = omega arith in
    let as_many : length ys ≡ n = ap length e ∙ (length-take (from + n - from) (drop from bytes) ∙ (let d = length-drop from bytes in omega (arith, d, same, few))) in
    let front : take (at + n) (put_mid at k buf ys) ≡ take at buf ++ ys = take-put_mid at k buf ys (at + n) (ap (λ (x : ℕ). at + x) (sym as_many)) fits in
    let back : ys ++ drop (from + n) bytes ≡ drop from bytes =
    rw (e, same) (ap (λ (l : List ℕ). take n (drop from bytes) ++ l) (sym (drop-drop n from bytes)) ∙ take-append-drop n (drop from bytes)) in
    ap (λ (l : List ℕ). l ++ drop (from + n) bytes) front ∙ append_assoc (take at buf) ys (drop (from + n) bytes) ∙ ap (λ (l : List ℕ). take at buf ++ l) back
