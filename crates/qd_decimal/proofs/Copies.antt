-- A text that is copied with the bytes behind it.
use Rattle.std.proofs.Common.{◌≡◌, ℕ, ◌+◌, ◌-◌, ◌≤◌, Bool, cond, List, ◌++◌, length, take, drop, slice_range, sym, ◌∙◌, ap, arith, length-drop, length-append}
use Rattle.std.specs.Prelude.{nat_le}
use Rattle.std.proofs.lemmas.List.{length-take-le, take-append-le, take-take}
use Rattle.std.proofs.Math.Seq.{take-append-add, take-append_seam}
use borrow.Rule.Slice.PartMut.{put_mid, post_of}

first_of : (n m : ℕ) (xs rest : List ℕ) → n ≤ m → m ≤ length xs → take n (take m xs ++ rest) ≡ take n xs
first_of n m xs rest h k = take-append-le n (take m xs) rest (omega (arith, length-take-le m xs k)) ∙ take-take n m xs h

-- so many bytes of a buffer at once, of which the line has those up to the buffer's middle
pub copied : (bytes buffer piece : List ℕ) (len start n k : ℕ) → n + start ≡ len + 32 → start ≤ 32 → len ≤ length bytes → length buffer ≡ 64 → piece ≡ slice_range buffer start (start + 32) → take n (put_mid len k bytes piece) ≡ take len bytes ++ take (32 - start) (drop start buffer)
copied bytes buffer piece len start n k i h l b e =
    let w : start + 32 - start ≡ 32 = omega arith in
    let p : piece ≡ take 32 (drop start buffer) = e ∙ ap (λ j. take j (drop start buffer)) w in
    let t : length (take len bytes) ≡ len = length-take-le len bytes l in
    let m : n ≡ length (take len bytes) + (32 - start) = omega arith in
    ap (λ (x : List ℕ). take n (put_mid len k bytes x)) p
    ∙ ap (λ j. take j (take len bytes ++ (take 32 (drop start buffer) ++ post_of len k bytes))) m
    ∙ take-append-add (take len bytes) (take 32 (drop start buffer) ++ post_of len k bytes) (32 - start)
    ∙ ap (λ (x : List ℕ). take len bytes ++ x) (first_of (32 - start) 32 (drop start buffer) (post_of len k bytes) (omega arith) (omega (arith, length-drop start buffer)))

-- what stands up to a buffer's middle
pub up_to_middle : (buffer old text : List ℕ) (start : ℕ) → length buffer ≡ 64 → length old ≡ 64 → start ≤ 32 → drop start buffer ≡ text ++ drop 32 old → (take (32 - start) (drop start buffer) ≡ text) × (length text ≡ 32 - start)
up_to_middle buffer old text start h k l e =
    let n : length text ≡ 32 - start = omega (arith, ap (λ (t : List ℕ). length t) e, length-append text (drop 32 old), length-drop start buffer, length-drop 32 old) in
    (ap (λ (t : List ℕ). take (32 - start) t) e ∙ ap (λ j. take j (text ++ drop 32 old)) (sym n) ∙ take-append_seam text (drop 32 old), n)

pub short_room : (room : Bool) (buffer old text : List ℕ) (start n : ℕ) → length buffer ≡ 64 → length old ≡ 64 → start ≤ 32 → drop start buffer ≡ text ++ drop 32 old → room ≡ nat_le (n + (32 - start)) 4096 → room ≡ nat_le (n + length text) 4096
short_room room buffer old text start n h k l e r = let p : (take (32 - start) (drop start buffer) ≡ text) × (length text ≡ 32 - start) = up_to_middle buffer old text start h k l e in r ∙ ap (λ m. nat_le (n + m) 4096) (sym p.1)

pub short_appended : (room : Bool) (buffer old text out new : List ℕ) (start : ℕ) → length buffer ≡ 64 → length old ≡ 64 → start ≤ 32 → drop start buffer ≡ text ++ drop 32 old → new ≡ cond room (out ++ take (32 - start) (drop start buffer)) out → new ≡ cond room (out ++ text) out
short_appended room buffer old text out new start h k l e r = let p : (take (32 - start) (drop start buffer) ≡ text) × (length text ≡ 32 - start) = up_to_middle buffer old text start h k l e in r ∙ ap (λ (t : List ℕ). cond room (out ++ t) out) p.0
