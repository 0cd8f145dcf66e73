-- Rows of the definitions of sources and sinks: what each of them takes, and what it refuses.
use Rattle.std.proofs.Common.{arith, ◌≡◌, ◌<◌, ◌+◌, ◌-◌, ◌^◌, ℕ, Bool, true, false, Option, Some, None, List, [], ◌∷◌, refl}
use Rattle.qd_outside.specs.Causes.{Rose}
use Rattle.qd_outside.specs.Reading.{Took, IsSpent, bytes_got, Tells}
use Rattle.qd_outside.specs.Writing.{Gained, bytes_written, WriteTells, FlushTells, Writes}
use Rattle.qd_outside.specs.Buffering.{Prints, Drains}
use Rattle.qd_outside.specs.declared.source.Read.TheVariants.{Got, End, Failed as ReadFailed}
use Rattle.qd_outside.specs.declared.sink.Write.TheVariants.{Wrote, Failed}

-- a count that stands still did not rise, unless it is at its end
still : (n : ℕ) → n < 2 ^ 64 - 1 → Rose n n → ⊥
still n small r = omega (arith, small, r)

at_its_end : Rose (2 ^ 64 - 1) (2 ^ 64 - 1)
at_its_end = omega arith

one_more : (n : ℕ) → Rose n (n + 1)
one_more n = omega arith

fallen : (n : ℕ) → n < 2 ^ 64 - 1 → Rose (n + 1) n → ⊥
fallen n small r = omega (arith, small, r)

-- what is taken comes off the front, and nothing else goes
took_front : Took (Some (1 ∷ 2 ∷ 3 ∷ [])) (Some (3 ∷ [])) (1 ∷ 2 ∷ [])
took_front = refl

took_more : Took (Some (1 ∷ 2 ∷ 3 ∷ [])) (Some []) (1 ∷ 2 ∷ []) → ⊥
took_more e = absurd (cc)

took_less : Took (Some (1 ∷ 2 ∷ [])) (Some (1 ∷ 2 ∷ [])) (1 ∷ []) → ⊥
took_less e = absurd (cc)

took_other : Took (Some (1 ∷ 2 ∷ [])) (Some (2 ∷ [])) (3 ∷ []) → ⊥
took_other e = absurd (cc)

-- a source that tells what is left goes on telling it
took_untold : (a b : List ℕ) → Took (Some a) None b → ⊥
took_untold a b e = e

took_told : (a b : List ℕ) → Took None (Some a) b → ⊥
took_told a b e = e

-- nothing is spent of which a byte is left
spent : IsSpent (Some [])
spent = refl

left_over : (b : ℕ) (left : List ℕ) → IsSpent (Some (b ∷ left)) → ⊥
left_over b left e = absurd (cc)

got_two : bytes_got (Got 2) (1 ∷ 2 ∷ 3 ∷ []) ≡ 1 ∷ 2 ∷ []
got_two = refl

got_none : (buf : List ℕ) → (bytes_got End buf ≡ []) × (bytes_got ReadFailed buf ≡ [])
got_none buf = (refl, refl)

-- a read gives a byte at least, and none past the buffer
tells_none : (buf : List ℕ) (left : Option (List ℕ)) (n : ℕ) → Tells (Got 0) buf left n n → ⊥
tells_none buf left n t = omega (arith, t.0)

tells_one : Tells (Got 1) (7 ∷ []) (Some (8 ∷ [])) 5 5
tells_one = (omega arith, omega arith, refl)

tells_too_much : (left : Option (List ℕ)) (n : ℕ) → Tells (Got 2) (7 ∷ []) left n n → ⊥
tells_too_much left n t = omega (arith, t.1)

-- neither bytes nor the end come with a fault, and no failure without one
got_with_fault : (buf : List ℕ) (left : Option (List ℕ)) (n : ℕ) → Tells (Got 1) buf left n (n + 1) → ⊥
got_with_fault buf left n t = omega (arith, t.2)

end_with_fault : (buf : List ℕ) (left : Option (List ℕ)) (n : ℕ) → Tells End buf left n (n + 1) → ⊥
end_with_fault buf left n t = omega (arith, t.1)

end_too_early : (buf : List ℕ) (n : ℕ) → Tells End buf (Some (1 ∷ [])) n n → ⊥
end_too_early buf n t = left_over 1 [] t.0

failed_without_fault : (buf : List ℕ) (left : Option (List ℕ)) (n : ℕ) → n < 2 ^ 64 - 1 → Tells ReadFailed buf left n n → ⊥
failed_without_fault buf left n small t = still n small t.0

failed_once : Tells ReadFailed [] (Some (1 ∷ [])) 5 6
failed_once = (omega arith, omega arith)

-- what is written comes behind what was written, and nothing else comes
gained_behind : Gained (Some (1 ∷ [])) (Some (1 ∷ 2 ∷ [])) (2 ∷ [])
gained_behind = refl

gained_before : Gained (Some (1 ∷ [])) (Some (2 ∷ 1 ∷ [])) (2 ∷ []) → ⊥
gained_before e = absurd (cc)

gained_more : Gained (Some (1 ∷ [])) (Some (1 ∷ 2 ∷ 3 ∷ [])) (2 ∷ []) → ⊥
gained_more e = absurd (cc)

gained_less : Gained (Some (1 ∷ [])) (Some (1 ∷ [])) (2 ∷ []) → ⊥
gained_less e = absurd (cc)

gained_untold : (a b : List ℕ) → Gained (Some a) None b → ⊥
gained_untold a b e = e

gained_told : (a b : List ℕ) → Gained None (Some a) b → ⊥
gained_told a b e = e

wrote_two : bytes_written (Wrote 2) (1 ∷ 2 ∷ 3 ∷ []) ≡ 1 ∷ 2 ∷ []
wrote_two = refl

wrote_none : (piece : List ℕ) → bytes_written Failed piece ≡ []
wrote_none piece = refl

-- a write takes a byte at least, and no more than the piece has; then there is something to flush
writes_none : (piece : List ℕ) (was flushed : Bool) (n : ℕ) → WriteTells (Wrote 0) piece was flushed n n → ⊥
writes_none piece was flushed n t = omega (arith, t.0)

writes_one : WriteTells (Wrote 1) (7 ∷ []) true false 5 5
writes_one = (omega arith, omega arith, refl, refl)

writes_too_much : (was flushed : Bool) (n : ℕ) → WriteTells (Wrote 2) (7 ∷ []) was flushed n n → ⊥
writes_too_much was flushed n t = omega (arith, t.1)

written_is_unflushed : (piece : List ℕ) (was : Bool) (n : ℕ) → WriteTells (Wrote 1) piece was true n n → ⊥
written_is_unflushed piece was n t = let e = t.2 in absurd (cc)

wrote_with_fault : (piece : List ℕ) (was flushed : Bool) (n : ℕ) → WriteTells (Wrote 1) piece was flushed n (n + 1) → ⊥
wrote_with_fault piece was flushed n t = omega (arith, t.3)

unwritten_without_fault : (piece : List ℕ) (was flushed : Bool) (n : ℕ) → n < 2 ^ 64 - 1 → WriteTells Failed piece was flushed n n → ⊥
unwritten_without_fault piece was flushed n small t = still n small t.1

unwritten_is_flushed : (piece : List ℕ) (n : ℕ) → WriteTells Failed piece false true n (n + 1) → ⊥
unwritten_is_flushed piece n t = let e = t.0 in absurd (cc)

flushes : (was : Bool) (n : ℕ) → FlushTells true was true n n
flushes was n = (refl, refl)

flushed_not : (was : Bool) (n : ℕ) → FlushTells true was false n n → ⊥
flushed_not was n t = let e = t.0 in absurd (cc)

flushed_with_fault : (was : Bool) (n : ℕ) → FlushTells true was true n (n + 1) → ⊥
flushed_with_fault was n t = omega (arith, t.1)

unflushed_without_fault : (was flushed : Bool) (n : ℕ) → n < 2 ^ 64 - 1 → FlushTells false was flushed n n → ⊥
unflushed_without_fault was flushed n small t = still n small t.1

unflushed_is_flushed : (n : ℕ) → FlushTells false false true n (n + 1) → ⊥
unflushed_is_flushed n t = let e = t.0 in absurd (cc)

-- a text that was written was so without a fault, and whole; one that was cut short was not
written_without_fault : (text : List ℕ) (was now : Option (List ℕ)) (n : ℕ) → Writes true text was now n (n + 1) → ⊥
written_without_fault text was now n w = omega (arith, w.same)

written_whole : Writes true (1 ∷ 2 ∷ []) (Some []) (Some (1 ∷ [])) 5 5 → ⊥
written_whole w = let e = w.gained in absurd (cc)

cut_without_fault : (text : List ℕ) (was now : Option (List ℕ)) (n : ℕ) → n < 2 ^ 64 - 1 → Writes false text was now n n → ⊥
cut_without_fault text was now n small w = still n small w.rose

cut_within : Writes false (1 ∷ 2 ∷ []) (Some []) (Some (1 ∷ [])) 5 6
cut_within = record { part = 1 ∷ []; rest = 2 ∷ []; whole = refl; gained = refl; rose = omega arith; later = omega arith }

-- nothing is lost between a buffer and its sink, and a drain leaves nothing behind
prints_back : Prints true (2 ∷ []) (1 ∷ []) (1 ∷ 2 ∷ []) (Some []) (Some []) 5 5
prints_back = ([], refl, record { gained = refl; same = refl })

prints_on : Prints true (2 ∷ []) (1 ∷ []) [] (Some []) (Some (1 ∷ 2 ∷ [])) 5 5
prints_on = (1 ∷ 2 ∷ [], refl, record { gained = refl; same = refl })

drains : Drains true (1 ∷ []) [] (Some []) (Some (1 ∷ [])) true 5 5
drains = (refl, record { gained = refl; same = refl }, refl)

drains_unflushed : (old new : List ℕ) (was now : Option (List ℕ)) (n : ℕ) → Drains true old new was now false n n → ⊥
drains_unflushed old new was now n d = let e = d.2 in absurd (cc)

drains_behind : (old : List ℕ) (was now : Option (List ℕ)) (n : ℕ) → Drains true old (1 ∷ []) was now true n n → ⊥
drains_behind old was now n d = let e = d.0 in absurd (cc)
