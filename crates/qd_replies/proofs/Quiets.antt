-- Which calls are counted as answered without items.
use Rattle.std.proofs.Common.{ℕ, ◌≡◌, ◌<◌, ◌+◌, ◌*◌, Bool, true, false, nat_eq, List, [], ◌∷◌, ◌++◌, length, refl, sym, ap, ◌∙◌, arith, inl, inr}
use Rattle.std.specs.Prelude.{cond}
use Rattle.std.proofs.lemmas.Bool.Decides.{nat_tests}
use Rattle.qd_path.specs.Made.{Made}
use Rattle.qd_path.specs.Texts.{ReplyItem, is_idle, items_in, next_place, place_behind, quiet_after, quiet_of}
use Rattle.qd_replies.specs.Laws.{AreEmpty, BeginsAnew, IsExactlyIdle, IsQuietRound, PlacesGoRound}

-- the count behind an answer without items
quiet_next : (n quiet : ℕ) (given : List ReplyItem) → given ≡ [] → quiet_after n given quiet ≡ cond (nat_eq (quiet + 1) (3 * n)) 0 (quiet + 1)
quiet_next n quiet given e = rw e refl

quiet_some : (n quiet : ℕ) (given : List ReplyItem) → 0 < length given → quiet_after n given quiet ≡ 0
quiet_some n quiet [] h = absurd (omega (arith, h))
quiet_some n quiet (y ∷ ys) h = refl

quiet_idle : (n quiet : ℕ) (given : List ReplyItem) → is_idle n given quiet ≡ true → quiet_after n given quiet ≡ 0
quiet_idle n quiet [] h = rw h refl
quiet_idle n quiet (y ∷ ys) h = absurd (cc)

idle_empty : (n quiet : ℕ) (given : List ReplyItem) → given ≡ [] → is_idle n given quiet ≡ nat_eq (quiet + 1) (3 * n)
idle_empty n quiet given e = rw e refl

-- the newest calls, back to where the round began anew
record QuietSince (n : ℕ) (past : List Made) : Type 0 where
  newer : List Made
  older : List Made
  whole : past ≡ newer ++ older
  count : length newer ≡ quiet_of n past
  empties : AreEmpty newer
  anew : BeginsAnew n older

since_next : (n : ℕ) (x : Made) (before : List Made) (given : List ReplyItem) → items_in x ≡ given → (full : Bool) → nat_eq (quiet_of n before + 1) (3 * n) ≡ full → QuietSince n before → QuietSince n (x ∷ before)
since_next n x before (y ∷ ys) e full f s =
    let some : 0 < length (items_in x) = rw e (omega arith) in
    record { newer = []; older = x ∷ before; whole = refl; count = sym (quiet_some n (quiet_of n before) (items_in x) some); empties = tt; anew = inl some }
since_next n x before [] e true f s =
    let idle : is_idle n (items_in x) (quiet_of n before) ≡ true = idle_empty n (quiet_of n before) (items_in x) e ∙ f in
    record { newer = []; older = x ∷ before; whole = refl; count = sym (quiet_idle n (quiet_of n before) (items_in x) idle); empties = tt; anew = inr idle }
since_next n x before [] e false f s =
    let next : quiet_after n (items_in x) (quiet_of n before) ≡ quiet_of n before + 1 = quiet_next n (quiet_of n before) (items_in x) e ∙ rw f refl in
    let longer : length (x ∷ s.newer) ≡ quiet_of n before + 1 = let c = s.count in omega (arith, c) in
    record { newer = x ∷ s.newer; older = s.older; whole = ap (λ (l : List Made). x ∷ l) s.whole; count = longer ∙ sym next; empties = (e, s.empties); anew = s.anew }

since : (n : ℕ) (past : List Made) → QuietSince n past
since n [] = record { newer = []; older = []; whole = refl; count = refl; empties = tt; anew = tt }
since n (x ∷ before) = since_next n x before (items_in x) refl (nat_eq (quiet_of n before + 1) (3 * n)) refl (since n before)

anew_none : (n : ℕ) (older : List Made) → BeginsAnew n older → quiet_of n older ≡ 0
anew_none n [] h = refl
anew_none n (x ∷ before) (inl some) = quiet_some n (quiet_of n before) (items_in x) some
anew_none n (x ∷ before) (inr idle) = quiet_idle n (quiet_of n before) (items_in x) idle

-- a run of calls that were answered without items
run_counts : (n : ℕ) (newer older : List Made) → AreEmpty newer → quiet_of n older ≡ 0 → length newer < 3 * n → quiet_of n (newer ++ older) ≡ length newer
run_counts n [] older es z h = z
run_counts n (x ∷ newer) older es z h =
    let less : length newer < 3 * n = omega (arith, h) in
    let q : quiet_of n (newer ++ older) ≡ length newer = run_counts n newer older es.1 z less in
    let apart : quiet_of n (newer ++ older) + 1 < 3 * n = omega (arith, q, h) in
    let below : nat_eq (quiet_of n (newer ++ older) + 1) (3 * n) ≡ false = grind (arith, nat_tests) in
    let next : quiet_after n (items_in x) (quiet_of n (newer ++ older)) ≡ quiet_of n (newer ++ older) + 1 = quiet_next n (quiet_of n (newer ++ older)) (items_in x) es.0 ∙ rw below refl in
    let longer : quiet_of n (newer ++ older) + 1 ≡ length (x ∷ newer) = omega (arith, q) in
    next ∙ longer

idle_is : (n : ℕ) (past : List Made) (x : Made) (given : List ReplyItem) → items_in x ≡ given → is_idle n given (quiet_of n past) ≡ true → IsQuietRound n x past
idle_is n past x (y ∷ ys) e h = absurd (cc)
idle_is n past x [] e h =
    let s = since n past in
    let full : quiet_of n past + 1 ≡ 3 * n = grind (arith, nat_tests) in
    let c = s.count in
    record { newer = s.newer; older = s.older; whole = s.whole; count = omega (arith, c, full); empties = (e, s.empties); anew = s.anew }

is_idle_at : (n : ℕ) (past : List Made) (x : Made) → IsQuietRound n x past → is_idle n (items_in x) (quiet_of n past) ≡ true
is_idle_at n past x r =
    let c = r.count in
    let less : length r.newer < 3 * n = omega (arith, c) in
    let q : quiet_of n past ≡ length r.newer = ap (λ (l : List Made). quiet_of n l) r.whole ∙ run_counts n r.newer r.older r.empties.1 (anew_none n r.older r.anew) less in
    let full : quiet_of n past + 1 ≡ 3 * n = omega (arith, q, c) in
    let t : nat_eq (quiet_of n past + 1) (3 * n) ≡ true = grind (arith, nat_tests) in
    idle_empty n (quiet_of n past) (items_in x) r.empties.0 ∙ t

pub exactly_idle : IsExactlyIdle
exactly_idle n past x = (idle_is n past x (items_in x) refl, is_idle_at n past x)

place_next : (n p : ℕ) (full : Bool) → nat_eq (p + 1) (3 * n) ≡ full → next_place n p ≡ cond full 0 (p + 1)
place_next n p full e = rw e refl

places_next : (n len p rounds : ℕ) (full : Bool) → nat_eq (p + 1) (3 * n) ≡ full → 0 < n → len ≡ rounds * (3 * n) + p → p < 3 * n
    → (more : ℕ) × (len + 1 ≡ more * (3 * n) + cond full 0 (p + 1)) × (cond full 0 (p + 1) < 3 * n)
places_next n len p rounds true e some h within = let full : p + 1 ≡ 3 * n = grind (arith, nat_tests) in (rounds + 1, grind arith, omega (arith, some))
places_next n len p rounds false e some h within = let less : p + 1 < 3 * n = grind (arith, nat_tests) in (rounds, omega (arith, h), less)

pub round_places : PlacesGoRound
round_places n [] some = (0, grind arith, omega (arith, some))
round_places n (x ∷ before) some =
    let r = round_places n before some in
    let full = nat_eq (place_behind n before + 1) (3 * n) in
    let next = place_next n (place_behind n before) full refl in
    let m = places_next n (length before) (place_behind n before) r.0 full refl some r.1 r.2 in
    let longer : length (x ∷ before) ≡ length before + 1 = omega arith in
    (m.0, longer ∙ m.1 ∙ ap (λ (p : ℕ). m.0 * (3 * n) + p) (sym next), rw next m.2)
