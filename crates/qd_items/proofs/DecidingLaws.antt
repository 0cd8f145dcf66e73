-- A text decides one end, and the lines before it.
use Rattle.std.proofs.Common.{ℕ, ◌≡◌, ◌+◌, ◌<◌, ◌≤◌, ◌^◌, Option, Some, None, List, [], ◌∷◌, ◌++◌, length, take, drop, refl, sym, ◌∙◌, ap, subst, arith, append_assoc, inl, inr, length-append, length-take}
use Rattle.std.specs.Prelude.{◌⊎◌}
use Rattle.std.proofs.lemmas.Bool.{cases_lt}
use Rattle.std.proofs.lemmas.List.{append-nil, take-append-drop}
use Rattle.qd_grammar.specs.declared.item.Mode.{Mode}
use Rattle.qd_line.specs.Cutter.{IsHungry, IsTooLong, AreShort}
use Rattle.qd_line.specs.Lines.{joined, IsCut}
use Rattle.qd_outside.specs.Causes.{Rose}
use Rattle.qd_outside.specs.Reading.{Took}
use Rattle.qd_scheme.specs.declared.defs.RecordDef.{RecordDef}
use Rattle.qd_items.specs.declared.ends.TextEnd.{TextEnd}
use Rattle.qd_items.specs.declared.ends.TextEnd.TheVariants.{End, CutOff, Bad, LineTooLong, TooMuch, ReadFault, NoMemory}
use Rattle.qd_items.specs.Judging.{Stop, stop_of, stop_with, said, state_of, or_first, StopsAt, NoneBehind}
use Rattle.qd_items.specs.Judging.Stop.{Open, AtEnd, AtBad}
use Rattle.qd_items.specs.Standing.{Past, IsTaken}
use Rattle.qd_items.specs.Ends.{Causes, IsEnded}
use Rattle.qd_items.specs.Deciding.{Decides}
use Rattle.qd_items.proofs.LineOrder.{goes_on, next_line, joined_more}

-- a beginning of a text: its lines, and what follows them
record Beginning (text : List ℕ) (lines : List (List ℕ)) : Type 0 where
  bytes : List ℕ
  tail : List ℕ
  rest : List ℕ
  whole : text ≡ bytes ++ tail
  taken : IsTaken (record { taken = bytes; lines = lines }) rest

-- the end that goes with a stop
abbrev end_of : Stop → TextEnd
end_of Open = End
end_of (AtEnd n) = End
end_of (AtBad bad) = Bad bad

-- the newest line stops the text
record IsStopped (mode : Mode) (defs : List RecordDef) (lines : List (List ℕ)) (end : TextEnd) : Type 0 where
  stop : Stop
  is_stop : stop_of mode defs lines ≡ stop
  newest : StopsAt stop (length lines)
  is_end : end ≡ end_of stop

-- what follows is a line that is too long
record IsLong (mode : Mode) (defs : List RecordDef) (lines : List (List ℕ)) (rest : List ℕ) (end : TextEnd) : Type 0 where
  is_open : stop_of mode defs lines ≡ Open
  long : IsTooLong rest
  is_end : end ≡ LineTooLong (length lines + 1)

-- no more can be read
record IsAll (mode : Mode) (defs : List RecordDef) (text : List ℕ) (lines : List (List ℕ)) (bytes tail rest : List ℕ) (end : TextEnd) : Type 0 where
  is_open : stop_of mode defs lines ≡ Open
  hungry : IsHungry rest
  most : (n : ℕ) → n ≤ length text → n ≤ 2 ^ 40 → n ≤ length bytes
  is_end : ((length bytes ≡ 2 ^ 40) × (end ≡ TooMuch)) ⊎ ((length bytes < 2 ^ 40) × (tail ≡ []) × (end ≡ CutOff (length lines)))

-- the three ways in which a beginning decides an end
abbrev Way : Mode → List RecordDef → (text : List ℕ) → (lines : List (List ℕ)) → Beginning text lines → TextEnd → Type 0
Way mode defs text lines b end = IsStopped mode defs lines end ⊎ (IsLong mode defs lines b.rest end ⊎ IsAll mode defs text lines b.bytes b.tail b.rest end)

abbrev beginning : (mode : Mode) (defs : List RecordDef) (text : List ℕ) (end : TextEnd) (lines : List (List ℕ)) → Decides mode defs text end lines → Beginning text lines
beginning mode defs text end lines d = record { bytes = d.bytes; tail = d.tail; rest = d.rest; whole = d.whole; taken = d.taken }

way_of : (mode : Mode) (defs : List RecordDef) (text : List ℕ) (end : TextEnd) (lines : List (List ℕ)) (d : Decides mode defs text end lines) → Way mode defs text lines (beginning mode defs text end lines d) end
way_of mode defs text End lines d = inl (record { stop = AtEnd (length lines); is_stop = d.cause; newest = refl; is_end = refl })
way_of mode defs text (Bad bad) lines d = inl (record { stop = AtBad bad; is_stop = d.cause.0; newest = d.cause.1; is_end = refl })
way_of mode defs text (LineTooLong line) lines d =
    let number = d.cause.2 in
    inr (inl (record { is_open = d.cause.0; long = d.cause.1; is_end = ap (λ (n : ℕ). LineTooLong n) number }))
way_of mode defs text (CutOff line) lines d =
    let c = d.cause in
    let number = c.3 in
    let all : length text ≡ length d.bytes = ap length d.whole ∙ ap (λ (l : List ℕ). length (d.bytes ++ l)) c.2 ∙ ap length (append-nil d.bytes) in
    inr (inr (record { is_open = c.0.0; hungry = c.0.1; most = λ m l k. omega (arith, all, l); is_end = inr (c.1, c.2, ap (λ (n : ℕ). CutOff n) number) }))
way_of mode defs text TooMuch lines d =
    let full = d.cause.1 in
    inr (inr (record { is_open = d.cause.0.0; hungry = d.cause.0.1; most = λ m l k. omega (arith, full, k); is_end = inl (full, refl) }))
way_of mode defs text ReadFault lines d = absurd d.cause
way_of mode defs text NoMemory lines d = absurd d.cause

-- the whole text, cut at the lines of a beginning
text_cut : (text : List ℕ) (lines : List (List ℕ)) (b : Beginning text lines) → IsCut text lines (b.rest ++ b.tail)
text_cut text lines b = record {
  whole = b.whole ∙ ap (λ (l : List ℕ). l ++ b.tail) b.taken.cut.whole ∙ append_assoc (joined lines) b.rest b.tail;
  each = b.taken.cut.each;
}

-- once lines stop, more lines change nothing
stop_stays : (mode : Mode) (defs : List RecordDef) (stop : Stop) (count : ℕ) (more lines : List (List ℕ)) → StopsAt stop count → stop_of mode defs lines ≡ stop → stop_of mode defs (more ++ lines) ≡ stop
stop_stays mode defs stop count [] lines n e = e
stop_stays mode defs stop count (line ∷ more) lines n e =
    ap (λ (s : Stop). or_first s (stop_with (length (line ∷ more ++ lines)) (said mode defs (state_of mode defs (more ++ lines)) line))) (stop_stays mode defs stop count more lines n e)
    ∙ first stop (stop_with (length (line ∷ more ++ lines)) (said mode defs (state_of mode defs (more ++ lines)) line)) count n
  where
    first : (stop next : Stop) (count : ℕ) → StopsAt stop count → or_first stop next ≡ stop
    first Open next count n = absurd n
    first (AtEnd m) next count n = refl
    first (AtBad bad) next count n = refl

-- one stop is of one count
one_count : (stop other : Stop) (m n : ℕ) → stop ≡ other → StopsAt stop m → StopsAt other n → m ≡ n
one_count stop other m n e a b = go other (subst (λ (s : Stop). StopsAt s m) e a) b
  where
    go : (stop : Stop) → StopsAt stop m → StopsAt stop n → m ≡ n
    go Open a b = absurd a
    go (AtEnd k) a b = sym a ∙ b
    go (AtBad bad) a b = sym a ∙ b

not_open : (stop : Stop) (count : ℕ) → StopsAt stop count → stop ≡ Open → ⊥
not_open stop count n e = subst (λ (s : Stop). StopsAt s count) e n

late : (mode : Mode) (defs : List RecordDef) (text : List ℕ) (lines : List (List ℕ)) (b : Beginning text lines) (end : TextEnd) → Way mode defs text lines b end → NoneBehind mode defs lines
late mode defs text lines b end (inl s) = inr (subst (λ (stop : Stop). StopsAt stop (length lines)) (sym s.is_stop) s.newest)
late mode defs text lines b end (inr (inl l)) = inl l.is_open
late mode defs text lines b end (inr (inr a)) = inl a.is_open

AreShort-newest : (more lines : List (List ℕ)) (line : List ℕ) → AreShort (more ++ line ∷ lines) → length line ≤ 4096
AreShort-newest [] lines line h = h.0
AreShort-newest (l ∷ more) lines line h = AreShort-newest more lines line h.1

-- behind the lines that decide an end there is no further one
none_behind : (mode : Mode) (defs : List RecordDef) (text : List ℕ) (xs : List (List ℕ)) (a : Beginning text xs) (end : TextEnd) → Way mode defs text xs a end
    → (ys : List (List ℕ)) (b : Beginning text ys) → NoneBehind mode defs ys → (more : List (List ℕ)) (line : List ℕ) → ys ≡ more ++ line ∷ xs → ⊥
none_behind mode defs text xs a end (inl s) ys b (inl still) more line e =
    not_open s.stop (length xs) s.newest (sym (stays more line s) ∙ ap (stop_of mode defs) (sym e) ∙ still)
  where
    stays : (more : List (List ℕ)) (line : List ℕ) (s : IsStopped mode defs xs end) → stop_of mode defs (more ++ line ∷ xs) ≡ s.stop
    stays more line s =
        ap (stop_of mode defs) (sym (append_assoc more (line ∷ []) xs)) ∙ stop_stays mode defs s.stop (length xs) (more ++ line ∷ []) xs s.newest s.is_stop
none_behind mode defs text xs a end (inl s) ys b (inr newest) more line e =
    let stays : stop_of mode defs (more ++ line ∷ xs) ≡ s.stop =
    ap (stop_of mode defs) (sym (append_assoc more (line ∷ []) xs)) ∙ stop_stays mode defs s.stop (length xs) (more ++ line ∷ []) xs s.newest s.is_stop in
    let same : s.stop ≡ stop_of mode defs ys = sym stays ∙ ap (stop_of mode defs) (sym e) in
    let count = one_count s.stop (stop_of mode defs ys) (length xs) (length ys) same s.newest newest in
    let size = ap (λ (ls : List (List ℕ)). length ls) e in
    let sum = length-append more (line ∷ xs) in
    absurd (omega (arith, count, size, sum))
none_behind mode defs text xs a end (inr (inl s)) ys b l more line e =
    let x = take 4097 a.rest in
    let parts : a.rest ++ a.tail ≡ x ++ (drop 4097 a.rest ++ a.tail) =
    ap (λ (t : List ℕ). t ++ a.tail) (sym (take-append-drop 4097 a.rest)) ∙ append_assoc x (drop 4097 a.rest) a.tail in
    let cut : IsCut text xs (x ++ (drop 4097 a.rest ++ a.tail)) = subst (λ (t : List ℕ). IsCut text xs t) parts (text_cut text xs a) in
    let far = next_line text xs more line x (drop 4097 a.rest ++ a.tail) (b.rest ++ b.tail) cut s.long.one (subst (λ (ls : List (List ℕ)). IsCut text ls (b.rest ++ b.tail)) e (text_cut text ys b)) in
    let size = length-take 4097 a.rest in
    let long = s.long.long in
    let short = AreShort-newest more xs line (subst (λ (ls : List (List ℕ)). AreShort ls) e b.taken.short) in
    absurd (omega (arith, far, size, long, short))
none_behind mode defs text xs a end (inr (inr s)) ys b l more line e =
    let far = next_line text xs more line a.rest a.tail (b.rest ++ b.tail) (text_cut text xs a) s.hungry.one (subst (λ (ls : List (List ℕ)). IsCut text ls (b.rest ++ b.tail)) e (text_cut text ys b)) in
    let n = ap length a.taken.cut.whole in
    let n2 = length-append (joined xs) a.rest in
    let m = ap length b.taken.cut.whole in
    let m2 = length-append (joined ys) b.rest in
    let m3 = ap (λ (ls : List (List ℕ)). length (joined ls)) e in
    let m4 = joined_more more (line ∷ xs) in
    let m5 = length-append (joined xs) (line ++ 10 ∷ []) in
    let m6 = length-append line (10 ∷ []) in
    let t = ap length b.whole in
    let t2 = length-append b.bytes b.tail in
    let within = b.taken.within in
    let most = s.most (length b.bytes) (omega (arith, t, t2)) within in
    absurd (omega (arith, far, n, n2, m, m2, m3, m4, m5, m6, most))

-- lines in front of others end with one
last_line : (z : List ℕ) (more xs : List (List ℕ)) → (front : List (List ℕ)) × (line : List ℕ) × ((z ∷ more) ++ xs ≡ front ++ line ∷ xs)
last_line z [] xs = ([], z, refl)
last_line z (y ∷ more) xs = let r = last_line y more xs in (z ∷ r.0, r.1, ap (λ (ls : List (List ℕ)). z ∷ ls) r.2)

-- the lines of another beginning are the first of those that decide the end
first_lines : (mode : Mode) (defs : List RecordDef) (text : List ℕ) (xs : List (List ℕ)) (a : Beginning text xs) (end : TextEnd) → Way mode defs text xs a end
    → (ys : List (List ℕ)) (b : Beginning text ys) → NoneBehind mode defs ys → (more : List (List ℕ)) × (xs ≡ more ++ ys)
first_lines mode defs text xs a end way ys b l = go (cases_lt (length xs) (length ys))
  where
    behind : (more : List (List ℕ)) → ys ≡ more ++ xs → length xs < length ys → ⊥
    behind [] e n = let size = ap (λ (ls : List (List ℕ)). length ls) e in absurd (omega (arith, size, n))
    behind (z ∷ more) e n = let r = last_line z more xs in none_behind mode defs text xs a end way ys b l r.0 r.1 (e ∙ r.2)

    go : (length xs < length ys) ⊎ (length ys ≤ length xs) → (more : List (List ℕ)) × (xs ≡ more ++ ys)
    go (inl n) =
        let m = goes_on text xs ys (a.rest ++ a.tail) (b.rest ++ b.tail) (text_cut text xs a) (text_cut text ys b) (omega (arith, n)) in
        absurd (behind m.0 m.1 n)
    go (inr n) = goes_on text ys xs (b.rest ++ b.tail) (a.rest ++ a.tail) (text_cut text ys b) (text_cut text xs a) n

both_ways : (xs ys m k : List (List ℕ)) → xs ≡ m ++ ys → ys ≡ k ++ xs → xs ≡ ys
both_ways xs ys [] k e f = e
both_ways xs ys (z ∷ m) k e f =
    let a = ap (λ (ls : List (List ℕ)). length ls) e in
    let b = ap (λ (ls : List (List ℕ)). length ls) f in
    let c = length-append (z ∷ m) ys in
    let d = length-append k xs in
    absurd (omega (arith, a, b, c, d))

-- two beginnings with the same lines: the one of which all was read has no fewer bytes left
fewer_left : (text : List ℕ) (xs : List (List ℕ)) (a b : Beginning text xs) → ((n : ℕ) → n ≤ length text → n ≤ 2 ^ 40 → n ≤ length b.bytes) → length a.bytes ≤ length b.bytes
fewer_left text xs a b most =
    let t = ap length a.whole in
    let t2 = length-append a.bytes a.tail in
    most (length a.bytes) (omega (arith, t, t2)) a.taken.within

long_all : (mode : Mode) (defs : List RecordDef) (text : List ℕ) (xs : List (List ℕ)) (a b : Beginning text xs) (x y : TextEnd) → IsLong mode defs xs a.rest x → IsAll mode defs text xs b.bytes b.tail b.rest y → ⊥
long_all mode defs text xs a b x y s t =
    let most = fewer_left text xs a b t.most in
    let n = ap length a.taken.cut.whole in
    let n2 = length-append (joined xs) a.rest in
    let m = ap length b.taken.cut.whole in
    let m2 = length-append (joined xs) b.rest in
    let long = s.long.long in
    let short = t.hungry.short in
    absurd (omega (arith, most, n, n2, m, m2, long, short))

all_all : (mode : Mode) (defs : List RecordDef) (text : List ℕ) (xs : List (List ℕ)) (a b : Beginning text xs) (x y : TextEnd) → IsAll mode defs text xs a.bytes a.tail a.rest x → IsAll mode defs text xs b.bytes b.tail b.rest y → x ≡ y
all_all mode defs text xs a b x y s t = go s.is_end t.is_end
  where
    go : ((length a.bytes ≡ 2 ^ 40) × (x ≡ TooMuch)) ⊎ ((length a.bytes < 2 ^ 40) × (a.tail ≡ []) × (x ≡ CutOff (length xs)))
        → ((length b.bytes ≡ 2 ^ 40) × (y ≡ TooMuch)) ⊎ ((length b.bytes < 2 ^ 40) × (b.tail ≡ []) × (y ≡ CutOff (length xs))) → x ≡ y
    go (inl p) (inl q) = p.1 ∙ sym q.1
    go (inr p) (inr q) = p.2 ∙ sym q.2
    go (inl p) (inr q) =
        let most = fewer_left text xs a b t.most in
        let full = p.0 in
        let few = q.0 in
        absurd (omega (arith, most, full, few))
    go (inr p) (inl q) =
        let most = fewer_left text xs b a s.most in
        let full = q.0 in
        let few = p.0 in
        absurd (omega (arith, most, full, few))

stopped_open : (mode : Mode) (defs : List RecordDef) (xs : List (List ℕ)) (x : TextEnd) → IsStopped mode defs xs x → stop_of mode defs xs ≡ Open → ⊥
stopped_open mode defs xs x s still = not_open s.stop (length xs) s.newest (sym s.is_stop ∙ still)

same_end : (mode : Mode) (defs : List RecordDef) (text : List ℕ) (xs : List (List ℕ)) (a b : Beginning text xs) (x y : TextEnd) → Way mode defs text xs a x → Way mode defs text xs b y → x ≡ y
same_end mode defs text xs a b x y (inl s) (inl t) = s.is_end ∙ ap end_of (sym s.is_stop ∙ t.is_stop) ∙ sym t.is_end
same_end mode defs text xs a b x y (inl s) (inr (inl t)) = absurd (stopped_open mode defs xs x s t.is_open)
same_end mode defs text xs a b x y (inl s) (inr (inr t)) = absurd (stopped_open mode defs xs x s t.is_open)
same_end mode defs text xs a b x y (inr (inl s)) (inl t) = absurd (stopped_open mode defs xs y t s.is_open)
same_end mode defs text xs a b x y (inr (inr s)) (inl t) = absurd (stopped_open mode defs xs y t s.is_open)
same_end mode defs text xs a b x y (inr (inl s)) (inr (inl t)) = s.is_end ∙ sym t.is_end
same_end mode defs text xs a b x y (inr (inl s)) (inr (inr t)) = absurd (long_all mode defs text xs a b x y s t)
same_end mode defs text xs a b x y (inr (inr s)) (inr (inl t)) = absurd (long_all mode defs text xs b a y x t s)
same_end mode defs text xs a b x y (inr (inr s)) (inr (inr t)) = all_all mode defs text xs a b x y s t

-- a text decides one end, and the lines before it
pub one_end : (mode : Mode) (defs : List RecordDef) (text : List ℕ) (x y : TextEnd) (xs ys : List (List ℕ)) → Decides mode defs text x xs → Decides mode defs text y ys → (x ≡ y) × (xs ≡ ys)
one_end mode defs text x y xs ys d e =
    let a = beginning mode defs text x xs d in
    let b = beginning mode defs text y ys e in
    let v = way_of mode defs text x xs d in
    let w = way_of mode defs text y ys e in
    let m = first_lines mode defs text xs a x v ys b (late mode defs text ys b y w) in
    let k = first_lines mode defs text ys b y w xs a (late mode defs text xs a x v) in
    let same = both_ways xs ys m.0 k.0 m.1 k.1 in
    let moved : Decides mode defs text y xs = subst (λ (ls : List (List ℕ)). Decides mode defs text y ls) (sym same) e in
    (same_end mode defs text xs a (beginning mode defs text y xs moved) x y v (way_of mode defs text y xs moved), same)

-- at any time the lines judged are the first ones of those that the text decides
pub decided_lines : (mode : Mode) (defs : List RecordDef) (text tail : List ℕ) (p : Past) (rest : List ℕ) (end : TextEnd) (lines : List (List ℕ))
    → text ≡ p.taken ++ tail → IsTaken p rest → stop_of mode defs p.lines ≡ Open → Decides mode defs text end lines → (more : List (List ℕ)) × (lines ≡ more ++ p.lines)
decided_lines mode defs text tail p rest end lines whole t still d =
    first_lines mode defs text lines (beginning mode defs text end lines d) end (way_of mode defs text end lines d) p.lines
    (record { bytes = p.taken; tail = tail; rest = rest; whole = whole; taken = record { cut = t.cut; short = t.short; within = t.within } }) (inl still)

-- an end that the bytes are the cause of was decided by the text
decides : (mode : Mode) (defs : List RecordDef) (text : List ℕ) (end : TextEnd) (p : Past) (rest : List ℕ) (left : Option (List ℕ)) → IsTaken p rest → Took (Some text) left p.taken
    → Causes end (stop_of mode defs p.lines) (length p.lines) rest (length p.taken) left → Decides mode defs text end p.lines
decides mode defs text end p rest None t took cause = absurd took
decides mode defs text end p rest (Some tail) t took cause =
    record { bytes = p.taken; tail = tail; rest = rest; whole = took; taken = record { cut = t.cut; short = t.short; within = t.within }; cause = cause }

-- what a reading ended with, where the text decides an end
pub decided_end : (mode : Mode) (defs : List RecordDef) (text : List ℕ) (end other : TextEnd) (p : Past) (rest : List ℕ) (left : Option (List ℕ)) (before after : ℕ) (lines : List (List ℕ))
    → IsEnded mode defs (Some text) end p rest left before after → (Rose before after → ⊥) → Decides mode defs text other lines → ((end ≡ other) × (p.lines ≡ lines)) ⊎ (end ≡ NoMemory)
decided_end mode defs text End other p rest left before after lines e sound d = inl (one_end mode defs text End other p.lines lines (decides mode defs text End p rest left e.bytes e.took e.cause.0) d)
decided_end mode defs text (CutOff n) other p rest left before after lines e sound d = inl (one_end mode defs text (CutOff n) other p.lines lines (decides mode defs text (CutOff n) p rest left e.bytes e.took e.cause.0) d)
decided_end mode defs text (Bad bad) other p rest left before after lines e sound d = inl (one_end mode defs text (Bad bad) other p.lines lines (decides mode defs text (Bad bad) p rest left e.bytes e.took e.cause.0) d)
decided_end mode defs text (LineTooLong n) other p rest left before after lines e sound d = inl (one_end mode defs text (LineTooLong n) other p.lines lines (decides mode defs text (LineTooLong n) p rest left e.bytes e.took e.cause.0) d)
decided_end mode defs text TooMuch other p rest left before after lines e sound d = inl (one_end mode defs text TooMuch other p.lines lines (decides mode defs text TooMuch p rest left e.bytes e.took e.cause.0) d)
decided_end mode defs text ReadFault other p rest left before after lines e sound d = absurd (sound e.cause.2)
decided_end mode defs text NoMemory other p rest left before after lines e sound d = inr refl
