-- How the reading of a scheme file goes on and ends.
use Rattle.std.proofs.Common.{◌≡◌, ℕ, zero, suc, ◌+◌, ◌-◌, ◌<◌, ◌≤◌, ◌^◌, Bool, true, false, cond, List, [], ◌∷◌, ◌++◌, length, take, refl, sym, ◌∙◌, ap, subst, arith, inl, inr, length-append, append_assoc}
use Rattle.std.specs.Prelude.{◌==◌, not, nat_eq, Result, Ok, Err, Option, Some, None, is_ok, is_err, ◌⊎◌, slice_get, slice_index}
use Rattle.std.proofs.lemmas.Bool.{cases_lt, eqb-true, eqb-false}
use Rattle.std.proofs.lemmas.List.{append-nil}
use Rattle.qd_grammar.specs.declared.fault.Fault.{Fault}
use Rattle.qd_line.specs.Held.{Held}
use Rattle.qd_line.specs.Lines.{is_one_line, without_cr}
use Rattle.qd_line.proofs.Feeds.{and_right}
use Rattle.qd_line.specs.Cutter.{GivesLine, IsHungry, IsTooLong}
use Rattle.qd_outside.specs.Reading.{Took, IsSpent}
use Rattle.qd_outside.specs.Causes.{Rose}
use Rattle.qd_outside.proofs.Streams.{Took-none, Took-more}
use Rattle.qd_scheme.specs.declared.defs.RecordDef.{RecordDef}
use Rattle.qd_scheme.specs.Faults.{scheme_fault}
use Rattle.qd_scheme.specs.declared.faults.SchemeFault.{SchemeFault}
use Rattle.qd_text.specs.SchemeLines.{SchemeText, no_lines, with_line, is_record_line, scheme_line, IsLineRead, IsRefusal}
use Rattle.qd_text.specs.declared.scheme_reader.SchemeEnd.{SchemeEnd}
use Rattle.qd_text.specs.declared.scheme_reader.SchemeEnd.TheVariants as ends
use Rattle.qd_scheme_file.specs.declared.no_scheme.NoScheme.{NoScheme}
use Rattle.qd_scheme_file.specs.declared.no_scheme.NoScheme.TheVariants.{Bad, Wrong, LineTooLong, TooMuch, ReadFault, NoMemory}
use Rattle.qd_scheme_file.specs.Told.{read_on, begun, told, finished, judged, with_said, ◌then◌}
use Rattle.qd_scheme_file.specs.Ends.{IsSaid, IsLedTo, Ends, Decides}
use Rattle.qd_scheme_file.specs.Reading.{no_scheme, Refuses, Answers, IsOpen, StandsFor, ReadsSome, ReadsPiece}
use Rattle.qd_scheme_file.proofs.ReadLaws.{read_on-append, read_on-line, read_on-rest, read_on-long}

-- what follows what was read
then_on : (was : Result (SchemeText × List ℕ) NoScheme) (text : SchemeText) (left more : List ℕ) → was ≡ Ok (text, left) → (was then (λ (r : SchemeText × List ℕ). read_on r.0 r.1 more)) ≡ read_on text left more
then_on was text left more e = ap (λ (r : Result (SchemeText × List ℕ) NoScheme). r then (λ (p : SchemeText × List ℕ). read_on p.0 p.1 more)) e

-- behind the bytes taken, more bytes are read as behind the lines and what is left open
pub begun-more : (taken : List ℕ) (text : SchemeText) (left more : List ℕ) → begun taken ≡ Ok (text, left) → IsOpen text left → begun (taken ++ more) ≡ read_on text [] (left ++ more)
begun-more taken text left more e h =
    read_on-append no_lines [] taken more ∙ then_on (begun taken) text left more e ∙ sym (read_on-append text [] left more ∙ then_on (read_on text [] left) text left more h)

-- a refusal of what comes first is one of the whole
refused_first : {A B : Type 0} (e : NoScheme) (first : Result A NoScheme) (f : A → Result B NoScheme) → Refuses e first → Refuses e (first then f)
refused_first {A = A} {B = B} (Bad bad) first f h = ap (λ (r : Result A NoScheme). r then f) h
refused_first {A = A} {B = B} (Wrong line why) first f h = ap (λ (r : Result A NoScheme). r then f) h
refused_first {A = A} {B = B} (LineTooLong line) first f h = ap (λ (r : Result A NoScheme). r then f) h
refused_first TooMuch first f h = h
refused_first ReadFault first f h = h
refused_first NoMemory first f h = tt

-- the same is refused where the same is said
pub refuses_same : {A : Type 0} (e : NoScheme) (one other : Result A NoScheme) → one ≡ other → Refuses e other → Refuses e one
refuses_same (Bad bad) one other p h = p ∙ h
refuses_same (Wrong line why) one other p h = p ∙ h
refuses_same (LineTooLong line) one other p h = p ∙ h
refuses_same TooMuch one other p h = h
refuses_same ReadFault one other p h = h
refuses_same NoMemory one other p h = tt

answers_same : {A : Type 0} (end one other : Result A NoScheme) → one ≡ other → Answers end other → Answers end one
answers_same (Ok x) one other p h = p ∙ h
answers_same (Err e) one other p h = refuses_same e one other p h

-- a line's text is no longer than the line
pub length-without_cr : (line : List ℕ) → length (without_cr line) ≤ length line
length-without_cr [] = omega arith
length-without_cr (b ∷ []) = one (b == 13)
  where
    one : (t : Bool) → length (cond t [] (b ∷ [])) ≤ length (b ∷ [])
    one true = omega arith
    one false = omega arith
length-without_cr (b ∷ c ∷ line) = let h = length-without_cr (c ∷ line) in omega arith

pub text_short : (old new : Held) (line : List ℕ) → GivesLine old new line → length new.text ≤ 4096
text_short old new line h = let n = length-without_cr line in let s = h.short in rw h.text (omega arith)

-- what a line says makes it one line more
pub said_lines : (text next : SchemeText) (said : Result (Option RecordDef) Fault) → with_said text said ≡ Ok next → next.lines ≡ text.lines + 1
said_lines text next (Ok None) e = let p : with_line None text ≡ next = cc in ap (λ (t : SchemeText). t.lines) (sym p)
said_lines text next (Ok (Some def)) e = let p : with_line (Some def) text ≡ next = cc in ap (λ (t : SchemeText). t.lines) (sym p)
said_lines text next (Err fault) e = cc

-- the bytes with their next line, as it is read
line_read : (text : SchemeText) (old new : Held) (line : List ℕ) → GivesLine old new line → read_on text [] old.left ≡ (with_said text (scheme_line new.text) then (λ (next : SchemeText). read_on next [] new.left))
line_read text old new line h =
    ap (read_on text []) h.stood
    ∙ read_on-line text [] line new.left h.one (let s = h.short in omega arith)
    ∙ ap (λ (t : List ℕ). with_said text (scheme_line t) then (λ (next : SchemeText). read_on next [] new.left)) (sym h.text)

pub line_goes : (text next : SchemeText) (old new : Held) (line : List ℕ) → GivesLine old new line → with_said text (scheme_line new.text) ≡ Ok next → read_on next [] new.left ≡ read_on text [] old.left
line_goes text next old new line h e =
    sym (line_read text old new line h ∙ ap (λ (r : Result SchemeText NoScheme). r then (λ (t : SchemeText). read_on t [] new.left)) e)

pub line_refused : (e : NoScheme) (text : SchemeText) (old new : Held) (line : List ℕ) → GivesLine old new line → Refuses e (with_said text (scheme_line new.text)) → Refuses e (read_on text [] old.left)
line_refused e text old new line h r =
    refuses_same e (read_on text [] old.left) _ (line_read text old new line h) (refused_first e (with_said text (scheme_line new.text)) (λ (next : SchemeText). read_on next [] new.left) r)

pub line_shorter : (old new : Held) (line : List ℕ) → GivesLine old new line → length new.left + 1 ≤ length old.left
line_shorter old new line h = rw h.stood (simp length-append (omega arith))

pub hungry_open : (text : SchemeText) (left : List ℕ) → IsHungry left → IsOpen text left
hungry_open text left h = read_on-rest text [] left h.one (let s = h.short in omega arith)

pub long_refused : (text : SchemeText) (left : List ℕ) → IsTooLong left → read_on text [] left ≡ Err (LineTooLong (text.lines + 1))
long_refused text left h = read_on-long text [] left 4097 h.one (let l = h.long in omega arith) (omega arith) (omega arith)

-- no line stands in front of bytes that are too long
not_long : (line rest : List ℕ) (n : ℕ) → length line < n → is_one_line (take n (line ++ 10 ∷ rest)) ≡ true → ⊥
not_long line rest zero h e = absurd (omega arith)
not_long [] rest (suc n) h e = cc
not_long (b ∷ line) rest (suc n) h e = not_long line rest n (omega arith) (and_right (not (nat_eq b 10)) (is_one_line (take n (line ++ 10 ∷ rest))) e)

pub line_not_long : (old new : Held) (line : List ℕ) → GivesLine old new line → IsTooLong old.left → ⊥
line_not_long old new line h l =
    let s = h.short in
    not_long line new.left 4097 (omega arith) (subst (λ (t : List ℕ). is_one_line (take 4097 t) ≡ true) h.stood l.one)

pub hungry_not_long : (left : List ℕ) → IsHungry left → IsTooLong left → ⊥
hungry_not_long left h l = let s = h.short in let n = l.long in absurd (omega arith)

-- before the first byte
pub nothing_taken : (text : SchemeText) (held : Held) → held ≡ record { text = []; left = []; line = 0 } → text ≡ no_lines → StandsFor text held []
nothing_taken text held h t = rw (h, t) (record { said = refl; same = refl; few = omega arith })

-- one piece more
pub piece_taken : (before text : SchemeText) (was held next : Held) (taken piece : List ℕ)
    → StandsFor before was taken → read_on before [] was.left ≡ Ok (text, held.left) → IsOpen text held.left → held.line ≡ text.lines
    → text.lines + length held.left ≤ before.lines + length was.left
    → next ≡ record { text = []; left = held.left ++ piece; line = held.line } → StandsFor text next (taken ++ piece)
piece_taken before text was held next taken piece s e opened same few n =
    let f = s.few in
    rw n (record {
      said = begun-more taken text held.left piece (s.said ∙ e) opened;
      same = same;
      few = simp length-append (omega arith);
    })

-- what bytes say, once they are the last
abbrev pub closed : Result (SchemeText × List ℕ) NoScheme → Result (List RecordDef) NoScheme
closed was = was then (λ (read : SchemeText × List ℕ). judged read.0 (scheme_fault read.0.defs))

-- what the first bytes refuse, the whole file does
told_early : (taken : List ℕ) (e : NoScheme) → begun taken ≡ Err e → told taken ≡ Err e
unfolding told
told_early taken e h =
    ap closed (read_on-append no_lines [] taken (10 ∷ []) ∙ ap (λ (r : Result (SchemeText × List ℕ) NoScheme). r then (λ (p : SchemeText × List ℕ). read_on p.0 p.1 (10 ∷ []))) h)

-- what the whole file says, by the lines and what is left open
told_last : (taken : List ℕ) (text : SchemeText) (left : List ℕ) → begun taken ≡ Ok (text, left) → IsOpen text left → told taken ≡ finished text (left ++ 10 ∷ [])
unfolding told
told_last taken text left e h = ap closed (begun-more taken text left (10 ∷ []) e h)

refused_err : {A : Type 0} (was : Result A NoScheme) (e : NoScheme) → was ≡ Err e → is_err was ≡ true
refused_err was e h = rw h refl

-- a refusal of the bytes taken
pub refused_ends : (e : NoScheme) (text : SchemeText) (held : Held) (taken : List ℕ) (was left : Option (List ℕ)) (before after : ℕ)
    → StandsFor text held taken → Took was left taken → length taken ≤ 2 ^ 40 → after ≡ before → Refuses e (read_on text [] held.left) → Ends (Err e) was left before after
refused_ends (Bad bad) text held taken was left before after s took within same r =
    let h : begun taken ≡ Err (Bad bad) = s.said ∙ r in
    record { taken = taken; took = took; within = within; cause = ((told_early taken (Bad bad) h, inr (refused_err (begun taken) (Bad bad) h)), same) }
refused_ends (Wrong line why) text held taken was left before after s took within same r =
    let h : begun taken ≡ Err (Wrong line why) = s.said ∙ r in
    record { taken = taken; took = took; within = within; cause = ((told_early taken (Wrong line why) h, inr (refused_err (begun taken) (Wrong line why) h)), same) }
refused_ends (LineTooLong line) text held taken was left before after s took within same r =
    let h : begun taken ≡ Err (LineTooLong line) = s.said ∙ r in
    record { taken = taken; took = took; within = within; cause = ((told_early taken (LineTooLong line) h, inr (refused_err (begun taken) (LineTooLong line) h)), same) }
refused_ends TooMuch text held taken was left before after s took within same r = absurd r
refused_ends ReadFault text held taken was left before after s took within same r = absurd r
refused_ends NoMemory text held taken was left before after s took within same r = record { taken = taken; took = took; within = within; cause = same }

-- there was no memory before the first byte
pub no_memory : (left : Option (List ℕ)) (count : ℕ) → Ends (Err NoMemory) left left count count
no_memory left count = record { taken = []; took = Took-none left; within = omega arith; cause = refl }

-- too many bytes were taken
pub full_ends : (before text : SchemeText) (held : Held) (rest : List ℕ) (taken : List ℕ) (was left : Option (List ℕ)) (n m : ℕ)
    → StandsFor before held taken → read_on before [] held.left ≡ Ok (text, rest) → Took was left taken → length taken ≡ 2 ^ 40 → m ≡ n → Ends (Err TooMuch) was left n m
full_ends before text held rest taken was left n m s e took whole same =
    let h : begun taken ≡ Ok (text, rest) = s.said ∙ e in
    record { taken = taken; took = took; within = omega arith; cause = ((whole, rw h refl), same) }

-- no bytes may be read any more, or so many
pub none_left : (taken : ℕ) (end : NoScheme) → ◌≡◌ {A = Result ℕ NoScheme} (Err end) (cond (nat_eq taken (2 ^ 40)) (Err TooMuch) (Ok (2 ^ 40 - taken))) → (taken ≡ 2 ^ 40) × (end ≡ TooMuch)
none_left taken end e = go (nat_eq taken (2 ^ 40)) refl e
  where
    go : (t : Bool) → nat_eq taken (2 ^ 40) ≡ t → ◌≡◌ {A = Result ℕ NoScheme} (Err end) (cond t (Err TooMuch) (Ok (2 ^ 40 - taken))) → (taken ≡ 2 ^ 40) × (end ≡ TooMuch)
    go true p h = (eqb-true taken (2 ^ 40) p, cc)
    go false p h = absurd (cc)

below : (taken most : ℕ) → taken ≤ most → nat_eq taken most ≡ false → taken < most
below taken most l e = go (cases_lt taken most)
  where
    go : (taken < most) ⊎ (most ≤ taken) → taken < most
    go (inl s) = s
    go (inr s) = absurd (eqb-false taken most e (omega (arith, l, s)))

pub some_left : (taken most : ℕ) → taken ≤ 2 ^ 40 → ◌≡◌ {A = Result ℕ NoScheme} (Ok most) (cond (nat_eq taken (2 ^ 40)) (Err TooMuch) (Ok (2 ^ 40 - taken))) → (0 < most) × (taken + most ≡ 2 ^ 40)
some_left taken most l e = go (nat_eq taken (2 ^ 40)) refl e
  where
    go : (t : Bool) → nat_eq taken (2 ^ 40) ≡ t → ◌≡◌ {A = Result ℕ NoScheme} (Ok most) (cond t (Err TooMuch) (Ok (2 ^ 40 - taken))) → (0 < most) × (taken + most ≡ 2 ^ 40)
    go true p h = absurd (cc)
    go false p h =
        let m : most ≡ 2 ^ 40 - taken = cc in
        let s = below taken (2 ^ 40) l p in
        (omega (arith, m, s), omega (arith, m, s))

-- a read that failed, or whose piece found no memory
pub piece_ends : (e : NoScheme) (held next : Held) (taken : List ℕ) (was mid left : Option (List ℕ)) (first before after most : ℕ)
    → Took was mid taken → length taken + most ≤ 2 ^ 40 → before ≡ first → ReadsPiece (Err e) held next most mid left before after → Ends (Err e) was left first after
piece_ends (Bad bad) held next taken was mid left first before after most took within same r = absurd r
piece_ends (Wrong line why) held next taken was mid left first before after most took within same r = absurd r
piece_ends (LineTooLong line) held next taken was mid left first before after most took within same r = absurd r
piece_ends TooMuch held next taken was mid left first before after most took within same r = absurd r
piece_ends ReadFault held next taken was mid left first before after most took within same r =
    record {
      taken = taken ++ [];
      took = Took-more was mid left taken [] took r.0;
      within = simp length-append (omega arith);
      cause = rw same at r.1;
    }
piece_ends NoMemory held next taken was mid left first before after most took within same r =
    record {
      taken = taken ++ r.0.0;
      took = Took-more was mid left taken r.0.0 took r.0.1;
      within = let l = r.0.3 in simp length-append (omega arith);
      cause = r.1 ∙ same;
    }

-- a piece with bytes
pub some_read : (n : ℕ) (old new : Held) (most : ℕ) (was left : Option (List ℕ)) (before after : ℕ) → (n ≡ 0 → ⊥) → ReadsSome n old new most was left before after
    → (piece : List ℕ) × (new ≡ record { text = []; left = old.left ++ piece; line = old.line }) × Took was left piece × (length piece ≡ n) × (n ≤ most) × (after ≡ before)
some_read zero old new most was left before after h r = absurd (h refl)
some_read (suc n) old new most was left before after h r = r

-- what the whole file says
pub last_ends : (end : Result (List RecordDef) NoScheme) (text : SchemeText) (held : Held) (taken : List ℕ) (was left : Option (List ℕ)) (before after : ℕ)
    → StandsFor text held taken → IsOpen text held.left → Took was left taken → IsSpent left → length taken < 2 ^ 40 → after ≡ before
    → Answers end (finished text (held.left ++ 10 ∷ [])) → Ends end was left before after
last_ends end text held taken was left before after s opened took spent within same r = go end r
  where
    whole : told taken ≡ finished text (held.left ++ 10 ∷ [])
    whole = told_last taken text held.left (s.said ∙ opened) opened

    go : (end : Result (List RecordDef) NoScheme) → Answers end (finished text (held.left ++ 10 ∷ [])) → Ends end was left before after
    go (Ok defs) r = record { taken = taken; took = took; within = omega arith; cause = ((whole ∙ r, inl (spent, within)), same) }
    go (Err (Bad bad)) r = record { taken = taken; took = took; within = omega arith; cause = ((whole ∙ r, inl (spent, within)), same) }
    go (Err (Wrong line why)) r = record { taken = taken; took = took; within = omega arith; cause = ((whole ∙ r, inl (spent, within)), same) }
    go (Err (LineTooLong line)) r = record { taken = taken; took = took; within = omega arith; cause = ((whole ∙ r, inl (spent, within)), same) }
    go (Err TooMuch) r = absurd r
    go (Err ReadFault) r = absurd r
    go (Err NoMemory) r = record { taken = taken; took = took; within = omega arith; cause = same }

-- the lines were read, and their records are judged
pub judged_last : (end : Result (List RecordDef) NoScheme) (before text : SchemeText) (bytes rest : List ℕ) → read_on before [] bytes ≡ Ok (text, rest) → Answers end (judged text (scheme_fault text.defs)) → Answers end (finished before bytes)
judged_last end before text bytes rest h r = answers_same end (finished before bytes) (judged text (scheme_fault text.defs)) (ap closed h) r

pub refused_last : (e : NoScheme) (before : SchemeText) (bytes : List ℕ) → Refuses e (read_on before [] bytes) → Refuses e (finished before bytes)
refused_last e before bytes r = refused_first e (read_on before [] bytes) (λ (read : SchemeText × List ℕ). judged read.0 (scheme_fault read.0.defs)) r

-- the line of the record at fault
pub place_at : (places : List ℕ) (i line : ℕ) → slice_get places i ≡ Some line → slice_index places i ≡ line
place_at [] i line h = cc
place_at (p ∷ places) zero line h = cc
place_at (p ∷ places) (suc i) line h = place_at places i line h

-- records with no fault
pub judged_right : (text : SchemeText) (defs : List RecordDef) (fault : Option SchemeFault) → fault ≡ None → defs ≡ text.defs → judged text fault ≡ Ok defs
judged_right text defs fault e d = rw (e, d) refl

-- records with a fault, or want of memory
pub judged_wrong : (end : SchemeEnd) (text : SchemeText) → IsRefusal text end → Refuses (no_scheme end) (judged text (scheme_fault text.defs))
judged_wrong (ends.Bad bad) text h = absurd h
judged_wrong (ends.Wrong line why) text h = ap (judged text) h.1.0 ∙ ap (λ (n : ℕ). Err (Wrong n why)) (place_at text.places h.0 line h.1.1)
judged_wrong ends.NoMemory text h = tt

-- memory was wanted for records with no fault, and for a line of a record
pub judged_forgone : (end : SchemeEnd) (text : SchemeText) → IsRefusal text end → no_scheme end ≡ NoMemory → scheme_fault text.defs ≡ None
judged_forgone (ends.Bad bad) text h e = absurd h
judged_forgone (ends.Wrong line why) text h e = cc
judged_forgone ends.NoMemory text h e = h

pub line_forgone : (end : SchemeEnd) (old new : SchemeText) (line : List ℕ) → IsLineRead old line (Err end) new → no_scheme end ≡ NoMemory → is_record_line line ≡ true
line_forgone (ends.Bad bad) old new line h e = cc
line_forgone (ends.Wrong n why) old new line h e = absurd h
line_forgone ends.NoMemory old new line h e = h.1

-- of two beginnings of a text the shorter one is a beginning of the longer one
shorter_first : (a b x y : List ℕ) → a ++ x ≡ b ++ y → length a ≤ length b → (more : List ℕ) × (b ≡ a ++ more)
shorter_first [] b x y e h = (b, refl)
shorter_first (c ∷ a) [] x y e h = absurd (omega arith)
shorter_first (c ∷ a) (d ∷ b) x y e h =
    let head : c ≡ d = cc in
    let rest : a ++ x ≡ b ++ y = cc in
    let m = shorter_first a b x y rest (omega arith) in
    (m.0, ap (λ (t : List ℕ). d ∷ t) m.1 ∙ ap (λ (n : ℕ). n ∷ (a ++ m.0)) (sym head))

-- what the first bytes refuse, more bytes do
begun_more : (taken more : List ℕ) → is_err (begun taken) ≡ true → begun (taken ++ more) ≡ begun taken
begun_more taken more h = read_on-append no_lines [] taken more ∙ same (begun taken) h
  where
    same : (was : Result (SchemeText × List ℕ) NoScheme) → is_err was ≡ true → (was then (λ (r : SchemeText × List ℕ). read_on r.0 r.1 more)) ≡ was
    same (Ok x) h = absurd (cc)
    same (Err e) h = refl

not_both : {A : Type 0} (was : Result A NoScheme) → is_ok was ≡ true → is_err was ≡ true → ⊥
not_both (Ok x) o e = cc
not_both (Err x) o e = cc

-- what a file says, by a beginning that says it
said_whole : (bytes taken tail : List ℕ) (end : Result (List RecordDef) NoScheme) → bytes ≡ taken ++ tail → IsSaid end taken (Some tail) → told bytes ≡ end
unfolding told
said_whole bytes taken tail end w (t, inl (spent, few)) = ap told (w ∙ ap (λ (l : List ℕ). taken ++ l) spent ∙ append-nil taken) ∙ t
said_whole bytes taken tail end w (t, inr err) =
    let b : begun (taken ++ (tail ++ 10 ∷ [])) ≡ begun (taken ++ 10 ∷ []) = begun_more taken (tail ++ 10 ∷ []) err ∙ sym (begun_more taken (10 ∷ []) err) in
    ap closed (ap begun (ap (λ (l : List ℕ). l ++ 10 ∷ []) w ∙ append_assoc taken tail (10 ∷ [])) ∙ b) ∙ t

-- a beginning of 2^40 bytes that goes on says nothing
not_said : (bytes full rest taken tail : List ℕ) (end : Result (List RecordDef) NoScheme) → bytes ≡ full ++ rest → length full ≡ 2 ^ 40 → is_ok (begun full) ≡ true
    → bytes ≡ taken ++ tail → length taken ≤ 2 ^ 40 → IsSaid end taken (Some tail) → ⊥
not_said bytes full rest taken tail end f n ok w l (t, inl (spent, few)) =
    let a = ap length f in let b = ap length w in let c = ap length spent in
    omega (arith, simp length-append at a, simp length-append at b, c)
not_said bytes full rest taken tail end f n ok w l (t, inr err) =
    let m = shorter_first taken full tail rest (sym w ∙ f) (omega arith) in
    not_both (begun full) ok (ap is_err (ap begun m.1 ∙ begun_more taken m.0 err) ∙ err)

-- an end that a file leads to, but for too many bytes
abbrev pub Says : Result (List RecordDef) NoScheme → List ℕ → List ℕ → Type 0
Says end taken tail = ((end ≡ Err TooMuch) × (length taken ≡ 2 ^ 40) × (is_ok (begun taken) ≡ true)) ⊎ IsSaid end taken (Some tail)

says : (end : Result (List RecordDef) NoScheme) (taken tail : List ℕ) → IsLedTo end taken (Some tail) → Says end taken tail
says (Ok defs) taken tail h = inr h
says (Err (Bad bad)) taken tail h = inr h
says (Err (Wrong line why)) taken tail h = inr h
says (Err (LineTooLong line)) taken tail h = inr h
says (Err TooMuch) taken tail h = inl (refl, h.0, h.1)
says (Err ReadFault) taken tail h = absurd h
says (Err NoMemory) taken tail h = absurd h

-- a file leads to one end
pub one_end : (bytes : List ℕ) (a b : Result (List RecordDef) NoScheme) → Decides bytes a → Decides bytes b → a ≡ b
one_end bytes a b d e = go (says a d.taken d.tail d.cause) (says b e.taken e.tail e.cause)
  where
    go : Says a d.taken d.tail → Says b e.taken e.tail → a ≡ b
    go (inl x) (inl y) = x.0 ∙ sym y.0
    go (inl x) (inr y) = absurd (not_said bytes d.taken d.tail e.taken e.tail b d.whole x.1 x.2 e.whole e.within y)
    go (inr x) (inl y) = absurd (not_said bytes e.taken e.tail d.taken d.tail a e.whole y.1 y.2 d.whole d.within x)
    go (inr x) (inr y) = sym (said_whole bytes d.taken d.tail a d.whole x) ∙ said_whole bytes e.taken e.tail b e.whole y

-- an end that the bytes are the cause of was decided by the file
led_to : (bytes taken : List ℕ) (end : Result (List RecordDef) NoScheme) (left : Option (List ℕ)) → Took (Some bytes) left taken → length taken ≤ 2 ^ 40 → IsLedTo end taken left → Decides bytes end
led_to bytes taken end None t w c = absurd t
led_to bytes taken end (Some tail) t w c = record { taken = taken; tail = tail; whole = t; within = w; cause = c }

-- a reading that counted no fault, and for which there was memory, ended as its file decides
pub decided : (bytes : List ℕ) (end other : Result (List RecordDef) NoScheme) (left : Option (List ℕ)) (before after : ℕ) → Ends end (Some bytes) left before after → (Rose before after → ⊥) → Decides bytes other → (end ≡ other) ⊎ (end ≡ Err NoMemory)
decided bytes (Ok defs) other left before after e sound d = inl (one_end bytes (Ok defs) other (led_to bytes e.taken (Ok defs) left e.took e.within e.cause.0) d)
decided bytes (Err (Bad bad)) other left before after e sound d = inl (one_end bytes (Err (Bad bad)) other (led_to bytes e.taken (Err (Bad bad)) left e.took e.within e.cause.0) d)
decided bytes (Err (Wrong line why)) other left before after e sound d = inl (one_end bytes (Err (Wrong line why)) other (led_to bytes e.taken (Err (Wrong line why)) left e.took e.within e.cause.0) d)
decided bytes (Err (LineTooLong line)) other left before after e sound d = inl (one_end bytes (Err (LineTooLong line)) other (led_to bytes e.taken (Err (LineTooLong line)) left e.took e.within e.cause.0) d)
decided bytes (Err TooMuch) other left before after e sound d = inl (one_end bytes (Err TooMuch) other (led_to bytes e.taken (Err TooMuch) left e.took e.within e.cause.0) d)
decided bytes (Err ReadFault) other left before after e sound d = absurd (sound e.cause.0)
decided bytes (Err NoMemory) other left before after e sound d = inr refl

-- a scheme that was read is the one that its file decides
pub decided_ok : (bytes : List ℕ) (defs : List RecordDef) (other : Result (List RecordDef) NoScheme) (left : Option (List ℕ)) (before after : ℕ) → Ends (Ok defs) (Some bytes) left before after → Decides bytes other → Ok defs ≡ other
decided_ok bytes defs other left before after e d = one_end bytes (Ok defs) other (led_to bytes e.taken (Ok defs) left e.took e.within e.cause.0) d

-- the same, where the bytes are told
pub decided_from : (bytes : List ℕ) (end other : Result (List RecordDef) NoScheme) (was left : Option (List ℕ)) (before after : ℕ) → Ends end was left before after → was ≡ Some bytes → (Rose before after → ⊥) → Decides bytes other → (end ≡ other) ⊎ (end ≡ Err NoMemory)
decided_from bytes end other was left before after e told sound d = decided bytes end other left before after (subst (λ (x : Option (List ℕ)). Ends end x left before after) told e) sound d
