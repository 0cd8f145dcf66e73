-- The end of a run, once all that was printed is written or a write failed.
use Rattle.std.proofs.Common.{ℕ, ◌≡◌, Bool, true, Option, List, [], ◌++◌, refl, sym, ◌∙◌, ap, subst, arith, append_assoc, inl, inr}
use Rattle.qd_grammar.specs.declared.item.Mode.TheVariants.{File}
use Rattle.qd_items.specs.declared.ends.RunEnd.{RunEnd}
use Rattle.qd_items.specs.declared.ends.RunEnd.TheVariants.{Done, CutOff, Bad, LineTooLong, BadStep, Refused, TooMuch, ReadFault, WriteFault, Spent, NoMemory}
use Rattle.qd_items.specs.declared.ends.TextEnd.{TextEnd}
use Rattle.qd_items.specs.declared.ends.TextEnd.TheVariants as texts
use Rattle.qd_items.specs.Ends.{IsEnded}
use Rattle.qd_items.specs.Runs.{run_end}
use Rattle.qd_items.specs.Standing.{nothing}
use Rattle.qd_items.proofs.Counts.{none_behind_end}
use Rattle.qd_items.proofs.DecidingLaws.{decided_end}
use Rattle.qd_outside.specs.Writing.{Gained, IsWritten, IsCutShort}
use Rattle.qd_outside.proofs.Streams.{Gained-none, Gained-more, Took-none}
use Rattle.qd_scheme.specs.declared.defs.RecordDef.{RecordDef}
use Rattle.qd_check.specs.Counting.{Finishes}
use Rattle.qd_check.specs.Runs.{Outside, IsPrinted, IsWhole, IsBroken, Runs, IsFlushed, IsDecided}

-- what is told after more was written
abbrev pub written_so : Outside → Option (List ℕ) → ℕ → Outside
written_so w now after = record w { written = now; writes = after }

abbrev Printed : Type 0
Printed = List (List ℕ) → List ℕ

-- there was no memory to begin
pub not_begun : (printed : List (List ℕ) → List ℕ) (defs : List RecordDef) (o : Outside) → printed [] ≡ [] → IsPrinted printed defs o texts.NoMemory [] o
not_begun printed defs o e = record {
  past = nothing;
  rest = [];
  ended = record { bytes = record { cut = record { whole = refl; each = tt }; short = tt; within = omega arith }; took = Took-none o.left; cause = (refl, refl, refl) };
  part = [];
  gained = Gained-none o.written;
  whole = e;
  same = refl;
}

-- all is written
whole : (printed : List (List ℕ) → List ℕ) (defs : List RecordDef) (o w : Outside) (end : TextEnd) (held : List ℕ) (now : Option (List ℕ)) (after : ℕ) → IsPrinted printed defs o end held w → IsWritten held w.written now w.writes after
    → IsWhole printed defs o end (written_so w now after)
whole printed defs o w end held now after p c = record {
  past = p.past;
  rest = p.rest;
  ended = p.ended;
  gained = subst (λ (l : List ℕ). Gained o.written now l) (sym p.whole) (Gained-more o.written w.written now p.part held p.gained c.gained);
  same = c.same ∙ p.same;
}

-- a write failed
pub broken : (printed : List (List ℕ) → List ℕ) (defs : List RecordDef) (o w : Outside) (end : TextEnd) (held : List ℕ) (now : Option (List ℕ)) (after : ℕ) → IsPrinted printed defs o end held w → IsCutShort held w.written now w.writes after
    → IsBroken printed defs o (written_so w now after)
broken printed defs o w end held now after p c = record {
  past = p.past;
  rest = p.rest;
  bytes = p.ended.bytes;
  took = p.ended.took;
  none_behind = none_behind_end File defs o.left end p.past p.rest w.left o.reads w.reads p.ended;
  part = p.part ++ c.part;
  more = c.rest;
  gained = Gained-more o.written w.written now p.part c.part p.gained c.gained;
  whole = p.whole ∙ ap (λ (l : List ℕ). p.part ++ l) c.whole ∙ sym (append_assoc p.part c.part c.rest);
  rose = rw p.same at c.rose;
}

flushed_so : (end : RunEnd) (flushed : Bool) → flushed ≡ true → IsFlushed end flushed
flushed_so Done flushed e = e
flushed_so (CutOff n) flushed e = e
flushed_so (Bad bad) flushed e = e
flushed_so (LineTooLong n) flushed e = e
flushed_so (BadStep n) flushed e = e
flushed_so (Refused n limit) flushed e = e
flushed_so TooMuch flushed e = e
flushed_so ReadFault flushed e = e
flushed_so WriteFault flushed e = tt
flushed_so Spent flushed e = e
flushed_so NoMemory flushed e = e

-- the sink is flushed at the end
pub flushed_at : (end : TextEnd) (last : RunEnd) (held : List ℕ) (was now : Option (List ℕ)) (flushed : Bool) (before after : ℕ) → Finishes end last held was now flushed before after → IsFlushed last flushed
flushed_at end last held was now flushed before after (inl (e, c, f)) = flushed_so last flushed f
flushed_at end last held was now flushed before after (inr (e, c)) = subst (λ (l : RunEnd). IsFlushed l flushed) (sym e) tt

-- the end of a run whose text ended
pub finished : (printed : List (List ℕ) → List ℕ) (defs : List RecordDef) (o w : Outside) (end : TextEnd) (last : RunEnd) (held : List ℕ) (now : Option (List ℕ)) (flushed : Bool) (after : ℕ) → IsPrinted printed defs o end held w
    → Finishes end last held w.written now flushed w.writes after → Runs printed defs o last (written_so w now after) × IsFlushed last flushed
finished printed defs o w end last held now flushed after p (inl (e, c, f)) = (inl (end, e, whole printed defs o w end held now after p c), flushed_so last flushed f)
finished printed defs o w end last held now flushed after p (inr (e, c)) =
    (inr (e, broken printed defs o w end held now after p c), subst (λ (l : RunEnd). IsFlushed l flushed) (sym e) tt)

-- the text decides the end
pub decided : (printed : List (List ℕ) → List ℕ) (defs : List RecordDef) (o w : Outside) (end : RunEnd) → Runs printed defs o end w → IsDecided printed defs o end w
decided printed defs o w end (inl (last, e, r)) = λ text other lines left d no_reads no_writes.
    elim (decided_end File defs text last other r.past r.rest w.left o.reads w.reads lines (subst (λ (l : Option (List ℕ)). IsEnded File defs l last r.past r.rest w.left o.reads w.reads) left r.ended) no_reads d) [
      | inl same ↦ inl (e ∙ ap run_end same.0, subst (λ (ls : List (List ℕ)). Gained o.written w.written (printed ls)) same.1 r.gained)
      | inr none ↦ inr (e ∙ ap run_end none)
    ]
decided printed defs o w end (inr (e, b)) = λ text other lines left d no_reads no_writes. absurd (no_writes b.rose)
