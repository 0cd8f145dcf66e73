-- How a run of post ends.
use Rattle.std.proofs.Common.{ℕ, ◌≡◌, Bool, true, Option, List, [], refl, sym, ◌∙◌, ap, subst, arith, inl, inr}
use Rattle.std.proofs.lemmas.List.{append-nil}
use Rattle.qd_check.specs.Runs.{Outside}
use Rattle.qd_items.specs.declared.ends.RunEnd.{RunEnd}
use Rattle.qd_items.specs.declared.ends.RunEnd.TheVariants as runs
use Rattle.qd_items.specs.declared.ends.TextEnd.TheVariants as texts
use Rattle.qd_items.specs.Judging.{Numbered}
use Rattle.qd_items.specs.Standing.{nothing}
use Rattle.qd_outside.proofs.Streams.{Gained-none, Took-none}
use Rattle.qd_outside.specs.Writing.{Gained}
use Rattle.qd_scheme.specs.declared.defs.RecordDef.{RecordDef}
use Rattle.qd_client.specs.declared.ends.Halt.{Halt}
use Rattle.qd_client.specs.declared.ends.Halt.TheVariants as halts
use Rattle.qd_client.specs.Posts.{AreFirstParts, IsDecided, IsFlushed, Posts, post_end}
use Rattle.qd_client.specs.Reading.{IsBroken, IsThrough, IsWhole, items_in}
use Rattle.qd_client.specs.Rules.{Rule, post_rule, printed}
use Rattle.qd_client.proofs.TextLaws.{decided, first_part}

-- before anything
pub through_none : (rule : Rule) (defs : List RecordDef) (left : Option (List ℕ)) → IsThrough rule defs left nothing [] left
through_none rule defs left = record { bytes = record { cut = record { whole = refl; each = tt }; short = tt; within = omega arith }; took = Took-none left; none_behind = inl refl; first = refl }

-- there was no memory to begin
pub not_begun : (defs : List RecordDef) (o : Outside) → Posts defs o runs.NoMemory o
not_begun defs o = inl (
  halts.Text texts.NoMemory,
  refl,
  record {
    past = nothing;
    rest = [];
    through = through_none post_rule defs o.left;
    halted = (refl, (refl, refl, refl));
    wrote = record { gained = Gained-none o.written; same = refl };
  },
)

pub flushed_end : (halt : Halt) (flushed : Bool) → flushed ≡ true → IsFlushed (post_end halt) flushed
flushed_end (halts.Item line) flushed e = e
flushed_end (halts.Text texts.End) flushed e = e
flushed_end (halts.Text (texts.CutOff line)) flushed e = e
flushed_end (halts.Text (texts.Bad bad)) flushed e = e
flushed_end (halts.Text (texts.LineTooLong line)) flushed e = e
flushed_end (halts.Text texts.TooMuch) flushed e = e
flushed_end (halts.Text texts.ReadFault) flushed e = e
flushed_end (halts.Text texts.NoMemory) flushed e = tt

-- a first part of what the text says is sent
pub first_whole : (defs : List RecordDef) (o w : Outside) (halt : Halt) → IsWhole post_rule defs o halt w → AreFirstParts defs o w
first_whole defs o w halt p =
    let text : List ℕ = printed post_rule defs (items_in post_rule defs p.past) in
    first_part post_rule defs o.left w.left o.written w.written p.past p.rest text [] p.through (sym (append-nil text)) p.wrote.gained

pub first_broken : (defs : List RecordDef) (o w : Outside) → IsBroken post_rule defs o w → AreFirstParts defs o w
first_broken defs o w b = first_part post_rule defs o.left w.left o.written w.written b.past b.rest b.wrote.part b.wrote.rest b.through b.wrote.whole b.wrote.gained

-- the text decides the end
pub decided_whole : (defs : List RecordDef) (o w : Outside) (end : RunEnd) (halt : Halt) → end ≡ post_end halt → IsWhole post_rule defs o halt w → IsDecided defs o end w
decided_whole defs o w end halt e p = λ text last lines told d no_reads no_writes.
    elim (decided post_rule defs o.left w.left halt p.past p.rest o.reads w.reads text last lines p.through p.halted told d no_reads) [
      | inl same ↦ inl (e ∙ ap post_end same.0, subst (λ (ns : List Numbered). Gained o.written w.written (printed post_rule defs ns)) (sym same.1) p.wrote.gained)
      | inr none ↦ inr (e ∙ ap post_end none)
    ]
