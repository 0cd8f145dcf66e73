-- Lines that are gathered behind what is held back, before they are held back themselves.
use Rattle.std.proofs.Common.{ℕ, ◌≡◌, Bool, true, false, Option, Some, None, List, [], ◌++◌, sym, ◌∙◌, ap, subst, append_assoc}
use Rattle.std.proofs.lemmas.List.{append-nil}
use Rattle.qd_items.specs.declared.ends.TextEnd.{TextEnd}
use Rattle.qd_outside.specs.Buffering.{Drains, Prints}
use Rattle.qd_outside.specs.Writing.{IsCutShort}
use Rattle.qd_outside.proofs.Streams.{Gained-more, cut_more, cut_after, written_after}
use Rattle.qd_check.specs.Counting.{PrintsEnd}

nothing_left : (new rest : List ℕ) → new ≡ [] → rest ≡ [] → new ++ rest ≡ []
nothing_left new rest e h = ap (λ (l : List ℕ). l ++ rest) e ∙ h

-- the gathered lines are held back
pub let_go : (b : Bool) (lines old new rest : List ℕ) (was now : Option (List ℕ)) (before after : ℕ) → rest ≡ [] → Prints b lines old new was now before after → Prints b [] (old ++ lines) (new ++ rest) was now before after
let_go true lines old new rest was now before after h (piece, e, w) = (piece, append-nil (old ++ lines) ∙ e ∙ ap (λ (l : List ℕ). piece ++ l) (sym (append-nil new)) ∙ ap (λ (l : List ℕ). piece ++ (new ++ l)) (sym h), w)
let_go false lines old new rest was now before after h c = cut_more (old ++ lines) [] was now before after c

-- the gathered lines and all that is held back are written
pub written_out : (b : Bool) (lines old mid new rest : List ℕ) (was middle now : Option (List ℕ)) (flushed : Bool) (before between after : ℕ) → rest ≡ [] → Prints true lines old mid was middle before between → Drains b mid new middle now flushed between after
    → Prints b [] (old ++ lines) (new ++ rest) was now before after
written_out true lines old mid new rest was middle now flushed before between after h (piece, e, w) (none, v, f) = (
  piece ++ mid,
  append-nil (old ++ lines) ∙ e ∙ sym (append-nil (piece ++ mid)) ∙ ap (λ (l : List ℕ). (piece ++ mid) ++ l) (sym (nothing_left new rest none h)),
  written_after piece mid was middle now before between after w v,
)
written_out false lines old mid new rest was middle now flushed before between after h (piece, e, w) c =
    cut_more (old ++ lines) [] was now before after (subst (λ (l : List ℕ). IsCutShort l was now before after) (sym e) (cut_after piece mid was middle now before between after w c))

-- and nothing is held back then
pub none_held : (b : Bool) (mid new rest : List ℕ) (middle now : Option (List ℕ)) (flushed : Bool) (between after : ℕ) → rest ≡ [] → Drains b mid new middle now flushed between after → b ≡ true → new ++ rest ≡ []
none_held true mid new rest middle now flushed between after h d e = nothing_left new rest d.0 h
none_held false mid new rest middle now flushed between after h d e = absurd (cc)

-- a line is put behind them
pub one_line : (line old new lines more : List ℕ) (was now : Option (List ℕ)) (before after : ℕ) → more ≡ lines ++ line → Prints true [] old (new ++ lines) was now before after → Prints true line old (new ++ more) was now before after
one_line line old new lines more was now before after h (piece, e, w) = (
  piece,
  ap (λ (l : List ℕ). l ++ line) (sym (append-nil old) ∙ e)
      ∙ append_assoc piece (new ++ lines) line
      ∙ ap (λ (l : List ℕ). piece ++ l) (append_assoc new lines line ∙ ap (λ (l : List ℕ). new ++ l) (sym h)),
  w,
)

-- a line is cut short where those before it are
pub no_line : (line old new : List ℕ) (was now : Option (List ℕ)) (before after : ℕ) → Prints false [] old new was now before after → Prints false line old new was now before after
no_line line old new was now before after c = subst (λ (l : List ℕ). IsCutShort (l ++ line) was now before after) (append-nil old) (cut_more (old ++ []) line was now before after c)

-- at the end all of them are held back
pub at_last : (end last : TextEnd) (text old mid lines new : List ℕ) (was now later : Option (List ℕ)) (before between after : ℕ) → last ≡ end → Prints true text old (mid ++ lines) was now before between → Prints true lines mid new now later between after
    → PrintsEnd text end (Some last) old new was later before after
at_last end last text old mid lines new was now later before between after h (first, e, v) (second, f, w) = (
  h,
  (
    first ++ second,
    e ∙ ap (λ (l : List ℕ). first ++ l) f ∙ sym (append_assoc first second new),
    record { gained = Gained-more was now later first second v.gained w.gained; same = w.same ∙ v.same },
  ),
)

pub cut_at_last : (end : TextEnd) (text old mid lines new : List ℕ) (was now later : Option (List ℕ)) (before between after : ℕ) → Prints true text old (mid ++ lines) was now before between → Prints false lines mid new now later between after
    → PrintsEnd text end None old new was later before after
cut_at_last end text old mid lines new was now later before between after (first, e, v) c = subst (λ (l : List ℕ). IsCutShort l was later before after) (sym e) (cut_after first (mid ++ lines) was now later before between after v c)
