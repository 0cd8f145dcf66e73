-- Texts that are printed one after another.
use Rattle.std.proofs.Common.{ℕ, ◌≡◌, ◌+◌, ◌<◌, ◌≤◌, Bool, true, false, Option, List, [], ◌++◌, length, drop, get_or, sym, ◌∙◌, ap, subst, append_assoc}
use Rattle.std.proofs.lemmas.List.{append-nil, drop_more, drop_all}
use Rattle.qd_grammar.specs.declared.item.Collector.{Collector}
use Rattle.qd_outside.specs.Buffering.{Prints, Drains}
use Rattle.qd_outside.specs.Writing.{IsCutShort, IsWritten}
use Rattle.qd_outside.proofs.Streams.{cut_more, cut_after, written_after}
use Rattle.qd_path.specs.Texts.{line_of}
use Rattle.qd_scheme.specs.declared.defs.RecordDef.{RecordDef}
use Rattle.qd_sub.specs.declared.sub.Sub.{Sub}
use Rattle.qd_client.specs.Asking.{asking_of, wants_text, Sends}

-- more is printed behind a text
pub printed_more : (last : Bool) (a b old mid new : List ℕ) (was between now : Option (List ℕ)) (before amid after : ℕ)
    → Prints true a old mid was between before amid → Prints last b mid new between now amid after → Prints last (a ++ b) old new was now before after
printed_more true a b old mid new was between now before amid after p q = (
  p.0 ++ q.0,
  sym (append_assoc old a b) ∙ ap (λ (l : List ℕ). l ++ b) p.1 ∙ append_assoc p.0 mid b ∙ ap (λ (l : List ℕ). p.0 ++ l) q.1 ∙ sym (append_assoc p.0 q.0 new),
  written_after p.0 q.0 was between now before amid after p.2 q.2,
)
printed_more false a b old mid new was between now before amid after p q =
    let whole : (old ++ (a ++ b)) ≡ p.0 ++ (mid ++ b) = sym (append_assoc old a b) ∙ ap (λ (l : List ℕ). l ++ b) p.1 ∙ append_assoc p.0 mid b in
    rw whole (cut_after p.0 (mid ++ b) was between now before amid after p.2 q)

-- a text that is cut short is so with more behind it
pub printed_less : (a b old new : List ℕ) (was now : Option (List ℕ)) (before after : ℕ)
    → Prints false a old new was now before after → Prints false (a ++ b) old new was now before after
printed_less a b old new was now before after p = rw (← append_assoc old a b) (cut_more (old ++ a) b was now before after p)

-- nothing more is printed
pub printed_on : (last : Bool) (a old mid new : List ℕ) (was between now : Option (List ℕ)) (before amid after : ℕ)
    → Prints true a old mid was between before amid → Prints last [] mid new between now amid after → Prints last a old new was now before after
printed_on last a old mid new was between now before amid after p q = subst (λ (l : List ℕ). Prints last l old new was now before after) (append-nil a) (printed_more last a [] old mid new was between now before amid after p q)

-- what is held back of a text is written
pub drained : (last : Bool) (a held new : List ℕ) (was between now : Option (List ℕ)) (flushed : Bool) (before amid after : ℕ)
    → Prints true a [] held was between before amid → Drains last held new between now flushed amid after → Sends last a was now flushed before after
drained true a held new was between now flushed before amid after p (none, w, f) =
    (subst (λ (l : List ℕ). IsWritten l was now before after) (sym p.1) (written_after p.0 held was between now before amid after p.2 w), f)
drained false a held new was between now flushed before amid after p c =
    subst (λ (l : List ℕ). IsCutShort l was now before after) (sym p.1) (cut_after p.0 held was between now before amid after p.2 c)

-- the lines of some wants are printed, and the others are left
pub record IsAsking (defs : List RecordDef) (collector : Collector) (all : List ℕ) (left : List Sub) (old new : List ℕ) (was now : Option (List ℕ)) (before after : ℕ) : Type 0 where
  pub text : List ℕ
  pub printed : Prints true text old new was now before after
  pub whole : text ++ wants_text defs collector left ≡ all

-- what is left begins with a want
left_is : (defs : List RecordDef) (collector : Collector) (wants : List Sub) (i : ℕ) (want : Sub) → i < length wants → want ≡ get_or wants i want
    → wants_text defs collector (drop i wants) ≡ line_of defs (asking_of collector want) ++ wants_text defs collector (drop (i + 1) wants)
left_is defs collector wants i want h e =
    ap (wants_text defs collector) (drop_more wants i want h) ∙ ap (λ (s : Sub). line_of defs (asking_of collector s) ++ wants_text defs collector (drop (i + 1) wants)) (sym e)

pub asking_step : (defs : List RecordDef) (collector : Collector) (all : List ℕ) (wants : List Sub) (i : ℕ) (want : Sub) (old mid new : List ℕ) (was between now : Option (List ℕ)) (before amid after : ℕ)
    → i < length wants → want ≡ get_or wants i want → IsAsking defs collector all (drop i wants) old mid was between before amid
    → Prints true (line_of defs (asking_of collector want)) mid new between now amid after → IsAsking defs collector all (drop (i + 1) wants) old new was now before after
asking_step defs collector all wants i want old mid new was between now before amid after h e p q =
    let line : List ℕ = line_of defs (asking_of collector want) in record {
      text = p.text ++ line;
      printed = printed_more true p.text line old mid new was between now before amid after p.printed q;
      whole = append_assoc p.text line (wants_text defs collector (drop (i + 1) wants)) ∙ ap (λ (l : List ℕ). p.text ++ l) (sym (left_is defs collector wants i want h e)) ∙ p.whole;
    }

pub asking_cut : (defs : List RecordDef) (collector : Collector) (all : List ℕ) (wants : List Sub) (i : ℕ) (want : Sub) (old mid new : List ℕ) (was between now : Option (List ℕ)) (before amid after : ℕ)
    → i < length wants → want ≡ get_or wants i want → IsAsking defs collector all (drop i wants) old mid was between before amid
    → Prints false (line_of defs (asking_of collector want)) mid new between now amid after → Prints false all old new was now before after
asking_cut defs collector all wants i want old mid new was between now before amid after h e p q =
    let line : List ℕ = line_of defs (asking_of collector want) in
    let rest : List ℕ = wants_text defs collector (drop (i + 1) wants) in
    subst (λ (l : List ℕ). Prints false l old new was now before after) (ap (λ (l : List ℕ). p.text ++ l) (sym (left_is defs collector wants i want h e)) ∙ p.whole)
    (printed_more false p.text (line ++ rest) old mid new was between now before amid after p.printed (printed_less line rest mid new between now amid after q))

pub asking_all : (defs : List RecordDef) (collector : Collector) (all : List ℕ) (wants : List Sub) (i : ℕ) (old new : List ℕ) (was now : Option (List ℕ)) (before after : ℕ)
    → length wants ≤ i → IsAsking defs collector all (drop i wants) old new was now before after → Prints true all old new was now before after
asking_all defs collector all wants i old new was now before after h p =
    let whole : p.text ≡ all = sym (append-nil p.text) ∙ ap (λ (l : List Sub). p.text ++ wants_text defs collector l) (sym (drop_all i wants h)) ∙ p.whole in
    subst (λ (l : List ℕ). Prints true l old new was now before after) whole p.printed
