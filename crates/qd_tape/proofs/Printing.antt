-- A script that is printed block by block.
use Rattle.std.proofs.Common.{ℕ, ◌≡◌, Bool, true, false, Option, List, [], ◌++◌, refl, sym, ◌∙◌, ap, subst, append_assoc}
use Rattle.std.proofs.lemmas.List.{append-nil}
use Rattle.qd_outside.specs.Buffering.{Prints, Drains}
use Rattle.qd_outside.specs.Writing.{IsWritten, IsCutShort}
use Rattle.qd_outside.proofs.Streams.{Gained-none, cut_after, cut_more, written_after}
use Rattle.qd_tape.specs.Scripts.{Script, text_left}
use Rattle.qd_tape.specs.Writing.{Generates}
use Rattle.qd_tape.specs.declared.generating.GenEnd.TheVariants.{Done}

-- a first part is written, the next one is held back, and the rest is left
pub record IsPrinting (whole : List ℕ) (s : Script) (held : List ℕ) (was now : Option (List ℕ)) (before after : ℕ) : Type 0 where
  pub part : List ℕ
  pub written : IsWritten part was now before after
  pub all : part ++ (held ++ text_left s) ≡ whole

pub printing_none : (whole : List ℕ) (s : Script) (held : List ℕ) (was : Option (List ℕ)) (before : ℕ) → text_left s ≡ whole → held ≡ [] → IsPrinting whole s held was was before before
printing_none whole s held was before e h = record { part = []; written = record { gained = Gained-none was; same = refl }; all = rw h e }

-- what was left is now held back or written
moved : (part held lines piece more left rest whole : List ℕ) → held ++ lines ≡ piece ++ more → left ≡ lines ++ rest → part ++ (held ++ left) ≡ whole → (part ++ piece) ++ (more ++ rest) ≡ whole
moved part held lines piece more left rest whole e l w =
    append_assoc part piece (more ++ rest)
    ∙ ap (λ (x : List ℕ). part ++ x) (sym (append_assoc piece more rest) ∙ ap (λ (x : List ℕ). x ++ rest) (sym e) ∙ append_assoc held lines rest ∙ ap (λ (x : List ℕ). held ++ x) (sym l))
    ∙ w

pub printing_more : (whole : List ℕ) (s t : Script) (held lines more : List ℕ) (was now later : Option (List ℕ)) (before between after : ℕ) → IsPrinting whole s held was now before between → text_left s ≡ lines ++ text_left t
    → Prints true lines held more now later between after → IsPrinting whole t more was later before after
printing_more whole s t held lines more was now later before between after p l (piece, e, w) = record {
  part = p.part ++ piece;
  written = written_after p.part piece was now later before between after p.written w;
  all = moved p.part held lines piece more (text_left s) (text_left t) whole e l p.all;
}

pub printing_short : (whole : List ℕ) (s t : Script) (held lines more : List ℕ) (was now later : Option (List ℕ)) (before between after : ℕ) → IsPrinting whole s held was now before between → text_left s ≡ lines ++ text_left t
    → Prints false lines held more now later between after → IsCutShort whole was later before after
printing_short whole s t held lines more was now later before between after p l c =
    let all : (p.part ++ (held ++ lines)) ++ text_left t ≡ whole =
    append_assoc p.part (held ++ lines) (text_left t) ∙ ap (λ (x : List ℕ). p.part ++ x) (append_assoc held lines (text_left t) ∙ ap (λ (x : List ℕ). held ++ x) (sym l)) ∙ p.all in
    subst (λ (x : List ℕ). IsCutShort x was later before after) all
    (cut_more (p.part ++ (held ++ lines)) (text_left t) was later before after (cut_after p.part (held ++ lines) was now later before between after p.written c))

-- nothing is left, and what is held back is written
none_left : (whole : List ℕ) (s : Script) (held part : List ℕ) → text_left s ≡ [] → part ++ (held ++ text_left s) ≡ whole → part ++ held ≡ whole
none_left whole s held part l e = ap (λ (x : List ℕ). part ++ x) (sym (append-nil held) ∙ ap (λ (x : List ℕ). held ++ x) (sym l)) ∙ e

pub printing_done : (whole : List ℕ) (s : Script) (held more : List ℕ) (was now later : Option (List ℕ)) (flushed : Bool) (before between after : ℕ) → IsPrinting whole s held was now before between → text_left s ≡ []
    → Drains true held more now later flushed between after → Generates Done whole was later flushed before after
printing_done whole s held more was now later flushed before between after p l (none, w, f) = (
  subst (λ (x : List ℕ). IsWritten x was later before after) (none_left whole s held p.part l p.all) (written_after p.part held was now later before between after p.written w),
  f,
)

pub printing_cut : (whole : List ℕ) (s : Script) (held more : List ℕ) (was now later : Option (List ℕ)) (flushed : Bool) (before between after : ℕ) → IsPrinting whole s held was now before between → text_left s ≡ []
    → Drains false held more now later flushed between after → IsCutShort whole was later before after
printing_cut whole s held more was now later flushed before between after p l c =
    subst (λ (x : List ℕ). IsCutShort x was later before after) (none_left whole s held p.part l p.all) (cut_after p.part held was now later before between after p.written c)
