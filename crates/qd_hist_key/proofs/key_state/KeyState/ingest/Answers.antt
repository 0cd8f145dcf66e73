use Rattle.std.proofs.Common.{ℕ, List, ◌∷◌, length, sym, ap, ◌∙◌, subst, Option, Some}
use Rattle.std.specs.Prelude.{if◌then◌else◌}
use Rattle.qd_scheme.specs.declared.key.Event.{Event}
use Rattle.qd_flags.specs.Bits.{is_begin}
use Rattle.qd_flags.specs.Following as following
use Rattle.qd_hist_key.specs.Kept.{Kept}
use Rattle.qd_hist_key.specs.Keeping.{StandsFor}
use Rattle.qd_hist_key.proofs.key_state.KeyState.ingest.Goals as goal

pub returns-clause-stands : goal.returns-clause-stands
returns-clause-stands c = λ (past : List Event) (h : StandsFor c.args.self.now past).
    let e = c.args.e.now in
    record {
      now = c.ingest.ensures.stands past (subst (λ (s : following.Following). following.StandsFor s past) (sym (ap (λ (k : Kept). k.now) c.self.view_is)) h.now);
      width_is = c.width_after-self-inside.ensures ∙ ap (λ (w : Option ℕ). if is_begin e then Some (length e.cells) else w) (ap (λ (k : Kept). k.width) c.self.view_is ∙ h.width_is);
    }

pub returns-clause-answer : goal.returns-clause-answer
returns-clause-answer c = λ (past : List Event) (h : StandsFor c.args.self.now past).
    c.ingest.ensures.answer past (subst (λ (s : following.Following). following.StandsFor s past) (sym (ap (λ (k : Kept). k.now) c.self.view_is)) h.now)

pub invariant_of-self : goal.invariant_of-self
invariant_of-self c =
    let e = c.args.e.now in
    let past = c.self.invariant.past in
    record {
      past = e ∷ past;
      stands = record {
        now = c.ingest.ensures.stands past c.self.invariant.stands.now;
        width_is = c.width_after-self-inside.ensures ∙ ap (λ (w : Option ℕ). if is_begin e then Some (length e.cells) else w) c.self.invariant.stands.width_is;
      };
      fits = (c.see_fits.ensures, c.self.invariant.fits);
    }
