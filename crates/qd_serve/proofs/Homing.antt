-- A hub takes in its clients, one after the other.
use Rattle.std.proofs.Common.{◌≡◌, ℕ, List, [], ◌++◌, sym, ap, ◌∙◌, append_assoc}
use mathlib.Core.List.{IsPrefix}
use Rattle.qd_gate.specs.declared.machine.Entry.{Entry}
use Rattle.qd_gate.specs.declared.machine.Terms.{Terms}
use Rattle.qd_gate.specs.Logs.{calls_of}
use Rattle.qd_gate.specs.Passes.{Pass, IsSamePass}
use Rattle.qd_gate.proofs.Calls.{calls_append}
use Rattle.qd_gate.proofs.Prefixes.{append_nil, prefix_trans}
use Rattle.qd_row.specs.Passes.{IsUnion}
use Rattle.qd_path.specs.Lists.{Gains}
use Rattle.qd_serve.specs.Homes.{IsHome}

module _ {O R : Type 0} where
  -- a pass that was split off, and made no call
  pub record IsFresh (before first : Pass O R) : Type 0 where
    pub gate : first.home ≡ before.home
    pub terms : first.terms ≡ before.terms
    pub unseen : calls_of first.number before.seen ≡ []
    pub saw : first.seen ≡ before.seen
    pub made_none : first.mine ≡ []
    pub found_none : first.looked ≡ []

  -- the calls of a number begin those that it has in a log that goes on
  calls_begin : (who : ℕ) (xs ys : List (Entry O R)) → IsPrefix xs ys → IsPrefix (calls_of who xs) (calls_of who ys)
  calls_begin who xs ys p = (calls_of who p.0, sym (calls_append who xs p.0) ∙ ap (calls_of who) p.1)

  pub union_gains : (legal : Terms → List (Entry O R) → Type 0) (p w q : Pass O R) → IsUnion legal p w q → Gains legal [] p q
  union_gains legal p w q u = record {
    same = u.same;
    begins = u.begins;
    mine = u.mine ∙ sym (append_nil p.mine);
    looked = (w.looked, sym u.looked);
    sound = record { is_legal = u.is_legal; own = ap (λ (i : ℕ). calls_of i q.seen) u.same.1 ∙ u.own ∙ sym u.mine };
  }

  -- a pass comes home
  pub comes_home : (legal : Terms → List (Entry O R) → Type 0) (before first last p q : Pass O R) → IsFresh before first → IsSamePass first last → Gains legal [] before p → IsUnion legal p last q → IsHome before first last q
  comes_home legal before first last p q f same g u = record {
    gate = f.gate;
    terms = f.terms;
    unseen = f.unseen;
    other = λ e. u.apart (same.1 ∙ e ∙ sym g.same.1);
    saw = f.saw;
    made_none = f.made_none;
    found_none = f.found_none;
    same = same;
    begins = u.begins_too;
    calls = ([], append_nil last.mine ∙ sym u.other);
    found = (
      g.looked.0 ++ last.looked,
      u.looked ∙ ap (λ (l : List ℕ). l ++ last.looked) (sym g.looked.1) ∙ append_assoc before.looked g.looked.0 last.looked,
      (g.looked.0, [], ap (λ (l : List ℕ). g.looked.0 ++ l) (sym (append_nil last.looked))),
    );
  }

  -- what came home stays so while the log goes on
  pub stays_home : (legal : Terms → List (Entry O R) → Type 0) (before first last p q : Pass O R) → IsHome before first last p → Gains legal [] p q → IsHome before first last q
  stays_home legal before first last p q h g = record {
    gate = h.gate;
    terms = h.terms;
    unseen = h.unseen;
    other = h.other;
    saw = h.saw;
    made_none = h.made_none;
    found_none = h.found_none;
    same = h.same;
    begins = prefix_trans last.seen p.seen q.seen h.begins g.begins;
    calls = prefix_trans last.mine (calls_of last.number p.seen) (calls_of last.number q.seen) h.calls (calls_begin last.number p.seen q.seen g.begins);
    found = (
      h.found.0 ++ g.looked.0,
      sym g.looked.1 ∙ ap (λ (l : List ℕ). l ++ g.looked.0) h.found.1 ∙ append_assoc before.looked h.found.0 g.looked.0,
      (
        h.found.2.0,
        h.found.2.1 ++ g.looked.0,
        ap (λ (l : List ℕ). l ++ g.looked.0) h.found.2.2 ∙ append_assoc h.found.2.0 (last.looked ++ h.found.2.1) g.looked.0
            ∙ ap (λ (l : List ℕ). h.found.2.0 ++ l) (append_assoc last.looked h.found.2.1 g.looked.0),
      ),
    );
  }
