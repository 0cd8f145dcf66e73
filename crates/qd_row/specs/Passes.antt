-- What a pass has at first, and what becomes of passes that are split and joined.
use Rattle.std.specs.Prelude.{◌≡◌, ◌≢◌, List, [], ◌++◌}
use mathlib.Core.List.{IsPrefix}
use Rattle.qd_gate.specs.declared.machine.Entry.{Entry}
use Rattle.qd_gate.specs.declared.machine.Terms.{Terms}
use Rattle.qd_gate.specs.Logs.{calls_of}
use Rattle.qd_gate.specs.Passes.{Pass, IsSamePass}

module _ {O R : Type 0} where
  -- the first pass of a gate with these terms, whose word began at 0: it has seen nothing and made no call
  pub record IsFirst (terms : Terms) (p : Pass O R) : Type 0 where
    pub terms_are : p.terms ≡ terms
    pub start : p.start ≡ 0
    pub number : p.number ≡ 0
    pub seen : p.seen ≡ []
    pub mine : p.mine ≡ []
    pub looked : p.looked ≡ []

  -- what holds of every pass: what it has seen is legal, and its calls are all that this has of its number
  pub record IsSound (legal : Terms → List (Entry O R) → Type 0) (p : Pass O R) : Type 0 where
    pub is_legal : legal p.terms p.seen
    pub own : calls_of p.number p.seen ≡ p.mine

  -- q was split off from p: it has a number that no call seen so far has, has seen as much, and made no call
  pub record IsChild (p q : Pass O R) : Type 0 where
    pub home : q.home ≡ p.home
    pub terms : q.terms ≡ p.terms
    pub start : q.start ≡ p.start
    pub number : q.number ≢ p.number
    pub unseen : calls_of q.number p.seen ≡ []
    pub seen : q.seen ≡ p.seen
    pub mine : q.mine ≡ []
    pub looked : q.looked ≡ []

  -- q is p, which took in w: the log that is then seen is legal, begins with all that either had seen, and has the calls of both, each once
  pub record IsUnion (legal : Terms → List (Entry O R) → Type 0) (p w q : Pass O R) : Type 0 where
    pub same : IsSamePass p q
    pub start : q.start ≡ p.start
    pub begins : IsPrefix p.seen q.seen
    pub begins_too : IsPrefix w.seen q.seen
    pub is_legal : legal q.terms q.seen
    pub mine : q.mine ≡ p.mine
    pub own : calls_of p.number q.seen ≡ p.mine
    pub other : calls_of w.number q.seen ≡ w.mine
    pub apart : w.number ≢ p.number
    pub looked : q.looked ≡ p.looked ++ w.looked
