-- A client of a shared hub.
use Rattle.std.specs.Prelude.{◌≡◌, ℕ, List, All, length, Some, None, slice_get}
use Rattle.qd_gate.specs.declared.machine.Terms.{Terms}
use Rattle.qd_gate.specs.Passes.{Pass}
use Rattle.qd_row.specs.Passes.{IsFirst}
use Rattle.qd_row.specs.Rows.{homes}
use Rattle.atomic_table.specs.Seated.{TableId}
use Rattle.qd_hub.specs.Configs.{Sizes}
use Rattle.qd_hub.specs.Hubs.{Home, TickerPass, StreamPass, HistoryPass}

-- the gates that it shares, their sizes, and its pass on each
pub record Client : Type 0 where
  pub home : Home
  pub sizes : Sizes
  pub ticker : List TickerPass
  pub stream : List StreamPass
  pub history : List HistoryPass

module _ {O R : Type 0} where
  -- the number of the pass of a stripe
  abbrev pub number_at : List (Pass O R) → ℕ → ℕ
  number_at passes i = elim (slice_get passes i) [ None ↦ 0 | Some p ↦ p.number ]

  -- the lists for which a client stands on a stripe are those of its pass
  abbrev pub IsPassAt : List (Pass O R) → ℕ → Pass O R → Type 0
  IsPassAt passes i p = slice_get passes i ≡ Some p

  -- so many passes, one of each of these gates, each with these terms
  pub record ArePasses (gates : List TableId) (n : ℕ) (terms : Terms) (passes : List (Pass O R)) : Type 0 where
    pub of_gates : homes passes ≡ gates
    pub count : length passes ≡ n
    pub same : All (λ p. p.terms ≡ terms) passes

  -- so many passes, one of each of these gates, the first of it
  pub record AreFirst (gates : List TableId) (n : ℕ) (terms : Terms) (passes : List (Pass O R)) : Type 0 where
    pub of_gates : homes passes ≡ gates
    pub count : length passes ≡ n
    pub first : All (IsFirst terms) passes
