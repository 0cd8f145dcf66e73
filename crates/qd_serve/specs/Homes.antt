-- What a client of a shared hub did, once the hub has taken it in.
use Rattle.std.specs.Prelude.{◌≡◌, ◌≢◌, ℕ, ◌<◌, List, [], ◌++◌}
use mathlib.Core.List.{IsPrefix}
use Rattle.qd_gate.specs.Logs.{calls_of}
use Rattle.qd_gate.specs.Passes.{Pass, IsSamePass}
use Rattle.qd_hub.specs.Clients.{Client, IsPassAt}
use Rattle.qd_path.specs.Lists.{Lists, AreOf}

-- the lists for which a client stands, by collector and stripe
abbrev pub IsOf : Client → Lists → Type 0
IsOf c l = AreOf c.sizes.stripes (IsPassAt c.ticker) (IsPassAt c.stream) (IsPassAt c.history) l

-- the words stand in these, without a break
abbrev pub AreWithin : List ℕ → List ℕ → Type 0
AreWithin words all = (before : List ℕ) × (behind : List ℕ) × (all ≡ before ++ (words ++ behind))

module _ {O R : Type 0} where
  -- a pass was split off from one that had seen `before`, with a number that no call seen there has; it had made no call. It made calls
  -- and came home to a pass that has seen `now`: that begins with all that it had seen, its calls are the first there of its number, and
  -- the words that it found are among those that were found since
  pub record IsHome (before first last now : Pass O R) : Type 0 where
    pub gate : first.home ≡ before.home
    pub terms : first.terms ≡ before.terms
    pub unseen : calls_of first.number before.seen ≡ []
    pub other : first.number ≢ before.number
    pub saw : first.seen ≡ before.seen
    pub made_none : first.mine ≡ []
    pub found_none : first.looked ≡ []
    pub same : IsSamePass first last
    pub begins : IsPrefix last.seen now.seen
    pub calls : IsPrefix last.mine (calls_of last.number now.seen)
    pub found : (more : List ℕ) × (now.looked ≡ before.looked ++ more) × AreWithin last.looked more

-- so it is on each stripe of each collector
pub record AreHome (n : ℕ) (before first last now : Lists) : Type 0 where
  pub on_ticker : (i : ℕ) → i < n → IsHome (before.ticker i) (first.ticker i) (last.ticker i) (now.ticker i)
  pub on_stream : (i : ℕ) → i < n → IsHome (before.stream i) (first.stream i) (last.stream i) (now.stream i)
  pub on_history : (i : ℕ) → i < n → IsHome (before.history i) (first.history i) (last.history i) (now.history i)

-- on each stripe the two have different numbers
pub record AreApart (n : ℕ) (l m : Lists) : Type 0 where
  pub on_ticker : (i : ℕ) → i < n → (m.ticker i).number ≢ (l.ticker i).number
  pub on_stream : (i : ℕ) → i < n → (m.stream i).number ≢ (l.stream i).number
  pub on_history : (i : ℕ) → i < n → (m.history i).number ≢ (l.history i).number

-- on each stripe the two are the same pass: of one gate, with one number
pub record AreSame (n : ℕ) (l m : Lists) : Type 0 where
  pub on_ticker : (i : ℕ) → i < n → IsSamePass (l.ticker i) (m.ticker i)
  pub on_stream : (i : ℕ) → i < n → IsSamePass (l.stream i) (m.stream i)
  pub on_history : (i : ℕ) → i < n → IsSamePass (l.history i) (m.history i)
