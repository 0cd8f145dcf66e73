-- What a whole answer to a Take may be.
use Rattle.std.specs.Prelude.{◌≡◌, ◌≤◌, ◌⊎◌, ℕ, Bool, true, ◌&&◌, ◌||◌, not, List, [], ◌∷◌, length, take, IsTrue, if◌then◌else◌}
use Rattle.qd_scheme.specs.declared.key.Key.{Key}
use Rattle.qd_scheme.specs.Keys.{key_eq}
use Rattle.qd_gate.specs.declared.machine.Terms.{Terms}
use Rattle.qd_sub.specs.Acts.{Gave}
use Rattle.qd_hist_rules.specs.declared.item.HistItem.{HistItem}
use Rattle.qd_hist_rules.specs.Moments.{HistMoment, item_key}
use Rattle.qd_hist_rules.specs.Standing.{is_due, due_keys}
use Rattle.qd_hist_rules.specs.Lawful.{LawfulItem}

-- the moment after these items were given to a, in order
abbrev pub after_gifts : ℕ → List HistItem → HistMoment → HistMoment
after_gifts a [] now = now
after_gifts a (i ∷ is) now = after_gifts a is (Gave a (item_key i) i ∷ now)

-- each item is lawful after those before it
abbrev pub LawfulItems : Terms → ℕ → List HistItem → HistMoment → Type 0
LawfulItems terms a [] now = Unit {0}
LawfulItems terms a (i ∷ is) now = LawfulItem terms a (item_key i) i now × LawfulItems terms a is (Gave a (item_key i) i ∷ now)

-- the keys of the items, each once where its items stand together
abbrev pub turns : List HistItem → List Key
turns [] = []
turns (i ∷ []) = item_key i ∷ []
turns (i ∷ j ∷ is) = if key_eq (item_key i) (item_key j) then turns (j ∷ is) else item_key i ∷ turns (j ∷ is)

-- after the items of each key but the last, that key is due no more
abbrev pub each_done : Terms → ℕ → List HistItem → HistMoment → Bool
each_done terms a [] now = true
each_done terms a (i ∷ []) now = true
each_done terms a (i ∷ j ∷ is) now =
    (key_eq (item_key i) (item_key j) || not (is_due terms a (item_key i) (Gave a (item_key i) i ∷ now)))
    && each_done terms a (j ∷ is) (Gave a (item_key i) i ∷ now)

-- an answer to a Take of at most so many items
pub record LawfulTake (terms : Terms) (a most : ℕ) (items : List HistItem) (now : HistMoment) : Type 0 where
  pub each : LawfulItems terms a items now
  pub within : length items ≤ most
  -- fewer items come only where nothing is due afterwards
  pub full_or_done : (length items ≡ most) ⊎ (due_keys terms a (after_gifts a items now) ≡ [])
  -- the first due keys are served, in order, the items of each together
  pub order : turns items ≡ take (length (turns items)) (due_keys terms a now)
  pub done : IsTrue (each_done terms a items now)
