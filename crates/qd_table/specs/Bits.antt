-- What the bits of a number say of the agents.
use Rattle.std.specs.Prelude.{ℕ, zero, suc, ◌≡◌, ◌<◌, ◌/◌, ◌%◌, Bool, nat_eq}
use Rattle.qd_scheme.specs.declared.key.Key.{Key}
use Rattle.qd_sub.specs.Acts.{Moment}
use Rattle.qd_sub.specs.Subscriptions.{subscribed}
use Rattle.qd_table.specs.Tables.{Table}
use Rattle.qd_table.specs.Standing.{StandsFor}

-- a number's bit at a place, from 0 in the lowest
unfoldable pub has_bit : ℕ → ℕ → Bool
has_bit n zero = nat_eq (n % 2) 1
has_bit n (suc i) = has_bit (n / 2) i

-- at each moment for which the table stands, the bit of each agent says whether it is subscribed to the key
abbrev pub SaysSubscribed : {P T : Type 0} → Table → Key → ℕ → (ℕ → Key → Bool) → Moment P T → Type 0
SaysSubscribed t k bits keeps now = StandsFor t keeps now → (a : ℕ) → a < 128 → has_bit bits a ≡ subscribed a k now
