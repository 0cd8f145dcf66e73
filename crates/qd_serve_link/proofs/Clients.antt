-- A client that made calls, and the lists of which it is.
use Rattle.std.proofs.Common.{ℕ, ◌≡◌, sym, subst}
use Rattle.std.specs.Prelude.{Some}
use Rattle.std.proofs.lemmas.Option.{same_Some}
use Rattle.qd_hub.specs.Clients.{Client, IsPassAt}
use Rattle.qd_path.specs.Lists.{Lists, AreOf}
use Rattle.qd_serve_link.specs.Running.{IsOf, IsSameHub}

pub same_hub : (c d : Client) → (Some d.home ≡ Some c.home) × (d.sizes.stripes ≡ c.sizes.stripes) → IsSameHub c d
same_hub c d same = record { home = same_Some d.home c.home same.0; stripes = same.1 }

-- as many stripes, so the same lists
pub is_of_as_many : (c d : Client) (m : Lists) → d.sizes.stripes ≡ c.sizes.stripes → AreOf c.sizes.stripes (IsPassAt d.ticker) (IsPassAt d.stream) (IsPassAt d.history) m → IsOf d m
is_of_as_many c d m same of = subst (λ (n : ℕ). AreOf n (IsPassAt d.ticker) (IsPassAt d.stream) (IsPassAt d.history) m) (sym same) of
