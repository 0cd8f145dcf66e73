-- For which moments a table stands.
use Rattle.std.specs.Prelude.{ℕ, ◌≡◌, ◌<◌, Bool, ◌||◌}
use Rattle.qd_scheme.specs.declared.key.Key.{Key}
use Rattle.qd_sub.specs.Acts.{Moment, is_told, newest_key}
use Rattle.qd_sub.specs.Since.{by_since}
use Rattle.qd_sub.specs.Subscriptions.{limit_of, subscribed, keys_of}
use Rattle.qd_sub.specs.Watching.{known, is_outdated, differs}
use Rattle.qd_table.specs.Tables.{Table, keys_at, order_of, queue_of, limit_by, holds_by, known_by, outdated_by}
use Rattle.qd_table.specs.Sound.{IsSound}

-- the table is that of a moment, where these pairs are held beside the subscribed ones
pub record StandsFor {P T : Type 0} (t : Table) (keeps : ℕ → Key → Bool) (now : Moment P T) : Type 0 where
  pub sound : IsSound t
  pub limits : (a : ℕ) (k : Key) → limit_of a k now ≡ limit_by t a k
  pub held : (a : ℕ) (k : Key) → (subscribed a k now || keeps a k) ≡ holds_by t a k
  pub orders : (a : ℕ) → keys_of a now ≡ keys_at t (order_of t a)
  pub known : (w : ℕ) (k : Key) → known w k now ≡ known_by t w k
  pub outdated : (w : ℕ) (k : Key) → is_outdated w k now ≡ outdated_by t w k
  pub queues : (w : ℕ) → w < 8 → by_since newest_key (λ k. is_told w k) (differs w) now ≡ keys_at t (queue_of t w)
