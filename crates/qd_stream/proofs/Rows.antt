-- Short scripts of a stream, computed from the definitions alone.
use Rattle.std.proofs.Common.{◌≡◌, ℕ, [], ◌∷◌, refl}
use Rattle.std.specs.Prelude.{pos}
use Rattle.qd_scheme.specs.declared.key.Key.{Key}
use Rattle.qd_scheme.specs.Keys.{key_eq}
use Rattle.qd_sub.specs.Acts.{Subscribed, Unsubscribed, Closed, Came, Gave}
use Rattle.qd_sub.specs.Subscriptions.{limit_of, subscribed}
use Rattle.qd_sub.specs.Holding.{fresh}
use Rattle.qd_stream.specs.declared.item.StreamItem.{StreamItem}
use Rattle.qd_stream.specs.declared.item.StreamItem.TheVariants.{Rec, Lost}
use Rattle.qd_stream.specs.Waiting.{StreamMoment, matched, gone, waiting}
use Rattle.qd_stream.specs.Losses.{weight_of, loss_of, lossy_keys}
use Rattle.qd_stream.specs.Taking.{reports, taken}

abbrev a : Key
a = record { rec = 1; sym = 65 ∷ [] }

abbrev b : Key
b = record { rec = 1; sym = 66 ∷ [] }

abbrev trade : Key → ℕ → StreamItem
trade k n = Rec (record { key = k; cells = pos n ∷ [] })

abbrev both : StreamMoment
both = Subscribed 0 b 0 ∷ Subscribed 0 a 0 ∷ []

-- of three records a buffer of two keeps the later ones
taken-overflow : taken 2 0 10 (Came a (trade a 3) ∷ Came b (trade b 2) ∷ Came a (trade a 1) ∷ both) ≡ Lost a 1 ∷ trade b 2 ∷ trade a 3 ∷ []
unfolding taken reports lossy_keys loss_of weight_of waiting gone matched subscribed limit_of fresh key_eq
taken-overflow = refl

abbrev of_one : StreamMoment
of_one = Came b (trade b 2) ∷ Came a (Lost a 5) ∷ both

-- a lost Lost item adds its count
taken-lost_count : taken 1 0 1 of_one ≡ Lost a 5 ∷ []
unfolding taken reports lossy_keys loss_of weight_of waiting gone matched subscribed limit_of fresh key_eq
taken-lost_count = refl

-- what was reported is reported no more
taken-lost_then : taken 1 0 1 (Gave 0 a (Lost a 5) ∷ of_one) ≡ trade b 2 ∷ []
unfolding taken reports lossy_keys loss_of weight_of waiting gone matched subscribed limit_of fresh key_eq
taken-lost_then = refl

-- sums stop at 2^64 - 1
taken-lost_most : taken 1 0 10 (Came b (trade b 2) ∷ Came a (trade a 1) ∷ Came a (Lost a 18446744073709551615) ∷ both) ≡ Lost a 18446744073709551615 ∷ trade b 2 ∷ []
unfolding taken reports lossy_keys loss_of weight_of waiting gone matched subscribed limit_of fresh key_eq
taken-lost_most = refl

-- a waiting item outlives its subscription, and a Close drops it
taken-removed : taken 2 0 10 (Unsubscribed 0 a ∷ Came a (trade a 1) ∷ both) ≡ trade a 1 ∷ []
unfolding taken reports lossy_keys loss_of weight_of waiting gone matched subscribed limit_of fresh key_eq
taken-removed = refl

taken-closed : taken 2 0 10 (Closed 0 ∷ Unsubscribed 0 a ∷ Came a (trade a 1) ∷ both) ≡ []
unfolding taken reports lossy_keys loss_of weight_of waiting gone matched subscribed limit_of fresh key_eq
taken-closed = refl
