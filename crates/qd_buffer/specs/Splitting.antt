-- How a list of items is cut by the stripes of their keys.
use Rattle.std.specs.Prelude.{ℕ, ◌≡◌, nat_eq, List, length, take, filter, Some, slice_get}
use Rattle.qd_scheme.specs.declared.key.Key.{Key}
use Rattle.qd_scheme.specs.Stripes.{stripe_of}
use Rattle.qd_buffer.specs.Filled.{Filled}

-- the items of the i-th of n stripes, in order
abbrev pub of_stripe : {T : Type 0} → (T → Key) → ℕ → ℕ → List T → List T
of_stripe key_of n i items = filter (λ item. nat_eq (stripe_of (key_of item) n) i) items

-- one part for each of n stripes, with the items of that stripe and room for no more
pub record AreStripes {T : Type 0} (key_of : T → Key) (n : ℕ) (items : List T) (parts : List (Filled T)) : Type 0 where
  pub count : length parts ≡ n
  pub each : (i : ℕ) (part : Filled T) → slice_get parts i ≡ Some part → (part.items ≡ of_stripe key_of n i items) × (part.room ≡ length part.items)

-- parts that have been given the first `done` items, with room for just what they will have
pub record IsFilling {T : Type 0} (key_of : T → Key) (n : ℕ) (items : List T) (done : ℕ) (parts : List (Filled T)) : Type 0 where
  pub count : length parts ≡ n
  pub each : (i : ℕ) (part : Filled T) → slice_get parts i ≡ Some part → (part.items ≡ of_stripe key_of n i (take done items)) × (part.room ≡ length (of_stripe key_of n i items))
