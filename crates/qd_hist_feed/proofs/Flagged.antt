-- The flags of the items that a sweep gives.
use Rattle.std.proofs.Common.{◌≡◌, ℕ, Bool, true, false, not, refl}
use Rattle.std.specs.Prelude.{bit_and}
use Rattle.qd_flags.specs.Bits.{has_bits}
use Rattle.qd_hist_feed.specs.Feeding.{begin_flags, end_flags}

-- BEGIN or none
pub record KeptFlags (begin : Bool) : Type 0 where
  pub bare : bit_and (begin_flags begin) 227 ≡ 0
  pub begins : has_bits (begin_flags begin) 4 ≡ begin
  pub no_end : has_bits (begin_flags begin) 8 ≡ false
  pub no_snip : has_bits (begin_flags begin) 16 ≡ false
  pub sets : has_bits (begin_flags begin) 2 ≡ false

pub kept_flags : (begin : Bool) → KeptFlags begin
kept_flags true = record { bare = refl; begins = refl; no_end = refl; no_snip = refl; sets = refl }
kept_flags false = record { bare = refl; begins = refl; no_end = refl; no_snip = refl; sets = refl }

abbrev pub bare_of : Bool → ℕ
bare_of true = 2
bare_of false = 0

-- END or SNIP, with BEGIN and REMOVE_EVENT or not
pub record EndFlags (begin by_snip removed : Bool) : Type 0 where
  pub bare : bit_and (end_flags begin by_snip removed) 227 ≡ bare_of removed
  pub begins : has_bits (end_flags begin by_snip removed) 4 ≡ begin
  pub ends : has_bits (end_flags begin by_snip removed) 8 ≡ not by_snip
  pub snips : has_bits (end_flags begin by_snip removed) 16 ≡ by_snip
  pub removes : has_bits (end_flags begin by_snip removed) 2 ≡ removed
  pub closed : has_bits (end_flags begin by_snip removed) 1 ≡ false

pub ending_flags : (begin by_snip removed : Bool) → EndFlags begin by_snip removed
ending_flags true true true = record { bare = refl; begins = refl; ends = refl; snips = refl; removes = refl; closed = refl }
ending_flags true true false = record { bare = refl; begins = refl; ends = refl; snips = refl; removes = refl; closed = refl }
ending_flags true false true = record { bare = refl; begins = refl; ends = refl; snips = refl; removes = refl; closed = refl }
ending_flags true false false = record { bare = refl; begins = refl; ends = refl; snips = refl; removes = refl; closed = refl }
ending_flags false true true = record { bare = refl; begins = refl; ends = refl; snips = refl; removes = refl; closed = refl }
ending_flags false true false = record { bare = refl; begins = refl; ends = refl; snips = refl; removes = refl; closed = refl }
ending_flags false false true = record { bare = refl; begins = refl; ends = refl; snips = refl; removes = refl; closed = refl }
ending_flags false false false = record { bare = refl; begins = refl; ends = refl; snips = refl; removes = refl; closed = refl }
