-- Which sizes a hub may have.
use Rattle.std.specs.Prelude.{ℕ, Bool, ◌&&◌, ◌||◌, ◌==◌, nat_le}
use Rattle.qd_gate.specs.declared.machine.Terms.{Terms}
use Rattle.qd_stream.specs.Legal as stream
use Rattle.qd_hist_rules.specs.Legal as history

-- how many stripes each collector has, how many items wait at most for an agent of the stream, and how many events at most are owed to an agent of the history
pub record Sizes : Type 0 where
  pub stripes : ℕ
  pub cap : ℕ
  pub hcap : ℕ

abbrev pub is_count : ℕ → Bool
is_count n = n == 1 || n == 2 || n == 4 || n == 8 || n == 16

abbrev pub is_size : ℕ → Bool
is_size n = nat_le 1 n && nat_le n 4096

abbrev pub is_allowed : ℕ → ℕ → ℕ → Bool
is_allowed stripes cap hcap = is_count stripes && is_size cap && is_size hcap

-- the terms of each stripe of the stream and of the history; those of the ticker are none
abbrev pub stream_terms : Sizes → Terms
stream_terms sizes = stream.terms_of sizes.cap

abbrev pub history_terms : Sizes → Terms
history_terms sizes = history.terms_of sizes.hcap 0
