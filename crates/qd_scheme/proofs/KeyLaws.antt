-- The laws of the test of keys, for callers.
pub use Rattle.qd_scheme.specs.Comparing.{sym_eq-true, sym_eq-same, key_eq-same, key_eq-true, key_eq-comm, key_eq-congr, key_eq-equiv}
