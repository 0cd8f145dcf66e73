-- What a symbol and a key feed to a hash function: their own bytes, without what pads them.
use Rattle.std.specs.Prelude.{◌≡◌, ℕ, List, [], ◌∷◌, ◌++◌, IsTrue}
use Rattle.std.proofs.Common.{ap}
use Rattle.std.specs.Hash.{u64}
use Rattle.std.specs.List.{fold}
use Rattle.std.specs.declared.hash.DefaultHasher.{DefaultHasher}
use Rattle.std.specs.Hash.DefaultHasher.{initial, write}
use Rattle.qd_scheme.specs.declared.sym.Sym.{Sym}
use Rattle.qd_scheme.specs.declared.key.Key.{Key}
use Rattle.qd_scheme.specs.Keys.{sym_eq, key_eq}
use Rattle.qd_scheme.specs.Comparing.{sym_eq-true, key_eq-true}

-- a symbol's bytes, in one write
abbrev pub sym_input : Sym → List (List ℕ)
sym_input bytes = bytes ∷ []

-- the state of a hasher to which a seed was written
abbrev pub seeded : ℕ → DefaultHasher
seeded seed = fold write initial (u64 seed)

-- a key's record number, and then its symbol
abbrev pub key_input : Key → List (List ℕ)
key_input key = u64 key.rec ++ sym_input key.sym

pub sym_input-Alike : (a b : Sym) → IsTrue (sym_eq a b) → sym_input a ≡ sym_input b
sym_input-Alike a b h = ap sym_input (sym_eq-true a b h)

pub key_input-Alike : (a b : Key) → IsTrue (key_eq a b) → key_input a ≡ key_input b
key_input-Alike a b h = ap key_input (key_eq-true a b h)
