-- What an adapter passes on of the bytes that the real thing before it knows.
use Rattle.std.specs.Prelude.{ℕ, Option, Some, None, List}
use Rattle.std.specs.Io.KnownBytes.{Consumes, IsAtEnd, Appends}

-- these bytes were read off the file that is open
abbrev pub FileConsumes : {F : Type 0} → (F → Option (List ℕ)) → Option F → Option F → List ℕ → Type 0
FileConsumes remaining (Some old) (Some new) bytes = Consumes (remaining old) (remaining new) bytes
FileConsumes remaining (Some old) None bytes = ⊥
FileConsumes remaining None new bytes = Unit {0}

-- the file that is open is at its end
abbrev pub FileIsAtEnd : {F : Type 0} → (F → Option (List ℕ)) → Option F → Type 0
FileIsAtEnd remaining (Some file) = IsAtEnd (remaining file)
FileIsAtEnd remaining None = ⊥

-- these bytes were written to the file that is open
abbrev pub FileAppends : {F : Type 0} → (F → Option (List ℕ)) → Option F → Option F → List ℕ → Type 0
FileAppends contents (Some old) (Some new) bytes = Appends (contents old) (contents new) bytes
FileAppends contents (Some old) None bytes = ⊥
FileAppends contents None new bytes = Unit {0}
