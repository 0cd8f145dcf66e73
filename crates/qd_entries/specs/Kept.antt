-- What entries in falling order are seen as.
use Rattle.std.specs.Prelude.{ℕ, List}
use Rattle.qd_entries.specs.declared.Entry.{Entry}

-- the entries, and how many new ones there is room for
pub record Kept : Type 0 where
  pub entries : List Entry
  pub spare : ℕ
