-- For how many links a tower has room.
use Rattle.std.specs.Prelude.{ℕ, vec_len}
use Rattle.qd_bell.specs.declared.tower.Tower.{Tower}

-- how many links can have a bell in the tower
abbrev pub place_count : Tower → ℕ
place_count tower = vec_len tower.places
