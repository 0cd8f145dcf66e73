-- What holds of every engine that reads and has not ended.
use Rattle.std.specs.Prelude.{ℕ, ◌≡◌, Option, List, map}
use Rattle.qd_items.specs.Judging.{stop_of}
use Rattle.qd_items.specs.Judging.Stop.{Open}
use Rattle.qd_items.specs.Standing.{Past}
use Rattle.qd_scheme.specs.declared.defs.RecordDef.{RecordDef}
use Rattle.qd_path.specs.Calls.{mode_of, calls}
use Rattle.qd_path.specs.Made.{Made, asked_in}
use Rattle.qd_session.specs.Ins.{InKept, InStands, IsCutFor}

-- where its text is ended, or a line of it refused, and all calls that its lines ask for were made, it has ended
abbrev pub EndsAtOnce : Type 0
EndsAtOnce = (defs : List RecordDef) (n : ℕ) (from left : Option (List ℕ)) (k : InKept) (p : Past) (made : List Made) → InStands defs n from k p made left → IsCutFor n k
    → (stop_of (mode_of k.side) defs p.lines ≡ Open → ⊥) → calls defs k.side n p.lines ≡ map asked_in made → ⊥
