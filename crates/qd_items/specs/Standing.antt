-- What a reader of items keeps, and for which past it stands.
use Rattle.std.specs.Prelude.{ℕ, ◌≡◌, ◌≤◌, ◌^◌, Option, List, [], length}
use Rattle.qd_grammar.specs.declared.item.Item.{Item}
use Rattle.qd_grammar.specs.declared.item.Item.TheVariants.{Protocol}
use Rattle.qd_grammar.specs.declared.item.Mode.{Mode}
use Rattle.qd_grammar.specs.declared.state.State.{State}
use Rattle.qd_grammar.specs.Lines.{first_state}
use Rattle.qd_line.specs.Cutter.{AreShort}
use Rattle.qd_line.specs.Lines.{IsCut}
use Rattle.qd_outside.specs.Reading.{Took}
use Rattle.qd_scheme.specs.declared.defs.RecordDef.{RecordDef}
use Rattle.qd_items.specs.Judging.{state_of, stop_of}
use Rattle.qd_items.specs.Judging.Stop.{Open}

-- the item that came last, whose text it reads, the state that the lines so far leave, the bytes that are not judged
-- yet, the number of lines judged, and the number of bytes taken
pub record Kept : Type 0 where
  pub item : Item
  pub mode : Mode
  pub state : State
  pub left : List ℕ
  pub lines : ℕ
  pub taken : ℕ

-- the past: the bytes taken, and the lines judged, the newest first
pub record Past : Type 0 where
  pub taken : List ℕ
  pub lines : List (List ℕ)

-- before anything
abbrev pub nothing : Past
nothing = record { taken = []; lines = [] }

-- a reader before anything; no item came yet
abbrev pub opening : Mode → Kept
opening mode = record { item = Protocol; mode = mode; state = first_state; left = []; lines = 0; taken = 0 }

-- the bytes taken are the lines, none of which is longer than 4096 bytes, and a rest; they are no more than a run reads
pub record IsTaken (p : Past) (rest : List ℕ) : Type 0 where
  pub cut : IsCut p.taken p.lines rest
  pub short : AreShort p.lines
  pub within : length p.taken ≤ 2 ^ 40

-- a reader stands for a past in which the text is not ended
pub record StandsFor (defs : List RecordDef) (k : Kept) (p : Past) : Type 0 where
  pub bytes : IsTaken p k.left
  pub is_open : stop_of k.mode defs p.lines ≡ Open
  pub state : k.state ≡ state_of k.mode defs p.lines
  pub count : k.lines ≡ length p.lines
  pub number : k.taken ≡ length p.taken

-- the same, where all that was taken was taken off what a source had at the start, which has so much left now
pub record IsRead (defs : List RecordDef) (start : Option (List ℕ)) (k : Kept) (p : Past) (left : Option (List ℕ)) : Type 0 where
  pub stands : StandsFor defs k p
  pub took : Took start left p.taken
