-- What holds of every legal log of a stream.
use Rattle.std.specs.Prelude.{ℕ, ◌≤◌, List, length}
use Rattle.qd_gate.specs.declared.machine.Terms.{Terms}
use Rattle.qd_stream.specs.Waiting.{waiting}
use Rattle.qd_stream.specs.Legal.{StreamEntry, moment_of, IsLegal}

-- at most `cap` items wait for an agent
abbrev pub FewWait : Type 0
FewWait = (terms : Terms) (log : List StreamEntry) (a : ℕ) → IsLegal terms log → length (waiting terms.cap a (moment_of log)) ≤ terms.cap
