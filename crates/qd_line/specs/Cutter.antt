-- What a cutter of lines holds, what a call answers, and for which past it stands.
use Rattle.std.specs.Prelude.{ℕ, ◌≡◌, ◌+◌, ◌<◌, ◌≤◌, Bool, true, false, List, [], ◌∷◌, ◌++◌, length, take, map}
use Rattle.qd_line.specs.declared.cutter.Next.{Next}
use Rattle.qd_line.specs.declared.cutter.Next.TheVariants.{Line, None, TooLong}
use Rattle.qd_line.specs.Lines.{is_one_line, without_cr, IsCut}
use Rattle.qd_line.specs.Held.{Held}

-- a line comes next: at most 4096 bytes, then a line feed
pub record GivesLine (old new : Held) (line : List ℕ) : Type 0 where
  pub stood : old.left ≡ line ++ 10 ∷ new.left
  pub one : is_one_line line ≡ true
  pub short : length line ≤ 4096
  pub text : new.text ≡ without_cr line
  pub counted : new.line ≡ old.line + 1

-- no line feed is left, and at most 4096 bytes are
pub record IsHungry (left : List ℕ) : Type 0 where
  pub one : is_one_line left ≡ true
  pub short : length left ≤ 4096

-- the answer whether more bytes are wanted
abbrev pub TellsHungry : Bool → List ℕ → Type 0
TellsHungry true left = IsHungry left
TellsHungry false left = IsHungry left → ⊥

-- the first 4097 bytes have no line feed
pub record IsTooLong (left : List ℕ) : Type 0 where
  pub long : 4096 < length left
  pub one : is_one_line (take 4097 left) ≡ true

-- a cutter that gives no line has no text, and is otherwise as it was
abbrev pub without_text : Held → Held
without_text held = record { text = []; left = held.left; line = held.line }

-- what a call answers, by the bytes that are left
abbrev pub Answers : Held → Held → Next → Type 0
Answers old new Line = (line : List ℕ) × GivesLine old new line
Answers old new None = IsHungry old.left × (new ≡ without_text old)
Answers old new (TooLong line) = IsTooLong old.left × (line ≡ old.line + 1) × (new ≡ without_text old)

-- all bytes fed, and the texts of the lines given, the newest first
pub record Past : Type 0 where
  pub fed : List ℕ
  pub given : List (List ℕ)

-- no line is longer than 4096 bytes
abbrev pub AreShort : List (List ℕ) → Type 0
AreShort [] = Unit {0}
AreShort (line ∷ before) = (length line ≤ 4096) × AreShort before

-- these are the lines given, with the carriage returns at their ends
pub record HasGiven (held : Held) (past : Past) (lines : List (List ℕ)) : Type 0 where
  pub cut : IsCut past.fed lines held.left
  pub texts : past.given ≡ map without_cr lines
  pub short : AreShort lines
  pub counted : held.line ≡ length lines

-- what a cutter holds stands for a past: the bytes fed are the lines given and what is left
abbrev pub StandsFor : Held → Past → Type 0
StandsFor held past = (lines : List (List ℕ)) × HasGiven held past lines

-- the past before anything
abbrev pub nothing : Past
nothing = record { fed = []; given = [] }

-- the past with more bytes fed
abbrev pub with_fed : Past → List ℕ → Past
with_fed past piece = record { fed = past.fed ++ piece; given = past.given }

-- the past with an answer: a line that was given
abbrev pub with_answer : Past → Next → List ℕ → Past
with_answer past Line text = record { fed = past.fed; given = text ∷ past.given }
with_answer past None text = past
with_answer past (TooLong line) text = past
