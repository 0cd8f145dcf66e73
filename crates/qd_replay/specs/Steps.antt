-- What each part of a step does.
use Rattle.std.specs.Prelude.{ℕ, ◌≡◌, ◌<◌, ◌⊎◌, Bool, true, false, Option, Some, None, List, [], ◌∷◌, ◌++◌, map}
use Rattle.qd_grammar.specs.declared.item.Collector.{Collector}
use Rattle.qd_grammar.specs.declared.item.Item.{Item}
use Rattle.qd_items.specs.declared.ends.RunEnd.{RunEnd}
use Rattle.qd_items.specs.declared.ends.RunEnd.TheVariants.{Done, BadStep, Refused, WriteFault, Spent, NoMemory}
use Rattle.qd_items.specs.Judging.{is_end}
use Rattle.qd_outside.specs.Causes.{Rose}
use Rattle.qd_outside.specs.Writing.{Gained, IsCutShort}
use Rattle.qd_calls.specs.Dues.{TellsLimit, TellsSpent, TellsWant}
use Rattle.qd_path.specs.declared.call.Asked.{Asked}
use Rattle.qd_path.specs.declared.kind.Kind.TheVariants.{Body}
use Rattle.qd_path.specs.Calls.{calls_with, after as place_after}
use Rattle.qd_path.specs.Groups.{size, kind_of}
use Rattle.qd_path.specs.Lists.{Lists, GrewBy}
use Rattle.qd_path.specs.Made.{Made, asked_in, AreDone}
use Rattle.qd_replay.specs.declared.due.Refusal.{Refusal}
use Rattle.qd_replay.specs.declared.due.Refusal.TheVariants as refusals
use Rattle.qd_replay.specs.Running.{Ran, IsRefusal}
use Rattle.qd_replay.specs.Scripts.{Script, Act, after, acts_with, own_acts, goes_on, is_bad, link_after}
use Rattle.qd_replay.specs.Scripts.Act.{Ask, Give}
use Rattle.qd_replay.specs.Settings.{Setting}

-- the first of the calls that are due was made, and the rest are due; this is so of its reply
pub record MadeFirst (n : ℕ) (due rest : List Asked) (Told : Made → Type 0) (l m : Lists) : Type 0 where
  pub call : Made
  pub due_is : due ≡ asked_in call ∷ rest
  pub grew : GrewBy n (call ∷ []) l m
  pub told : Told call

-- the first of the calls that are due was made, and granted or refused
abbrev pub MakesFirst : ℕ → List Asked → List Asked → Option Refusal → Lists → Lists → Type 0
MakesFirst n due rest None l m = MadeFirst n due rest (λ x. AreDone (x ∷ [])) l m
MakesFirst n due rest (Some refusal) l m = MadeFirst n due rest (IsRefusal refusal) l m

-- of the calls that were due all but the rest were made, and granted
pub record MadeSome (n : ℕ) (due rest : List Asked) (l m : Lists) : Type 0 where
  pub made : List Made
  pub due_is : due ≡ map asked_in made ++ rest
  pub done : AreDone made
  pub grew : GrewBy n made l m

-- calls were made up to one that was refused
pub record MadeUpTo (n : ℕ) (due : List Asked) (refusal : Refusal) (l m : Lists) : Type 0 where
  pub made : List Made
  pub last : Made
  pub rest : List Asked
  pub due_is : due ≡ map asked_in made ++ asked_in last ∷ rest
  pub done : AreDone made
  pub refused : IsRefusal refusal last
  pub grew : GrewBy n (made ++ last ∷ []) l m

-- all calls that were due were made and granted, or one was refused
abbrev pub MakesAll : ℕ → List Asked → Option Refusal → Lists → Lists → Type 0
MakesAll n due None l m = MadeSome n due [] l m
MakesAll n due (Some refusal) l m = MadeUpTo n due refusal l m

-- why of the calls of an item those of `later` were not granted: the first of them was refused, or memory was wanted, for a
-- body line, for the calls of a group that has lines, or by the reply
abbrev pub WhyRefused : Refusal → Item → Script → List Asked → List Made → Type 0
WhyRefused refusals.NoMemory item s later refused =
    ((refused ≡ []) × ((kind_of item ≡ Body) ⊎ (0 < size s.place.group))) ⊎ ((x : Made) × (more : List Asked) × (later ≡ asked_in x ∷ more) × (refused ≡ x ∷ []) × TellsWant x)
WhyRefused refusal item s later refused = (x : Made) × (more : List Asked) × (later ≡ asked_in x ∷ more) × (refused ≡ x ∷ []) × IsRefusal refusal x

-- the calls of the group that an item ends, some of which were not granted
pub record CallsHalt (n : ℕ) (refusal : Refusal) (item : Item) (s : Script) (l m : Lists) : Type 0 where
  pub made : List Made
  pub later : List Asked
  pub refused : List Made
  pub calls_are : calls_with n s.link item s.place ≡ map asked_in made ++ later
  pub done : AreDone made
  pub grew : GrewBy n (made ++ refused) l m
  pub why : WhyRefused refusal item s later refused

-- the calls of the group that an item ends were made
abbrev pub Calls : ℕ → Item → Option Refusal → Script → Script → Lists → Lists → Type 0
Calls n item None s t l m = (t ≡ record { place = place_after item s.place; link = s.link }) × MadeSome n (calls_with n s.link item s.place) [] l m
Calls n item (Some refusal) s t l m = CallsHalt n refusal item s l m

-- the end of a run at a line that ends a group whose call was refused
abbrev pub ended_by : ℕ → Refusal → RunEnd
ended_by line (refusals.TooMany limit) = Refused line limit
ended_by line refusals.Spent = Spent
ended_by line refusals.NoMemory = NoMemory

-- what a sink tells
pub record Sunk : Type 0 where
  pub written : Option (List ℕ)
  pub faults : ℕ

-- since the sink was as it was at `o`, this was printed: a first part is written, and the rest is held back
pub record IsShown (o w : Sunk) (out held : List ℕ) : Type 0 where
  pub part : List ℕ
  pub gained : Gained o.written w.written part
  pub whole : out ≡ part ++ held
  pub same : w.faults ≡ o.faults

abbrev pub is_write_fault : RunEnd → Bool
is_write_fault WriteFault = true
is_write_fault _ = false

-- a write failed on the way; or what was printed is written but for what is held back
abbrev pub ToldBy : Bool → Sunk → Sunk → List ℕ → List ℕ → Type 0
ToldBy true o w out held = IsCutShort out o.written w.written o.faults w.faults
ToldBy false o w out held = IsShown o w out held

-- since the sink and the lists were as they were at `o` and `l`, these acts were done
pub record IsAt (set : Setting) (o : Sunk) (l : Lists) (done : List Act) (m : Lists) (held : List ℕ) (w : Sunk) : Type 0 where
  pub made : List Made
  pub out : List ℕ
  pub ran : Ran set.stripes set.defs done made out
  pub grew : GrewBy set.stripes made l m
  pub shown : IsShown o w out held

-- memory was wanted: for a body line, for the calls of a group that has lines, by the reply of the call that comes next, or
-- for what a TAKE is given in
abbrev pub WantsMemory : Item → Script → List Act → List Made → Type 0
WantsMemory item s later refused =
    ((refused ≡ []) × ((kind_of item ≡ Body) ⊎ (0 < size s.place.group)))
    ⊎ (((x : Made) × (more : List Act) × (later ≡ Ask (asked_in x) ∷ more) × (refused ≡ x ∷ []) × TellsWant x)
    ⊎ ((c : Collector) × (link : ℕ) × (max : ℕ) × (later ≡ Give c link max ∷ []) × (refused ≡ [])))

-- why an item ends a run, where of what it leads to the acts `later` were not done
abbrev pub Stops : RunEnd → Script → Item → ℕ → List Act → List Made → ℕ → ℕ → Type 0
Stops Done s item line later refused before after = (is_end item ≡ true) × (later ≡ []) × (refused ≡ [])
Stops (BadStep n) s item line later refused before after = (is_bad item ≡ true) × (n ≡ line) × (later ≡ []) × (refused ≡ [])
Stops (Refused n limit) s item line later refused before after =
    (n ≡ line) × (x : Made) × (more : List Act) × (later ≡ Ask (asked_in x) ∷ more) × (refused ≡ x ∷ []) × TellsLimit limit x
Stops Spent s item line later refused before after = (x : Made) × (more : List Act) × (later ≡ Ask (asked_in x) ∷ more) × (refused ≡ x ∷ []) × TellsSpent x
Stops WriteFault s item line later refused before after = Rose before after × (later ≡ []) × (refused ≡ [])
Stops NoMemory s item line later refused before after = WantsMemory item s later refused
Stops _ s item line later refused before after = ⊥

-- a run ended at an item that leads to these acts: of these the acts `now` were done, and the acts `later` were not; beside the
-- calls of what was done one may have been made, which was refused
pub record IsHalted (set : Setting) (end : RunEnd) (s : Script) (item : Item) (line : ℕ) (acts : List Act) (o : Sunk) (l : Lists) (done : List Act) (m : Lists) (held : List ℕ) (w : Sunk) : Type 0 where
  pub now : List Act
  pub later : List Act
  pub acts_are : acts ≡ now ++ later
  pub made : List Made
  pub refused : List Made
  pub out : List ℕ
  pub ran : Ran set.stripes set.defs (done ++ now) made out
  pub grew : GrewBy set.stripes (made ++ refused) l m
  pub told : ToldBy (is_write_fault end) o w out held
  pub cause : Stops end s item line later refused o.faults w.faults

-- an engine's state: where its script stands, and what it holds back
pub record Kept : Type 0 where
  pub script : Script
  pub held : List ℕ

-- the run went on, with these acts done
abbrev pub WentOn : Setting → List Act → List ℕ → Lists → Sunk → List ℕ → Lists → Sunk → Type 0
WentOn set acts held l w new m v = (o : Sunk) (from : Lists) (done : List Act) → IsAt set o from done l held w → IsAt set o from (done ++ acts) m new v

-- the run ended
abbrev pub Halts : Setting → RunEnd → Script → Item → ℕ → List Act → List ℕ → Lists → Sunk → List ℕ → Lists → Sunk → Type 0
Halts set end s item line acts held l w new m v =
    (o : Sunk) (from : Lists) (done : List Act) → IsAt set o from done l held w → IsHalted set end s item line acts o from done m new v

-- an item was heard
abbrev pub Hears : Setting → Item → ℕ → Option RunEnd → Kept → Lists → Sunk → Kept → Lists → Sunk → Type 0
Hears set item line None e l w f m v = (f.script ≡ after item e.script) × (goes_on item ≡ true) × WentOn set (acts_with set.stripes item e.script) e.held l w f.held m v
Hears set item line (Some end) e l w f m v = Halts set end e.script item line (acts_with set.stripes item e.script) e.held l w f.held m v

-- an item did what it does itself, behind the calls of the group that it ends; `s` is where the script stood before it
abbrev pub ActsItself : Setting → Item → ℕ → Option RunEnd → Script → Kept → Lists → Sunk → Kept → Lists → Sunk → Type 0
ActsItself set item line None s e l w f m v =
    (f.script.place ≡ e.script.place) × (f.script.link ≡ link_after item e.script.link) × (goes_on item ≡ true) × WentOn set (own_acts e.script.link item) e.held l w f.held m v
ActsItself set item line (Some end) s e l w f m v = Halts set end s item line (own_acts e.script.link item) e.held l w f.held m v

-- a collector was asked for at most so many items for a link, and they were printed; or a write failed, or there was no memory
-- for what they are given in
abbrev pub Given : Setting → Collector → ℕ → ℕ → Option RunEnd → List ℕ → Lists → Sunk → List ℕ → Lists → Sunk → Type 0
Given set c link max None held l w new m v = WentOn set (Give c link max ∷ []) held l w new m v
Given set c link max (Some end) held l w new m v = (s : Script) (item : Item) (line : ℕ) → Halts set end s item line (Give c link max ∷ []) held l w new m v
