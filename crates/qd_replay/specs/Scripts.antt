-- What a script is: where it stands between two items, and what each item asks for and prints.
use Rattle.std.specs.Prelude.{ℕ, ◌≡◌, nat_eq, nat_lt, Bool, true, false, not, ◌||◌, if◌then◌else◌, List, [], ◌∷◌, ◌++◌, map}
use Rattle.qd_grammar.specs.declared.item.Collector.{Collector}
use Rattle.qd_grammar.specs.declared.item.Item.{Item}
use Rattle.qd_grammar.specs.declared.item.Item.TheVariants as items
use Rattle.qd_items.specs.Judging.{Numbered, is_end}
use Rattle.qd_path.specs.declared.call.Asked.{Asked}
use Rattle.qd_path.specs.Calls.{Place, beginning, calls_with, after as place_after}

-- what is to be done: a call is made; the line of an item is printed; or a collector is asked for at most so many items for a
-- link, and they are printed
pub data Act : Type 0 where
  Ask : Asked → Act
  Say : Item → Act
  Give : Collector → ℕ → ℕ → Act

-- where a script stands: its current message with the open group, and its current link
pub record Script : Type 0 where
  pub place : Place
  pub link : ℕ

abbrev pub start : Script
start = record { place = beginning; link = 0 }

-- a TAKE asks for 1 to 4096 items
abbrev pub is_taking : ℕ → Bool
is_taking n = not (nat_eq n 0 || nat_lt 4096 n)

-- the items at which a script stops: a link above 127, a TAKE of none or of more than 4096, and what belongs to a tree
abbrev pub is_bad : Item → Bool
is_bad (items.Link n) = nat_lt 127 n
is_bad (items.Take c n) = not (is_taking n)
is_bad (items.Node n m) = true
is_bad (items.At n m) = true
is_bad (items.Pump n) = true
is_bad (items.Move n w b) = true
is_bad _ = false

-- what an item does itself, behind the calls of the group that it ends
abbrev pub own_acts : ℕ → Item → List Act
own_acts link items.Protocol = Say items.Protocol ∷ []
own_acts link items.End = Say items.End ∷ []
own_acts link (items.Take c n) = if is_taking n then Give c link n ∷ [] else []
own_acts link _ = []

-- the link behind an item
abbrev pub link_after : Item → ℕ → ℕ
link_after (items.Link n) link = n
link_after _ link = link

-- where an item leads
abbrev pub after : Item → Script → Script
after item s = record { place = place_after item s.place; link = link_after item s.link }

-- what an item leads to on n stripes, in order: the calls of the group that it ends, and what it does itself
abbrev pub acts_with : ℕ → Item → Script → List Act
acts_with n item s = map Ask (calls_with n s.link item s.place) ++ own_acts s.link item

-- where items lead, the newest first
abbrev pub script_of : List Numbered → Script
script_of [] = start
script_of (x ∷ before) = after x.item (script_of before)

-- all that items lead to, in order; the items stand with the newest first
abbrev pub acts_of : ℕ → List Numbered → List Act
acts_of n [] = []
acts_of n (x ∷ before) = acts_of n before ++ acts_with n x.item (script_of before)

-- the script goes on behind an item
abbrev pub goes_on : Item → Bool
goes_on item = not (is_end item || is_bad item)

-- the script goes on behind each of these items
abbrev pub AreOpen : List Numbered → Type 0
AreOpen [] = Unit {0}
AreOpen (x ∷ before) = (goes_on x.item ≡ true) × AreOpen before
