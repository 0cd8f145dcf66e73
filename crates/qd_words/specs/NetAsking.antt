-- What words ask of a server: `post ADDR [FILE]`, or `dump ADDR COLLECTOR WANT.. --count N`.
use Rattle.std.specs.Prelude.{ℕ, ◌<◌, ◌-◌, ◌^◌, ◌==◌, ◌||◌, ◌&&◌, if◌then◌else◌, Bool, true, false, List, [], ◌∷◌, map, codes, Option, Some, None, option_map, is_some}
use Rattle.std.specs.Result.{result_ok}
use Rattle.qd_scheme.specs.Symbols.{symbol_of}
use Rattle.qd_grammar.specs.declared.item.Collector.{Collector}
use Rattle.qd_grammar.specs.declared.item.Collector.TheVariants as collectors
use Rattle.qd_grammar.specs.Canonical.{collector_text}
use Rattle.qd_words.specs.declared.net_ask.NetCommand.{NetCommand}
use Rattle.qd_words.specs.declared.net_ask.NetCommand.TheVariants as commands
use Rattle.qd_words.specs.declared.net_ask.NetAsk.{NetAsk}
use Rattle.qd_words.specs.declared.net_ask.NetAsk.TheVariants as asks
use Rattle.qd_words.specs.declared.net_ask.PostAsk.{PostAsk}
use Rattle.qd_words.specs.declared.net_ask.DumpAsk.{DumpAsk}
use Rattle.qd_words.specs.declared.net_ask.WantAsk.{WantAsk}
use Rattle.qd_words.specs.declared.net_reading.DumpValues.{DumpValues}
use Rattle.qd_words.specs.Words.{same_text, before_byte, behind_byte, Argument, arguments}
use Rattle.qd_words.specs.Words.Argument.{Named, Positional}
use Rattle.qd_words.specs.Asking.{◌>>=◌, values_of, positional, at_most_one, file_of, count_in}

-- a server's address, the file that it is sent, where that is not standard input, and the scheme file
pub record Posted : Type 0 where
  pub addr : List ℕ
  pub file : Option (List ℕ)
  pub scheme : Option (List ℕ)

-- the name of a record, and a symbol
pub record Wanted : Type 0 where
  pub name : List ℕ
  pub symbol : List ℕ

-- a server's address, a collector, what is wanted of it, how many items are awaited, the limit of each subscription to a history, and the scheme file
pub record Dumped : Type 0 where
  pub addr : List ℕ
  pub collector : Collector
  pub wants : List Wanted
  pub count : ℕ
  pub limit : ℕ
  pub scheme : Option (List ℕ)

-- how many items are awaited, the limit, and the scheme file
pub record ShownValues : Type 0 where
  pub count : ℕ
  pub limit : ℕ
  pub scheme : Option (List ℕ)

pub data NetAsked : Type 0 where
  Post : Posted → NetAsked
  Dump : Dumped → NetAsked

-- the command that a word names
abbrev pub net_command_of : List ℕ → Option NetCommand
net_command_of word =
    if same_text word (codes "post") then Some commands.Post else
    if same_text word (codes "dump") then Some commands.Dump else
    None

-- the first word names a command that speaks with a server
abbrev pub is_net : List (List ℕ) → Bool
is_net [] = false
is_net (word ∷ words) = is_some (net_command_of word)

-- a command takes the option of this name
abbrev pub takes : NetCommand → List ℕ → Bool
takes commands.Post name = same_text name (codes "--scheme")
takes commands.Dump name = same_text name (codes "--scheme") || same_text name (codes "--count") || same_text name (codes "--limit")

-- it takes each option that is given
abbrev pub takes_all : NetCommand → List Argument → Bool
takes_all command [] = true
takes_all command (Named name value ∷ more) = takes command name && takes_all command more
takes_all command (Positional word ∷ more) = takes_all command more

-- the collector that a word names
abbrev pub collector_of : List ℕ → Option Collector
collector_of word =
    if same_text word (collector_text collectors.Ticker) then Some collectors.Ticker else
    if same_text word (collector_text collectors.Stream) then Some collectors.Stream else
    if same_text word (collector_text collectors.History) then Some collectors.History else
    None

-- a want, cut at its first `/`
abbrev pub want_of : List ℕ → Option Wanted
want_of word = do
  text ← behind_byte 47 word
  symbol ← result_ok (symbol_of text)
  Some (record { name = before_byte 47 word; symbol = symbol })

-- each word as a want
abbrev pub wants_of : List (List ℕ) → Option (List Wanted)
wants_of [] = Some []
wants_of (word ∷ words) = want_of word >>= λ want. option_map (λ wants. want ∷ wants) (wants_of words)

-- at least one
abbrev pub some_wants : List (List ℕ) → Option (List Wanted)
some_wants [] = None
some_wants (word ∷ words) = wants_of (word ∷ words)

-- a number below 2^63
abbrev pub number_of : List ℕ → Option ℕ
number_of word = count_in (2 ^ 63 - 1) word

-- how many items are awaited: at least one, and it has to be said
abbrev pub awaited : Option (List ℕ) → Option ℕ
awaited None = None
awaited (Some word) = number_of word >>= λ count. if count == 0 then None else Some count

-- the limit, 0 where it is not said
abbrev pub limit_of : Option (List ℕ) → Option ℕ
limit_of None = Some 0
limit_of (Some word) = number_of word

-- the value that arguments give an option, where they give it one at most
abbrev pub value_for : List ℕ → List Argument → Option (Option (List ℕ))
value_for name arguments = at_most_one (values_of name arguments)

-- an address, and perhaps a file, with these options
abbrev pub post_of : List Argument → List (List ℕ) → Option Posted
post_of arguments [] = None
post_of arguments (addr ∷ []) = option_map (λ scheme. record { addr = addr; file = None; scheme = scheme }) (value_for (codes "--scheme") arguments)
post_of arguments (addr ∷ file ∷ []) = option_map (λ scheme. record { addr = addr; file = file_of (Some file); scheme = scheme }) (value_for (codes "--scheme") arguments)
post_of arguments (addr ∷ file ∷ word ∷ words) = None

-- the values of the options of `dump`
abbrev pub dump_values : List Argument → Option ShownValues
dump_values arguments = do
  scheme ← value_for (codes "--scheme") arguments
  counted ← value_for (codes "--count") arguments
  count ← awaited counted
  limited ← value_for (codes "--limit") arguments
  limit ← limit_of limited
  Some (record { count = count; limit = limit; scheme = scheme })

abbrev pub dump_with : List ℕ → Collector → ShownValues → List Wanted → Dumped
dump_with addr collector values wants = record { addr = addr; collector = collector; wants = wants; count = values.count; limit = values.limit; scheme = values.scheme }

-- an address, a collector and wants, with these options
abbrev pub dump_of : List Argument → List (List ℕ) → Option Dumped
dump_of arguments [] = None
dump_of arguments (addr ∷ []) = None
dump_of arguments (addr ∷ word ∷ words) = do
  collector ← collector_of word
  values ← dump_values arguments
  option_map (dump_with addr collector values) (some_wants words)

abbrev pub command_by : NetCommand → List Argument → List (List ℕ) → Option NetAsked
command_by commands.Post arguments words = option_map Post (post_of arguments words)
command_by commands.Dump arguments words = option_map Dump (dump_of arguments words)

-- what arguments ask of a command
abbrev pub net_asked_by : NetCommand → List Argument → Option NetAsked
net_asked_by command arguments = if takes_all command arguments then command_by command arguments (positional arguments) else None

-- what words ask for: the first names the command; none where a word, an option, a number or a count of words is not known
unfoldable pub asks_net : List (List ℕ) → Option NetAsked
asks_net [] = None
asks_net (word ∷ words) = net_command_of word >>= λ command. arguments words >>= net_asked_by command

-- values of the code as what is asked
abbrev pub wanted : WantAsk → Wanted
wanted w = record { name = w.name.now; symbol = w.symbol }

abbrev pub shown_values : DumpValues → ShownValues
shown_values v = record { count = v.count; limit = v.limit; scheme = option_map (λ s. s.now) v.scheme }

abbrev pub posted : PostAsk → Posted
posted a = record { addr = a.addr.now; file = option_map (λ s. s.now) a.file; scheme = option_map (λ s. s.now) a.scheme }

abbrev pub dumped : DumpAsk → Dumped
dumped a = record { addr = a.addr.now; collector = a.collector; wants = map wanted a.wants.items; count = a.count; limit = a.limit; scheme = option_map (λ s. s.now) a.scheme }

abbrev pub net_asked : NetAsk → NetAsked
net_asked (asks.Post a) = Post (posted a)
net_asked (asks.Dump a) = Dump (dumped a)

-- an item at least is awaited
abbrev pub HasCount : NetAsk → Type 0
HasCount (asks.Post a) = Unit {0}
HasCount (asks.Dump a) = 0 < a.count
