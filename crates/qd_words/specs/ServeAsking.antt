-- What words ask of a server of one's own: `serve ADDR --links N`.
use Rattle.std.specs.Prelude.{ℕ, ◌≤◌, ◌==◌, ◌||◌, ◌&&◌, if◌then◌else◌, Bool, true, List, [], ◌∷◌, codes, Option, Some, None, option_map}
use Rattle.qd_scheme.specs.Stripes.{IsStripeCount}
use Rattle.qd_words.specs.declared.ask.Command.TheVariants.{Replay}
use Rattle.qd_words.specs.declared.serve_ask.ServeAsk.{ServeAsk}
use Rattle.qd_words.specs.declared.serve_reading.ServeValues.{ServeValues}
use Rattle.qd_words.specs.Words.{same_text, Argument, arguments}
use Rattle.qd_words.specs.Words.Argument.{Named, Positional}
use Rattle.qd_words.specs.Asking.{◌>>=◌, IsSize, positional, count_in, size_for, stripes_for}
use Rattle.qd_words.specs.NetAsking.{value_for}

-- the options of a server: how many links, the address of the server above, where there is one, the sizes of the hub, and the scheme file
pub record ServedWith : Type 0 where
  pub links : ℕ
  pub up : Option (List ℕ)
  pub stripes : ℕ
  pub cap : ℕ
  pub hcap : ℕ
  pub scheme : Option (List ℕ)

-- the address at which it listens, and its options
pub record Served : Type 0 where
  pub addr : List ℕ
  pub values : ServedWith

-- it takes the option of this name
abbrev pub serve_takes : List ℕ → Bool
serve_takes name =
    same_text name (codes "--links") || same_text name (codes "--up") || same_text name (codes "--stripes") || same_text name (codes "--cap") || same_text name (codes "--hcap") || same_text name (codes "--scheme")

-- it takes each option that is given
abbrev pub serve_takes_all : List Argument → Bool
serve_takes_all [] = true
serve_takes_all (Named name value ∷ more) = serve_takes name && serve_takes_all more
serve_takes_all (Positional word ∷ more) = serve_takes_all more

-- how many links are served: 1 to 128, and it has to be said
abbrev pub links_of : Option (List ℕ) → Option ℕ
links_of None = None
links_of (Some word) = count_in 128 word >>= λ links. if links == 0 then None else Some links

-- the values of the options; the sizes of the hub are as in a script
abbrev pub serve_values : List Argument → Option ServedWith
serve_values arguments = do
  linked ← value_for (codes "--links") arguments
  links ← links_of linked
  up ← value_for (codes "--up") arguments
  striped ← value_for (codes "--stripes") arguments
  stripes ← stripes_for Replay striped
  waiting ← value_for (codes "--cap") arguments
  cap ← size_for Replay waiting
  owed ← value_for (codes "--hcap") arguments
  hcap ← size_for Replay owed
  scheme ← value_for (codes "--scheme") arguments
  Some (record { links = links; up = up; stripes = stripes; cap = cap; hcap = hcap; scheme = scheme })

-- one address, with these options
abbrev pub serve_of : List Argument → List (List ℕ) → Option Served
serve_of arguments [] = None
serve_of arguments (addr ∷ []) = option_map (λ values. record { addr = addr; values = values }) (serve_values arguments)
serve_of arguments (addr ∷ word ∷ words) = None

-- what arguments ask of it
abbrev pub served_by : List Argument → Option Served
served_by arguments = if serve_takes_all arguments then serve_of arguments (positional arguments) else None

-- what words ask for: the first one is `serve`
unfoldable pub asks_serve : List (List ℕ) → Option Served
asks_serve [] = None
asks_serve (word ∷ words) = if same_text word (codes "serve") then arguments words >>= served_by else None

-- values of the code as what is asked
abbrev pub served_with : ServeValues → ServedWith
served_with v = record { links = v.links; up = option_map (λ s. s.now) v.up; stripes = v.stripes; cap = v.cap; hcap = v.hcap; scheme = option_map (λ s. s.now) v.scheme }

abbrev pub served : ServeAsk → Served
served a = record { addr = a.addr.now; values = record { links = a.links; up = option_map (λ s. s.now) a.up; stripes = a.stripes; cap = a.cap; hcap = a.hcap; scheme = option_map (λ s. s.now) a.scheme } }

-- the numbers of what is asked are within their limits
pub record HasLimits (links stripes cap hcap : ℕ) : Type 0 where
  pub some : 1 ≤ links
  pub few : links ≤ 128
  pub striped : IsStripeCount stripes
  pub waiting : IsSize cap
  pub owed : IsSize hcap
