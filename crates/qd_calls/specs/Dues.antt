-- Calls that are due, and what becomes of one that is made.
use Rattle.std.specs.Prelude.{ℕ, ◌≡◌, ◌<◌, Bool, true, false, [], ◌∷◌}
use Rattle.qd_gate.specs.declared.machine.Terms.{Terms}
use Rattle.qd_sub.specs.declared.op.Reply.{Reply}
use Rattle.qd_sub.specs.declared.op.Reply.TheVariants as replies
use Rattle.qd_ticker.specs.Asking as ticker
use Rattle.qd_stream.specs.Asking as stream
use Rattle.qd_stream.specs.Items.{key_of_item}
use Rattle.qd_hist_rules.specs.Asking as history
use Rattle.qd_hist_rules.specs.declared.reply.HistoryReply.{HistoryReply}
use Rattle.qd_hist_rules.specs.declared.reply.HistoryReply.TheVariants as events
use Rattle.qd_hub.specs.Hubs.{IsOfStripe}
use Rattle.qd_grammar.specs.declared.item.Collector.{Collector}
use Rattle.qd_grammar.specs.declared.item.Collector.TheVariants as collectors
use Rattle.qd_items.specs.declared.ends.Limit.{Limit}
use Rattle.qd_items.specs.declared.ends.Limit.TheVariants.{TooManyKeys, TooManySubs, HistoryFull}
use Rattle.qd_path.specs.declared.call.Asked.{Asked}
use Rattle.qd_path.specs.declared.call.Call.{Call}
use Rattle.qd_path.specs.declared.call.Call.TheVariants as calls
use Rattle.qd_path.specs.Lists.{Lists, GrewBy, IsBusyAt, IsSpentAt}
use Rattle.qd_path.specs.Made.{Made, asked_in, IsDone}
use Rattle.qd_calls.specs.declared.due.Reaction.{Reaction}
use Rattle.qd_calls.specs.declared.due.Reaction.TheVariants.{Done, TooMany, Spent, Full, NoMemory, Busy}

-- a hub of n stripes may be asked the call
abbrev pub IsDueOf : ℕ → ℕ → Call → Type 0
IsDueOf n stripe (calls.Ticker op) = (stripe < n) × ((terms : Terms) → ticker.MayAsk terms op) × IsOfStripe (λ r. r.key) n stripe op
IsDueOf n stripe (calls.Stream op) = (stripe < n) × ((terms : Terms) → stream.MayAsk terms op) × IsOfStripe key_of_item n stripe op
IsDueOf n stripe (calls.History op) = (stripe < n) × ((terms : Terms) → history.MayAsk terms op) × IsOfStripe (λ e. e.key) n stripe op

abbrev pub IsDue : ℕ → Asked → Type 0
IsDue n a = IsDueOf n a.stripe a.call

-- the collector that a call asks
abbrev pub collector_of : Call → Collector
collector_of (calls.Ticker op) = collectors.Ticker
collector_of (calls.Stream op) = collectors.Stream
collector_of (calls.History op) = collectors.History

-- the reply tells of a limit
abbrev pub TellsLimit : Limit → Made → Type 0
TellsLimit TooManyKeys (Made.Ticker i op reply) = reply ≡ replies.TooManyKeys
TellsLimit TooManySubs (Made.Ticker i op reply) = reply ≡ replies.TooManySubs
TellsLimit HistoryFull (Made.Ticker i op reply) = ⊥
TellsLimit TooManyKeys (Made.Stream i op reply) = reply ≡ replies.TooManyKeys
TellsLimit TooManySubs (Made.Stream i op reply) = reply ≡ replies.TooManySubs
TellsLimit HistoryFull (Made.Stream i op reply) = ⊥
TellsLimit TooManyKeys (Made.History i op reply) = reply ≡ events.TooManyKeys
TellsLimit TooManySubs (Made.History i op reply) = reply ≡ events.TooManySubs
TellsLimit HistoryFull (Made.History i op reply) = reply ≡ events.HistoryFull

-- the reply tells that a count stands at its end
abbrev pub TellsSpent : Made → Type 0
TellsSpent (Made.Ticker i op reply) = ⊥
TellsSpent (Made.Stream i op reply) = ⊥
TellsSpent (Made.History i op reply) = reply ≡ events.Spent

-- the reply grants a call, or tells why not
abbrev pub is_told : {T : Type 0} → Reply T → Bool
is_told replies.Done = true
is_told replies.TooManyKeys = true
is_told replies.TooManySubs = true
is_told _ = false

abbrev pub is_told_event : HistoryReply → Bool
is_told_event events.Done = true
is_told_event events.TooManyKeys = true
is_told_event events.TooManySubs = true
is_told_event events.HistoryFull = true
is_told_event events.Spent = true
is_told_event _ = false

-- memory was wanted: the reply neither grants the call nor tells why not
abbrev pub TellsWant : Made → Type 0
TellsWant (Made.Ticker i op reply) = is_told reply ≡ false
TellsWant (Made.Stream i op reply) = is_told reply ≡ false
TellsWant (Made.History i op reply) = is_told_event reply ≡ false

-- a reply to a call that wants nothing but to be granted
abbrev pub Grants : {T : Type 0} → Reply T → Reaction → Type 0
Grants reply Done = reply ≡ replies.Done
Grants reply (TooMany TooManyKeys) = reply ≡ replies.TooManyKeys
Grants reply (TooMany TooManySubs) = reply ≡ replies.TooManySubs
Grants reply NoMemory = is_told reply ≡ false
Grants reply _ = ⊥

abbrev pub GrantsEvent : HistoryReply → Reaction → Type 0
GrantsEvent reply Done = reply ≡ events.Done
GrantsEvent reply (TooMany TooManyKeys) = reply ≡ events.TooManyKeys
GrantsEvent reply (TooMany TooManySubs) = reply ≡ events.TooManySubs
GrantsEvent reply (TooMany HistoryFull) = reply ≡ events.HistoryFull
GrantsEvent reply Full = reply ≡ events.Spent
GrantsEvent reply NoMemory = is_told_event reply ≡ false
GrantsEvent reply _ = ⊥

-- the call was made, and this is so of its reply
pub record WasMade (n : ℕ) (a : Asked) (Told : Made → Type 0) (l m : Lists) : Type 0 where
  pub call : Made
  pub asked : asked_in call ≡ a
  pub grew : GrewBy n (call ∷ []) l m
  pub told : Told call

-- what became of a call: granted; refused for a limit, or since a count stands at its end, or for want of memory; or not made
abbrev pub Reacts : ℕ → Asked → Reaction → Lists → Lists → Type 0
Reacts n a Done l m = WasMade n a IsDone l m
Reacts n a (TooMany limit) l m = WasMade n a (TellsLimit limit) l m
Reacts n a Full l m = WasMade n a TellsSpent l m
Reacts n a NoMemory l m = WasMade n a TellsWant l m
Reacts n a Spent l m = GrewBy n [] l m × IsSpentAt (collector_of a.call) a.stripe l m
Reacts n a (Busy first found back) l m = GrewBy n [] l m × IsBusyAt (collector_of a.call) a.stripe first found l m

-- a call was made
abbrev pub IsMade : Reaction → Type 0
IsMade Spent = ⊥
IsMade (Busy first found back) = ⊥
IsMade _ = Unit {0}

-- a call that was not made comes back
abbrev pub ComesBack : Asked → Reaction → Type 0
ComesBack a (Busy first found back) = back ≡ a
ComesBack a _ = Unit {0}
