-- What a hub stands for, and what a call of it does.
use Rattle.std.specs.Prelude.{◌≡◌, ◌≢◌, ◌⊎◌, ℕ, ◌<◌, List, [], ◌∷◌, ◌++◌, map, All, Result, IfOk}
use Rattle.atomic_table.specs.Seated.{TableId}
use Rattle.qd_scheme.specs.declared.key.Key.{Key}
use Rattle.qd_scheme.specs.Stripes.{stripe_of}
use Rattle.qd_gate.specs.declared.machine.Entry.{Entry}
use Rattle.qd_gate.specs.declared.machine.Terms.{Terms}
use Rattle.qd_gate.specs.declared.gate.NoTurn.{NoTurn}
use Rattle.qd_gate.specs.declared.gate.NoTurn.TheVariants.{Busy, Spent}
use Rattle.qd_gate.specs.Passes.{Pass}
use Rattle.qd_row.specs.Passes.{IsSound}
use Rattle.qd_row.specs.Rows.{Turns}
use Rattle.qd_scheme.specs.declared.key.Record.{Record}
use Rattle.qd_sub.specs.declared.op.Op.{Op}
use Rattle.qd_sub.specs.declared.op.Reply.{Reply}
use Rattle.qd_stream.specs.Legal.{StreamOp, StreamReply}
use Rattle.qd_hist_rules.specs.Legal.{HistoryOp}
use Rattle.qd_hist_rules.specs.declared.reply.HistoryReply.{HistoryReply}
use Rattle.qd_sub.specs.declared.op.Op.TheVariants.{Add, Remove, Close, Put, Take, Watch}

-- what a hub stands for on one stripe of a collector
abbrev pub TickerPass : Type 0
TickerPass = Pass (Op Record Record) (Reply Record)

abbrev pub StreamPass : Type 0
StreamPass = Pass StreamOp StreamReply

abbrev pub HistoryPass : Type 0
HistoryPass = Pass HistoryOp HistoryReply

-- the gates of a shared hub
pub record Home : Type 0 where
  pub ticker : List TableId
  pub stream : List TableId
  pub history : List TableId

-- the keys that an op names, where `key` tells that of an item put
abbrev pub op_keys : {P T : Type 0} → (P → Key) → Op P T → List Key
op_keys key (Add agent subs) = map (λ s. s.key) subs.items
op_keys key (Remove agent keys) = keys.items
op_keys key (Close agent) = []
op_keys key (Put items) = map key items.items
op_keys key (Take agent most out) = []
op_keys key (Watch watcher most out) = []

-- each key of the op is of this stripe, of so many
abbrev pub IsOfStripe : {P T : Type 0} → (P → Key) → ℕ → ℕ → Op P T → Type 0
IsOfStripe key stripes stripe op = All (λ k. stripe_of k stripes ≡ stripe) (op_keys key op)

-- where there was no turn, the op comes back
abbrev pub GivesBack : {O : Type 0} → O → NoTurn O → Type 0
GivesBack op (Busy first then back) = back ≡ op
GivesBack op (Spent word back) = back ≡ op

module _ {O R : Type 0} where
  -- no word was found, or one
  abbrev pub LooksOnce : Pass O R → Pass O R → Type 0
  LooksOnce p q = (q.looked ≡ p.looked) ⊎ ((word : ℕ) × (q.looked ≡ p.looked ++ word ∷ []))

  -- whatever lists it stood for before, it stands for those with the call, which was answered after one look at most, or refused with its reason
  abbrev pub Asks : (Terms → List (Entry O R) → Type 0) → (Pass O R → Type 0) → (Pass O R → Type 0) → O → Result R (NoTurn O) → Type 0
  Asks legal before after op result = (p : Pass O R) → before p → (q : Pass O R) × after q × Turns legal p op result q × IfOk result (λ reply. LooksOnce p q)

  -- whatever lists it stood for before, it stands for them still
  abbrev pub Leaves : (ℕ → Pass O R → Type 0) → (ℕ → Pass O R → Type 0) → Type 0
  Leaves before after = (i : ℕ) (p : Pass O R) → before i p → after i p

  -- the same for the stripes beside this one
  abbrev pub LeavesOthers : ℕ → (ℕ → Pass O R → Type 0) → (ℕ → Pass O R → Type 0) → Type 0
  LeavesOthers stripe before after = (i : ℕ) (p : Pass O R) → i ≢ stripe → before i p → after i p

  -- the lists for which it stands have these terms and this number; what was seen is legal, and its calls are all that this has of the number
  abbrev pub AreOf : (Terms → List (Entry O R) → Type 0) → (ℕ → Terms) → (ℕ → ℕ) → (ℕ → Pass O R → Type 0) → Type 0
  AreOf legal terms number stands = (i : ℕ) (p : Pass O R) → stands i p → (p.terms ≡ terms i) × (p.number ≡ number i) × IsSound legal p

  -- on each of so many stripes it stands for some lists
  abbrev pub HasLists : ℕ → (ℕ → Pass O R → Type 0) → Type 0
  HasLists stripes stands = (i : ℕ) → i < stripes → (p : Pass O R) × stands i p

  -- the lists for which it stands are its own: it made all calls, and found no word
  abbrev pub AreOwn : (ℕ → Pass O R → Type 0) → Type 0
  AreOwn stands = (i : ℕ) (p : Pass O R) → stands i p → (p.mine ≡ p.seen) × (p.looked ≡ [])

-- the same for each stripe
abbrev pub Alike : {X : Type 0} → (ℕ → X) → (ℕ → X) → Type 0
Alike before after = (i : ℕ) → after i ≡ before i
