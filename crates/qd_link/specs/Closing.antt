-- What it does to the lists of a hub that an agent is closed on each stripe.
use Rattle.std.specs.Prelude.{ℕ, ◌≡◌, ◌<◌, ◌≤◌, ◌⊎◌, ◌+◌, ◌-◌, ◌^◌, nat_lt, if◌then◌else◌, Bool, true, false, List, [], ◌∷◌, ◌++◌}
use Rattle.qd_gate.specs.declared.machine.Entry.{Entry}
use Rattle.qd_gate.specs.declared.machine.Terms.{Terms}
use Rattle.qd_gate.specs.Passes.{Pass}
use Rattle.qd_sub.specs.declared.op.Op.TheVariants.{Close}
use Rattle.qd_ticker.specs.Legal as ticker
use Rattle.qd_stream.specs.Legal as stream
use Rattle.qd_hist_rules.specs.Legal as history
use Rattle.qd_grammar.specs.declared.item.Collector.{Collector}
use Rattle.qd_grammar.specs.declared.item.Collector.TheVariants as collectors
use Rattle.qd_path.specs.declared.call.Asked.{Asked}
use Rattle.qd_path.specs.declared.call.Call.TheVariants as calls
use Rattle.qd_path.specs.Lists.{Lists, Gains, GrewBy, IsSpentAt}
use Rattle.qd_path.specs.Made.{Made, asked_in}
use Rattle.qd_calls.specs.declared.due.Reaction.{Reaction}
use Rattle.qd_calls.specs.declared.due.Reaction.TheVariants as reactions
use Rattle.qd_calls.specs.Dues.{collector_of}
use Rattle.qd_link.specs.declared.closing.Tried.{Tried}
use Rattle.qd_link.specs.declared.closing.Tried.TheVariants.{Closed, Spent, Busy}

module _ {O R : Type 0} where
  -- words were found, and one of them is at its end: the stripe is spent
  pub record FoundEnd (p q : Pass O R) : Type 0 where
    pub found : List ℕ
    pub word : ℕ
    pub more : List ℕ
    pub looked : q.looked ≡ p.looked ++ (found ++ word ∷ more)
    pub high : 2 ^ 63 ≤ word

  -- the call is the one by which the pass grew; or the stripe is spent, and none was made
  abbrev pub IsClosed : (Terms → List (Entry O R) → Type 0) → O → Pass O R → Pass O R → Type 0
  IsClosed legal op p q = ((reply : R) × Gains legal (record { op = op; reply = reply } ∷ []) p q) ⊎ (Gains legal [] p q × FoundEnd p q)

  -- so it is where it was the stripe's turn, and else no call was made
  abbrev pub IsClosedIf : (Terms → List (Entry O R) → Type 0) → O → Bool → Pass O R → Pass O R → Type 0
  IsClosedIf legal op true p q = IsClosed legal op p q
  IsClosedIf legal op false p q = Gains legal [] p q

-- on each stripe of each collector the agent is closed, and no other call was made
pub record AreClosed (n agent : ℕ) (l m : Lists) : Type 0 where
  pub on_ticker : (i : ℕ) → i < n → IsClosed ticker.IsLegal (Close agent) (l.ticker i) (m.ticker i)
  pub on_stream : (i : ℕ) → i < n → IsClosed stream.IsLegal (Close agent) (l.stream i) (m.stream i)
  pub on_history : (i : ℕ) → i < n → IsClosed history.IsLegal (Close agent) (l.history i) (m.history i)

-- it is closed at the first so many places, of which a stripe of each collector is one
pub record AreClosedTo (n agent at : ℕ) (l m : Lists) : Type 0 where
  pub on_ticker : (i : ℕ) → i < n → IsClosedIf ticker.IsLegal (Close agent) (nat_lt i at) (l.ticker i) (m.ticker i)
  pub on_stream : (i : ℕ) → i < n → IsClosedIf stream.IsLegal (Close agent) (nat_lt (n + i) at) (l.stream i) (m.stream i)
  pub on_history : (i : ℕ) → i < n → IsClosedIf history.IsLegal (Close agent) (nat_lt (n + n + i) at) (l.history i) (m.history i)

-- the Close of a stripe
abbrev pub close_of : Collector → ℕ → ℕ → Asked
close_of collectors.Ticker agent i = record { stripe = i; call = calls.Ticker (Close agent) }
close_of collectors.Stream agent i = record { stripe = i; call = calls.Stream (Close agent) }
close_of collectors.History agent i = record { stripe = i; call = calls.History (Close agent) }

-- the Close of a place: the stripes of the ticker, of the stream, and of the history, each rising
abbrev pub closing_call : ℕ → ℕ → ℕ → Asked
closing_call n at agent =
    if nat_lt at n then close_of collectors.Ticker agent at
    else if nat_lt at (n + n) then close_of collectors.Stream agent (at - n) else close_of collectors.History agent (at - (n + n))

-- words were found on the stripe, and one of them is at its end
abbrev pub IsSpentSince : Collector → ℕ → Lists → Lists → Type 0
IsSpentSince collectors.Ticker i l m = FoundEnd (l.ticker i) (m.ticker i)
IsSpentSince collectors.Stream i l m = FoundEnd (l.stream i) (m.stream i)
IsSpentSince collectors.History i l m = FoundEnd (l.history i) (m.history i)

-- the call was made, and no other one; or its stripe is spent, and none was made
abbrev pub ClosesOne : ℕ → Asked → Lists → Lists → Type 0
ClosesOne n a l m = ((x : Made) × (asked_in x ≡ a) × GrewBy n (x ∷ []) l m) ⊎ (GrewBy n [] l m × IsSpentSince (collector_of a.call) a.stripe l m)

-- what became of a Close, by what became of the call
abbrev pub fate_of : Reaction → Tried
fate_of reactions.Spent = Spent
fate_of (reactions.Busy first found back) = Busy
fate_of _ = Closed

abbrev pub IsTried : ℕ → Asked → Tried → Lists → Lists → Type 0
IsTried n a Closed l m = (x : Made) × (asked_in x ≡ a) × GrewBy n (x ∷ []) l m
IsTried n a Spent l m = GrewBy n [] l m × IsSpentAt (collector_of a.call) a.stripe l m
IsTried n a Busy l m = GrewBy n [] l m

-- the call is made or passed over, or it is to be made again
abbrev pub Tries : ℕ → Asked → Bool → Lists → Lists → Type 0
Tries n a true l m = ((x : Made) × (asked_in x ≡ a) × GrewBy n (x ∷ []) l m) ⊎ (GrewBy n [] l m × IsSpentAt (collector_of a.call) a.stripe l m)
Tries n a false l m = GrewBy n [] l m
