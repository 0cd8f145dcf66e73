-- A group without lines leads to no call.
use Rattle.std.proofs.Common.{ℕ, zero, suc, ◌≡◌, List, [], ◌∷◌, ◌++◌, length, Some, None, Option, refl, sym, ap, ◌∙◌, arith}
use Rattle.std.proofs.lemmas.List.{append-nil}
use Rattle.qd_buffer.specs.Filled.{Filled}
use Rattle.qd_scheme.specs.declared.key.Event.{Event}
use Rattle.qd_scheme.specs.declared.key.Key.{Key}
use Rattle.qd_scheme.specs.declared.key.Record.{Record}
use Rattle.qd_sub.specs.declared.sub.Sub.{Sub}
use Rattle.qd_sub.specs.declared.op.Op.TheVariants.{Add, Remove, Put}
use Rattle.qd_stream.specs.Items.{key_of_item}
use Rattle.qd_grammar.specs.declared.item.Message.{Message}
use Rattle.qd_grammar.specs.declared.item.Message.TheVariants.{TickerData, StreamData, HistoryData, StreamLost, TickerAdd, StreamAdd, HistoryAdd, TickerRemove, StreamRemove, HistoryRemove}
use Rattle.qd_path.specs.declared.call.Asked.{Asked}
use Rattle.qd_path.specs.declared.call.Call.{Call}
use Rattle.qd_path.specs.declared.call.Call.TheVariants.{Ticker, Stream, History}
use Rattle.qd_path.specs.Calls.{Place, asks_up_to, calls_of}
use Rattle.qd_path.specs.Groups.{Group, no_group, size}

asks_nothing : {X : Type 0} (key : X → Key) (call : Filled X → Call) (n k : ℕ) → asks_up_to key call n [] k ≡ []
asks_nothing key call n zero = refl
asks_nothing key call n (suc k) = rw (asks_nothing key call n k) refl

calls_of_nothing : (n agent : ℕ) (message : Option Message) → calls_of n agent message no_group ≡ []
calls_of_nothing n agent (Some TickerData) = asks_nothing (λ (r : Record). r.key) (λ part. Ticker (Put part)) n n
calls_of_nothing n agent (Some StreamData) = asks_nothing key_of_item (λ part. Stream (Put part)) n n
calls_of_nothing n agent (Some StreamLost) = asks_nothing key_of_item (λ part. Stream (Put part)) n n
calls_of_nothing n agent (Some HistoryData) = asks_nothing (λ (e : Event). e.key) (λ part. History (Put part)) n n
calls_of_nothing n agent (Some TickerAdd) = asks_nothing (λ (s : Sub). s.key) (λ part. Ticker (Add agent part)) n n
calls_of_nothing n agent (Some StreamAdd) = asks_nothing (λ (s : Sub). s.key) (λ part. Stream (Add agent part)) n n
calls_of_nothing n agent (Some HistoryAdd) = asks_nothing (λ (s : Sub). s.key) (λ part. History (Add agent part)) n n
calls_of_nothing n agent (Some TickerRemove) = asks_nothing (λ (k : Key). k) (λ part. Ticker (Remove agent part)) n n
calls_of_nothing n agent (Some StreamRemove) = asks_nothing (λ (k : Key). k) (λ part. Stream (Remove agent part)) n n
calls_of_nothing n agent (Some HistoryRemove) = asks_nothing (λ (k : Key). k) (λ part. History (Remove agent part)) n n
calls_of_nothing n agent None = refl

none_of : {X : Type 0} (xs : List X) → length xs ≡ 0 → xs ≡ []
none_of [] e = refl
none_of (x ∷ xs) e = absurd (omega (arith, e))

nothing_of : (g : Group) → size g ≡ 0 → g ≡ no_group
nothing_of g e = rw (none_of g.subs (omega (arith, e)), none_of g.keys (omega (arith, e)), none_of g.records (omega (arith, e)), none_of g.items (omega (arith, e)), none_of g.events (omega (arith, e))) refl

pub nothing_closed : (n agent : ℕ) (p : Place) (due : List Asked) → size p.group ≡ 0 → (p ≡ record { message = p.message; group = no_group }) × (due ≡ due ++ calls_of n agent p.message p.group)
nothing_closed n agent p due e =
    let none : p.group ≡ no_group = nothing_of p.group e in
    (ap (λ (g : Group). record { message = p.message; group = g }) none, sym (ap (λ (g : Group). due ++ calls_of n agent p.message g) none ∙ ap (λ (l : List Asked). due ++ l) (calls_of_nothing n agent p.message) ∙ append-nil due))
