-- A peer above writes data alone, so all calls that its text asks for are Puts.
use Rattle.std.proofs.Common.{ℕ, zero, suc, ◌≡◌, inl, inr, Bool, true, false, cond, Option, Some, None, List, [], ◌∷◌, ◌++◌, length, refl, sym, subst}
use Rattle.std.specs.Prelude.{Result, Ok, Err, All}
use Rattle.std.proofs.lemmas.List.Elements.{All-append, All-nil, All-cons}
use Rattle.qd_buffer.specs.Filled.{Filled}
use Rattle.qd_buffer.specs.Splitting.{of_stripe}
use Rattle.qd_scheme.specs.declared.defs.RecordDef.{RecordDef}
use Rattle.qd_scheme.specs.declared.key.Key.{Key}
use Rattle.qd_sub.specs.declared.op.Op.TheVariants.{Put}
use Rattle.qd_stream.specs.Items.{key_of_item}
use Rattle.qd_grammar.specs.declared.fault.Fault.{Fault}
use Rattle.qd_grammar.specs.declared.item.Item.{Item}
use Rattle.qd_grammar.specs.declared.item.Item.TheVariants as items
use Rattle.qd_grammar.specs.declared.item.Message.{Message}
use Rattle.qd_grammar.specs.declared.item.Message.TheVariants.{TickerData, StreamData, HistoryData, StreamLost, TickerAdd, StreamAdd, HistoryAdd, TickerRemove, StreamRemove, HistoryRemove}
use Rattle.qd_grammar.specs.declared.item.Mode.TheVariants as modes
use Rattle.qd_grammar.specs.declared.state.State.{State}
use Rattle.qd_grammar.specs.Items.{IsOneOf, data_heads}
use Rattle.qd_items.specs.Judging.{Numbered, items_of, said, state_of, with_said}
use Rattle.qd_text.specs.Reading.{state_after}
use Rattle.qd_path.specs.declared.call.Asked.{Asked}
use Rattle.qd_path.specs.declared.call.Call.{Call}
use Rattle.qd_path.specs.declared.call.Call.TheVariants.{Ticker, Stream, History}
use Rattle.qd_path.specs.declared.kind.Kind.{Kind}
use Rattle.qd_path.specs.declared.kind.Kind.TheVariants.{Body, Description, Control}
use Rattle.qd_path.specs.Calls.{Place, asks, full_of, asks_up_to, calls_of, calls_by, calls_with, calls_of_items, full_calls, place_of}
use Rattle.qd_path.specs.Groups.{Group, group_with, is_foreign, is_full, kind_of}
use Rattle.qd_path.specs.Laws.{AllPuts, IsPut}
use Rattle.qd_path.proofs.Spelled.{may_stand, place_message}

abbrev ArePuts : List Asked → Type 0
ArePuts asked = All (λ a. IsPut a.call) asked

none_put : ArePuts []
none_put = All-nil (λ (a : Asked). IsPut a.call)

put_too : (a b : List Asked) → ArePuts a → ArePuts b → ArePuts (a ++ b)
put_too a b h g = All-append (λ (x : Asked). IsPut x.call) a b h g

-- a message of data, or none yet
abbrev is_data : Option Message → Bool
is_data None = true
is_data (Some TickerData) = true
is_data (Some StreamData) = true
is_data (Some HistoryData) = true
is_data (Some StreamLost) = true
is_data (Some TickerAdd) = false
is_data (Some StreamAdd) = false
is_data (Some HistoryAdd) = false
is_data (Some TickerRemove) = false
is_data (Some StreamRemove) = false
is_data (Some HistoryRemove) = false

data_head : (m : Message) → IsOneOf m data_heads → is_data (Some m) ≡ true
data_head m (inl e) = rw e refl
data_head m (inr (inl e)) = rw e refl
data_head m (inr (inr (inl e))) = rw e refl
data_head m (inr (inr (inr (inl e)))) = rw e refl
data_head m (inr (inr (inr (inr n)))) = absurd n

-- the calls of items that are cut, where each call of some of them puts
module _ {X : Type 0} (key : X → Key) (call : Filled X → Call) (puts : (part : Filled X) → IsPut (call part)) (n : ℕ) where
  asks_put : (stripe : ℕ) (xs : List X) → ArePuts (asks call stripe xs)
  asks_put stripe [] = none_put
  asks_put stripe (x ∷ xs) = All-cons (λ (a : Asked). IsPut a.call) _ [] (puts (full_of (x ∷ xs))) none_put

  cut_puts : (xs : List X) (k : ℕ) → ArePuts (asks_up_to key call n xs k)
  cut_puts xs zero = none_put
  cut_puts xs (suc k) = put_too (asks_up_to key call n xs k) (asks call k (of_stripe key n k xs)) (cut_puts xs k) (asks_put k (of_stripe key n k xs))

group_puts : (n agent : ℕ) (message : Option Message) (g : Group) → is_data message ≡ true → ArePuts (calls_of n agent message g)
group_puts n agent (Some TickerData) g h = cut_puts (λ r. r.key) (λ part. Ticker (Put part)) (λ part. tt) n g.records n
group_puts n agent (Some StreamData) g h = cut_puts key_of_item (λ part. Stream (Put part)) (λ part. tt) n g.items n
group_puts n agent (Some StreamLost) g h = cut_puts key_of_item (λ part. Stream (Put part)) (λ part. tt) n g.items n
group_puts n agent (Some HistoryData) g h = cut_puts (λ e. e.key) (λ part. History (Put part)) (λ part. tt) n g.events n
group_puts n agent None g h = none_put
group_puts n agent (Some TickerAdd) g h = absurd cc
group_puts n agent (Some StreamAdd) g h = absurd cc
group_puts n agent (Some HistoryAdd) g h = absurd cc
group_puts n agent (Some TickerRemove) g h = absurd cc
group_puts n agent (Some StreamRemove) g h = absurd cc
group_puts n agent (Some HistoryRemove) g h = absurd cc

full_puts : (full : Bool) (asked : List Asked) → ArePuts asked → ArePuts (cond full asked [])
full_puts true asked h = h
full_puts false asked h = none_put

foreign_puts : (foreign : Bool) (asked : List Asked) → ArePuts asked → ArePuts (cond foreign [] asked)
foreign_puts true asked h = none_put
foreign_puts false asked h = h

kind_puts : (kind : Kind) (n agent : ℕ) (item : Item) (p : Place) → is_data p.message ≡ true → ArePuts (calls_by kind n agent item p)
kind_puts Body n agent item p h =
    let g = group_with p.message item p.group in
    foreign_puts (is_foreign p.message item) (full_calls n agent p.message g) (full_puts (is_full g) (calls_of n agent p.message g) (group_puts n agent p.message g h))
kind_puts Description n agent item p h = none_put
kind_puts Control n agent item p h = group_puts n agent p.message p.group h

said_data : (defs : List RecordDef) (s : State) (line : List ℕ) (r : Result (Option Item) Fault) → said modes.Up defs s line ≡ r → is_data s.message ≡ true → is_data (state_after r s).message ≡ true
said_data defs s line (Ok None) e h = h
said_data defs s line (Err f) e h = h
said_data defs s line (Ok (Some (items.Head m))) e h = data_head m ((may_stand modes.Up s defs line (items.Head m) e).1.1 refl)
said_data defs s line (Ok (Some items.Protocol)) e h = h
said_data defs s line (Ok (Some (items.Describe n))) e h = h
said_data defs s line (Ok (Some (items.Rec r))) e h = h
said_data defs s line (Ok (Some (items.Ev v))) e h = h
said_data defs s line (Ok (Some (items.Sub k))) e h = h
said_data defs s line (Ok (Some (items.HistSub u))) e h = h
said_data defs s line (Ok (Some (items.Lost k n))) e h = h
said_data defs s line (Ok (Some items.Heartbeat)) e h = h
said_data defs s line (Ok (Some items.End)) e h = h
said_data defs s line (Ok (Some (items.Time n))) e h = h
said_data defs s line (Ok (Some (items.Link n))) e h = h
said_data defs s line (Ok (Some (items.Take c n))) e h = h
said_data defs s line (Ok (Some (items.Node n m))) e h = h
said_data defs s line (Ok (Some (items.At n m))) e h = h
said_data defs s line (Ok (Some (items.Pump n))) e h = h
said_data defs s line (Ok (Some (items.Move n w b))) e h = h

state_data : (defs : List RecordDef) (lines : List (List ℕ)) → is_data (state_of modes.Up defs lines).message ≡ true
state_data defs [] = refl
state_data defs (line ∷ before) = said_data defs (state_of modes.Up defs before) line (said modes.Up defs (state_of modes.Up defs before) line) refl (state_data defs before)

place_data : (defs : List RecordDef) (lines : List (List ℕ)) → is_data (place_of (items_of modes.Up defs lines)).message ≡ true
place_data defs lines = subst (λ (m : Option Message). is_data m ≡ true) (sym (place_message modes.Up defs lines)) (state_data defs lines)

-- the calls of one more line
line_puts : (n agent line : ℕ) (r : Result (Option Item) Fault) (before : List Numbered) → is_data (place_of before).message ≡ true → ArePuts (calls_of_items n agent before) → ArePuts (calls_of_items n agent (with_said line r before))
line_puts n agent line (Ok (Some item)) before h puts = put_too (calls_of_items n agent before) (calls_with n agent item (place_of before)) puts (kind_puts (kind_of item) n agent item (place_of before) h)
line_puts n agent line (Ok None) before h puts = puts
line_puts n agent line (Err f) before h puts = puts

pub all_puts : AllPuts
all_puts defs watcher n [] = none_put
all_puts defs watcher n (line ∷ before) =
    line_puts n 0 (length (line ∷ before)) (said modes.Up defs (state_of modes.Up defs before) line) (items_of modes.Up defs before) (place_data defs before) (all_puts defs watcher n before)
