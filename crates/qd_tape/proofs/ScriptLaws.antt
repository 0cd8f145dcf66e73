-- Generated scripts are read back.
use Rattle.std.proofs.Common.{ℕ, zero, suc, ◌≡◌, ◌+◌, ◌≤◌, ◌<◌, ◌^◌, ◌%◌, Bool, true, false, Some, List, [], ◌∷◌, ◌++◌, refl, sym, ap, subst, arith, append_assoc, inl, inr, map, length}
use Rattle.std.specs.Prelude.{if◌then◌else◌, slice_get, ◌==◌}
use Rattle.std.specs.List.{AllByRecursion}
use Rattle.qd_grammar.specs.Canonical.{canonical}
use Rattle.qd_grammar.specs.Items.{IsItem, IsKeyOf, IsUnderOne, MayStand, sub_heads}
use Rattle.qd_grammar.specs.Lines.{Spells, after, first_state}
use Rattle.qd_grammar.specs.declared.item.Item.{Item}
use Rattle.qd_grammar.specs.declared.item.Item.TheVariants.{Protocol, Head, Sub, HistSub, End}
use Rattle.qd_grammar.specs.declared.item.Message.{Message}
use Rattle.qd_grammar.specs.declared.item.Message.TheVariants.{TickerData, StreamData, HistoryData, TickerAdd, StreamAdd, HistoryAdd}
use Rattle.qd_grammar.specs.declared.item.Mode.TheVariants.{File}
use Rattle.qd_grammar.specs.declared.state.State.{State}
use Rattle.qd_grammar.proofs.EachItem.{each_spells}
use Rattle.qd_scheme.specs.Builtin.{builtin_defs, quote_def, trade_def, candle_def}
use Rattle.qd_scheme.specs.Faults.{scheme_fault}
use Rattle.qd_scheme.specs.Schemes.{IsScheme}
use Rattle.qd_scheme.specs.declared.defs.RecordDef.{RecordDef}
use Rattle.qd_scheme.proofs.Schemes.{scheme_right}
use Rattle.qd_tape.specs.Reading.{AreRead, IsScriptRead}
use Rattle.qd_tape.specs.Scripts.{candle_of, drawn, empty_snapshot, fed, fed_block, is_taking, fed_key, next_drawn, first_items, quote_of, three_takes, ten_digits, trade_of}

builtin_scheme : IsScheme builtin_defs
unfolding scheme_fault
builtin_scheme = scheme_right builtin_defs refl

spelled : (s : State) (item : Item) → IsItem builtin_defs item → MayStand File s builtin_defs item → Spells File s builtin_defs (canonical builtin_defs item) item
spelled s item i m = each_spells File s builtin_defs item builtin_scheme i m

-- the items of a script

key_fits : (rec digit : ℕ) (def : RecordDef) → slice_get builtin_defs rec ≡ Some def → digit < 10 → IsKeyOf builtin_defs def (fed_key rec digit)
key_fits rec digit def e h = record {
  declared = e;
  symbol = record {
    some = omega arith;
    few = omega arith;
    printed = ((omega arith, omega arith), ((omega arith, omega arith), tt));
    no_equals = λ n. omega (arith, n);
    no_hash = λ n. omega (arith, n);
    no_quote = λ n. let e = ap length n in omega (arith, e);
  };
}

sub_fits : (rec digit : ℕ) (def : RecordDef) → slice_get builtin_defs rec ≡ Some def → digit < 10 → IsItem builtin_defs (Sub (fed_key rec digit))
sub_fits rec digit def e h = (def, key_fits rec digit def e h)

hist_sub_fits : (digit : ℕ) → digit < 10 → IsItem builtin_defs (HistSub (record { key = fed_key 2 digit; limit = 0 }))
hist_sub_fits digit h = ((candle_def, (key_fits 2 digit candle_def refl h, refl)), omega arith)

snapshot_fits : (digit : ℕ) → digit < 10 → IsItem builtin_defs (empty_snapshot digit)
snapshot_fits digit h = record {
  def = candle_def;
  key = key_fits 2 digit candle_def refl h;
  history = refl;
  index = omega arith;
  flags = record { few = omega arith; no_0x20 = refl; no_0x80 = refl };
  cells = record { count = refl; each = (omega arith, (omega arith, (omega arith, (omega arith, (omega arith, tt))))) };
}

digit_fits : (x : ℕ) → x % 10 < 10
digit_fits x = omega arith

price_fits : (x : ℕ) → x % 1000000 + 1 ≤ 1000000
price_fits x = omega arith

quote_fits : (i x : ℕ) → i < 2 ^ 32 → IsItem builtin_defs (quote_of i x)
quote_fits i x h =
    let p = price_fits x in
    record {
      def = quote_def;
      key = key_fits 0 (x % 10) quote_def refl (digit_fits x);
      cells = record { count = refl; each = (omega (arith, p), (omega arith, (omega (arith, p), (omega arith, tt)))) };
    }

trade_fits : (i x : ℕ) → i < 2 ^ 32 → x < 2 ^ 32 → IsItem builtin_defs (trade_of i x)
trade_fits i x h k =
    let p = price_fits x in
    record {
      def = trade_def;
      key = key_fits 1 (x % 10) trade_def refl (digit_fits x);
      cells = record { count = refl; each = (omega (arith, p), (omega arith, (omega arith, tt))) };
    }

candle_fits : (i x : ℕ) → i < 2 ^ 32 → IsItem builtin_defs (candle_of i x)
candle_fits i x h =
    let p = price_fits x in
    record {
      def = candle_def;
      key = key_fits 2 (x % 10) candle_def refl (digit_fits x);
      history = refl;
      index = omega arith;
      flags = record { few = omega arith; no_0x20 = refl; no_0x80 = refl };
      cells = record { count = refl; each = (omega (arith, p), (omega (arith, p), (omega (arith, p), (omega (arith, p), (omega arith, tt))))) };
    }

-- items that are read wherever PROTOCOL came
abbrev AnyRead : List Item → Type 0
AnyRead items = (s : State) → s.started ≡ true → AreRead s builtin_defs items

head_read : (message : Message) (items : List Item) → ((s : State) → s.started ≡ true → AreRead (record s { message = Some message }) builtin_defs items) → AnyRead (Head message ∷ items)
head_read message items rest s h = (spelled s (Head message) tt (h, λ e. absurd (cc)), rest s h)

takes_read : (items : List Item) → AnyRead items → AnyRead (three_takes ++ items)
takes_read items rest s h = (spelled s _ (omega arith) (h, refl), (spelled s _ (omega arith) (h, refl), (spelled s _ (omega arith) (h, refl), rest s h)))

maybe_takes : (b : Bool) (items : List Item) → AnyRead items → AnyRead ((if b then three_takes else []) ++ items)
maybe_takes true items rest = takes_read items rest
maybe_takes false items rest = rest

end_read : AnyRead (End ∷ [])
end_read s h = (spelled s End tt h, tt)

-- what is fed

one_fed : (b c : Bool) (i x : ℕ) (items : List Item) → i < 2 ^ 32 → x < 2 ^ 32 → AnyRead items
    → AnyRead (Head (if b then TickerData else (if c then StreamData else HistoryData)) ∷ (if b then quote_of i x else (if c then trade_of i x else candle_of i x)) ∷ items)
one_fed true c i x items h k rest = head_read TickerData (quote_of i x ∷ items) (λ s n. (spelled _ _ (quote_fits i x h) (record { started = n; message = TickerData; current = refl; one = inl refl }), rest _ n))
one_fed false true i x items h k rest = head_read StreamData (trade_of i x ∷ items) (λ s n. (spelled _ _ (trade_fits i x h k) (record { started = n; message = StreamData; current = refl; one = inr (inl refl) }), rest _ n))
one_fed false false i x items h k rest = head_read HistoryData (candle_of i x ∷ items) (λ s n. (spelled _ _ (candle_fits i x h) (record { started = n; message = HistoryData; current = refl; one = inl refl }), rest _ n))

next_fits : (x : ℕ) → next_drawn x < 2 ^ 32
next_fits x = omega arith

pub drawn_fits : (start n : ℕ) → start < 2 ^ 32 → drawn start n < 2 ^ 32
drawn_fits start zero h = h
drawn_fits start (suc n) h = next_fits (drawn start n)

block_read : (start count i : ℕ) (items : List Item) → start < 2 ^ 32 → i < 2 ^ 32 → AnyRead items → AnyRead (fed_block start count i ++ items)
block_read start count i items h k rest =
    one_fed (i % 3 == 0) (i % 3 == 1) i (drawn start (suc i)) _ k (drawn_fits start (suc i) h) (maybe_takes (is_taking count (i + 1)) items rest)

fed_read : (start count i n : ℕ) (items : List Item) → start < 2 ^ 32 → i + n < 2 ^ 32 → AnyRead items → AnyRead (fed start count i n ++ items)
fed_read start count i zero items h k rest = rest
fed_read start count i (suc n) items h k rest =
    subst AnyRead (sym (append_assoc (fed_block start count i) (fed start count (i + 1) n) items))
    (block_read start count i (fed start count (i + 1) n ++ items) h (omega arith) (fed_read start count (i + 1) n items h (omega arith) rest))

-- the opening

each_read : (s : State) (f : ℕ → Item) (digits : List ℕ) (items : List Item) → AllByRecursion (λ d. d < 10) digits → ((d : ℕ) → d < 10 → IsItem builtin_defs (f d)) → ((d : ℕ) → MayStand File s builtin_defs (f d)) → ((d : ℕ) → after (f d) s ≡ s)
    → AreRead s builtin_defs items → AreRead s builtin_defs (map f digits ++ items)
each_read s f [] items all fits stands same rest = rest
each_read s f (d ∷ digits) items (few, all) fits stands same rest =
    (spelled s (f d) (fits d few) (stands d), subst (λ (t : State). AreRead t builtin_defs (map f digits ++ items)) (sym (same d)) (each_read s f digits items all fits stands same rest))

ten : AllByRecursion (λ d. d < 10) ten_digits
ten = (omega arith, (omega arith, (omega arith, (omega arith, (omega arith, (omega arith, (omega arith, (omega arith, (omega arith, (omega arith, tt))))))))))

abbrev behind : Message → State
behind message = record { started = true; message = Some message; time = 0 }

-- the ten symbols under a head
subs_read : (message : Message) (rec : ℕ) (def : RecordDef) (items : List Item) → slice_get builtin_defs rec ≡ Some def → IsUnderOne (behind message) sub_heads → AreRead (behind message) builtin_defs items
    → AreRead (behind message) builtin_defs (map (λ d. Sub (fed_key rec d)) ten_digits ++ items)
subs_read message rec def items e u rest = each_read (behind message) (λ d. Sub (fed_key rec d)) ten_digits items ten (λ d few. sub_fits rec d def e few) (λ d. inl u) (λ d. refl) rest

hist_subs_read : (items : List Item) → AreRead (behind HistoryAdd) builtin_defs items → AreRead (behind HistoryAdd) builtin_defs (map (λ d. HistSub (record { key = fed_key 2 d; limit = 0 })) ten_digits ++ items)
hist_subs_read items rest =
    each_read (behind HistoryAdd) (λ d. HistSub (record { key = fed_key 2 d; limit = 0 })) ten_digits items ten hist_sub_fits (λ d. record { started = refl; message = HistoryAdd; current = refl; one = inl refl }) (λ d. refl) rest

snapshots_read : (items : List Item) → AreRead (behind HistoryData) builtin_defs items → AreRead (behind HistoryData) builtin_defs (map empty_snapshot ten_digits ++ items)
snapshots_read items rest = each_read (behind HistoryData) empty_snapshot ten_digits items ten snapshot_fits (λ d. record { started = refl; message = HistoryData; current = refl; one = inl refl }) (λ d. refl) rest

next_head : (last message : Message) (items : List Item) → AreRead (behind message) builtin_defs items → AreRead (behind last) builtin_defs (Head message ∷ items)
next_head last message items rest = (spelled (behind last) (Head message) tt (refl, λ e. absurd (cc)), rest)

opening_read : (items : List Item) → AnyRead items → AreRead first_state builtin_defs (first_items ++ items)
unfolding first_items
opening_read items rest =
    let snapshots : List Item = Head HistoryData ∷ map empty_snapshot ten_digits ++ items in
    let candles : List Item = Head HistoryAdd ∷ map (λ d. HistSub (record { key = fed_key 2 d; limit = 0 })) ten_digits ++ snapshots in
    let trades : List Item = Head StreamAdd ∷ map (λ d. Sub (fed_key 1 d)) ten_digits ++ candles in
    let from_snapshots : AreRead (behind HistoryAdd) builtin_defs snapshots = next_head HistoryAdd HistoryData (map empty_snapshot ten_digits ++ items) (snapshots_read items (rest (behind HistoryData) refl)) in
    let from_candles : AreRead (behind StreamAdd) builtin_defs candles = next_head StreamAdd HistoryAdd (map (λ d. HistSub (record { key = fed_key 2 d; limit = 0 })) ten_digits ++ snapshots) (hist_subs_read snapshots from_snapshots) in
    let from_trades : AreRead (behind TickerAdd) builtin_defs trades =
    next_head TickerAdd StreamAdd (map (λ d. Sub (fed_key 1 d)) ten_digits ++ candles) (subs_read StreamAdd 1 trade_def candles refl (record { started = refl; message = StreamAdd; current = refl; one = inr (inl refl) }) from_candles) in (
      spelled first_state Protocol tt refl,
      (
        spelled (after Protocol first_state) (Head TickerAdd) tt (refl, λ e. absurd (cc)),
        subs_read TickerAdd 0 quote_def trades refl (record { started = refl; message = TickerAdd; current = refl; one = inl refl }) from_trades,
      ),
    )

pub script_read : IsScriptRead
script_read start count h k =
    let fed_items : List Item = fed start count 0 count ++ End ∷ [] in
    subst (AreRead first_state builtin_defs) (sym (append_assoc first_items (if count == 0 then three_takes else []) fed_items))
    (opening_read _ (maybe_takes (count == 0) fed_items (fed_read start count 0 count (End ∷ []) h (omega arith) end_read)))
