-- A script that was run on a hub that counts.
use Rattle.std.proofs.Common.{ℕ, ◌≡◌, ◌<◌, ◌≤◌, ◌+◌, ◌^◌, ◌⊎◌, inl, inr, Some, None, Option, List, [], ◌++◌, length, refl, sym, ◌∙◌, ap, subst, arith}
use Rattle.std.specs.Prelude.{sum, Err}
use Rattle.std.proofs.lemmas.List.{append-nil}
use Rattle.qd_grammar.specs.declared.item.Mode.TheVariants.{File}
use Rattle.qd_items.specs.declared.ends.RunEnd.{RunEnd}
use Rattle.qd_items.specs.declared.ends.RunEnd.TheVariants as ends
use Rattle.qd_items.specs.declared.ends.TextEnd.{TextEnd}
use Rattle.qd_items.specs.declared.ends.TextEnd.TheVariants as texts
use Rattle.qd_items.specs.Judging.{items_of, stop_of}
use Rattle.qd_items.specs.Judging.Stop.{AtEnd}
use Rattle.qd_items.specs.Runs.{run_end}
use Rattle.qd_items.specs.Standing.{Past}
use Rattle.qd_items.proofs.DecidingLaws.{decided_end}
use Rattle.qd_outside.specs.Causes.{Rose}
use Rattle.qd_outside.specs.Reading.{Took}
use Rattle.qd_scheme.specs.Builtin.{builtin_defs}
use Rattle.qd_scheme.specs.declared.defs.RecordDef.{RecordDef}
use Rattle.qd_replay.specs.Deciding.{IsSound, NoFault}
use Rattle.qd_hub.specs.Configs.{Sizes}
use Rattle.qd_hub.specs.Hubs.{TickerPass, StreamPass, HistoryPass}
use Rattle.qd_path.specs.Lists.{Lists, AreOf, GrewBy}
use Rattle.qd_path.specs.Made.{Made, entries, ticker_calls, stream_calls, history_calls}
use Rattle.qd_replay.specs.Ends.{Outside, Ends, IsBegun, IsCaused}
use Rattle.qd_replay.specs.Running.{AreLegal}
use Rattle.qd_replay.specs.Scripts.{Act, acts_of}
use Rattle.qd_replay.specs.Settings.{Books, own_books}
use Rattle.qd_load.proofs.Alone.{new_lists}
use Rattle.qd_tape.specs.Reading.{numbered_behind}
use Rattle.qd_tape.specs.Scripts.{generated, generated_items}
use Rattle.qd_tape.proofs.WholeLaws.{script_whole}
use Rattle.qd_load.specs.declared.totals.Totals.{Totals}
use Rattle.qd_load.specs.Counting.{IsCounted, CountsRecords, CountsItems, HearsEvents, NoneMissed, Views, entries_in, stopped, sum_from}
use Rattle.qd_load.specs.Given.{given, records_in, lost_in, events_given}
use Rattle.qd_load.specs.Loads.{HasRun, AreTold, RunsCounted, setting}
use Rattle.qd_load.proofs.Summing.{sums, view_size, entries_sum, stripe_sizes}

-- the lists of a new hub are those of a hub that counts over it
pub new_counting : (sizes : Sizes) (n : ℕ) (T T' : ℕ → TickerPass → Type 0) (S S' : ℕ → StreamPass → Type 0) (H H' : ℕ → HistoryPass → Type 0) → AreOf n T S H (new_lists sizes)
    → ((i : ℕ) (p : TickerPass) → i < n → T i p → p.mine ≡ [] → T' i p) → ((i : ℕ) (p : StreamPass) → i < n → S i p → p.mine ≡ [] → S' i p) → ((i : ℕ) (p : HistoryPass) → i < n → H i p → p.mine ≡ [] → H' i p)
    → AreOf n T' S' H' (new_lists sizes)
new_counting sizes n T T' S S' H H' are t s h = record {
  on_ticker = λ i w. t i _ w (are.on_ticker i w) refl;
  on_stream = λ i w. s i _ w (are.on_stream i w) refl;
  on_history = λ i w. h i _ w (are.on_history i w) refl;
}

counted_at : (counts : List ℕ) (n : ℕ) (f : ℕ → ℕ) → length counts ≡ n → ((i : ℕ) → i < n → IsCounted counts i (f i)) → stopped (sum counts) ≡ stopped (sum_from 0 n f)
counted_at counts n f len h =
    sums counts 0 f (λ i w. let e : i ≡ 0 + i = omega arith in subst (λ (j : ℕ). IsCounted counts i (f j)) e (h i (omega (arith, len, w)))) ∙ ap (λ (m : ℕ). stopped (sum_from 0 m f)) len

-- what was counted is what the replies of the calls gave
pub are_told : (sizes : Sizes) (n : ℕ) (T : ℕ → TickerPass → Type 0) (S : ℕ → StreamPass → Type 0) (H : ℕ → HistoryPass → Type 0) (records items lost : List ℕ) (views : List Views) (m : Lists) (calls : List Made) (t : Totals)
    → AreOf n (CountsRecords T records) (CountsItems S items lost) (HearsEvents H views) m → GrewBy n calls (new_lists sizes) m
    → (length records ≡ n) × (length items ≡ n) × (length lost ≡ n) × (length views ≡ n) → NoneMissed views
    → t.records ≡ stopped (sum records) → t.items ≡ stopped (sum items) → t.lost ≡ stopped (sum lost) → t.entries ≡ stopped (entries_in views) → AreTold n (own_books sizes) calls t
are_told sizes n T S H records items lost views m calls t are grew len none r s u v = record {
  records = r ∙ counted_at records n (λ i. length (given (entries 0 (ticker_calls i calls)))) len.0 (λ i w. rw (grew.on_ticker i w).mine at (are.on_ticker i w).1);
  items = s ∙ counted_at items n (λ i. records_in (given (entries 0 (stream_calls i calls)))) len.1 (λ i w. (rw (grew.on_stream i w).mine at (are.on_stream i w).1).records);
  lost = u ∙ counted_at lost n (λ i. lost_in (given (entries 0 (stream_calls i calls)))) len.2 (λ i w. (rw (grew.on_stream i w).mine at (are.on_stream i w).1).lost);
  sizes = view_size views;
  sizes_are = λ i w. stripe_sizes views i (events_given (entries 0 (history_calls i calls))) none (rw (grew.on_history i w).mine at (are.on_history i w).1);
  entries = v ∙ ap stopped (entries_sum views) ∙ ap (λ (k : ℕ). stopped (sum_from 0 k (view_size views))) len.3;
}

-- no end of a text but END ends a run well
no_other : (x : TextEnd) → (x ≡ texts.End → ⊥) → ends.Done ≡ run_end x → ⊥
no_other texts.End early e = early refl
no_other (texts.CutOff n) early e = cc
no_other (texts.Bad b) early e = cc
no_other (texts.LineTooLong n) early e = cc
no_other texts.TooMuch early e = cc
no_other texts.ReadFault early e = cc
no_other texts.NoMemory early e = cc

module _ (stripes : ℕ) (books : Books) (start count : ℕ) (h : start < 2 ^ 32) (k : count ≤ 600000) where
  whole_run : (p : Past) (rest : List ℕ) (done later : List Act) (made refused calls : List Made) (out : List ℕ) (o w : Outside)
      → IsBegun (setting stripes) p rest done later made out o w → Took (Some (generated start count)) w.left p.taken → o.reads ≡ 0 → w.reads ≡ 0 → calls ≡ made ++ refused → AreLegal stripes books calls
      → IsCaused ends.Done (setting stripes) p rest done later refused o w → HasRun stripes books start count calls
  whole_run p rest done later made refused calls out o w b took r s these legal (inl i) =
      let whole = script_whole start count h k in
      let at : stop_of File builtin_defs p.lines ≡ AtEnd (length p.lines) = i.stop_is ∙ (rw (i.cause.0, i.newest) refl) in
      by_lines (decided_end File builtin_defs (generated start count) texts.End texts.End p rest w.left o.reads w.reads whole.0 (record { bytes = b.bytes; took = took; cause = (at, i.reads) }) (λ rose. absurd (omega (arith, rose, r, s))) whole.1)
    where
      by_lines : ((texts.End ≡ texts.End) × (p.lines ≡ (script_whole start count h k).0)) ⊎ (texts.End ≡ texts.NoMemory) → HasRun stripes books start count calls
      by_lines (inr d) = absurd (cc)
      by_lines (inl d) =
          let items : items_of File builtin_defs p.lines ≡ numbered_behind [] (generated_items start count) = ap (items_of File builtin_defs) d.1 ∙ (script_whole start count h k).2 in
          let acts : acts_of stripes (numbered_behind [] (generated_items start count)) ≡ done = sym (ap (acts_of stripes) items) ∙ b.acts ∙ (rw i.cause.1 (append-nil done)) in
          let all : calls ≡ made = these ∙ (rw i.cause.2 (append-nil made)) in
          record { out = out; ran = rw (acts, all) b.ran; legal = legal }
  whole_run p rest done later made refused calls out o w b took r s these legal (inr (inl t)) = absurd (no_other t.text_end t.early t.end_is)
  whole_run p rest done later made refused calls out o w b took r s these legal (inr (inr t)) = let e = t.end_is in absurd (cc)

  pub done_run : (calls : List Made) (o w : Outside) → o.left ≡ Some (generated start count) → o.reads ≡ 0 → w.reads ≡ 0 → Ends (setting stripes) books calls ends.Done o w → HasRun stripes books start count calls
  done_run calls o w l r s e = by_last e.last
    where
      by_last : (ends.Done ≡ e.reached) ⊎ ((ends.Done ≡ ends.WriteFault) × Rose o.writes w.writes) → HasRun stripes books start count calls
      by_last (inl same) = whole_run e.past e.rest e.done e.later e.made e.refused calls e.out o w e.begun (rw l at e.begun.took) r s e.calls_are e.legal (rw (← same) at e.cause)
      by_last (inr f) = let g = f.0 in absurd (cc)

-- a run of the script that ended before its END
pub early : (stripes : ℕ) (books : Books) (start count : ℕ) (end : RunEnd) (calls : List Made) (left after : Option (List ℕ)) → left ≡ Some (generated start count) → (end ≡ ends.Done → ⊥)
    → Ends (setting stripes) books calls end (record { left = left; reads = 0; written = None; writes = 0 }) (record { left = after; reads = 0; written = None; writes = 0 }) → RunsCounted stripes books start count (Err end)
early stripes books start count end calls left after l not e = by_end end not (subst (λ (o : Option (List ℕ)). Ends (setting stripes) books calls end (record { left = o; reads = 0; written = None; writes = 0 }) (record { left = after; reads = 0; written = None; writes = 0 })) l e)
  where
    by_end : (end : RunEnd) → (end ≡ ends.Done → ⊥) → Ends (setting stripes) books calls end (record { left = Some (generated start count); reads = 0; written = None; writes = 0 }) (record { left = after; reads = 0; written = None; writes = 0 })
        → RunsCounted stripes books start count (Err end)
    by_end ends.Done other e = absurd (other refl)
    by_end (ends.CutOff n) other e = (calls, _, e, refl, refl)
    by_end (ends.Bad b) other e = (calls, _, e, refl, refl)
    by_end (ends.LineTooLong n) other e = (calls, _, e, refl, refl)
    by_end (ends.BadStep n) other e = (calls, _, e, refl, refl)
    by_end (ends.Refused n limit) other e = (calls, _, e, refl, refl)
    by_end ends.TooMuch other e = (calls, _, e, refl, refl)
    by_end ends.ReadFault other e = (calls, _, e, refl, refl)
    by_end ends.WriteFault other e = (calls, _, e, refl, refl)
    by_end ends.Spent other e = (calls, _, e, refl, refl)
    by_end ends.NoMemory other e = tt

-- the scheme and the number of stripes are known by other names
pub ends_as : (defs : List RecordDef) (n k : ℕ) (books : Books) (calls : List Made) (end : RunEnd) (o w : Outside) → defs ≡ builtin_defs → n ≡ k
    → Ends (record { defs = defs; stripes = n }) books calls end o w → Ends (setting k) books calls end o w
ends_as defs n k books calls end o w d s e =
    subst (λ (x : ℕ). Ends (setting x) books calls end o w) s (subst (λ (x : List RecordDef). Ends (record { defs = x; stripes = n }) books calls end o w) d e)

pub sound_as : (defs : List RecordDef) (n k : ℕ) (books : Books) (text : List ℕ) → defs ≡ builtin_defs → n ≡ k → IsSound (setting k) books text → IsSound (record { defs = defs; stripes = n }) books text
sound_as defs n k books text d s e =
    subst (λ (x : List RecordDef). IsSound (record { defs = x; stripes = n }) books text) (sym d) (subst (λ (x : ℕ). IsSound (setting x) books text) (sym s) e)

pub none_rose : NoFault 0 0 0 0
none_rose = (λ r. absurd (omega (arith, r)), λ r. absurd (omega (arith, r)))

pub not_done : (end : RunEnd) → (end ≡ ends.Done → ⊥) → (end ≡ ends.Done) ⊎ (end ≡ ends.NoMemory) → end ≡ ends.NoMemory
not_done end other (inl d) = absurd (other d)
not_done end other (inr m) = m
