-- How a step goes on, and how it ends a run.
use Rattle.std.proofs.Common.{ℕ, ◌≡◌, ◌<◌, ◌⊎◌, inl, inr, true, false, Option, Some, None, List, [], ◌∷◌, ◌++◌, map, refl, sym, ◌∙◌, ap, append_assoc, arith}
use Rattle.std.specs.Prelude.{◌≤◌, nat_lt}
use Rattle.std.proofs.lemmas.Bool.Decides.{nat_tests}
use Rattle.std.proofs.lemmas.List.{append-nil}
use Rattle.qd_grammar.specs.declared.item.Item.{Item}
use Rattle.qd_grammar.specs.declared.item.Item.TheVariants as items
use Rattle.qd_items.specs.declared.ends.RunEnd.{RunEnd}
use Rattle.qd_items.specs.declared.ends.RunEnd.TheVariants.{Done, BadStep, WriteFault}
use Rattle.qd_outside.specs.Buffering.{Prints}
use Rattle.qd_outside.specs.Writing.{IsCutShort}
use Rattle.qd_outside.proofs.Streams.{Gained-more}
use Rattle.qd_scheme.specs.declared.defs.RecordDef.{RecordDef}
use Rattle.qd_calls.proofs.Adding.{grew_more, grew_none, grown_sound}
use Rattle.qd_path.specs.declared.call.Asked.{Asked}
use Rattle.qd_path.specs.Calls.{calls_with}
use Rattle.qd_path.specs.declared.kind.Kind.TheVariants.{Body}
use Rattle.qd_path.specs.Groups.{size, kind_of}
use Rattle.qd_path.specs.Lists.{Lists, GrewBy, AreSound}
use Rattle.qd_path.specs.Made.{Made, asked_in, AreDone}
use Rattle.qd_path.specs.Texts.{line_of}
use Rattle.qd_replay.specs.declared.due.Refusal.{Refusal}
use Rattle.qd_replay.specs.declared.due.Refusal.TheVariants as refusals
use Rattle.qd_replay.specs.Running.{Did, Ran}
use Rattle.qd_replay.specs.Scripts.{Script, Act, after, acts_with, own_acts, is_bad, link_after}
use Rattle.qd_replay.specs.Scripts.Act.{Ask, Say}
use Rattle.qd_replay.specs.Settings.{Setting}
use Rattle.qd_replay.specs.Steps.{MadeSome, WhyRefused, CallsHalt, Calls, Sunk, IsShown, Stops, Kept, WentOn, Halts, Hears, ActsItself, is_write_fault, ended_by, ToldBy}

-- acts were done, and then more
pub ran_more : (n : ℕ) (defs : List RecordDef) (acts more : List Act) (made calls : List Made) (out text : List ℕ)
    → Ran n defs acts made out → Ran n defs more calls text → Ran n defs (acts ++ more) (made ++ calls) (out ++ text)
ran_more n defs [] more made calls out text (e, f) r = rw (e, f) r
ran_more n defs (a ∷ acts) more made calls out text (first, others, t, rest, e, f, did, ran) r = (
  first,
  others ++ calls,
  t,
  rest ++ text,
  ap (λ (l : List Made). l ++ calls) e ∙ append_assoc first others calls,
  ap (λ (l : List ℕ). l ++ text) f ∙ append_assoc t rest text,
  did,
  ran_more n defs acts more others calls rest text ran r,
)

-- one act was done
pub ran_one : (n : ℕ) (defs : List RecordDef) (a : Act) (made : List Made) (out : List ℕ) → Did n defs a made out → Ran n defs (a ∷ []) made out
ran_one n defs a made out did = (made, [], out, [], sym (append-nil made), sym (append-nil out), did, (refl, refl))

-- calls that were granted
pub ran_calls : (n : ℕ) (defs : List RecordDef) (made : List Made) → AreDone made → Ran n defs (map Ask (map asked_in made)) made []
ran_calls n defs [] done = (refl, refl)
ran_calls n defs (x ∷ made) done = (x ∷ [], made, [], [], refl, refl, (x, refl, refl, done.0, refl), ran_calls n defs made done.1)

-- what was shown, with a text behind it
pub shown_more : (o w v : Sunk) (out held text new : List ℕ) → IsShown o w out held → Prints true text held new w.written v.written w.faults v.faults → IsShown o v (out ++ text) new
shown_more o w v out held text new s p = record {
  part = s.part ++ p.0;
  gained = Gained-more o.written w.written v.written s.part p.0 s.gained p.2.gained;
  whole = ap (λ (l : List ℕ). l ++ text) s.whole ∙ append_assoc s.part held text ∙ ap (λ (l : List ℕ). s.part ++ l) p.1 ∙ sym (append_assoc s.part p.0 new);
  same = p.2.same ∙ s.same;
}

pub shown_cut : (o w v : Sunk) (out held text : List ℕ) → IsShown o w out held → IsCutShort (held ++ text) w.written v.written w.faults v.faults → IsCutShort (out ++ text) o.written v.written o.faults v.faults
shown_cut o w v out held text s c = record {
  part = s.part ++ c.part;
  rest = c.rest;
  whole = ap (λ (l : List ℕ). l ++ text) s.whole ∙ append_assoc s.part held text ∙ ap (λ (l : List ℕ). s.part ++ l) c.whole ∙ sym (append_assoc s.part c.part c.rest);
  gained = Gained-more o.written w.written v.written s.part c.part s.gained c.gained;
  rose = rw s.same at c.rose;
  later = rw s.same at c.later;
}

-- an act was done by these calls, and its text printed
pub acted : (set : Setting) (a : Act) (calls : List Made) (text held new : List ℕ) (l m : Lists) (w v : Sunk)
    → Did set.stripes set.defs a calls text → GrewBy set.stripes calls l m → Prints true text held new w.written v.written w.faults v.faults → WentOn set (a ∷ []) held l w new m v
acted set a calls text held new l m w v did grew p = λ o from done at. record {
  made = at.made ++ calls;
  out = at.out ++ text;
  ran = ran_more set.stripes set.defs done (a ∷ []) at.made calls at.out text at.ran (ran_one set.stripes set.defs a calls text did);
  grew = grew_more set.stripes at.made calls from l m at.grew grew;
  shown = shown_more o w v at.out held text new at.shown p;
}

-- an act was done by these calls, and a write of its text failed
pub acted_short : (set : Setting) (a : Act) (calls : List Made) (text held new : List ℕ) (l m : Lists) (w v : Sunk) (s : Script) (item : Item) (line : ℕ)
    → Did set.stripes set.defs a calls text → GrewBy set.stripes calls l m → Prints false text held new w.written v.written w.faults v.faults → Halts set WriteFault s item line (a ∷ []) held l w new m v
acted_short set a calls text held new l m w v s item line did grew p = λ o from done at.
    let cut = shown_cut o w v at.out held text at.shown p in
    record {
      now = a ∷ [];
      later = [];
      acts_are = refl;
      made = at.made ++ calls;
      refused = [];
      out = at.out ++ text;
      ran = ran_more set.stripes set.defs done (a ∷ []) at.made calls at.out text at.ran (ran_one set.stripes set.defs a calls text did);
      grew = rw (append-nil (at.made ++ calls)) (grew_more set.stripes at.made calls from l m at.grew grew);
      told = cut;
      cause = (cut.rose, refl, refl);
    }

-- no call was made, and nothing printed
pub nothing_done : (set : Setting) (held : List ℕ) (l : Lists) (w : Sunk) → WentOn set [] held l w held l w
nothing_done set held l w = λ o from done at. rw (append-nil done) at

-- a run ended before any of the acts was done, by no fault of writing
pub halted : (set : Setting) (end : RunEnd) (s : Script) (item : Item) (line : ℕ) (acts : List Act) (held : List ℕ) (l : Lists) (w : Sunk)
    → is_write_fault end ≡ false → ((before after : ℕ) → Stops end s item line acts [] before after) → Halts set end s item line acts held l w held l w
halted set end s item line acts held l w sound cause = λ o from done at. record {
  now = [];
  later = acts;
  acts_are = refl;
  made = at.made;
  refused = [];
  out = at.out;
  ran = rw (append-nil done) at.ran;
  grew = rw (append-nil at.made) at.grew;
  told = rw sound at.shown;
  cause = cause o.faults w.faults;
}

-- the run went on, and then on again
pub went_both : (set : Setting) (a b : List Act) (held mid new : List ℕ) (l k m : Lists) (w u v : Sunk) → WentOn set a held l w mid k u → WentOn set b mid k u new m v → WentOn set (a ++ b) held l w new m v
went_both set a b held mid new l k m w u v first second = λ o from done at. rw (← append_assoc done a b) (second o from (done ++ a) (first o from done at))

-- the run went on, and then it ended
pub went_halts : (set : Setting) (end : RunEnd) (s : Script) (item : Item) (line : ℕ) (a b : List Act) (held mid new : List ℕ) (l k m : Lists) (w u v : Sunk)
    → WentOn set a held l w mid k u → Halts set end s item line b mid k u new m v → Halts set end s item line (a ++ b) held l w new m v
went_halts set end s item line a b held mid new l k m w u v first second = λ o from done at.
    let h = second o from (done ++ a) (first o from done at) in
    record {
      now = a ++ h.now;
      later = h.later;
      acts_are = ap (λ (x : List Act). a ++ x) h.acts_are ∙ sym (append_assoc a h.now h.later);
      made = h.made;
      refused = h.refused;
      out = h.out;
      ran = rw (append_assoc done a h.now) at h.ran;
      grew = h.grew;
      told = h.told;
      cause = h.cause;
    }

-- all calls that were due were made
pub called : (set : Setting) (due : List Asked) (held : List ℕ) (l m : Lists) (w : Sunk) → MadeSome set.stripes due [] l m → WentOn set (map Ask due) held l w held m w
called set due held l m w c = λ o from done at. record {
  made = at.made ++ c.made;
  out = at.out ++ [];
  ran = ran_more set.stripes set.defs done (map Ask due) at.made c.made at.out [] at.ran (rw (c.due_is ∙ append-nil (map asked_in c.made)) (ran_calls set.stripes set.defs c.made c.done));
  grew = grew_more set.stripes at.made c.made from l m at.grew c.grew;
  shown = rw (append-nil at.out) at.shown;
}

map_more : (a b : List Asked) → map Ask (a ++ b) ≡ map Ask a ++ map Ask b
map_more [] b = refl
map_more (x ∷ a) b = ap (λ (l : List Act). Ask x ∷ l) (map_more a b)

-- a call was refused
pub refused : (set : Setting) (refusal : Refusal) (item : Item) (line : ℕ) (s : Script) (held : List ℕ) (l m : Lists) (w : Sunk)
    → CallsHalt set.stripes refusal item s l m → Halts set (ended_by line refusal) s item line (acts_with set.stripes item s) held l w held m w
refused set refusal item line s held l m w c = λ o from done at. record {
  now = map Ask (map asked_in c.made);
  later = map Ask c.later ++ own_acts s.link item;
  acts_are = ap (λ (x : List Asked). map Ask x ++ own_acts s.link item) c.calls_are ∙ ap (λ (x : List Act). x ++ own_acts s.link item) (map_more (map asked_in c.made) c.later)
      ∙ append_assoc (map Ask (map asked_in c.made)) (map Ask c.later) (own_acts s.link item);
  made = at.made ++ c.made;
  refused = c.refused;
  out = at.out ++ [];
  ran = ran_more set.stripes set.defs done (map Ask (map asked_in c.made)) at.made c.made at.out [] at.ran (ran_calls set.stripes set.defs c.made c.done);
  grew = rw (append_assoc at.made c.made c.refused) (grew_more set.stripes at.made (c.made ++ c.refused) from l m at.grew c.grew);
  told = told refusal (rw (append-nil at.out) at.shown);
  cause = why refusal c.later c.refused c.why o.faults w.faults;
}
  where
    told : {o : Sunk} {out : List ℕ} (refusal : Refusal) → IsShown o w out held → ToldBy (is_write_fault (ended_by line refusal)) o w out held
    told (refusals.TooMany limit) x = x
    told refusals.Spent x = x
    told refusals.NoMemory x = x

    why : (refusal : Refusal) (later : List Asked) (made : List Made) → WhyRefused refusal item s later made → (before after : ℕ) → Stops (ended_by line refusal) s item line (map Ask later ++ own_acts s.link item) made before after
    why (refusals.TooMany limit) later made (x, more, e, f, t) before after = (refl, x, map Ask more ++ own_acts s.link item, ap (λ (l : List Asked). map Ask l ++ own_acts s.link item) e, f, t)
    why refusals.Spent later made (x, more, e, f, t) before after = (x, map Ask more ++ own_acts s.link item, ap (λ (l : List Asked). map Ask l ++ own_acts s.link item) e, f, t)
    why refusals.NoMemory later made (inl h) before after = inl h
    why refusals.NoMemory later made (inr (x, more, e, f, t)) before after = inr (inl (x, map Ask more ++ own_acts s.link item, ap (λ (l : List Asked). map Ask l ++ own_acts s.link item) e, f, t))

-- an item was heard: the calls of its group were made, and then it acted itself
pub heard : (set : Setting) (item : Item) (line : ℕ) (result : Option RunEnd) (e mid f : Kept) (l k m : Lists) (w v : Sunk)
    → Calls set.stripes item None e.script mid.script l k → mid.held ≡ e.held → ActsItself set item line result e.script mid k w f m v → Hears set item line result e l w f m v
heard set item line None e mid f l k m w v (script, made) held (place, link, goes, acts) = (
  same_script f.script item e.script (place ∙ ap (λ (s : Script). s.place) script) (link ∙ ap (λ (s : Script). link_after item s.link) script),
  goes,
  went_both set _ _ _ _ _ _ _ _ _ _ _ (rw held (called set _ e.held l k w made)) (rw (ap (λ (s : Script). s.link) script) at acts),
)
  where
    same_script : (t : Script) (item : Item) (s : Script) → t.place ≡ (after item s).place → t.link ≡ (after item s).link → t ≡ after item s
    same_script t item s p q = rw (p, q) refl
heard set item line (Some end) e mid f l k m w v (script, made) held acts =
    went_halts set end e.script item line _ _ _ _ _ _ _ _ _ _ _ (rw held (called set _ e.held l k w made)) (rw (ap (λ (s : Script). s.link) script) at acts)

-- there was no memory for a body line, or for the calls of the group
pub not_heard : (n : ℕ) (item : Item) (s : Script) (l : Lists) → AreSound n l → (kind_of item ≡ Body) ⊎ (0 < size s.place.group) → CallsHalt n refusals.NoMemory item s l l
not_heard n item s l sound wanted = record {
  made = [];
  later = calls_with n s.link item s.place;
  refused = [];
  calls_are = refl;
  done = tt;
  grew = grew_none n l sound;
  why = inl (refl, wanted);
}

-- a line was printed
pub said : (set : Setting) (spoken : Item) (held new : List ℕ) (l : Lists) (w v : Sunk) → Prints true (line_of set.defs spoken) held new w.written v.written w.faults v.faults → WentOn set (Say spoken ∷ []) held l w new l v
said set spoken held new l w v p = λ o from done at.
    acted set (Say spoken) [] (line_of set.defs spoken) held new l l w v (refl, refl) (grew_none set.stripes l (grown_sound set.stripes at.made from l at.grew)) p o from done at

-- a line was cut short
pub said_short : (set : Setting) (spoken : Item) (held new : List ℕ) (l : Lists) (w v : Sunk) (s : Script) (item : Item) (line : ℕ)
    → Prints false (line_of set.defs spoken) held new w.written v.written w.faults v.faults → Halts set WriteFault s item line (Say spoken ∷ []) held l w new l v
said_short set spoken held new l w v s item line p = λ o from done at.
    acted_short set (Say spoken) [] (line_of set.defs spoken) held new l l w v s item line (refl, refl) (grew_none set.stripes l (grown_sound set.stripes at.made from l at.grew)) p o from done at

-- the last line was printed
pub ended : (set : Setting) (held new : List ℕ) (l : Lists) (w v : Sunk) (s : Script) (line : ℕ) → Prints true (line_of set.defs items.End) held new w.written v.written w.faults v.faults → Halts set Done s items.End line (Say items.End ∷ []) held l w new l v
ended set held new l w v s line p = λ o from done at.
    let next = said set items.End held new l w v p o from done at in
    record {
      now = Say items.End ∷ [];
      later = [];
      acts_are = refl;
      made = next.made;
      refused = [];
      out = next.out;
      ran = next.ran;
      grew = rw (append-nil next.made) next.grew;
      told = next.shown;
      cause = (refl, refl, refl);
    }

-- a step that a run does not have
pub bad_step : (set : Setting) (s : Script) (item : Item) (line : ℕ) (held : List ℕ) (l : Lists) (w : Sunk) → is_bad item ≡ true → Halts set (BadStep line) s item line [] held l w held l w
bad_step set s item line held l w bad = halted set (BadStep line) s item line [] held l w refl (λ before after. (bad, refl, refl, refl))

pub far_link : (n : ℕ) → 127 < n → nat_lt 127 n ≡ true
far_link n h = grind (arith, nat_tests)

pub near_link : (n : ℕ) → n ≤ 127 → nat_lt 127 n ≡ false
near_link n h = grind (arith, nat_tests)
