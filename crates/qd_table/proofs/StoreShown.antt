-- The calls by slot, from the parts to the table that they show.
use Rattle.std.proofs.Common.{◌≡◌, ℕ, ◌+◌, ◌<◌, ◌≤◌, Bool, true, false, not, if◌then◌else◌, nat_eq, Option, Some, None, is_some, Result, Ok, Err, OnOk, IfErr, List, length, slice_set, refl, ap, sym, ◌∙◌, arith, subst}
use Rattle.std.proofs.lemmas.List.{length-set, get_or_past}
use Rattle.qd_scheme.specs.declared.key.Key.{Key}
use Rattle.qd_sub.specs.declared.sub.Sub.{Sub}
use Rattle.qd_sub.specs.declared.sub.Want.{Want}
use Rattle.qd_pend.specs.Slots.{has}
use Rattle.qd_pend.proofs.ListLaws.{same}
use Rattle.qd_slots.specs.declared.holds.Hold.{Hold}
use Rattle.qd_slots.specs.declared.holds.Hold.TheVariants.{Free, Kept, Subscribed}
use Rattle.qd_slots.specs.declared.views.View.{View}
use Rattle.qd_slots.specs.Names.{name_at, named_in}
use Rattle.qd_slots.specs.Holds.{Holdings, cell_at, order_at, hold_at, total_in, is_subscribed, is_kept, with_end, with_hold, after_end}
use Rattle.qd_slots.specs.Views.{Viewing, view_at, viewing_at, view_after, with_told, HasSlot, EachSaw}
use Rattle.qd_table.specs.declared.table.SubFault.{SubFault}
use Rattle.qd_table.specs.declared.table.SubFault.TheVariants.{NoMemory}
use Rattle.qd_table.specs.Tables.{Table, keys_in, key_at, hold_for, is_wanted_slot, view_for, pairs_in, room_for, total_to_tell, want_for, fault_of}
use Rattle.qd_table.specs.Steps.{IsSame, IsSubscribed, IsEnded, IsLetGo, IsTold, IsCause}
use Rattle.qd_table.specs.Stored.{Store, table_of, IsStored}
use Rattle.qd_table.proofs.TableLaws.{some-from, true-false}
use Rattle.qd_table.proofs.StandLaws.{total_for-some}
use Rattle.qd_table.proofs.CellLaws.{total-cell}
use Rattle.qd_table.proofs.StoreSteps.{Subscribing, subscribing-step, told-room}
use Rattle.qd_table.proofs.StoreEnds.{Ending, LettingGo, Telling, ending-step, letting-step, telling-step, go-nothing}
use Rattle.qd_table.proofs.StoreAdmits.{Reserving, reserving-same}
use Rattle.qd_table.proofs.Shown.{room-agent}
use Rattle.qd_table.proofs.JudgeLaws.{allowed-keys, allowed-pairs}

pub room-facts : {s : Store} {now : Table} → IsStored s → table_of s ≡ now → (agent : ℕ) → 0 < room_for now agent → (agent ≡ s.agent) × (0 < s.room)
room-facts {s} inv e agent h = room-agent s agent (subst (λ (t : Table). 0 < room_for t agent) (sym e) h)

-- what an agent has, by its number in the code
pub part-subscribed : {s : Store} {now : Table} → IsStored s → table_of s ≡ now → (a agent slot : ℕ) → a ≡ agent → is_subscribed (hold_for now agent slot) ≡ true → is_subscribed (hold_for (table_of s) a slot) ≡ true
part-subscribed {s} {now} inv e a agent slot n h = ap (λ t. is_subscribed (hold_for t a slot)) e ∙ ap (λ b. is_subscribed (hold_for now b slot)) n ∙ h

pub cell-subscribed : {s : Store} {now : Table} → IsStored s → table_of s ≡ now → (a agent slot : ℕ) → a ≡ agent → is_subscribed (hold_for now agent slot) ≡ true → is_subscribed (hold_at s.holdings.cells slot a) ≡ true
unfolding hold_for
cell-subscribed inv e a agent slot n h = part-subscribed inv e a agent slot n h

pub absent-kept : {s : Store} → IsStored s → (a slot : ℕ) → is_subscribed (hold_at s.holdings.cells slot a) ≡ true → has (order_at s.kept a).list slot ≡ false
absent-kept {s} inv a slot h = inv.kept a slot ∙ apart (hold_at s.holdings.cells slot a) h
  where
    apart : (hold : Hold) → is_subscribed hold ≡ true → is_kept hold ≡ false
    apart Free t = refl
    apart Kept t = absurd (true-false (sym t))
    apart Subscribed t = refl

pub ended-length : (h h' : Holdings) (a slot : ℕ) (keep : Bool) → h' ≡ with_end h a slot keep → slot < length h.cells → slot < length h'.cells
ended-length h h' a slot keep e l = let f = ap (λ x. length x.cells) e ∙ length-set h.cells slot (with_hold (cell_at h.cells slot) a (after_end keep)) in omega (arith, f, l)

pub saw-slot : (old new : List Viewing) (slot : ℕ) (total : Option ℕ) → EachSaw slot total old new → HasSlot slot old → HasSlot slot new
saw-slot old new slot total s h w l =
    let r = h w l in
    subst (λ (v : Viewing). (slot < length v.views) × (slot < v.queue.slots)) (sym (s.saw w l))
    (let e = length-set (viewing_at old w).views slot (view_after (view_at (viewing_at old w).views slot) total) in let p = r.0 in (omega (arith, p, e), r.1))

-- shown
pub subscribing-shown : {s : Store} {now : Table} (s' : Store) (a agent : ℕ) (k : Key) (limit slot : ℕ) → IsStored s → table_of s ≡ now → a ≡ agent → Subscribing s s' a k limit slot → IsSubscribed now agent k limit slot (table_of s')
subscribing-shown {s} {now} s' a agent k limit slot inv e n h =
    subst (λ (b : ℕ). IsSubscribed now b k limit slot (table_of s')) n (subst (λ (t : Table). IsSubscribed t a k limit slot (table_of s')) e (subscribing-step a k limit slot inv h))

pub ending-shown : {s : Store} {now : Table} (s' : Store) (a agent slot : ℕ) (keep : Bool) → IsStored s → table_of s ≡ now → a ≡ agent → Ending s s' a slot keep → IsEnded now agent slot keep (table_of s')
ending-shown {s} {now} s' a agent slot keep inv e n h =
    subst (λ (b : ℕ). IsEnded now b slot keep (table_of s')) n (subst (λ (t : Table). IsEnded t a slot keep (table_of s')) e (ending-step a slot keep inv h))

pub letting-shown : {s : Store} {now : Table} (s' : Store) (a agent slot : ℕ) → IsStored s → table_of s ≡ now → a ≡ agent → LettingGo s s' a slot → IsLetGo now agent slot (table_of s')
letting-shown {s} {now} s' a agent slot inv e n h =
    subst (λ (b : ℕ). IsLetGo now b slot (table_of s')) n (subst (λ (t : Table). IsLetGo t a slot (table_of s')) e (letting-step a slot inv h))

pub telling-shown : {s : Store} {now : Table} (s' : Store) (w watcher slot : ℕ) → IsStored s → table_of s ≡ now → w ≡ watcher → Telling s s' w slot → IsTold now watcher slot (table_of s')
telling-shown {s} {now} s' w watcher slot inv e n h =
    subst (λ (b : ℕ). IsTold now b slot (table_of s')) n (subst (λ (t : Table). IsTold t w slot (table_of s')) e (telling-step w slot inv h))

pub reserving-shown : {s : Store} {now : Table} (s' : Store) → IsStored s → table_of s ≡ now → Reserving s s' → IsSame now (table_of s')
reserving-shown s' inv e h = subst (λ (t : Table). IsSame t (table_of s')) e (reserving-same inv h)

-- beyond all slots nothing is let go
pub past-let_go : {s : Store} {now : Table} → IsStored s → table_of s ≡ now → (agent slot : ℕ) → length s.names.names ≤ slot → IsLetGo now agent slot now
unfolding key_at
past-let_go {s} inv e agent slot l = subst (λ (t : Table). IsLetGo t agent slot t) e (go-nothing (table_of s) agent slot inv.sound (get_or_past s.names.names slot None l))

-- whether the slot is unwanted
pub none-unwanted : {s' : Store} → IsStored s' → (slot : ℕ) (total : Option ℕ) (b : Bool) → slot < length s'.holdings.cells → total ≡ total_in (cell_at s'.holdings.cells slot) → is_some total ≡ not b → b ≡ not (is_wanted_slot (table_of s') slot)
none-unwanted {s'} inv slot total b l e h = twice b ∙ ap not (sym h) ∙ ap (λ o. not (is_some o)) (e ∙ total-cell inv slot l) ∙ ap not (total_for-some (table_of s') slot)
  where
    twice : (c : Bool) → c ≡ not (not c)
    twice true = refl
    twice false = refl

-- the judgement, shown
pub fault-shown : {s : Store} {now : Table} → IsStored s → table_of s ≡ now → (a agent : ℕ) (subs : List Sub) → a ≡ agent → fault_of (table_of s) a subs ≡ fault_of now agent subs
fault-shown {s} {now} inv e a agent subs n = ap (λ t. fault_of t a subs) e ∙ ap (λ b. fault_of now b subs) n

-- tellings
pub part-key : {s : Store} {now : Table} → IsStored s → table_of s ≡ now → (slot : ℕ) → is_some (key_at now slot) ≡ true → (k : Key) × (key_at (table_of s) slot ≡ Some k)
part-key {s} inv e slot h = some-from (key_at (table_of s) slot) (ap (λ t. is_some (key_at t slot)) e ∙ h)

pub told-slot : (old new : List Viewing) (w slot : ℕ) (told total : Option ℕ) → new ≡ slice_set old w (with_told (viewing_at old w) slot told total) → w < length old → HasSlot slot old → HasSlot slot new
told-slot old new w slot told total e b h v l =
    let r = told-room old new w slot (slot + 1) told total e b (λ u m. let p = h u m in let x = p.0 in let y = p.1 in (omega arith, omega arith)) v l in
    let x = r.0 in let y = r.1 in (omega arith, omega arith)

pub told-total : {s : Store} → IsStored s → (w slot : ℕ) (view : View) (total told : Option ℕ) → slot < length s.holdings.cells → view ≡ view_at (viewing_at s.viewings w).views slot → total ≡ total_in (cell_at s.holdings.cells slot) → told ≡ (if view.outdated then None else total) → told ≡ total_to_tell (table_of s) w slot
unfolding total_to_tell view_for
told-total {s} inv w slot view total told l e f g = g ∙ ap (λ v. if v.outdated then None else total) e ∙ ap (λ o. if (view_at (viewing_at s.viewings w).views slot).outdated then None else o) (f ∙ total-cell inv slot l)

pub told-shown : {s : Store} → IsStored s → (new : List Viewing) (w slot : ℕ) (view : View) (total told : Option ℕ) → slot < length s.holdings.cells → view ≡ view_at (viewing_at s.viewings w).views slot → total ≡ total_in (cell_at s.holdings.cells slot) → told ≡ (if view.outdated then None else total) →
    new ≡ slice_set s.viewings w (with_told (viewing_at s.viewings w) slot told total) → new ≡ slice_set s.viewings w (with_told (viewing_at s.viewings w) slot (total_to_tell (table_of s) w slot) (total_in (cell_at s.holdings.cells slot)))
told-shown {s} inv new w slot view total told l e f g h =
    h ∙ ap (λ o. slice_set s.viewings w (with_told (viewing_at s.viewings w) slot o total)) (told-total inv w slot view total told l e f g)
    ∙ ap (λ o. slice_set s.viewings w (with_told (viewing_at s.viewings w) slot (total_to_tell (table_of s) w slot) o)) f

pub want-none : {s : Store} {now : Table} → IsStored s → table_of s ≡ now → (w slot : ℕ) → None ≡ name_at s.names.names slot → None ≡ want_for now w slot
unfolding want_for key_at
want-none {s} {now} inv e w slot h = ap (λ o. elim o [ None ↦ None | Some k ↦ Some (let x : Want = record { key = k; total = total_to_tell (table_of s) w slot } in x) ]) h ∙ ap (λ t. want_for t w slot) e

pub want-some : {s : Store} {now : Table} → IsStored s → table_of s ≡ now → (w watcher slot : ℕ) (k : Key) (view : View) (total told : Option ℕ) → w ≡ watcher → Some k ≡ name_at s.names.names slot → slot < length s.holdings.cells → view ≡ view_at (viewing_at s.viewings w).views slot → total ≡ total_in (cell_at s.holdings.cells slot) → told ≡ (if view.outdated then None else total) →
    Some (let x : Want = record { key = k; total = told } in x) ≡ want_for now watcher slot
unfolding want_for key_at
want-some {s} {now} inv e w watcher slot k view total told n h l f g t =
    ap (λ o. Some (let x : Want = record { key = k; total = o } in x)) (told-total inv w slot view total told l f g t)
    ∙ ap (λ o. elim o [ None ↦ None | Some j ↦ Some (let x : Want = record { key = j; total = total_to_tell (table_of s) w slot } in x) ]) h
    ∙ ap (λ x. want_for x w slot) e ∙ ap (λ u. want_for now u slot) n

-- the numbers of the parts
pub part-pairs : {s : Store} {now : Table} → IsStored s → table_of s ≡ now → pairs_in now ≤ 262144 → s.holdings.pairs ≤ 262144
unfolding pairs_in
part-pairs {s} inv e h = subst (λ (t : Table). pairs_in t ≤ 262144) (sym e) h

pub part-keys : {s : Store} {now : Table} → IsStored s → table_of s ≡ now → length (keys_in now) ≤ 16384 → s.named ≤ 16384
unfolding keys_in
part-keys {s} inv e h = let l : length (named_in s.names.names) ≤ 16384 = subst (λ (t : Table). length (keys_in t) ≤ 16384) (sym e) h in let c = inv.counted in omega (arith, l, c)

pub room-own : (s : Store) (a more : ℕ) → s.agent ≡ a → s.room ≡ more → more ≤ room_for (table_of s) a
unfolding room_for
room-own s a more e f =
    let g = ap (λ n. if n then s.room else 0) (ap (nat_eq a) e ∙ same a) in
    omega (arith, f, g)

-- want of memory is told where nothing else is wrong
pub refused-cause : (t : Table) (a : ℕ) (subs : List Sub) (r : Result (Unit {0}) SubFault) → fault_of t a subs ≡ None → IfErr r (λ fault. fault ≡ NoMemory) → IfErr r (λ fault. IsCause t a subs fault)
refused-cause t a subs (Ok x) h e = tt
refused-cause t a subs (Err fault) h e = subst (λ (f : SubFault). IsCause t a subs f) (sym e) h

-- what is allowed leaves few keys and pairs
pub keys-allowed : {s : Store} {now : Table} → IsStored s → table_of s ≡ now → (agent : ℕ) (subs : List Sub) → fault_of now agent subs ≡ None → length (keys_in (table_of s)) ≤ 16384
keys-allowed {s} {now} inv e agent subs h = subst (λ (t : Table). length (keys_in t) ≤ 16384) (sym e) (allowed-keys now agent subs h)

pub pairs-allowed : {s : Store} {now : Table} → IsStored s → table_of s ≡ now → (agent : ℕ) (subs : List Sub) → fault_of now agent subs ≡ None → pairs_in (table_of s) ≤ 262144
pairs-allowed {s} {now} inv e agent subs h = subst (λ (t : Table). pairs_in t ≤ 262144) (sym e) (allowed-pairs now agent subs h)

pub allowed-either : {C : Type 0} (r : Result (Unit {0}) SubFault) → C → OnOk r C
allowed-either (Ok x) h = h
allowed-either (Err x) h = tt
