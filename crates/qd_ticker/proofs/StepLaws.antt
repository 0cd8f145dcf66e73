-- A step keeps what the stripe stands for, and its entry is lawful.
use Rattle.std.proofs.Common.{◌≡◌, inl, inr, ℕ, Bool, true, false, if◌then◌else◌, Option, Some, None, is_some, List, [], ◌∷◌, ◌++◌, map, refl, ap, sym, ◌∙◌, subst}
use Rattle.std.proofs.Math.Bool.{or-false}
use Rattle.qd_scheme.specs.declared.key.Key.{Key}
use Rattle.qd_scheme.specs.declared.key.Record.{Record}
use Rattle.qd_buffer.specs.Filled.{Filled, with_items}
use Rattle.qd_gate.specs.declared.machine.Terms.{Terms}
use Rattle.qd_gate.specs.Logs.{entry}
use Rattle.qd_gate.proofs.Laws.{each_follows_push}
use Rattle.qd_sub.specs.declared.sub.Sub.{Sub}
use Rattle.qd_sub.specs.declared.sub.Want.{Want}
use Rattle.qd_sub.specs.declared.op.Op.{Op}
use Rattle.qd_sub.specs.declared.op.Op.TheVariants.{Add, Remove, Close, Put, Take, Watch}
use Rattle.qd_sub.specs.declared.op.Reply.{Reply}
use Rattle.qd_sub.specs.declared.op.Reply.TheVariants.{Done, Items, Wants, TooManyKeys, TooManySubs, NoMemory}
use Rattle.qd_sub.specs.Acts.{Came}
use Rattle.qd_sub.specs.Subscriptions.{subscribed, keys_of}
use Rattle.qd_sub.specs.Holding.{held, held_keys, held_pairs}
use Rattle.qd_sub.specs.Watching.{watched}
use Rattle.qd_sub.specs.Logs.{after, ends_of, after_entry, after_log}
use Rattle.qd_sub.proofs.LogLaws.{after_log-push}
use Rattle.qd_sub.proofs.StepLaws.{keys_of-has, held_pairs-has, held_pairs-once}
use Rattle.qd_sub.proofs.HeldLaws.{held-agent, held-watcher, held-holder, held_keys-has, held_keys-once}
use Rattle.qd_table.specs.declared.table.SubFault.{SubFault}
use Rattle.qd_table.specs.declared.table.SubFault.TheVariants.{TooManyKeys as FaultKeys, TooManySubs as FaultSubs}
use Rattle.qd_table.specs.Tables.{slot_for, wants_for, fault_of}
use Rattle.qd_ticker.specs.Pending.{TickerMoment}
use Rattle.qd_ticker.specs.Legal.{TickerEntry, ticker_acts, moment_of, too_many_keys, too_many_subs, reply_to, IsLawful, Follows, IsLegal}
use Rattle.qd_ticker.specs.Stripes.{Shown, StandsAt, Stands, no_keeps}
use Rattle.qd_ticker.specs.Steps.{IsTelling, Leads, Takes, Adds, Answers}
use Rattle.qd_table.proofs.StandLaws.{watched-table}
use Rattle.qd_table.proofs.TableCounts.{key-holder, fault-table}
use Rattle.qd_ticker.proofs.TellLaws.{StandsAt-told}
use Rattle.qd_ticker.proofs.WayLaws.{close_acts}

-- the faults of the table are those of the moment
held-slot : (s : Shown) (now : TickerMoment) (k : Key) → StandsAt s now → is_some (slot_for s.table k) ≡ held k now
held-slot s now k st =
    key-holder s.table no_keeps now k (held k now) st.table (λ a h. held-agent a k now (sym (or-false (subscribed a k now)) ∙ h)) (λ w h. held-watcher w k now h)
    (λ h. elim (held-holder k now h) [ inl f ↦ inl (f.0, or-false (subscribed f.0 k now) ∙ f.1) | inr f ↦ inr f ])

fault-now : (s : Shown) (now : TickerMoment) (a : ℕ) (subs : List Sub) → StandsAt s now → fault_of s.table a subs ≡ (if too_many_keys now subs then Some FaultKeys else if too_many_subs now a subs then Some FaultSubs else None)
unfolding too_many_keys too_many_subs
fault-now s now a subs st =
    fault-table s.table a subs (held_keys now) (keys_of a now) (held_pairs now) st.table.sound (held_keys-once now) (λ k. held_keys-has now k ∙ sym (held-slot s now k st)) (held_pairs-once now)
    (λ p. held_pairs-has now p ∙ sym (or-false (subscribed p.0 p.1 now)) ∙ st.table.held p.0 p.1) (λ k. keys_of-has a now k ∙ sym (or-false (subscribed a k now)) ∙ st.table.held a k)

-- an Add
fault-none : (c d : Bool) → (let o : Option SubFault = None in o ≡ (if c then Some FaultKeys else if d then Some FaultSubs else None)) → (let r : Reply Record = Done in r ≡ (if c then TooManyKeys else if d then TooManySubs else Done))
fault-none true d h = cc
fault-none false true h = cc
fault-none false false h = refl

fault-keys : (c d : Bool) → (let o : Option SubFault = Some FaultKeys in o ≡ (if c then Some FaultKeys else if d then Some FaultSubs else None)) → (let r : Reply Record = TooManyKeys in r ≡ (if c then TooManyKeys else if d then TooManySubs else Done))
fault-keys true d h = refl
fault-keys false true h = cc
fault-keys false false h = cc

fault-subs : (c d : Bool) → (let o : Option SubFault = Some FaultSubs in o ≡ (if c then Some FaultKeys else if d then Some FaultSubs else None)) → (let r : Reply Record = TooManySubs in r ≡ (if c then TooManyKeys else if d then TooManySubs else Done))
fault-subs true d h = cc
fault-subs false true h = refl
fault-subs false false h = cc

pub answers-add : (s t : Shown) (a : ℕ) (subs : Filled Sub) (reply : Reply Record) → Adds s a subs.items reply t → Answers s (Add a subs) reply t
unfolding IsLawful reply_to after
answers-add s t a subs Done (f, leads) now st = (leads now st, inl (fault-none (too_many_keys now subs.items) (too_many_subs now a subs.items) (sym f ∙ fault-now s now a subs.items st)))
answers-add s t a subs TooManyKeys (f, leads) now st = (leads now st, inl (fault-keys (too_many_keys now subs.items) (too_many_subs now a subs.items) (sym f ∙ fault-now s now a subs.items st)))
answers-add s t a subs TooManySubs (f, leads) now st = (leads now st, inl (fault-subs (too_many_keys now subs.items) (too_many_subs now a subs.items) (sym f ∙ fault-now s now a subs.items st)))
answers-add s t a subs NoMemory (f, leads) now st = (leads now st, inr (tt, refl, sym (fault-none (too_many_keys now subs.items) (too_many_subs now a subs.items) (sym f ∙ fault-now s now a subs.items st))))
answers-add s t a subs (Items given) x now st = absurd x
answers-add s t a subs (Wants told) x now st = absurd x

pub answers-remove : (s t : Shown) (a : ℕ) (keys : Filled Key) → Leads s (λ now. ends_of a now keys.items) t → Answers s (Remove a keys) Done t
unfolding IsLawful reply_to
answers-remove s t a keys leads now st = (leads now st, inl refl)

pub answers-close : (s t : Shown) (a : ℕ) → Leads s (close_acts a) t → Answers s (Close a) Done t
unfolding IsLawful reply_to
answers-close s t a leads now st = (leads now st, inl refl)

pub answers-put : (s t : Shown) (items : Filled Record) → Leads s (λ now. map (λ r. Came r.key r) items.items) t → Answers s (Put items) Done t
unfolding IsLawful reply_to
answers-put s t items leads now st = (leads now st, inl refl)

pub answers-take : (s t : Shown) (a most : ℕ) (out given : Filled Record) → Takes s a most out given t → Answers s (Take a most out) (Items given) t
unfolding IsLawful reply_to
answers-take s t a most out given takes now st =
    let found = takes now st in
    let P : Filled Record → Type 0 = λ g. StandsAt t (after now (ticker_acts now (Take a most out) (Items g))) in
    (subst P (sym found.0) found.1, inl (ap Items found.0))

pub answers-watch : (s t : Shown) (w most : ℕ) (out told : Filled Want) → told ≡ with_items out (wants_for s.table w most) → IsTelling s w most t → Answers s (Watch w most out) (Wants told) t
unfolding IsLawful reply_to
answers-watch s t w most out told e tells now st =
    let is : told ≡ with_items out (watched w most now) = e ∙ ap (with_items out) (sym (watched-table s.table no_keeps now st.table w most tells.watcher)) in
    let P : Filled Want → Type 0 = λ g. StandsAt t (after now (ticker_acts now (Watch w most out) (Wants g))) in
    (subst P (sym is) (StandsAt-told s t now w most st tells), inl (ap Wants is))

-- after a step the stripe stands for each legal log with the entry, and that log is legal
pub entered-step : (s t : Shown) (op : Op Record Record) (reply : Reply Record) → Answers s op reply t → (terms : Terms) (log : List TickerEntry) (who : ℕ) → Stands s log → IsLegal terms log
    → Stands t (log ++ entry who op reply ∷ []) × IsLegal terms (log ++ entry who op reply ∷ [])
unfolding moment_of Follows after_entry
entered-step s t op reply step terms log who st legal =
    let answered = step (after_log ticker_acts [] log) st in (
      subst (λ now. StandsAt t now) (sym (after_log-push ticker_acts [] log (entry who op reply))) answered.0,
      each_follows_push (Follows terms) log (entry who op reply) legal answered.1,
    )

pub Stands-empty : (s : Shown) → StandsAt s [] → Stands s []
unfolding moment_of after_log
Stands-empty s st = st
