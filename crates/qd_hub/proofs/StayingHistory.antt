-- In the logs of the history no key of another stripe is known.
use Rattle.std.proofs.Common.{◌≡◌, ◌⊎◌, inl, inr, ℕ, Bool, true, false, ◌==◌, if◌then◌else◌, Option, Some, None, is_some, List, [], ◌∷◌, length, sym, subst}
use Rattle.std.specs.Prelude.{IsTrue, MatchOption}
use Rattle.std.specs.List.{AllByRecursion}
use Rattle.qd_scheme.specs.declared.key.Key.{Key}
use Rattle.qd_scheme.specs.Stripes.{stripe_of}
use Rattle.qd_gate.specs.declared.machine.Terms.{Terms}
use Rattle.qd_sub.specs.declared.op.Op.TheVariants.{Add, Remove, Close, Put, Take, Watch}
use Rattle.qd_sub.specs.Acts.{Gave}
use Rattle.qd_sub.specs.Logs.{acts_given, after_log}
use Rattle.qd_hist_rules.specs.declared.item.HistItem.{HistItem}
use Rattle.qd_hist_rules.specs.declared.reply.HistoryReply.{HistoryReply}
use Rattle.qd_hist_rules.specs.declared.reply.HistoryReply.TheVariants.{Done, Items, Wants, TooManyKeys, TooManySubs, HistoryFull, Spent, NoMemory}
use Rattle.qd_hist_rules.specs.Moments.{HistMoment, event_key, item_key}
use Rattle.qd_hist_rules.specs.Source.{last}
use Rattle.qd_hist_rules.specs.Agent.{meet}
use Rattle.qd_hist_rules.specs.Lawful.{LawfulItem}
use Rattle.qd_hist_rules.specs.Takes.{LawfulItems}
use Rattle.qd_hist_rules.specs.Legal.{HistoryOp, last_mark, mark_of, history_acts, moment_of, too_many_keys, too_many_subs, is_full, is_spent, refusal, Answers, MayWant, IsLawful, Follows, IsLegal}
use Rattle.qd_hub.specs.Hubs.{op_keys}
use Rattle.qd_hub.specs.OfStripe.{KeepsStripes}
use Rattle.qd_hub.proofs.Staying.{AreSuch, IsSuch, append_all, if_all, no_limit, watched_such, done_such, given_such, told_such, log_such, unknown}
use Rattle.qd_hub.proofs.StayingLogs.{keys_by, of_stripe}

-- what a reply gives and tells is of such keys
abbrev GivesSuch : (Key → Type 0) → HistoryReply → Type 0
GivesSuch Such Done = Unit {0}
GivesSuch Such (Items given) = AllByRecursion (λ i. Such (item_key i)) given.items
GivesSuch Such (Wants told) = AllByRecursion (λ x. Such x.key) told.items
GivesSuch Such TooManyKeys = Unit {0}
GivesSuch Such TooManySubs = Unit {0}
GivesSuch Such HistoryFull = Unit {0}
GivesSuch Such Spent = Unit {0}
GivesSuch Such NoMemory = Unit {0}

-- so is that of a refusal, if there is one
abbrev IfGives : (Key → Type 0) → Option HistoryReply → Type 0
IfGives Such None = Unit {0}
IfGives Such (Some reply) = GivesSuch Such reply

module _ (Such : Key → Type 0) where
  last_such : (a : ℕ) (items : List HistItem) → AllByRecursion (λ (i : HistItem). Such (item_key i)) items → AreSuch event_key Such (last_mark a items)
  last_such a [] all = tt
  last_such a (i ∷ []) all = (all.0, tt)
  last_such a (i ∷ j ∷ is) all = last_such a (j ∷ is) all.1

  mark_such : (op : HistoryOp) (items : List HistItem) → AllByRecursion (λ (i : HistItem). Such (item_key i)) items → AreSuch event_key Such (mark_of op items)
  mark_such (Take agent most out) items all = if_all (IsSuch event_key Such) (length items == most) (last_mark agent items) [] (last_such agent items all) tt
  mark_such (Add agent subs) items all = tt
  mark_such (Remove agent keys) items all = tt
  mark_such (Close agent) items all = tt
  mark_such (Put puts) items all = tt
  mark_such (Watch watcher most out) items all = tt

  acts_such : (now : HistMoment) (op : HistoryOp) (reply : HistoryReply) → AllByRecursion Such (op_keys event_key op) → AreSuch event_key Such now → GivesSuch Such reply → AreSuch event_key Such (history_acts now op reply)
  acts_such now op Done keys all gives = done_such event_key Such (λ s. s.limit) now op keys all
  acts_such now op (Items given) keys all gives =
      append_all (IsSuch event_key Such) (acts_given item_key op given.items) (mark_of op given.items) (given_such event_key Such item_key op given.items gives) (mark_such op given.items gives)
  acts_such now op (Wants told) keys all gives = told_such event_key Such op told.items gives
  acts_such now op TooManyKeys keys all gives = tt
  acts_such now op TooManySubs keys all gives = tt
  acts_such now op HistoryFull keys all gives = tt
  acts_such now op Spent keys all gives = tt
  acts_such now op NoMemory keys all gives = tt

  module _ (tell : (k : Key) → Such k ⊎ (Such k → ⊥)) where
    -- an item comes only where its agent is subscribed
    item_such : (terms : Terms) (a : ℕ) (i : HistItem) (past : HistMoment) → AreSuch event_key Such past → LawfulItem terms a (item_key i) i past → Such (item_key i)
    item_such terms a i past all lawful = go (tell (item_key i))
      where
        go : Such (item_key i) ⊎ (Such (item_key i) → ⊥) → Such (item_key i)
        go (inl such) = such
        go (inr out) =
            let none = no_limit event_key Such a (item_key i) out past all in
            let bad : false ≡ true = subst (λ (l : Option ℕ). IsTrue (is_some (meet l (last terms.base (item_key i) past)))) none lawful.may_come.fits in
            cc

    items_such : (terms : Terms) (a : ℕ) (items : List HistItem) (now : HistMoment) → AreSuch event_key Such now → LawfulItems terms a items now → AllByRecursion (λ (i : HistItem). Such (item_key i)) items
    items_such terms a [] now all each = tt
    items_such terms a (i ∷ is) now all each =
        let such = item_such terms a i now all each.0 in
        (such, items_such terms a is (Gave a (item_key i) i ∷ now) (such, all) each.1)

    answer_such : (terms : Terms) (now : HistMoment) (op : HistoryOp) (reply : HistoryReply) → AreSuch event_key Such now → Answers terms now op reply → GivesSuch Such reply
    answer_such terms now (Add agent subs) reply all e = subst (λ (r : HistoryReply). GivesSuch Such r) (sym e) tt
    answer_such terms now (Remove agent keys) reply all e = subst (λ (r : HistoryReply). GivesSuch Such r) (sym e) tt
    answer_such terms now (Close agent) reply all e = subst (λ (r : HistoryReply). GivesSuch Such r) (sym e) tt
    answer_such terms now (Put items) reply all e = subst (λ (r : HistoryReply). GivesSuch Such r) (sym e) tt
    answer_such terms now (Take agent most out) reply all t = subst (λ (r : HistoryReply). GivesSuch Such r) (sym t.1) (items_such terms agent t.0 now all t.2.each)
    answer_such terms now (Watch watcher most out) reply all e = subst (λ (r : HistoryReply). GivesSuch Such r) (sym e) (watched_such event_key Such watcher most now all)

    if_refused : (b : Bool) (x : HistoryReply) (y : Option HistoryReply) → GivesSuch Such x → IfGives Such y → IfGives Such (if b then Some x else y)
    if_refused true x y gives too = gives
    if_refused false x y gives too = too

    refusal_such : (base : ℕ) (now : HistMoment) (op : HistoryOp) → IfGives Such (refusal base now op)
    unfolding refusal
    refusal_such base now (Add agent subs) =
        if_refused (too_many_keys now subs.items) TooManyKeys (if too_many_subs now agent subs.items then Some TooManySubs else None) tt (if_refused (too_many_subs now agent subs.items) TooManySubs None tt tt)
    refusal_such base now (Put items) = if_refused (is_full base now items.items) HistoryFull (if is_spent base now items.items then Some Spent else None) tt (if_refused (is_spent base now items.items) Spent None tt tt)
    refusal_such base now (Remove agent keys) = tt
    refusal_such base now (Close agent) = tt
    refusal_such base now (Take agent most out) = tt
    refusal_such base now (Watch watcher most out) = tt

    matched_such : (A : Type 0) (o : Option HistoryReply) (reply : HistoryReply) → IfGives Such o → (A → GivesSuch Such reply) → MatchOption o A (λ refused. reply ≡ refused) → GivesSuch Such reply
    matched_such A None reply gives answer a = answer a
    matched_such A (Some refused) reply gives answer e = subst (λ (r : HistoryReply). GivesSuch Such r) (sym e) gives

    either_such : (terms : Terms) (now : HistMoment) (op : HistoryOp) (reply : HistoryReply) → AreSuch event_key Such now → Answers terms now op reply ⊎ (MayWant op × (reply ≡ NoMemory)) → GivesSuch Such reply
    either_such terms now op reply all (inl answer) = answer_such terms now op reply all answer
    either_such terms now op reply all (inr want) = subst (λ (r : HistoryReply). GivesSuch Such r) (sym want.1) tt

    pub lawful_such : (terms : Terms) (now : HistMoment) (op : HistoryOp) (reply : HistoryReply) → AllByRecursion Such (op_keys event_key op) → AreSuch event_key Such now → IsLawful terms now op reply → AreSuch event_key Such (history_acts now op reply)
    unfolding IsLawful
    lawful_such terms now op reply keys all lawful =
        acts_such now op reply keys all
        (matched_such (Answers terms now op reply ⊎ (MayWant op × (reply ≡ NoMemory))) (refusal terms.base now op) reply (refusal_such terms.base now op) (either_such terms now op reply all) lawful)

pub history_keeps : KeepsStripes IsLegal moment_of event_key
unfolding moment_of Follows after_log
history_keeps terms log stripes stripe k legal are out =
    unknown event_key (λ j. stripe_of j stripes ≡ stripe) k out (moment_of log)
    (log_such event_key (λ j. stripe_of j stripes ≡ stripe) history_acts (IsLawful terms) (lawful_such (λ j. stripe_of j stripes ≡ stripe) (of_stripe stripes stripe) terms) [] log (keys_by event_key stripes stripe log are) legal tt)
