-- Items that are given one after another are a lawful answer, and the stripe then stands for the moment after them and the mark.
use Rattle.std.proofs.Common.{◌≡◌, ◌≢◌, ◌⊎◌, inl, inr, ℕ, suc, ◌≤◌, Bool, true, false, ◌==◌, if◌then◌else◌, Option, Some, List, [], ◌∷◌, ◌++◌, length, map, take, refl, ap, sym, ◌∙◌, subst}
use Rattle.std.specs.List.{cons_option}
use Rattle.std.proofs.lemmas.Bool.{eq-eqb, ne_eqb}
use Rattle.qd_scheme.specs.declared.key.Key.{Key}
use Rattle.qd_scheme.specs.Keys.{key_eq}
use Rattle.qd_scheme.proofs.KeyLaws.{key_eq-same, key_eq-true}
use Rattle.qd_buffer.specs.Filled.{Filled}
use Rattle.qd_gate.specs.declared.machine.Terms.{Terms}
use Rattle.qd_pend.specs.Slots.{has, without, first_in, rest_of, EachOnce}
use Rattle.qd_pend.proofs.ListLaws.{has-without_same, without-first}
use Rattle.qd_sub.specs.declared.op.Op.TheVariants as op
use Rattle.qd_sub.specs.Acts.{Gave, Full}
use Rattle.qd_sub.specs.Holding.{has_key}
use Rattle.qd_sub.specs.Logs.{after}
use Rattle.qd_table.specs.Tables.{Table, key_at, keys_at}
use Rattle.qd_table.proofs.TableLaws.{true-false, some-same, or-left}
use Rattle.qd_hist_rules.specs.declared.item.HistItem.{HistItem}
use Rattle.qd_hist_rules.specs.declared.reply.HistoryReply.TheVariants.{Items}
use Rattle.qd_hist_rules.specs.Moments.{HistAct, HistMoment, item_key}
use Rattle.qd_hist_rules.specs.Standing.{is_due, due_keys}
use Rattle.qd_hist_rules.specs.Takes.{after_gifts, LawfulItems, turns, each_done, LawfulTake}
use Rattle.qd_hist_rules.specs.Legal.{last_mark, history_acts}
use Rattle.qd_hist_rules.proofs.DueKeys.{due_keys-has}
use Rattle.qd_hist_feed.specs.Feeding.{is_done, after_next}
use Rattle.qd_hist_stand.specs.Stripes.{Shown, StandsAt, state_at, feed_at, queue_at, terms_in}
use Rattle.qd_hist_stand.specs.Steps.{IsGiven, GivesAll, IsTurned}
use Rattle.qd_hist_stand.proofs.Base.{due-is, terms-same}
use Rattle.qd_hist_stand.proofs.Give.{given-at, given-lawful}
use Rattle.qd_hist_stand.proofs.Given.{stands-given}
use Rattle.qd_hist_stand.proofs.Turn.{stands-turned}

-- one item more
pub gives-push : (s mid t : Shown) (a : ℕ) (is : List HistItem) (slot : ℕ) (i : HistItem) → GivesAll s a is mid → IsGiven mid a slot i t → GivesAll s a (is ++ i ∷ []) t
unfolding GivesAll
gives-push s mid t a [] slot i h g = (slot, t, subst (λ (x : Shown). IsGiven x a slot i t) (sym h) g, refl)
gives-push s mid t a (j ∷ is) slot i h g = (h.0, h.1, h.2, gives-push h.1 mid t a is slot i h.3 g)

pub gives-none : (s : Shown) (a : ℕ) → GivesAll s a [] s
unfolding GivesAll
gives-none s a = refl

-- the terms stay
pub given-terms : (s t : Shown) (a slot : ℕ) (i : HistItem) → IsGiven s a slot i t → terms_in t ≡ terms_in s
given-terms s t a slot i g = terms-same s t g.numbers.hcap g.numbers.base

pub gives-terms : (s t : Shown) (a : ℕ) (is : List HistItem) → GivesAll s a is t → terms_in t ≡ terms_in s
unfolding GivesAll
gives-terms s t a [] h = ap (λ (x : Shown). terms_in x) (sym h)
gives-terms s t a (i ∷ is) h = gives-terms h.1 t a is h.3 ∙ given-terms s h.1 a h.0 i h.2

-- the stripe stands after all of them
pub stands-gifts : (s t : Shown) (a : ℕ) (is : List HistItem) (now : HistMoment) → StandsAt s now → GivesAll s a is t → StandsAt t (after_gifts a is now)
unfolding GivesAll
stands-gifts s t a [] now st h = subst (λ (x : Shown). StandsAt x now) h st
stands-gifts s t a (i ∷ is) now st h = stands-gifts h.1 t a is (Gave a (item_key i) i ∷ now) (stands-given s h.1 a h.0 i now st h.2) h.3

-- each of them was lawful
gifts-lawful : (s t : Shown) (a : ℕ) (is : List HistItem) (now : HistMoment) → StandsAt s now → GivesAll s a is t → LawfulItems (terms_in s) a is now
unfolding GivesAll
gifts-lawful s t a [] now st h = tt
gifts-lawful s t a (i ∷ is) now st h = (
  (given-lawful s h.1 a h.0 i now st h.2).0,
  subst (λ (x : Terms). LawfulItems x a is (Gave a (item_key i) i ∷ now)) (given-terms s h.1 a h.0 i h.2) (gifts-lawful h.1 t a is (Gave a (item_key i) i ∷ now) (stands-given s h.1 a h.0 i now st h.2) h.3),
)

-- a key is served while it is the first that is due: it stays the first, or it is done and the others follow
record IsServed (terms : Terms) (a : ℕ) (k : Key) (now next : HistMoment) : Type 0 where
  rest : List Key
  first : due_keys terms a now ≡ k ∷ rest
  goes_on : ((is_due terms a k next ≡ true) × (due_keys terms a next ≡ due_keys terms a now)) ⊎ ((is_due terms a k next ≡ false) × (due_keys terms a next ≡ rest))

list-first : (list : List ℕ) (slot : ℕ) → first_in list ≡ Some slot → list ≡ slot ∷ rest_of list
list-first [] slot h = cc h
list-first (x ∷ xs) slot h = ap (λ (y : ℕ). y ∷ xs) (some-same x slot h)

keys-first : (t : Table) (slot : ℕ) (rest : List ℕ) (k : Key) → key_at t slot ≡ Some k → keys_at t (slot ∷ rest) ≡ k ∷ keys_at t rest
unfolding keys_at
keys-first t slot rest k own = ap (λ (o : Option Key). cons_option o (keys_at t rest)) own

first-alone : (slot : ℕ) (rest : List ℕ) → EachOnce (slot ∷ rest) → has rest slot ≡ false
unfolding EachOnce
first-alone slot rest once = once.0

served : (s t : Shown) (a slot : ℕ) (i : HistItem) (now : HistMoment) → StandsAt s now → IsGiven s a slot i t → IsServed (terms_in s) a (item_key i) now (Gave a (item_key i) i ∷ now)
served s t a slot i now st g = record {
  rest = keys_at s.table rest;
  first = first;
  goes_on = go (is_done (after_next (feed_at s a slot) (state_at s slot) g.floor)) refl;
}
  where
    k : Key
    k = item_key i

    next : HistMoment
    next = Gave a k i ∷ now

    own : key_at s.table slot ≡ Some k
    own = given-at s t a slot i now st g

    rest : List ℕ
    rest = rest_of (queue_at s a)

    whole : queue_at s a ≡ slot ∷ rest
    whole = list-first (queue_at s a) slot g.first

    first : due_keys (terms_in s) a now ≡ k ∷ keys_at s.table rest
    first = st.order a ∙ ap (λ (q : List ℕ). keys_at s.table q) whole ∙ keys-first s.table slot rest k own

    stood : StandsAt t next
    stood = stands-given s t a slot i now st g

    order : due_keys (terms_in s) a next ≡ keys_at s.table (queue_at t a)
    order = ap (λ (x : Terms). due_keys x a next) (sym (given-terms s t a slot i g)) ∙ stood.order a ∙ ap (λ (x : Table). keys_at x (queue_at t a)) g.table

    due : is_due (terms_in s) a k next ≡ has (queue_at t a) slot
    due =
        ap (λ (x : Terms). is_due x a k next) (sym (given-terms s t a slot i g))
        ∙ sym (stood.due a slot ∙ due-is t next stood a slot k (ap (λ (x : Table). key_at x slot) g.table ∙ own))

    queue : (done : Bool) → is_done (after_next (feed_at s a slot) (state_at s slot) g.floor) ≡ done → queue_at t a ≡ (if done then without (queue_at s a) slot else queue_at s a)
    queue done e =
        g.part.queues a ∙ ap (λ (c : Bool). if c then (if is_done (after_next (feed_at s a slot) (state_at s slot) g.floor) then without (queue_at s a) slot else queue_at s a) else queue_at s a) (eq-eqb a a refl)
        ∙ ap (λ (c : Bool). if c then without (queue_at s a) slot else queue_at s a) e

    go : (done : Bool) → is_done (after_next (feed_at s a slot) (state_at s slot) g.floor) ≡ done
        → ((is_due (terms_in s) a k next ≡ true) × (due_keys (terms_in s) a next ≡ due_keys (terms_in s) a now)) ⊎ ((is_due (terms_in s) a k next ≡ false) × (due_keys (terms_in s) a next ≡ keys_at s.table rest))
    go true e = inr (
      due ∙ ap (λ (q : List ℕ). has q slot) (queue true e) ∙ has-without_same (queue_at s a) slot,
      order ∙ ap (λ (q : List ℕ). keys_at s.table q) (queue true e ∙ ap (λ (q : List ℕ). without q slot) whole ∙ without-first slot rest (first-alone slot rest (subst (λ (q : List ℕ). EachOnce q) whole (st.once a)))),
    )
    go false e = inl (
      due ∙ ap (λ (q : List ℕ). has q slot) (queue false e) ∙ st.due a slot ∙ due-is s now st a slot k own ∙ sym (due_keys-has (terms_in s) a now k) ∙ ap (λ (ks : List Key). has_key ks k) first ∙ or-left (key_eq k k) (has_key (keys_at s.table rest) k) (key_eq-same k),
      order ∙ ap (λ (q : List ℕ). keys_at s.table q) (queue false e) ∙ sym (st.order a),
    )

-- the keys are served in turn
record InTurn (terms : Terms) (a : ℕ) (is : List HistItem) (now : HistMoment) : Type 0 where
  order : turns is ≡ take (length (turns is)) (due_keys terms a now)
  done : each_done terms a is now ≡ true

list-head : (j k : Key) (js ks : List Key) → j ∷ js ≡ k ∷ ks → j ≡ k
list-head j k js ks h = cc h

turn-push : (terms : Terms) (a : ℕ) (i j : HistItem) (is : List HistItem) (now : HistMoment) (rest : List Key) → IsServed terms a (item_key i) now (Gave a (item_key i) i ∷ now)
    → due_keys terms a (Gave a (item_key i) i ∷ now) ≡ item_key j ∷ rest → InTurn terms a (j ∷ is) (Gave a (item_key i) i ∷ now) → InTurn terms a (i ∷ j ∷ is) now
turn-push terms a i j is now rest h follows later = go h.goes_on
  where
    next : HistMoment
    next = Gave a (item_key i) i ∷ now

    same_key : key_eq (item_key i) (item_key j) ≡ true → InTurn terms a (j ∷ is) next → due_keys terms a next ≡ due_keys terms a now → InTurn terms a (i ∷ j ∷ is) now
    same_key e later stays = record {
      order = rw e (later.order ∙ ap (λ (ks : List Key). take (length (turns (j ∷ is))) ks) stays);
      done = rw e later.done;
    }

    next_key : key_eq (item_key i) (item_key j) ≡ false → InTurn terms a (j ∷ is) next → is_due terms a (item_key i) next ≡ false → due_keys terms a next ≡ h.rest → InTurn terms a (i ∷ j ∷ is) now
    next_key e later gone follow = record {
      order = rw e (ap (λ (ks : List Key). item_key i ∷ ks) (later.order ∙ ap (λ (ks : List Key). take (length (turns (j ∷ is))) ks) follow)
          ∙ sym (ap (λ (ks : List Key). take (suc (length (turns (j ∷ is)))) ks) h.first));
      done = rw e (rw gone later.done);
    }

    apart : is_due terms a (item_key i) next ≡ false → (b : Bool) → key_eq (item_key i) (item_key j) ≡ b → key_eq (item_key i) (item_key j) ≡ false
    apart gone true e =
        let due : is_due terms a (item_key j) next ≡ true =
        sym (due_keys-has terms a next (item_key j)) ∙ ap (λ (ks : List Key). has_key ks (item_key j)) follows ∙ or-left (key_eq (item_key j) (item_key j)) (has_key rest (item_key j)) (key_eq-same (item_key j)) in
        absurd (true-false (sym due ∙ ap (λ (k : Key). is_due terms a k next) (sym (key_eq-true (item_key i) (item_key j) e)) ∙ gone))
    apart gone false e = e

    go : ((is_due terms a (item_key i) next ≡ true) × (due_keys terms a next ≡ due_keys terms a now)) ⊎ ((is_due terms a (item_key i) next ≡ false) × (due_keys terms a next ≡ h.rest)) → InTurn terms a (i ∷ j ∷ is) now
    go (inl x) =
        let one : item_key i ≡ item_key j = list-head (item_key i) (item_key j) h.rest rest (sym h.first ∙ sym x.1 ∙ follows) in
        same_key (ap (λ (k : Key). key_eq (item_key i) k) (sym one) ∙ key_eq-same (item_key i)) later x.1
    go (inr x) = next_key (apart x.0 (key_eq (item_key i) (item_key j)) refl) later x.0 x.1

in-turn : (s t : Shown) (a : ℕ) (is : List HistItem) (now : HistMoment) → StandsAt s now → GivesAll s a is t → InTurn (terms_in s) a is now
unfolding GivesAll
in-turn s t a [] now st h = record { order = refl; done = refl }
in-turn s t a (i ∷ []) now st h =
    let x = served s h.1 a h.0 i now st h.2 in
    record { order = sym (ap (λ (ks : List Key). take 1 ks) x.first); done = refl }
in-turn s t a (i ∷ j ∷ is) now st h =
    let next : HistMoment = Gave a (item_key i) i ∷ now in
    let stood : StandsAt h.1 next = stands-given s h.1 a h.0 i now st h.2 in
    let terms : terms_in h.1 ≡ terms_in s = given-terms s h.1 a h.0 i h.2 in
    let x = served h.1 h.3.1 a h.3.0 j next stood h.3.2 in
    turn-push (terms_in s) a i j is now x.rest (served s h.1 a h.0 i now st h.2) (ap (λ (y : Terms). due_keys y a next) (sym terms) ∙ x.first)
    (subst (λ (y : Terms). InTurn y a (j ∷ is) next) terms (in-turn h.1 t a (j ∷ is) next stood h.3))

no-keys : (t : Table) → keys_at t [] ≡ []
unfolding keys_at
no-keys t = refl

-- items given until there are as many as were asked for, or nothing is due, are a lawful answer
pub take-lawful : (s t : Shown) (a most : ℕ) (is : List HistItem) (now : HistMoment) → StandsAt s now → GivesAll s a is t → length is ≤ most → (length is ≡ most) ⊎ (queue_at t a ≡ [])
    → LawfulTake (terms_in s) a most is now × StandsAt t (after_gifts a is now)
take-lawful s t a most is now st h le ends = (
  record {
    each = gifts-lawful s t a is now st h;
    within = le;
    full_or_done = elim ends [
      | inl e ↦ inl e
      | inr e ↦ inr (ap (λ (x : Terms). due_keys x a (after_gifts a is now)) (sym (gives-terms s t a is h)) ∙ (stands-gifts s t a is now st h).order a ∙ ap (λ (q : List ℕ). keys_at t.table q) e ∙ no-keys t.table)
    ];
    order = (in-turn s t a is now st h).order;
    done = (in-turn s t a is now st h).done;
  },
  stands-gifts s t a is now st h,
)

-- the acts of an answer: its items, and the mark of the last of them where there are as many as were asked for
after-append : (xs ys : List HistAct) (now : HistMoment) → after now (xs ++ ys) ≡ after (after now xs) ys
unfolding after
after-append [] ys now = refl
after-append (x ∷ xs) ys now = after-append xs ys (x ∷ now)

after-given : (a : ℕ) (is : List HistItem) (now : HistMoment) → after now (map (λ i. Gave a (item_key i) i) is) ≡ after_gifts a is now
unfolding after
after-given a [] now = refl
after-given a (i ∷ is) now = after-given a is (Gave a (item_key i) i ∷ now)

pub after-take : (a most : ℕ) (out given : Filled HistItem) (now : HistMoment) → after now (history_acts now (op.Take a most out) (Items given)) ≡ after (after_gifts a given.items now) (if length given.items == most then last_mark a given.items else [])
after-take a most out given now =
    after-append (map (λ i. Gave a (item_key i) i) given.items) (if length given.items == most then last_mark a given.items else []) now
    ∙ ap (λ (m : HistMoment). after m (if length given.items == most then last_mark a given.items else [])) (after-given a given.items now)

pub mark-push : (a : ℕ) (is : List HistItem) (i : HistItem) → last_mark a (is ++ i ∷ []) ≡ Full a (item_key i) ∷ []
mark-push a [] i = refl
mark-push a (x ∷ []) i = refl
mark-push a (x ∷ y ∷ is) i = mark-push a (y ∷ is) i

gifts-push : (a : ℕ) (is : List HistItem) (i : HistItem) (now : HistMoment) → after_gifts a (is ++ i ∷ []) now ≡ Gave a (item_key i) i ∷ after_gifts a is now
gifts-push a [] i now = refl
gifts-push a (x ∷ is) i now = gifts-push a is i (Gave a (item_key x) x ∷ now)

-- after an answer with fewer items than were asked for
pub take-short : (s t : Shown) (a most : ℕ) (out given : Filled HistItem) (now : HistMoment) → StandsAt s now → GivesAll s a given.items t → length given.items ≢ most
    → StandsAt t (after now (history_acts now (op.Take a most out) (Items given)))
unfolding after
take-short s t a most out given now st h n =
    subst (λ (m : HistMoment). StandsAt t m)
    (sym (after-take a most out given now ∙ ap (λ (b : Bool). after (after_gifts a given.items now) (if b then last_mark a given.items else [])) (ne_eqb (length given.items) most n)))
    (stands-gifts s t a given.items now st h)

-- after one with as many, once the key of the last item had its turn
pub take-full : (s before mid t : Shown) (a most slot : ℕ) (is : List HistItem) (i : HistItem) (out given : Filled HistItem) (now : HistMoment) → StandsAt s now → GivesAll s a is before → IsGiven before a slot i mid → IsTurned mid a slot t
    → given.items ≡ is ++ i ∷ [] → length given.items ≡ most → StandsAt t (after now (history_acts now (op.Take a most out) (Items given)))
unfolding after
take-full s before mid t a most slot is i out given now st h g turned items full =
    subst (λ (m : HistMoment). StandsAt t m)
    (sym (after-take a most out given now ∙ ap (λ (b : Bool). after (after_gifts a given.items now) (if b then last_mark a given.items else [])) (eq-eqb (length given.items) most full)
    ∙ ap (λ (xs : List HistItem). after (after_gifts a xs now) (last_mark a xs)) items
    ∙ ap (λ (acts : List HistAct). after (after_gifts a (is ++ i ∷ []) now) acts) (mark-push a is i)
    ∙ ap (λ (m : HistMoment). Full a (item_key i) ∷ m) (gifts-push a is i now)))
    (stands-turned mid t a (item_key i) slot (Gave a (item_key i) i ∷ after_gifts a is now) stood own turned)
  where
    st_before : StandsAt before (after_gifts a is now)
    st_before = stands-gifts s before a is now st h

    stood : StandsAt mid (Gave a (item_key i) i ∷ after_gifts a is now)
    stood = stands-given before mid a slot i (after_gifts a is now) st_before g

    own : key_at mid.table slot ≡ Some (item_key i)
    own = ap (λ (x : Table). key_at x slot) g.table ∙ given-at before mid a slot i (after_gifts a is now) st_before g
