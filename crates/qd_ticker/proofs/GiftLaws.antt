-- What a gift leaves, and after which moment the stripe then stands.
use Rattle.std.proofs.Common.{◌≡◌, ◌⊎◌, inl, inr, ℕ, Bool, true, false, ◌&&◌, if◌then◌else◌, nat_eq, Option, Some, None, List, [], ◌∷◌, refl, ap, sym, ◌∙◌, subst}
use Rattle.std.specs.List.{filter_map, cons_option}
use Rattle.std.specs.Option.{option_and_then}
use Rattle.qd_scheme.specs.declared.key.Key.{Key}
use Rattle.qd_scheme.specs.declared.key.Record.{Record}
use Rattle.qd_pend.specs.Slots.{SlotList, has, without, first_in, rest_of, EachOnce}
use Rattle.qd_pend.proofs.ListLaws.{equal, has-here, without-first}
use Rattle.qd_sub.specs.Acts.{Act, Gave}
use Rattle.qd_sub.specs.Subscriptions.{subscribed, kept}
use Rattle.qd_sub.proofs.SubscriptionLaws.{kept-gave}
use Rattle.qd_table.specs.Tables.{key_at}
use Rattle.qd_table.specs.Standing.{StandsFor}
use Rattle.qd_table.proofs.TableLaws.{true-false}
use Rattle.qd_ticker.specs.Pending.{TickerMoment, last, last_record, has_items, pending}
use Rattle.qd_ticker.specs.Pending as asked
use Rattle.qd_ticker.specs.Kept.{pending_name, last_name, IsKept}
use Rattle.qd_ticker.specs.Stripes.{Shown, StandsAt, last_at, queue_at, no_keeps}
use Rattle.qd_ticker.specs.Steps.{with_popped, IsGiven}
use Rattle.qd_ticker.proofs.KeptLaws.{kept-alike}
use Rattle.qd_ticker.proofs.ActLaws.{kept-gift}
use Rattle.qd_table.proofs.StandOthers.{stands-gave}
use Rattle.qd_ticker.proofs.StandLaws.{lists_of, labels-same, at-slot}
use Rattle.qd_sub.proofs.SinceLaws.{and-left, and-right}

-- a gift
list-popped : (b : Bool) (q : SlotList) → (let x : SlotList = if b then with_popped q else q in x.list) ≡ (if b then rest_of q.list else q.list)
list-popped true q = refl
list-popped false q = refl

pub record IsGift (a : ℕ) (given : Option Record) (t : Shown) (now : TickerMoment) (k : Key) (rest : List Key) (r : Record) : Type 0 where
  pub first : asked.queue_of a now ≡ k ∷ rest
  pub given_is : given ≡ Some r
  pub last_is : last_record k now ≡ Some r
  pub label : r.key ≡ k
  pub stands : StandsAt t (Gave a k r ∷ now)

abbrev pub Gifts : ℕ → Option Record → Shown → TickerMoment → Type 0
Gifts a given t now = ((asked.queue_of a now ≡ []) × (given ≡ None) × StandsAt t now) ⊎ ((k : Key) × (rest : List Key) × (r : Record) × IsGift a given t now k rest r)

alone : (slot : ℕ) (rest : List ℕ) → EachOnce (slot ∷ rest) → has rest slot ≡ false
unfolding EachOnce
alone slot rest h = h.0

has-some : (rs : List Record) → has_items rs ≡ true → (r : Record) × (last rs ≡ Some r)
has-some [] h = cc
has-some (r ∷ []) h = (r, refl)
has-some (p ∷ q ∷ rs) h = has-some (q ∷ rs) h

pending-record : (a : ℕ) (k : Key) (now : TickerMoment) → pending a k now ≡ true → (r : Record) × (last_record k now ≡ Some r)
unfolding pending last_record
pending-record a k now h = has-some (kept k now) (and-right (subscribed a k now) (has_items (kept k now)) (and-left (subscribed a k now && has_items (kept k now)) _ h))

pub StandsAt-given : (s t : Shown) (now : TickerMoment) (a : ℕ) (given : Option Record) → StandsAt s now → IsGiven s a given t → Gifts a given t now
unfolding last_record
StandsAt-given s t now a given st g = by_list (lists_of s a) refl
  where
    table_then : (act : Act Record Record) → StandsFor s.table no_keeps (act ∷ now) → StandsFor t.table no_keeps (act ∷ now)
    table_then act h = subst (λ x. StandsFor x no_keeps (act ∷ now)) (sym g.table) h

    popped : (b : ℕ) → lists_of t b ≡ (if nat_eq a b then rest_of (lists_of s b) else lists_of s b)
    popped b = ap (λ (q : SlotList). q.list) (g.queues b) ∙ list-popped (nat_eq a b) (queue_at s.queues b)

    unmoved : lists_of s a ≡ [] → (b : ℕ) (c : Bool) → nat_eq a b ≡ c → (if c then rest_of (lists_of s b) else lists_of s b) ≡ lists_of s b
    unmoved e b true f = ap rest_of (here b f ∙ e) ∙ sym (here b f ∙ e)
      where
        here : (b : ℕ) → nat_eq a b ≡ true → lists_of s b ≡ lists_of s a
        here b f = ap (lists_of s) (sym (equal a b f))
    unmoved e b false f = refl

    moved : (slot : ℕ) (rest : List ℕ) → lists_of s a ≡ slot ∷ rest → (b : ℕ) (c : Bool) → nat_eq a b ≡ c → (if c then rest_of (lists_of s b) else lists_of s b) ≡ (if c then without (lists_of s b) slot else lists_of s b)
    moved slot rest e b true f =
        let list : lists_of s b ≡ slot ∷ rest = ap (lists_of s) (sym (equal a b f)) ∙ e in
        ap rest_of list ∙ sym (ap (λ xs. without xs slot) list ∙ without-first slot rest (alone slot rest (subst EachOnce e (st.kept.once a))))
    moved slot rest e b false f = refl

    key_of : (slot : ℕ) → pending_name a (key_at s.table slot) now ≡ true → (o : Option Key) → key_at s.table slot ≡ o → (k : Key) × ((key_at s.table slot ≡ Some k) × (pending a k now ≡ true))
    key_of slot h None e = absurd (true-false (sym h ∙ ap (λ o. pending_name a o now) e))
    key_of slot h (Some k) e = (k, (e, sym (ap (λ o. pending_name a o now) e) ∙ h))

    given_at : (slot : ℕ) (rest : List ℕ) → lists_of s a ≡ slot ∷ rest → given ≡ last_at s.lasts slot
    given_at slot rest e = g.first ∙ ap (λ list. option_and_then (last_at s.lasts) (first_in list)) e

    by_slot : (slot : ℕ) (rest : List ℕ) → lists_of s a ≡ slot ∷ rest → (k : Key) → key_at s.table slot ≡ Some k → (r : Record) → last_record k now ≡ Some r → Gifts a given t now
    by_slot slot rest e k here r l =
        let record_here : last_at s.lasts slot ≡ Some r = st.kept.records slot ∙ ap (λ o. last_name o now) here ∙ l in
        let stands_then : StandsAt t (Gave a k r ∷ now) = record {
          table = table_then (Gave a k r) (stands-gave s.table no_keeps a k r now st.table);
          kept = subst (λ x. IsKept (key_at x) (last_at t.lasts) (lists_of t) (Gave a k r ∷ now)) (sym g.table)
              (subst (λ ls. IsKept (key_at s.table) (last_at ls) (lists_of t) (Gave a k r ∷ now)) (sym g.lasts)
              (kept-gift (key_at s.table) (last_at s.lasts) (lists_of s) (lists_of t) now slot k a r (at-slot s now slot k st here) (λ b. popped b ∙ moved slot rest e b (nat_eq a b) refl)));
          labels = labels-same (Gave a k r) now (λ j. ap last (kept-gave j a k r now)) st.labels;
        } in
        inr (
          k,
          filter_map (key_at s.table) rest,
          r,
          record {
            first = st.kept.order a ∙ ap (filter_map (key_at s.table)) e ∙ ap (λ o. cons_option o (filter_map (key_at s.table) rest)) here;
            given_is = given_at slot rest e ∙ record_here;
            last_is = l;
            label = st.labels k r l;
            stands = stands_then;
          },
        )

    by_list : (list : List ℕ) → lists_of s a ≡ list → Gifts a given t now
    by_list [] e = inl (
      st.kept.order a ∙ ap (filter_map (key_at s.table)) e,
      g.first ∙ ap (λ list. option_and_then (last_at s.lasts) (first_in list)) e,
      record {
        table = subst (λ x. StandsFor x no_keeps now) (sym g.table) st.table;
        kept = subst (λ x. IsKept (key_at x) (last_at t.lasts) (lists_of t) now) (sym g.table)
            (kept-alike (key_at s.table) (last_at s.lasts) (last_at t.lasts) (lists_of s) (lists_of t) now (λ i. ap (λ ls. last_at ls i) g.lasts) (λ b. popped b ∙ unmoved e b (nat_eq a b) refl) st.kept);
        labels = st.labels;
      },
    )
    by_list (slot ∷ rest) e =
        let is_pending : pending_name a (key_at s.table slot) now ≡ true = sym (st.kept.waiting a slot) ∙ ap (λ list. has list slot) e ∙ has-here slot rest in
        let found = key_of slot is_pending (key_at s.table slot) refl in
        let latest = pending-record a found.0 now found.1.1 in
        by_slot slot rest e found.0 found.1.0 latest.0 latest.1
