-- What is owed to an agent in all, and when a commit overflows by it.
use Rattle.std.proofs.Common.{◌≡◌, ℕ, ◌+◌, ◌<◌, ◌≤◌, Bool, true, false, ◌&&◌, ◌||◌, not, List, [], ◌∷◌, length, reverse, length-append, refl, sym, ◌∙◌, ap, arith, Option, Some, None, inl, inr, subst}
use Rattle.std.specs.Prelude.{◌⊎◌, if◌then◌else◌, is_some, nat_le, nat_lt, map, sum}
use Rattle.std.specs.List.{list_any, filter_map, cons_option}
use Rattle.std.proofs.lemmas.Bool.{cases_Bool, and_parts, and_from, ltb-true, lt-ltb, not-true}
use Rattle.std.proofs.lemmas.List.{length-map, length-reverse}
use Rattle.std.proofs.lemmas.List.Sums.{sum_by-cons}
use Rattle.qd_scheme.specs.declared.key.Key.{Key}
use Rattle.qd_scheme.specs.declared.key.Event.{Event}
use Rattle.qd_scheme.specs.Keys.{key_eq}
use Rattle.qd_scheme.proofs.KeyLaws.{key_eq-true}
use Rattle.qd_flags.specs.Shown.{first_end}
use Rattle.qd_flags.proofs.Feeding.{if_false}
use Rattle.qd_gate.specs.declared.machine.Terms.{Terms}
use Rattle.qd_sub.specs.Acts.{Came}
use Rattle.qd_sub.specs.Subscriptions.{subscribed, keys_of}
use Rattle.qd_sub.specs.Holding.{has_key}
use Rattle.qd_sub.proofs.StepLaws.{keys_of-has}
use Rattle.qd_hist_rules.specs.declared.floor.AgentFloor.{AgentFloor}
use Rattle.qd_hist_rules.specs.declared.item.HistItem.{HistItem}
use Rattle.qd_hist_rules.specs.Moments.{HistMoment, events}
use Rattle.qd_hist_rules.specs.Source.{Commit, made, is_snapshot}
use Rattle.qd_hist_rules.specs.Agent as agent
use Rattle.qd_hist_rules.specs.Agent.{agent_floor, snapshot, share, numbered, shares_since_begin}
use Rattle.qd_hist_rules.specs.Standing.{Standing, standing, begun_by, settled_by, behind, behind_in_all, passes_hcap, overflows_by, all_settled, is_snapshot_commit, restarts, is_begun, is_ended, has_overflowed}
use Rattle.qd_hist_feed.specs.declared.feed.Stage.{Stage}
use Rattle.qd_hist_feed.specs.declared.feed.Stage.TheVariants.{Waiting, Sweeping, Ended}
use Rattle.qd_hist_feed.specs.Feeding.{Feeding, has_ended, owed_item, owed_items, item_of, is_swept, number_for, has_above}
use Rattle.qd_hist_feed.specs.Stands.{StandsBy, StandsFor}
use Rattle.qd_hist_feed.proofs.InOrder.{share_items, owed_whole, owed_shorter, none_waiting}
use Rattle.qd_hist_feed.proofs.Sweeping.{share_is}
use Rattle.qd_hist_feed.proofs.Giving.{not_ended}
use Rattle.qd_hist_feed.proofs.Due.{owed_behind}

-- how many events come to be owed does not depend on the commit's number
pub owed-length : (stage : Stage) (f m n : ℕ) (es : List Event) → length (owed_items stage f m es) ≡ length (owed_items stage f n es)
owed-length stage f m n [] = refl
owed-length stage f m n (e ∷ es) =
    let x = length-append (owed_item stage f (number_for stage m) (has_above f es) e) (owed_items stage f m es) in
    let y = length-append (owed_item stage f (number_for stage n) (has_above f es) e) (owed_items stage f n es) in
    let z = either (nat_le f e.index && is_swept stage e.index) in
    let r = owed-length stage f m n es in
    omega (arith, x, y, z, r)
  where
    either : (a : Bool) → length (if a then item_of (number_for stage m) (has_above f es) e ∷ [] else []) ≡ length (if a then item_of (number_for stage n) (has_above f es) e ∷ [] else [])
    either true = refl
    either false = refl

-- a number of owed events is not more than the agent is behind on all its keys, and just that where all its begun pairs are settled
pub record Owes (t : Terms) (a : ℕ) (m : HistMoment) (o : ℕ) : Type 0 where
  pub within : o ≤ behind_in_all (standing t a m) t.base a m
  pub settled : all_settled (standing t a m) a m ≡ true → o ≡ behind_in_all (standing t a m) t.base a m

-- feeds by number, each of the key that the number names; one that names none owes nothing
pub record Feeds (t : Terms) (a : ℕ) (m : HistMoment) (name : ℕ → Option Key) (feed : ℕ → Feeding) : Type 0 where
  pub fed : (slot : ℕ) (k : Key) → name slot ≡ Some k → StandsFor t a k (feed slot) m
  pub vacant : (slot : ℕ) → name slot ≡ None → (feed slot).owed ≡ []

-- every begun one of these pairs is settled
abbrev unsettled : Terms → ℕ → HistMoment → Key → Bool
unsettled t a m k = begun_by (standing t a m) a k m && not (settled_by (standing t a m) a k m)

both_false : (p q : Bool) → (p && not q) ≡ false → p ≡ true → q ≡ true
both_false true true h e = refl
both_false true false h e = cc h
both_false false q h e = cc e

-- the snapshot of a begun pair that is settled is ended
settled_ended : (t : Terms) (a : ℕ) (k : Key) (s : Feeding) (m : HistMoment) → StandsFor t a k s m → is_begun t a k m ≡ true → unsettled t a m k ≡ false → (s.stage ≡ Ended) × (is_ended t a k m ≡ true)
settled_ended t a k s m h b u = (go s.stage h, settled.0)
  where
    settled : (is_ended t a k m ≡ true) × (not (has_overflowed t a k m) ≡ true)
    settled = and_parts (is_ended t a k m) (not (has_overflowed t a k m)) (both_false (is_begun t a k m) (settled_by (standing t a m) a k m) u b)

    neither : (p q : Bool) → (not p || q) ≡ true → p ≡ true → not q ≡ true → ⊥
    neither true true h p n = cc n
    neither true false h p n = cc h
    neither false q h p n = cc p

    go : (stage : Stage) → StandsBy stage s.owed t a k m → stage ≡ Ended
    go Waiting h = absurd (neither (is_begun t a k m) (has_overflowed t a k m) h.1 b settled.1)
    go (Sweeping place) h = absurd (not_ended t a k m h.no_end settled.0)
    go Ended h = refl

-- a pair that is settled if begun is owed just what it is behind
settled_owes : (t : Terms) (a : ℕ) (k : Key) (s : Feeding) (m : HistMoment) → StandsFor t a k s m → unsettled t a m k ≡ false → length s.owed ≡ behind t a k m
settled_owes t a k s m h u = go (cases_Bool (is_begun t a k m))
  where
    go : (is_begun t a k m ≡ true) ⊎ (is_begun t a k m ≡ false) → length s.owed ≡ behind t a k m
    go (inl b) = let e = settled_ended t a k s m h b u in (owed_behind t a k s m h).1 e.1 (ap has_ended e.0)
    go (inr n) =
        let none : behind t a k m ≡ 0 =
        if_false (is_ended t a k m) (length (agent.owed t.base a k m)) (if is_begun t a k m then length (shares_since_begin t.base a k m) else 0) (ap (λ (b : Bool). b && is_some (first_end (events (snapshot a k m)))) n)
        ∙ if_false (is_begun t a k m) (length (shares_since_begin t.base a k m)) 0 n in
        let few = (owed_behind t a k s m h).0 in
        omega (arith, none, few)

sum-cons : (n : ℕ) (ns : List ℕ) → sum (n ∷ ns) ≡ n + sum ns
sum-cons n ns = sum_by-cons (λ (x : ℕ). x) n ns

pub owed-within : (t : Terms) (a : ℕ) (m : HistMoment) (name : ℕ → Option Key) (feed : ℕ → Feeding) (slots : List ℕ) → Feeds t a m name feed
    → sum (map (λ slot. length (feed slot).owed) slots) ≤ sum (map (λ k. behind t a k m) (filter_map name slots))
owed-within t a m name feed [] h = omega arith
owed-within t a m name feed (slot ∷ slots) h = go (name slot) refl (owed-within t a m name feed slots h)
  where
    go : (o : Option Key) → name slot ≡ o → sum (map (λ i. length (feed i).owed) slots) ≤ sum (map (λ k. behind t a k m) (filter_map name slots))
        → sum (length (feed slot).owed ∷ map (λ i. length (feed i).owed) slots) ≤ sum (map (λ k. behind t a k m) (cons_option o (filter_map name slots)))
    go None e ih =
        let x = sum-cons (length (feed slot).owed) (map (λ i. length (feed i).owed) slots) in
        let z = ap {B = ℕ} (λ (is : List HistItem). length is) (h.vacant slot e) in
        omega (arith, x, z, ih)
    go (Some k) e ih =
        let x = sum-cons (length (feed slot).owed) (map (λ i. length (feed i).owed) slots) in
        let y = sum-cons (behind t a k m) (map (λ j. behind t a j m) (filter_map name slots)) in
        let z = (owed_behind t a k (feed slot) m (h.fed slot k e)).0 in
        omega (arith, x, y, z, ih)

pub owed-settled : (t : Terms) (a : ℕ) (m : HistMoment) (name : ℕ → Option Key) (feed : ℕ → Feeding) (slots : List ℕ) → Feeds t a m name feed → list_any (unsettled t a m) (filter_map name slots) ≡ false
    → sum (map (λ slot. length (feed slot).owed) slots) ≡ sum (map (λ k. behind t a k m) (filter_map name slots))
owed-settled t a m name feed [] h u = refl
owed-settled t a m name feed (slot ∷ slots) h u = go (name slot) refl u (owed-settled t a m name feed slots h)
  where
    none : (p q : Bool) → (p || q) ≡ false → (p ≡ false) × (q ≡ false)
    none true q h = cc h
    none false q h = (refl, h)

    go : (o : Option Key) → name slot ≡ o → list_any (unsettled t a m) (cons_option o (filter_map name slots)) ≡ false
        → (list_any (unsettled t a m) (filter_map name slots) ≡ false → sum (map (λ i. length (feed i).owed) slots) ≡ sum (map (λ k. behind t a k m) (filter_map name slots)))
        → sum (length (feed slot).owed ∷ map (λ i. length (feed i).owed) slots) ≡ sum (map (λ k. behind t a k m) (cons_option o (filter_map name slots)))
    go None e u ih =
        let x = sum-cons (length (feed slot).owed) (map (λ i. length (feed i).owed) slots) in
        let z = ap {B = ℕ} (λ (is : List HistItem). length is) (h.vacant slot e) in
        let r = ih u in
        omega (arith, x, z, r)
    go (Some k) e u ih =
        let p = none (unsettled t a m k) (list_any (unsettled t a m) (filter_map name slots)) u in
        let x = sum-cons (length (feed slot).owed) (map (λ i. length (feed i).owed) slots) in
        let y = sum-cons (behind t a k m) (map (λ j. behind t a j m) (filter_map name slots)) in
        let z = settled_owes t a k (feed slot) m (h.fed slot k e) p.0 in
        let r = ih p.1 in
        omega (arith, x, y, z, r)

-- what holds of no key of a list does not hold of one that is there
any_not : (p : Key → Bool) (ks : List Key) (k : Key) → list_any p ks ≡ false → has_key ks k ≡ true → p k ≡ false
any_not p [] k h there = cc there
any_not p (j ∷ ks) k h there = go (key_eq k j) refl (p j) refl (list_any p ks) refl h there (any_not p ks k)
  where
    go : (b : Bool) → key_eq k j ≡ b → (c : Bool) → p j ≡ c → (d : Bool) → list_any p ks ≡ d → (c || d) ≡ false → (b || has_key ks k) ≡ true → (list_any p ks ≡ false → has_key ks k ≡ true → p k ≡ false) → p k ≡ false
    go b e true pj d r h there ih = cc h
    go true e false pj d r h there ih = ap p (key_eq-true k j e) ∙ pj
    go false e false pj d r h there ih = ih (r ∙ h) there

-- what is owed by the feeds of an agent's subscriptions
pub owed-in_all : (t : Terms) (a : ℕ) (m : HistMoment) (name : ℕ → Option Key) (feed : ℕ → Feeding) (slots : List ℕ) → Feeds t a m name feed → keys_of a m ≡ filter_map name slots → Owes t a m (sum (map (λ slot. length (feed slot).owed) slots))
owed-in_all t a m name feed slots h e = record {
  within = subst (λ (ks : List Key). sum (map (λ slot. length (feed slot).owed) slots) ≤ sum (map (λ k. behind t a k m) ks)) (sym e) (owed-within t a m name feed slots h);
  settled = λ all.
      owed-settled t a m name feed slots h (ap (λ (ks : List Key). list_any (unsettled t a m) ks) (sym e) ∙ not-true (list_any (unsettled t a m) (keys_of a m)) all)
      ∙ sym (ap (λ (ks : List Key). sum (map (λ k. behind t a k m) ks)) e);
}

-- how many of a commit's events come to be owed
abbrev pub more : Feeding → ℕ → Commit → ℕ
more s f c = length (owed_items s.stage f c.number (reverse c.events))

-- as many as a share's items in order are the share's events
share-length : (t : Terms) (a : ℕ) (k : Key) (f : AgentFloor) (c : Commit) (m : HistMoment) → agent_floor t.base a k m ≡ Some f → length (share_items f.index (Some c.number) (reverse c.events)) ≡ length (share t.base a k m c)
share-length t a k f c m fl =
    ap {B = ℕ} (λ (is : List HistItem). length is) (sym (share_is t a k c f m fl))
    ∙ length-reverse (numbered c.number (share t.base a k m c)) ∙ many (share t.base a k m c)
  where
    many : (es : List Event) → length (numbered c.number es) ≡ length es
    many [] = refl
    many (e ∷ es) = let x = length-map {A = Event} {B = HistItem} es (λ d. record { event = d; at = None }) in omega (arith, x)

-- at most the whole share
more-≤ : (t : Terms) (a : ℕ) (k : Key) (s : Feeding) (f : AgentFloor) (c : Commit) (m : HistMoment) → agent_floor t.base a k m ≡ Some f → more s f.index c ≤ length (share t.base a k m c)
more-≤ t a k s f c m fl =
    let x = owed_shorter f.index c.number (Some c.number) s.stage (reverse c.events) in
    let y = share-length t a k f c m fl in
    omega (arith, x, y)

-- and that once the snapshot is ended
more-ended : (t : Terms) (a : ℕ) (k : Key) (s : Feeding) (f : AgentFloor) (c : Commit) (m : HistMoment) → agent_floor t.base a k m ≡ Some f → s.stage ≡ Ended → more s f.index c ≡ length (share t.base a k m c)
more-ended t a k s f c m fl e =
    ap (λ (stage : Stage). length (owed_items stage f.index c.number (reverse c.events))) e
    ∙ ap {B = ℕ} (λ (is : List HistItem). length is) (owed_whole f.index c.number (reverse c.events)) ∙ share-length t a k f c m fl

passes : (each : Key → Standing) (t : Terms) (a : ℕ) (m : HistMoment) (es : List Event) → 0 < length es → t.hcap < behind_in_all each t.base a m + length es → passes_hcap each t a m es ≡ true
passes each t a m [] p q = absurd (omega (arith, p))
passes each t a m (e ∷ es) p q = lt-ltb t.hcap (behind_in_all each t.base a m + length (e ∷ es)) q

passed : (each : Key → Standing) (t : Terms) (a : ℕ) (m : HistMoment) (es : List Event) → passes_hcap each t a m es ≡ true → (0 < length es) × (t.hcap < behind_in_all each t.base a m + length es)
passed each t a m [] h = cc h
passed each t a m (e ∷ es) h = (omega arith, ltb-true t.hcap (behind_in_all each t.base a m + length (e ∷ es)) h)

-- a feed that comes to owe something is that of a begun pair
owing_begun : (t : Terms) (a : ℕ) (k : Key) (s : Feeding) (f n : ℕ) (es : List Event) (m : HistMoment) → StandsFor t a k s m → 0 < length (owed_items s.stage f n es) → is_begun t a k m ≡ true
owing_begun t a k s f n es m h p = go s.stage h p
  where
    go : (stage : Stage) → StandsBy stage s.owed t a k m → 0 < length (owed_items stage f n es) → is_begun t a k m ≡ true
    go Waiting h p = let x = ap {B = ℕ} (λ (is : List HistItem). length is) (none_waiting f n es) in absurd (omega (arith, x, p))
    go (Sweeping place) h p = h.begun
    go Ended h p = (and_parts (is_begun t a k m) (is_some (first_end (events (snapshot a k m)))) h.0).0

-- where more would be owed in all than may be, the commit is a possible overflow, and the snapshot may be begun anew
pub overflow-may_restart : (t : Terms) (a : ℕ) (k : Key) (s : Feeding) (e : Event) (c : Commit) (f : AgentFloor) (m : HistMoment) (o : ℕ) → StandsFor t a k s m → Owes t a m o → agent_floor t.base a k m ≡ Some f
    → made t.base k (Came k e ∷ m) ≡ Some c → is_snapshot c ≡ false → (nat_lt 0 (more s f.index c) && nat_lt t.hcap (o + more s f.index c)) ≡ true
    → (not (is_begun t a k (Came k e ∷ m)) || has_overflowed t a k (Came k e ∷ m)) ≡ true
overflow-may_restart t a k s e c f m o h owes fl q sn over = last_or (not (is_begun t a k (Came k e ∷ m))) (has_overflowed t a k (Came k e ∷ m)) overflowed
  where
    last_or : (p q : Bool) → q ≡ true → (p || q) ≡ true
    last_or true q h = refl
    last_or false q h = h

    first_or : (p q : Bool) → p ≡ true → (p || q) ≡ true
    first_or true q h = refl
    first_or false q h = cc h

    some : 0 < more s f.index c
    some = ltb-true 0 (more s f.index c) (and_parts (nat_lt 0 (more s f.index c)) (nat_lt t.hcap (o + more s f.index c)) over).0

    past : t.hcap < o + more s f.index c
    past = ltb-true t.hcap (o + more s f.index c) (and_parts (nat_lt 0 (more s f.index c)) (nat_lt t.hcap (o + more s f.index c)) over).1

    passes_it : passes_hcap (standing t a m) t a m (share t.base a k m c) ≡ true
    passes_it =
        let few = more-≤ t a k s f c m fl in
        let within = owes.within in
        passes (standing t a m) t a m (share t.base a k m c) (omega (arith, few, some)) (omega (arith, few, past, within))

    overflows : overflows_by (standing t a m) t a k m (Some c) ≡ true
    overflows =
        and_from (not (is_snapshot c) && begun_by (standing t a m) a k m) (passes_hcap (standing t a m) t a m (share t.base a k m c))
        (and_from (not (is_snapshot c)) (begun_by (standing t a m) a k m) (ap not sn) (owing_begun t a k s f.index c.number (reverse c.events) m h some)) passes_it

    overflowed : has_overflowed t a k (Came k e ∷ m) ≡ true
    overflowed = first_or (overflows_by (standing t a m) t a k m (made t.base k (Came k e ∷ m))) (standing t a m k).overflowed (ap (λ (x : Option Commit). overflows_by (standing t a m) t a k m x) q ∙ overflows)

-- where not, the commit does not restart the pair
pub update-goes_on : (t : Terms) (a : ℕ) (k : Key) (s : Feeding) (e : Event) (c : Commit) (f : AgentFloor) (m : HistMoment) (o : ℕ) → StandsFor t a k s m → Owes t a m o → agent_floor t.base a k m ≡ Some f
    → made t.base k (Came k e ∷ m) ≡ Some c → is_snapshot c ≡ false → (nat_lt 0 (more s f.index c) && nat_lt t.hcap (o + more s f.index c)) ≡ false
    → restarts (standing t a m) t a k (Came k e) m ≡ false
update-goes_on t a k s e c f m o h owes fl q sn few =
    ap (λ (x : Option Commit). is_snapshot_commit x || (overflows_by (standing t a m) t a k m x && all_settled (standing t a m) a m)) q
    ∙ ap (λ (b : Bool). b || (overflows_by (standing t a m) t a k m (Some c) && all_settled (standing t a m) a m)) sn
    ∙ never (overflows_by (standing t a m) t a k m (Some c)) (all_settled (standing t a m) a m) sure
  where
    never : (p q : Bool) → (p ≡ true → q ≡ true → ⊥) → (p && q) ≡ false
    never true true h = absurd (h refl refl)
    never true false h = refl
    never false q h = refl

    no_more : (p q : Bool) → (p && q) ≡ false → p ≡ true → q ≡ true → ⊥
    no_more true true h p q = cc h
    no_more true false h p q = cc q
    no_more false q h p r = cc p

    sure : overflows_by (standing t a m) t a k m (Some c) ≡ true → all_settled (standing t a m) a m ≡ true → ⊥
    sure over all =
        let p = and_parts (not (is_snapshot c) && begun_by (standing t a m) a k m) (passes_hcap (standing t a m) t a m (share t.base a k m c)) over in
        let b = (and_parts (not (is_snapshot c)) (begun_by (standing t a m) a k m) p.0).1 in
        let there : has_key (keys_of a m) k ≡ true = keys_of-has a m k ∙ (and_parts (subscribed a k m) (standing t a m k).begin_given b).0 in
        let u = any_not (unsettled t a m) (keys_of a m) k (not-true (list_any (unsettled t a m) (keys_of a m)) all) there in
        let n = more-ended t a k s f c m fl (settled_ended t a k s m h b u).0 in
        let same = owes.settled all in
        let x = passed (standing t a m) t a m (share t.base a k m c) p.1 in
        let some = x.0 in
        let past = x.1 in
        no_more (nat_lt 0 (more s f.index c)) (nat_lt t.hcap (o + more s f.index c)) few
        (lt-ltb 0 (more s f.index c) (omega (arith, n, some))) (lt-ltb t.hcap (o + more s f.index c) (omega (arith, n, same, past)))
