-- A pair that fits is due just while its feed has something to give.
use Rattle.std.proofs.Common.{◌≡◌, ℕ, ◌+◌, ◌<◌, ◌≤◌, Bool, true, false, ◌&&◌, ◌||◌, ◌==◌, not, List, [], ◌∷◌, ◌++◌, length, reverse, length-append, refl, sym, ◌∙◌, ap, arith, Option, Some, None, inl, inr, subst}
use Rattle.std.specs.Prelude.{is_some, ◌⊎◌, if◌then◌else◌}
use Rattle.std.proofs.lemmas.Bool.{cases_Bool, and_parts, and_from, eq-eqb, ne_eqb}
use Rattle.std.proofs.lemmas.List.{length-reverse}
use Rattle.qd_scheme.specs.declared.key.Key.{Key}
use Rattle.qd_scheme.specs.declared.key.Event.{Event}
use Rattle.qd_flags.specs.Shown.{first_end}
use Rattle.qd_flags.proofs.Feeding.{if_true, if_false}
use Rattle.qd_gate.specs.declared.machine.Terms.{Terms}
use Rattle.qd_sub.specs.Acts.{Came, Gave}
use Rattle.qd_sub.specs.Subscriptions.{wanted}
use Rattle.qd_hist_rules.specs.declared.floor.AgentFloor.{AgentFloor}
use Rattle.qd_hist_rules.specs.declared.item.HistItem.{HistItem}
use Rattle.qd_hist_rules.specs.Moments.{HistAct, HistMoment, events, gives}
use Rattle.qd_hist_rules.specs.Source.{Commit, made, is_snapshot}
use Rattle.qd_hist_rules.specs.Agent as agent
use Rattle.qd_hist_rules.specs.Agent.{agent_floor, since_begin_given, snapshot, share, numbered, shares_since_begin}
use Rattle.qd_hist_rules.specs.Standing.{Standing, standing, is_begun, is_ended, behind, has_overflowed, is_due, overflows_by, begun_by, passes_hcap, is_snapshot_commit}
use Rattle.qd_hist_rules.specs.Lawful.{Lawful}
use Rattle.qd_hist_rules.proofs.ActFacts.{self_pair, gives_gave, given_stays, no_gift_no_begin, lawful_before}
use Rattle.qd_hist_rules.proofs.Numbers.{made_came}
use Rattle.qd_hist_rules.proofs.Begun.{Before, before}
use Rattle.qd_hist_rules.proofs.Shares.{floor_stays, owed_grows}
use Rattle.qd_hist_rules.proofs.EndedFit.{ended_fit}
use Rattle.qd_hist_feed.specs.declared.feed.Stage.{Stage}
use Rattle.qd_hist_feed.specs.declared.feed.Stage.TheVariants.{Waiting, Sweeping, Ended}
use Rattle.qd_hist_feed.specs.Feeding.{Feeding, has_ended, is_empty, is_done}
use Rattle.qd_hist_feed.specs.Stands.{StandsBy, StandsFor}
use Rattle.qd_hist_feed.proofs.Sweeping.{owed_quiet}
use Rattle.qd_hist_feed.proofs.Giving.{not_ended}

share_there : (each : Key → Standing) (t : Terms) (a : ℕ) (k : Key) (m : HistMoment) (c : Commit) → overflows_by each t a k m (Some c) ≡ true → 0 < length (reverse (numbered c.number (share t.base a k m c)))
share_there each t a k m c h = go (share t.base a k m c) (and_parts (not (is_snapshot c) && begun_by each a k m) (passes_hcap each t a m (share t.base a k m c)) h).1
  where
    go : (es : List Event) → passes_hcap each t a m es ≡ true → 0 < length (reverse (numbered c.number es))
    go [] h = cc h
    go (e ∷ es) h = let x = length-reverse (numbered c.number (e ∷ es)) in omega (arith, x)

-- a possible overflow that is not followed by an item leaves something owed
pub overflow_owes : (t : Terms) (a : ℕ) (k : Key) (m : HistMoment) → Lawful t m → has_overflowed t a k m ≡ true → is_ended t a k m ≡ true → 0 < length (agent.owed t.base a k m)
overflow_owes t a k [] w o e = cc o
overflow_owes t a k (act ∷ m) w o e = go (cases_Bool (gives a k act)) (overflow_owes t a k m (lawful_before t act m w))
  where
    no_gift : (i : HistItem) → has_overflowed t a k (Gave a k i ∷ m) ≡ true → ⊥
    no_gift i h =
        let x = self_pair a k in
        let y : false ≡ true = sym (ap (λ (b : Bool). not b && (standing t a m k).overflowed) x) ∙ h in
        cc y

    came : (ev : Event) (c : Commit) → wanted k m ≡ true → wanted k (Came k ev ∷ m) ≡ true → made t.base k (Came k ev ∷ m) ≡ Some c → is_snapshot c ≡ false → is_ended t a k m ≡ true
        → (overflows_by (standing t a m) t a k m (Some c) ≡ true) ⊎ (has_overflowed t a k m ≡ true)
        → (has_overflowed t a k m ≡ true → is_ended t a k m ≡ true → 0 < length (agent.owed t.base a k m)) → 0 < length (agent.owed t.base a k (Came k ev ∷ m))
    came ev c wb wa q s en o ih =
        let g = ended_fit t a k m (lawful_before t act m w) en in
        let fl = floor_stays t.base a k ev m c g.last_c wb wa q g.last_is s in
        let x = ap {B = ℕ} (λ (is : List HistItem). length is) (owed_grows t.base a k g.n0 ev m c q fl g.snap_end g.n0_le g.room) in
        let y = length-append (agent.owed t.base a k m) (reverse (numbered c.number (share t.base a k m c))) in
        more o x y
      where
        more : (overflows_by (standing t a m) t a k m (Some c) ≡ true) ⊎ (has_overflowed t a k m ≡ true)
            → length (agent.owed t.base a k (Came k ev ∷ m)) ≡ length (agent.owed t.base a k m ++ reverse (numbered c.number (share t.base a k m c)))
            → length (agent.owed t.base a k m ++ reverse (numbered c.number (share t.base a k m c))) ≡ length (agent.owed t.base a k m) + length (reverse (numbered c.number (share t.base a k m c)))
            → 0 < length (agent.owed t.base a k (Came k ev ∷ m))
        more (inl h) x y = let z = share_there (standing t a m) t a k m c h in omega (arith, x, y, z)
        more (inr h) x y = let z = ih h en in omega (arith, x, y, z)

    either : (p q r : Bool) → (p || (not r && q)) ≡ true → (p ≡ true) ⊎ (q ≡ true)
    either true q r h = inl refl
    either false true r h = inr refl
    either false false true h = cc h
    either false false false h = cc h

    later : Before t a k act m → gives a k act ≡ false → is_ended t a k m ≡ true → is_begun t a k (act ∷ m) ≡ true → (p : Option Commit) → made t.base k (act ∷ m) ≡ p → is_snapshot_commit p ≡ false
        → (overflows_by (standing t a m) t a k m p ≡ true) ⊎ (has_overflowed t a k m ≡ true)
        → (has_overflowed t a k m ≡ true → is_ended t a k m ≡ true → 0 < length (agent.owed t.base a k m)) → 0 < length (agent.owed t.base a k (act ∷ m))
    later b n en bg None q s (inl h) ih = cc h
    later b n en bg None q s (inr h) ih =
        let x = ap {B = ℕ} (λ (is : List HistItem). length is) (owed_quiet t a k act m n q b.same_limit bg) in let y = ih h en in omega (arith, x, y)
    later b n en bg (Some c) q s o ih =
        let x = made_came t.base k act m c q in
        subst (λ (y : HistAct). wanted k (y ∷ m) ≡ true → made t.base k (y ∷ m) ≡ Some c → 0 < length (agent.owed t.base a k (y ∷ m))) (sym x.1)
        (λ wa q. came x.0 c x.2 wa q s en o ih) b.wanted_is q

    go : (gives a k act ≡ true) ⊎ (gives a k act ≡ false) → (has_overflowed t a k m ≡ true → is_ended t a k m ≡ true → 0 < length (agent.owed t.base a k m)) → 0 < length (agent.owed t.base a k (act ∷ m))
    go (inl g) ih = let i = gives_gave a k act g in absurd (subst (λ (x : HistAct). has_overflowed t a k (x ∷ m) ≡ true → ⊥) (sym i.1) (no_gift i.0) o)
    go (inr n) ih =
        let x = and_parts (is_begun t a k (act ∷ m)) (is_some (first_end (events (snapshot a k (act ∷ m))))) e in
        let b = before t a k act m x.0 (no_gift_no_begin a k act n) in
        let sn : is_some (first_end (events (snapshot a k m))) ≡ true = sym (ap (λ (is : List HistItem). is_some (first_end (events (since_begin_given is)))) (given_stays a k act m n)) ∙ x.1 in
        later b n (and_from (is_begun t a k m) (is_some (first_end (events (snapshot a k m)))) b.begun_is sn) x.0 (made t.base k (act ∷ m)) refl b.no_snapshot
        (either (overflows_by (standing t a m) t a k m (made t.base k (act ∷ m))) (has_overflowed t a k m) (gives a k act) o) ih

not_both : (x y : Bool) → (x ≡ true → y ≡ true → ⊥) → not (x && y) ≡ true
not_both true true h = absurd (h refl refl)
not_both true false h = refl
not_both false y h = refl

-- a pair that fits is due just while its feed is not done
pub due_is : (t : Terms) (a : ℕ) (k : Key) (s : Feeding) (f : AgentFloor) (m : HistMoment) → Lawful t m → agent_floor t.base a k m ≡ Some f → StandsFor t a k s m → is_due t a k m ≡ not (is_done s)
due_is t a k s f m w fl h = ap (λ (o : Option AgentFloor). is_some o && not (is_ended t a k m && behind t a k m == 0)) fl ∙ go s.stage s.owed h
  where
    behind_owed : is_ended t a k m ≡ true → behind t a k m ≡ length (agent.owed t.base a k m)
    behind_owed e = if_true (is_ended t a k m) (length (agent.owed t.base a k m)) (if is_begun t a k m then length (shares_since_begin t.base a k m) else 0) e

    never : {b : Bool} → b ≡ false → b ≡ true → ⊥
    never p q = cc (p, q)

    waiting : (not (is_begun t a k m) || has_overflowed t a k m) ≡ true → is_ended t a k m ≡ true → (behind t a k m == 0) ≡ true → ⊥
    waiting may e z =
        let bg = (and_parts (is_begun t a k m) (is_some (first_end (events (snapshot a k m)))) e).0 in
        let ov : has_overflowed t a k m ≡ true = sym (ap (λ (b : Bool). not b || has_overflowed t a k m) bg) ∙ may in
        let x = overflow_owes t a k m w ov e in
        let y = behind_owed e in
        never (ne_eqb (behind t a k m) 0 (λ q. omega (arith, q, x, y))) z

    go : (stage : Stage) (owed : List HistItem) → StandsBy stage owed t a k m → not (is_ended t a k m && behind t a k m == 0) ≡ not (has_ended stage && is_empty owed)
    go Waiting owed h = not_both (is_ended t a k m) (behind t a k m == 0) (waiting h.1)
    go (Sweeping place) owed h = not_both (is_ended t a k m) (behind t a k m == 0) (λ e z. not_ended t a k m h.no_end e)
    go Ended [] h =
        let x = behind_owed h.0 in let y = ap {B = ℕ} (λ (is : List HistItem). length is) h.1 in
        ap not (and_from (is_ended t a k m) (behind t a k m == 0) h.0 (eq-eqb (behind t a k m) 0 (omega (arith, x, y))))
    go Ended (i ∷ is) h =
        let x = behind_owed h.0 in let y = ap {B = ℕ} (λ (is : List HistItem). length is) h.1 in
        not_both (is_ended t a k m) (behind t a k m == 0) (λ e z. never (ne_eqb (behind t a k m) 0 (λ q. omega (arith, q, x, y))) z)

-- a feed owes no more than the agent is behind
pub owed_behind : (t : Terms) (a : ℕ) (k : Key) (s : Feeding) (m : HistMoment) → StandsFor t a k s m
    → (length s.owed ≤ behind t a k m) × (is_ended t a k m ≡ true → has_ended s.stage ≡ true → length s.owed ≡ behind t a k m)
owed_behind t a k s m h = go s.stage s.owed h
  where
    go : (stage : Stage) (owed : List HistItem) → StandsBy stage owed t a k m → (length owed ≤ behind t a k m) × (is_ended t a k m ≡ true → has_ended stage ≡ true → length owed ≡ behind t a k m)
    go Waiting owed h = (let x = ap {B = ℕ} (λ (is : List HistItem). length is) h.0 in omega (arith, x), λ e n. cc n)
    go (Sweeping place) owed h =
        let n : is_ended t a k m ≡ false = no_more (cases_Bool (is_ended t a k m)) h.no_end in
        let x : behind t a k m ≡ length (shares_since_begin t.base a k m) =
        if_false (is_ended t a k m) (length (agent.owed t.base a k m)) (if is_begun t a k m then length (shares_since_begin t.base a k m) else 0) n
        ∙ if_true (is_begun t a k m) (length (shares_since_begin t.base a k m)) 0 h.begun in
        let y : length owed ≤ length (shares_since_begin t.base a k m) = h.fewer in
        (omega (arith, x, y), λ e n. cc n)
      where
        no_more : (is_ended t a k m ≡ true) ⊎ (is_ended t a k m ≡ false) → first_end (events (snapshot a k m)) ≡ None → is_ended t a k m ≡ false
        no_more (inl e) h = absurd (not_ended t a k m h e)
        no_more (inr n) h = n
    go Ended owed h =
        let x : behind t a k m ≡ length (agent.owed t.base a k m) = if_true (is_ended t a k m) (length (agent.owed t.base a k m)) (if is_begun t a k m then length (shares_since_begin t.base a k m) else 0) h.0 in
        let y = ap {B = ℕ} (λ (is : List HistItem). length is) h.1 in
        (omega (arith, x, y), λ e n. omega (arith, x, y))
