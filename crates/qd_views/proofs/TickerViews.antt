-- What an agent of a ticker was given of a key, at each moment of a legal log.
use Rattle.std.proofs.Common.{◌≡◌, ◌⊎◌, inl, inr, ℕ, suc, ◌≤◌, ◌<◌, Bool, true, false, ◌&&◌, not, if◌then◌else◌, Some, List, [], ◌∷◌, ◌++◌, length, map, refl, sym, ap, ◌∙◌, arith, subst, length-append}
use Rattle.std.specs.Prelude.{All, AllPairs}
use Rattle.std.proofs.lemmas.Bool.{cases_Bool}
use Rattle.std.proofs.lemmas.List.{append-nil}
use Rattle.std.proofs.lemmas.List.Elements.{All-nil, All-head, All-tail, All-weaker, All-push}
use Rattle.qd_scheme.specs.declared.key.Key.{Key}
use Rattle.qd_scheme.specs.declared.key.Record.{Record}
use Rattle.qd_scheme.proofs.KeyLaws.{key_eq-same}
use Rattle.qd_sub.specs.Acts.{Act, Subscribed, Unsubscribed, Came, Gave, is_put}
use Rattle.qd_sub.specs.Subscriptions.{subscribed, kept}
use Rattle.qd_sub.proofs.StepLaws.{subscribed-empty}
use Rattle.qd_sub.proofs.SubscriptionLaws.{subscribed-came, subscribed-gave, subscribed-sub, subscribed-unsub, wanted-subscribed, kept-came_same, kept-gave, kept-sub}
use Rattle.qd_ticker.specs.Pending.{TickerMoment, last, last_record, has_items, pending}
use Rattle.qd_views.specs.Views.{puts, given, begins, subscriptions, IsSteady, item_at, origins, offers, offered, IsPart, TickerLaw}
use Rattle.qd_views.proofs.Lists.{pairs-none, pairs-push, part-more, part-push, part-pairs, part-all, last-push, last-behind, item_at-last, item_at-more}
use Rattle.qd_views.proofs.PutLists.{kept-last}
use Rattle.qd_views.proofs.ActKinds.{IsQuiet, Kind, Puts, Gives, Begins, Ends, Rests, kind_of, pair-same}
use Rattle.qd_views.proofs.Steady.{true-false, unbegun-off, unbegun-before, Within, First, Later, within}
use Rattle.qd_views.proofs.PendingActs.{has-push, pending-unsubscribed, pending-quiet, pending-put, pending-gift, pending-begin, pending-end}
use Rattle.qd_views.proofs.TickerActs.{ActFits, EachFits, fits-moment}

-- the last record that is kept is the last one put
last-put : (k : Key) (r : Record) (now : TickerMoment) → last_record k now ≡ Some r → item_at (length (puts k now)) (puts k now) ≡ Some r
unfolding last_record
last-put k r now h = let w = kept-last k now in item_at-last (puts k now) ∙ ap last w.is ∙ last-behind w.older (kept k now) r h

-- what acts do to the numbers, by their kinds
offers-quiet : (a : ℕ) (k : Key) (act : Act Record Record) (past : TickerMoment) → IsQuiet a k act past → offers a k act past ≡ []
offers-quiet a k act past q = rw (q.same, q.no_put) (none (subscribed a k past) (has_items (kept k past)))
  where
    none : (b c : Bool) → (if (b && not b) && c then length (puts k past) ∷ [] else if false && b then suc (length (puts k past)) ∷ [] else []) ≡ []
    none true c = refl
    none false c = refl

offers-put : (a : ℕ) (k : Key) (r : Record) (past : TickerMoment) → offers a k (Came k r) past ≡ (if subscribed a k past then suc (length (puts k past)) ∷ [] else [])
offers-put a k r past = rw (subscribed-came a k k r past, key_eq-same k) (one (subscribed a k past) (has_items (kept k past)))
  where
    one : (b c : Bool) → (if (b && not b) && c then length (puts k past) ∷ [] else if true && b then suc (length (puts k past)) ∷ [] else []) ≡ (if b then suc (length (puts k past)) ∷ [] else [])
    one true c = refl
    one false c = refl

offers-gift : (a : ℕ) (k : Key) (r : Record) (past : TickerMoment) → offers a k (Gave a k r) past ≡ []
offers-gift a k r past = rw (subscribed-gave a k a k r past) (none (subscribed a k past) (has_items (kept k past)))
  where
    none : (b c : Bool) → (if (b && not b) && c then length (puts k past) ∷ [] else if false && b then suc (length (puts k past)) ∷ [] else []) ≡ []
    none true c = refl
    none false c = refl

begun : (a : ℕ) (k : Key) (limit : ℕ) (past : TickerMoment) → subscribed a k (Subscribed a k limit ∷ past) ≡ true
begun a k limit past = subscribed-sub a k a k limit past ∙ rw (pair-same a k) refl

ended : (a : ℕ) (k : Key) (past : TickerMoment) → subscribed a k (Unsubscribed a k ∷ past) ≡ false
ended a k past = subscribed-unsub a k a k past ∙ rw (pair-same a k) refl

offers-begin : (a : ℕ) (k : Key) (limit : ℕ) (past : TickerMoment) → subscribed a k past ≡ false → offers a k (Subscribed a k limit) past ≡ (if has_items (kept k past) then length (puts k past) ∷ [] else [])
offers-begin a k limit past s = rw (begun a k limit past, s) refl

offers-end : (a : ℕ) (k : Key) (past : TickerMoment) → offers a k (Unsubscribed a k) past ≡ []
offers-end a k past = rw (ended a k past) refl

put-one : (k : Key) (r : Record) (past : TickerMoment) → puts k (Came k r ∷ past) ≡ puts k past ++ r ∷ []
put-one k r past = rw (key_eq-same k) refl

length-put : (k : Key) (r : Record) (past : TickerMoment) → length (puts k (Came k r ∷ past)) ≡ suc (length (puts k past))
length-put k r past = ap length (put-one k r past) ∙ (let e = length-append (puts k past) (r ∷ []) in omega (arith, e))

-- what holds at each moment
record Stands (a : ℕ) (k : Key) (now : TickerMoment) : Type 0 where
  bound : All (λ n. n ≤ length (puts k now)) (offered a k now)
  in_order : AllPairs ◌≤◌ (offered a k now)
  part : IsPart (origins a k now) (offered a k now)
  waits : pending a k now ≡ true → (front : List ℕ) × (offered a k now ≡ front ++ length (puts k now) ∷ []) × IsPart (origins a k now) front
  told : subscribed a k now ≡ true → pending a k now ≡ false → has_items (kept k now) ≡ true → last (origins a k now) ≡ last (offered a k now)
  repeats : map Some (given a k now) ≡ map (λ n. item_at n (puts k now)) (origins a k now)

-- nothing changes
stays : (a : ℕ) (k : Key) (act : Act Record Record) (past : TickerMoment) → Stands a k past → puts k (act ∷ past) ≡ puts k past → given a k (act ∷ past) ≡ given a k past → origins a k (act ∷ past) ≡ origins a k past → offers a k act past ≡ []
    → (pending a k (act ∷ past) ≡ true → pending a k past ≡ true)
    → (subscribed a k (act ∷ past) ≡ true → pending a k (act ∷ past) ≡ false → has_items (kept k (act ∷ past)) ≡ true → (subscribed a k past ≡ true) × (pending a k past ≡ false) × (has_items (kept k past) ≡ true))
    → Stands a k (act ∷ past)
stays a k act past s p g o e w t =
    let same : offered a k (act ∷ past) ≡ offered a k past = ap (λ ns. offered a k past ++ ns) e ∙ append-nil (offered a k past) in
    record {
      bound = rw (same, p) s.bound;
      in_order = rw same s.in_order;
      part = rw (same, o) s.part;
      waits = λ h. rw (same, p, o) (s.waits (w h));
      told = λ h i j. let b = t h i j in rw (same, o) (s.told b.0 b.1 b.2);
      repeats = rw (p, g, o) s.repeats;
    }

longer : (ps qs later : List Record) (ns : List ℕ) → qs ≡ ps ++ later → All (λ n. n ≤ length ps) ns → map (λ n. item_at n qs) ns ≡ map (λ n. item_at n ps) ns
longer ps qs later [] e h = refl
longer ps qs later (n ∷ ns) e h =
    let one : item_at n qs ≡ item_at n ps = ap (item_at n) e ∙ item_at-more n ps later (All-head (λ n. n ≤ length ps) n ns h) in
    cc (one, longer ps qs later ns e (All-tail (λ n. n ≤ length ps) n ns h))

map-push : {X Y : Type 0} (f : X → Y) (xs : List X) (x : X) → map f (xs ++ x ∷ []) ≡ map f xs ++ f x ∷ []
map-push f [] x = refl
map-push f (y ∷ xs) x = ap (λ ys. f y ∷ ys) (map-push f xs x)

-- one more number is offered
more : (a : ℕ) (k : Key) (act : Act Record Record) (past : TickerMoment) → Stands a k past → (later : List Record) → puts k (act ∷ past) ≡ puts k past ++ later → given a k (act ∷ past) ≡ given a k past → origins a k (act ∷ past) ≡ origins a k past
    → offers a k act past ≡ length (puts k (act ∷ past)) ∷ [] → pending a k (act ∷ past) ≡ true
    → Stands a k (act ∷ past)
more a k act past s later p g o e w =
    let len : length (puts k (act ∷ past)) ≡ length (puts k past ++ later) = ap length p in
    let up = length-append (puts k past) later in
    let grown : length (puts k past) ≤ length (puts k (act ∷ past)) = omega (arith, len, up) in
    let is : offered a k (act ∷ past) ≡ offered a k past ++ length (puts k (act ∷ past)) ∷ [] = ap (λ ns. offered a k past ++ ns) e in
    let below : All (λ n. n ≤ length (puts k (act ∷ past))) (offered a k past) = All-weaker (λ n. n ≤ length (puts k past)) (λ n. n ≤ length (puts k (act ∷ past))) (λ n h. omega (arith, h, grown)) (offered a k past) s.bound in
    record {
      bound = subst (All (λ n. n ≤ length (puts k (act ∷ past)))) (sym is) (All-push (λ n. n ≤ length (puts k (act ∷ past))) (offered a k past) (length (puts k (act ∷ past))) below (omega arith));
      in_order = subst (AllPairs ◌≤◌) (sym is) (pairs-push ◌≤◌ (offered a k past) (length (puts k (act ∷ past))) s.in_order below);
      part = rw (o, is) (part-more (origins a k past) (offered a k past) (length (puts k (act ∷ past)) ∷ []) s.part);
      waits = λ h. (offered a k past, is, rw o s.part);
      told = λ h i j. true-false (pending a k (act ∷ past)) w i;
      repeats = ap (map Some) g ∙ s.repeats ∙ sym (ap (map (λ n. item_at n (puts k (act ∷ past)))) o ∙ longer (puts k past) (puts k (act ∷ past)) later (origins a k past) p (part-all (λ n. n ≤ length (puts k past)) (origins a k past) (offered a k past) s.part s.bound));
    }

-- an act that puts what the agent is not to see
put-unseen : (a : ℕ) (k : Key) (r : Record) (past : TickerMoment) → Stands a k past → subscribed a k past ≡ false → Stands a k (Came k r ∷ past)
put-unseen a k r past s n =
    let off : subscribed a k (Came k r ∷ past) ≡ false = subscribed-came a k k r past ∙ n in
    let none : pending a k (Came k r ∷ past) ≡ false = pending-unsubscribed a k (Came k r ∷ past) off in
    let is : offered a k (Came k r ∷ past) ≡ offered a k past = ap (λ ns. offered a k past ++ ns) (offers-put a k r past ∙ rw n refl) ∙ append-nil (offered a k past) in
    let len = length-put k r past in
    record {
      bound = subst (All (λ n. n ≤ length (puts k (Came k r ∷ past)))) (sym is) (All-weaker (λ n. n ≤ length (puts k past)) (λ n. n ≤ length (puts k (Came k r ∷ past))) (λ n h. omega (arith, h, len)) (offered a k past) s.bound);
      in_order = rw is s.in_order;
      part = rw is s.part;
      waits = λ h. true-false (pending a k (Came k r ∷ past)) h none;
      told = λ h i j. true-false (subscribed a k (Came k r ∷ past)) h off;
      repeats = s.repeats ∙ sym (longer (puts k past) (puts k (Came k r ∷ past)) (r ∷ []) (origins a k past) (put-one k r past) (part-all (λ n. n ≤ length (puts k past)) (origins a k past) (offered a k past) s.part s.bound));
    }

gave : (a : ℕ) (k : Key) (r : Record) (past : TickerMoment) → Stands a k past → ActFits (Gave a k r) past → Stands a k (Gave a k r ∷ past)
gave a k r past s f =
    let w = s.waits f.0 in
    let is : offered a k (Gave a k r ∷ past) ≡ offered a k past = ap (λ ns. offered a k past ++ ns) (offers-gift a k r past) ∙ append-nil (offered a k past) in
    let now : offered a k (Gave a k r ∷ past) ≡ w.0 ++ length (puts k past) ∷ [] = is ∙ w.1 in
    let one : origins a k (Gave a k r ∷ past) ≡ origins a k past ++ length (puts k past) ∷ [] = rw (pair-same a k) refl in
    let item : given a k (Gave a k r ∷ past) ≡ given a k past ++ r ∷ [] = rw (pair-same a k) refl in
    record {
      bound = rw is s.bound;
      in_order = rw is s.in_order;
      part = rw (now, one) (part-push (origins a k past) w.0 (length (puts k past)) w.2);
      waits = λ h. true-false (pending a k (Gave a k r ∷ past)) h (pending-gift a k r past);
      told = λ h i j. ap last one ∙ last-push (origins a k past) (length (puts k past)) ∙ sym (ap last now ∙ last-push w.0 (length (puts k past)));
      repeats = ap (map Some) item ∙ map-push Some (given a k past) r ∙ ends s.repeats (sym (last-put k r past f.1)) ∙ sym (ap (map (λ n. item_at n (puts k past))) one ∙ map-push (λ n. item_at n (puts k past)) (origins a k past) (length (puts k past)));
    }
  where
    ends : {X : Type 0} → {xs ys : List X} → {x y : X} → xs ≡ ys → x ≡ y → xs ++ x ∷ [] ≡ ys ++ y ∷ []
    ends e f = cc (e, f)

subscribes-anew : (a : ℕ) (k : Key) (limit : ℕ) (past : TickerMoment) → Stands a k past → subscribed a k past ≡ false → Stands a k (Subscribed a k limit ∷ past)
subscribes-anew a k limit past s n = go (cases_Bool (has_items (kept k past)))
  where
    waits : pending a k (Subscribed a k limit ∷ past) ≡ has_items (kept k past)
    waits = pending-begin a k limit past n

    go : (has_items (kept k past) ≡ true) ⊎ (has_items (kept k past) ≡ false) → Stands a k (Subscribed a k limit ∷ past)
    go (inl e) = more a k (Subscribed a k limit) past s [] (sym (append-nil (puts k past))) refl refl (offers-begin a k limit past n ∙ rw e refl) (waits ∙ e)
    go (inr e) =
        stays a k (Subscribed a k limit) past s refl refl refl (offers-begin a k limit past n ∙ rw e refl)
        (λ h. true-false (pending a k (Subscribed a k limit ∷ past)) h (waits ∙ e))
        (λ h i j. true-false (has_items (kept k past)) (sym (ap has_items (kept-sub k a k limit past)) ∙ j) e)

stands : (a : ℕ) (k : Key) (now : TickerMoment) → EachFits now → Stands a k now
stands a k [] h = record {
  bound = All-nil (λ n. n ≤ 0);
  in_order = pairs-none ◌≤◌;
  part = refl;
  waits = λ w. true-false (pending a k []) w (pending-unsubscribed a k [] (subscribed-empty _ _ a k));
  told = λ t i j. refl;
  repeats = refl;
}
stands a k (act ∷ past) h = go act (kind_of a k act past) h.0 (stands a k past h.1)
  where
    go : (act : Act Record Record) → Kind a k past act → ActFits act past → Stands a k past → Stands a k (act ∷ past)
    go _ (Puts r) f s = put (cases_Bool (subscribed a k past))
      where
        put : (subscribed a k past ≡ true) ⊎ (subscribed a k past ≡ false) → Stands a k (Came k r ∷ past)
        put (inl e) = more a k (Came k r) past s (r ∷ []) (put-one k r past) refl refl (offers-put a k r past ∙ rw (e, length-put k r past) refl) (pending-put a k r past e)
        put (inr e) = put-unseen a k r past s e
    go _ (Gives r) f s = gave a k r past s f
    go _ (Begins limit n) f s = subscribes-anew a k limit past s n
    go _ Ends f s =
        stays a k (Unsubscribed a k) past s refl refl refl (offers-end a k past)
        (λ h. true-false (pending a k (Unsubscribed a k ∷ past)) h (pending-end a k past))
        (λ h i j. true-false (subscribed a k (Unsubscribed a k ∷ past)) h (ended a k past))
    go _ (Rests act q) f s =
        stays a k act past s (q.puts_same (puts k past)) (q.gifts_same (given a k past)) (rw q.no_gift refl) (offers-quiet a k act past q)
        (λ h. sym (pending-quiet a k act past q) ∙ h)
        (λ h i j. (sym q.same ∙ h, sym (pending-quiet a k act past q) ∙ i, ap has_items (sym (q.kept_same (sym q.same ∙ h))) ∙ j))

-- before its first subscription an agent was offered nothing
none-offered : (a : ℕ) (k : Key) (now : TickerMoment) → subscriptions a k now ≡ 0 → offered a k now ≡ []
none-offered a k [] h = refl
none-offered a k (act ∷ past) h = go (subscribed a k past) refl (λ e. none-offered a k past e)
  where
    off : subscribed a k (act ∷ past) ≡ false
    off = unbegun-off a k (act ∷ past) h

    before : subscriptions a k past ≡ 0
    before = unbegun-before a k act past h

    go : (c : Bool) → subscribed a k past ≡ c → (subscriptions a k past ≡ 0 → offered a k past ≡ []) → offered a k past ++ offers a k act past ≡ []
    go true f ih = true-false (subscribed a k past) f (unbegun-off a k past before)
    go false f ih = ap (λ ns. ns ++ offers a k act past) (ih before) ∙ rw (off, f) (nothing (is_put k act) (has_items (kept k past)))
      where
        nothing : (p c : Bool) → (if (false && not false) && c then length (puts k past) ∷ [] else if p && false then suc (length (puts k past)) ∷ [] else []) ≡ []
        nothing true c = refl
        nothing false c = refl

-- the numbers offered within one subscription rise
rising : (a : ℕ) (k : Key) (now : TickerMoment) → EachFits now → IsSteady a k now → AllPairs ◌<◌ (offered a k now)
rising a k [] f st = true-false (subscribed a k []) st.still (subscribed-empty _ _ a k)
rising a k (act ∷ past) f st = go (within a k act past st) (rising a k past f.1)
  where
    one : (n : ℕ) → AllPairs ◌<◌ (n ∷ [])
    one n = pairs-push ◌<◌ [] n (pairs-none ◌<◌) (All-nil (λ m. m < n))

    cases : (b c : Bool) → AllPairs ◌<◌ (if b then length (puts k past) ∷ [] else if c then suc (length (puts k past)) ∷ [] else [])
    cases true c = one (length (puts k past))
    cases false true = one (suc (length (puts k past)))
    cases false false = pairs-none ◌<◌

    next : (b : Bool) → AllPairs ◌<◌ (offered a k past) → All (λ n. n < suc (length (puts k past))) (offered a k past) → AllPairs ◌<◌ (offered a k past ++ (if b then suc (length (puts k past)) ∷ [] else []))
    next true h u = pairs-push ◌<◌ (offered a k past) (suc (length (puts k past))) h u
    next false h u = subst (AllPairs ◌<◌) (sym (append-nil (offered a k past))) h

    plain : subscribed a k past ≡ true → offers a k act past ≡ (if is_put k act then suc (length (puts k past)) ∷ [] else [])
    plain e = rw (st.still, e) (same (is_put k act) (has_items (kept k past)))
      where
        same : (p c : Bool) → (if (true && not true) && c then length (puts k past) ∷ [] else if p && true then suc (length (puts k past)) ∷ [] else []) ≡ (if p then suc (length (puts k past)) ∷ [] else [])
        same true c = refl
        same false c = refl

    go : Within a k act past → (IsSteady a k past → AllPairs ◌<◌ (offered a k past)) → AllPairs ◌<◌ (offered a k (act ∷ past))
    go (First z e) ih = subst (λ ns. AllPairs ◌<◌ (ns ++ offers a k act past)) (sym (none-offered a k past z)) (cases (begins a k act past && has_items (kept k past)) (is_put k act && subscribed a k past))
    go (Later e was) ih =
        subst (λ ns. AllPairs ◌<◌ (offered a k past ++ ns)) (sym (plain e))
        (next (is_put k act) (ih was) (All-weaker (λ n. n ≤ length (puts k past)) (λ n. n < suc (length (puts k past))) (λ n h. omega (arith, h)) (offered a k past) (stands a k past f.1).bound))

-- and where nothing is kept nothing was offered
nothing-kept : (a : ℕ) (k : Key) (now : TickerMoment) → IsSteady a k now → has_items (kept k now) ≡ false → offered a k now ≡ []
nothing-kept a k [] st n = refl
nothing-kept a k (act ∷ past) st n = go act (kind_of a k act past) (within a k act past st) st.still n (nothing-kept a k past)
  where
    none : (act : Act Record Record) → offers a k act past ≡ [] → IsSteady a k past → has_items (kept k past) ≡ false → (IsSteady a k past → has_items (kept k past) ≡ false → offered a k past ≡ []) → offered a k past ++ offers a k act past ≡ []
    none act e was m ih = ap (λ ns. ns ++ offers a k act past) (ih was m) ∙ e

    go : (act : Act Record Record) → Kind a k past act → Within a k act past → subscribed a k (act ∷ past) ≡ true → has_items (kept k (act ∷ past)) ≡ false → (IsSteady a k past → has_items (kept k past) ≡ false → offered a k past ≡ []) → offered a k past ++ offers a k act past ≡ []
    go _ (Puts r) (First z e) t n ih = true-false (subscribed a k past) (sym (subscribed-came a k k r past) ∙ t) e
    go _ (Puts r) (Later e was) t n ih =
        true-false (has_items (kept k (Came k r ∷ past))) (ap has_items (kept-came_same k r past (wanted-subscribed a k past e)) ∙ has-push (kept k past) r) n
    go _ (Gives r) (First z e) t n ih = true-false (subscribed a k past) (sym (subscribed-gave a k a k r past) ∙ t) e
    go _ (Gives r) (Later e was) t n ih = none (Gave a k r) (offers-gift a k r past) was (ap has_items (sym (kept-gave k a k r past)) ∙ n) ih
    go _ (Begins limit s) (First z e) t n ih =
        let empty : has_items (kept k past) ≡ false = ap has_items (sym (kept-sub k a k limit past)) ∙ n in
        ap (λ ns. ns ++ offers a k (Subscribed a k limit) past) (none-offered a k past z) ∙ offers-begin a k limit past s ∙ rw empty refl
    go _ (Begins limit s) (Later e was) t n ih = true-false (subscribed a k past) e s
    go _ Ends w t n ih = true-false (subscribed a k (Unsubscribed a k ∷ past)) t (ended a k past)
    go _ (Rests act q) (First z e) t n ih = true-false (subscribed a k past) (sym q.same ∙ t) e
    go _ (Rests act q) (Later e was) t n ih = none act (offers-quiet a k act past q) was (ap has_items (sym (q.kept_same e)) ∙ n) ih

pub ticker_view : TickerLaw
ticker_view terms now m a k =
    let f = fits-moment terms now m in
    let s = stands a k now f in
    record {
      repeats = s.repeats;
      part = s.part;
      never_back = part-pairs ◌≤◌ (origins a k now) (offered a k now) s.part s.in_order;
      rises = λ st. part-pairs ◌<◌ (origins a k now) (offered a k now) s.part (rising a k now f st);
      up_to_date = λ st w. elim (cases_Bool (has_items (kept k now))) [
        | inl e ↦ s.told st.still w e
        | inr e ↦ (let none = nothing-kept a k now st e in let part : IsPart (origins a k now) [] = subst (IsPart (origins a k now)) none s.part in ap last part ∙ sym (ap last none))
      ];
    }
