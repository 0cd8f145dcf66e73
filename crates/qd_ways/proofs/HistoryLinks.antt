-- The law of one link of histories: what was put below was given above before.
use Rattle.std.proofs.Common.{◌≡◌, ◌⊎◌, inl, inr, ℕ, suc, ◌≤◌, Bool, true, false, ◌==◌, if◌then◌else◌, List, [], ◌∷◌, ◌++◌, reverse, length, map, refl, sym, ◌∙◌, ap, arith, cond, Option, Some, None, subst, append_assoc}
use Rattle.std.specs.Prelude.{option_to_list, find}
use Rattle.std.proofs.lemmas.Bool.{cases_Bool, ne_eqb, eq-eqb}
use Rattle.std.proofs.lemmas.List.{append-nil, reverse-append, length-reverse}
use Rattle.qd_scheme.specs.declared.key.Key.{Key}
use Rattle.qd_scheme.specs.declared.key.Event.{Event}
use Rattle.qd_flags.specs.Shown.{Shown, shown, cut, has_begin}
use Rattle.qd_flags.proofs.Segments.{shown-append}
use Rattle.qd_flags.proofs.Places.{end_of_shown, begin_of_end}
use Rattle.qd_gate.specs.declared.machine.Terms.{Terms}
use Rattle.qd_sub.specs.Acts.{Subscribed, Unsubscribed, Closed, Came, Gave, Told, Full, is_pair}
use Rattle.qd_sub.specs.Subscriptions.{and_put, kept}
use Rattle.qd_hist_rules.specs.declared.item.HistItem.{HistItem}
use Rattle.qd_hist_rules.specs.Moments.{HistAct, HistMoment, events, given, gives}
use Rattle.qd_hist_rules.specs.Source.{source, Commit, made, commits, commit}
use Rattle.qd_hist_rules.specs.Lawful.{Lawful}
use Rattle.qd_hist_rules.specs.Laws.{last_number}
use Rattle.qd_hist_rules.proofs.ActFacts.{gives_gave, given_now, given_stays, lawful_before}
use Rattle.qd_hist_rules.proofs.OneLog.{history}
use Rattle.qd_hist_rules.proofs.Numbers.{made_facts, commit_stays}
use Rattle.qd_views.specs.Views.{puts}
use Rattle.qd_views.specs.Views as views
use Rattle.qd_views.proofs.PutLists.{put-apart, kept-last}
use Rattle.qd_views.proofs.HistoryViews.{lawful-moment}
use Rattle.qd_ways.specs.Links.{Delivers, events_given, number_at, ComesFrom, HistoryLink}

-- a list that shows whole has a BEGIN
begin_of_shown : (es : List Event) (s : Shown) → shown es ≡ Some s → has_begin es ≡ true
begin_of_shown es s h = let x = end_of_shown es s h in begin_of_end es x.0 x.1

-- what the source shows, all that was put shows
pub shown_below : (k : Key) (m : HistMoment) (s : Shown) → shown (source k m) ≡ Some s → shown (reverse (puts k m)) ≡ Some s
shown_below k m s h =
    let p = kept-last k m in
    ap (λ es. shown (reverse es)) p.is ∙ ap shown (reverse-append p.older (kept k m)) ∙ shown-append (source k m) (reverse p.older) (begin_of_shown (source k m) s h) ∙ h

-- what is put later is put behind
pub record Grown (k : Key) (when m : HistMoment) : Type 0 where
  pub newer : List Event
  pub grown_is : puts k m ≡ puts k when ++ newer

grow : (k : Key) (act : HistAct) (when m : HistMoment) → Grown k when m → Grown k when (act ∷ m)
grow k act when m g = record { newer = and_put k act g.newer; grown_is = ap (and_put k act) g.grown_is ∙ put-apart k act (puts k when) g.newer }

-- where a commit stands in the log
pub record Placed (k : Key) (c : Commit) (m : HistMoment) : Type 0 where
  pub shows : shown (source k c.when) ≡ Some c.shown
  pub grown : Grown k c.when m

pub placed : (base : ℕ) (k : Key) (n : ℕ) (m : HistMoment) (c : Commit) → commit base k n m ≡ Some c → Placed k c m
placed base k n [] c h = cc h
placed base k n (act ∷ m) c h = go (made base k (act ∷ m)) refl h (λ h. placed base k n m c h)
  where
    later : Placed k c m → Placed k c (act ∷ m)
    later p = record { shows = p.shows; grown = grow k act c.when m p.grown }

    go : (o : Option Commit) → made base k (act ∷ m) ≡ o → find (λ c. c.number == n) (option_to_list o ++ commits base k m) ≡ Some c
        → (commit base k n m ≡ Some c → Placed k c m) → Placed k c (act ∷ m)
    go None e h ih = later (ih h)
    go (Some d) e h ih = at (d.number == n) h
      where
        at : (b : Bool) → cond b (Some d) (commit base k n m) ≡ Some c → Placed k c (act ∷ m)
        at false h = later (ih h)
        at true h =
            let f = made_facts base k (act ∷ m) d e in
            let s : d ≡ c = cc h in
            let w : act ∷ m ≡ c.when = sym f.when_is ∙ ap (λ (c : Commit). c.when) s in
            record {
              shows = subst (λ (x : HistMoment). shown (source k x) ≡ Some c.shown) w (f.shown_is ∙ ap (λ (c : Commit). Some c.shown) s);
              grown = record { newer = []; grown_is = ap (λ (x : HistMoment). puts k x) w ∙ sym (append-nil (puts k c.when)) };
            }

pub length_events : (is : List HistItem) → length (events is) ≡ length is
length_events [] = refl
length_events (i ∷ is) = ap suc (length_events is)

-- an agent was once given just es, which shows s
record Once (t : Terms) (a : ℕ) (k : Key) (es : List Event) (s : Shown) (up : HistMoment) : Type 0 where
  n : ℕ
  commit_n : Commit
  within : length es ≤ length (given a k up)
  number_is : number_at (length es) (given a k up) ≡ Some n
  is_commit : commit t.base k n up ≡ Some commit_n
  map_is : s.map ≡ cut s.floor commit_n.shown.map
  above_source : commit_n.shown.floor ≤ s.floor

pub number_at_last : (is : List HistItem) (n : ℕ) → last_number is ≡ Some n → number_at (length is) is ≡ Some n
number_at_last [] n h = cc h
number_at_last (i ∷ is) n h = rw (eq-eqb (suc (length is)) (suc (length is)) refl) h

now : (t : Terms) (a : ℕ) (k : Key) (es : List Event) (s : Shown) (up : HistMoment) → Lawful t up → shown es ≡ Some s → es ≡ events (given a k up) → Once t a k es s up
now t a k es s up w h e =
    let g = history t up w a k s (ap shown (sym e) ∙ h) in
    let l : length es ≡ length (given a k up) = ap length e ∙ length_events (given a k up) in
    record {
      n = g.n;
      commit_n = g.commit_n;
      within = omega (arith, l);
      number_is = rw l (number_at_last (given a k up) g.n g.number_is);
      is_commit = g.is_commit;
      map_is = g.map_is;
      above_source = g.above_source;
    }

skip : (t : Terms) (a : ℕ) (k : Key) (es : List Event) (s : Shown) (act : HistAct) (m : HistMoment) → given a k (act ∷ m) ≡ given a k m → Once t a k es s m → Once t a k es s (act ∷ m)
skip t a k es s act m same g = record {
  n = g.n;
  commit_n = g.commit_n;
  within = rw same g.within;
  number_is = rw same g.number_is;
  is_commit = commit_stays t.base k g.n act m g.commit_n g.is_commit;
  map_is = g.map_is;
  above_source = g.above_source;
}

more : (t : Terms) (a : ℕ) (k : Key) (es : List Event) (s : Shown) (act : HistAct) (i : HistItem) (m : HistMoment) → given a k (act ∷ m) ≡ i ∷ given a k m → Once t a k es s m → Once t a k es s (act ∷ m)
more t a k es s act i m same g = record {
  n = g.n;
  commit_n = g.commit_n;
  within = rw same (let q : length es ≤ length (given a k m) = g.within in omega (arith, q));
  number_is = rw (same, ne_eqb (suc (length (given a k m))) (length es) (λ e. let q : length es ≤ length (given a k m) = g.within in omega (arith, e, q))) g.number_is;
  is_commit = commit_stays t.base k g.n act m g.commit_n g.is_commit;
  map_is = g.map_is;
  above_source = g.above_source;
}

abbrev tail_or : List Event → List Event
tail_or [] = []
tail_or (e ∷ es) = es

back : (t : Terms) (a : ℕ) (k : Key) (es : List Event) (s : Shown) → shown es ≡ Some s → (up : HistMoment) (r : List Event) → Lawful t up → r ++ es ≡ events (given a k up) → Once t a k es s up
back t a k es s h up [] w e = now t a k es s up w h e
back t a k es s h [] (x ∷ r) w e = cc e
back t a k es s h (act ∷ m) (x ∷ r) w e = go (cases_Bool (gives a k act)) (back t a k es s h m (x ∷ r) (lawful_before t act m w)) (back t a k es s h m r (lawful_before t act m w))
  where
    go : (gives a k act ≡ true) ⊎ (gives a k act ≡ false) → ((x ∷ r) ++ es ≡ events (given a k m) → Once t a k es s m) → (r ++ es ≡ events (given a k m) → Once t a k es s m) → Once t a k es s (act ∷ m)
    go (inr n) f g = let same = given_stays a k act m n in skip t a k es s act m same (f (e ∙ ap events same))
    go (inl y) f g =
        let i = gives_gave a k act y in
        let same : given a k (act ∷ m) ≡ i.0 ∷ given a k m = ap (λ (x : HistAct). given a k (x ∷ m)) i.1 ∙ given_now a k i.0 m in
        let e2 : x ∷ (r ++ es) ≡ i.0.event ∷ events (given a k m) = e ∙ ap events same in
        more t a k es s act i.0 m same (g (ap tail_or e2))

-- in order, and the newest first
given-reverse : (a : ℕ) (k : Key) (m : HistMoment) → reverse (views.given a k m) ≡ given a k m
given-reverse a k [] = refl
given-reverse a k (Subscribed b j l ∷ m) = given-reverse a k m
given-reverse a k (Unsubscribed b j ∷ m) = given-reverse a k m
given-reverse a k (Closed b ∷ m) = given-reverse a k m
given-reverse a k (Came j e ∷ m) = given-reverse a k m
given-reverse a k (Told w j x ∷ m) = given-reverse a k m
given-reverse a k (Full b j ∷ m) = given-reverse a k m
given-reverse a k (Gave b j i ∷ m) = go (is_pair a k b j) (given-reverse a k m)
  where
    go : (c : Bool) → reverse (views.given a k m) ≡ given a k m → reverse (if c then views.given a k m ++ i ∷ [] else views.given a k m) ≡ (if c then i ∷ given a k m else given a k m)
    go false ih = ih
    go true ih = reverse-append (views.given a k m) (i ∷ []) ∙ ap (λ is. i ∷ is) ih

events-push : (is : List HistItem) (i : HistItem) → events (is ++ i ∷ []) ≡ events is ++ i.event ∷ []
events-push [] i = refl
events-push (j ∷ is) i = ap (λ es. j.event ∷ es) (events-push is i)

map-reverse : (is : List HistItem) → reverse (map (λ i. i.event) is) ≡ events (reverse is)
map-reverse [] = refl
map-reverse (i ∷ is) =
    reverse-append (i.event ∷ []) (map (λ i. i.event) is) ∙ ap (λ es. es ++ i.event ∷ []) (map-reverse is) ∙ sym (ap events (reverse-append (i ∷ []) is) ∙ events-push (reverse is) i)

pub link : (t u : Terms) (a : ℕ) (k : Key) (up low : HistMoment) → Lawful t up → Delivers (events_given a k up) (puts k low) → (n : ℕ) (c : Commit) → commit u.base k n low ≡ Some c → ComesFrom t a k up c
link t u a k up low w d n c h =
    let p = placed u.base k n low c h in
    let whole : (puts k c.when ++ p.grown.newer) ++ d.in_flight ≡ events_given a k up = ap (λ es. es ++ d.in_flight) (sym p.grown.grown_is) ∙ d.first_ones in
    let newest : reverse (p.grown.newer ++ d.in_flight) ++ reverse (puts k c.when) ≡ events (given a k up) =
    sym (reverse-append (puts k c.when) (p.grown.newer ++ d.in_flight)) ∙ ap reverse (sym (append_assoc (puts k c.when) p.grown.newer d.in_flight) ∙ whole)
    ∙ map-reverse (views.given a k up) ∙ ap events (given-reverse a k up) in
    let g = back t a k (reverse (puts k c.when)) c.shown (shown_below k c.when c.shown p.shows) up (reverse (p.grown.newer ++ d.in_flight)) w newest in
    let long = length-reverse (puts k c.when) in
    record { n = g.n; commit_n = g.commit_n; number_is = ap (λ l. number_at l (given a k up)) (sym long) ∙ g.number_is; is_commit = g.is_commit; map_is = g.map_is; above_source = g.above_source }

pub history_link : HistoryLink
history_link terms below up low a k m d n c h = link terms below a k up low (lawful-moment terms up m) d n c h
