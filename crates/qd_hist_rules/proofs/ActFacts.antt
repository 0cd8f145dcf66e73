-- What single acts do to what is known of an agent and a key.
use Rattle.std.proofs.Common.{◌≡◌, ℕ, Bool, true, false, List, [], ◌∷◌, reverse, refl, sym, ◌∙◌, ap, Option, None}
use Rattle.std.specs.Prelude.{if◌then◌else◌, is_some, nat_eq}
use Rattle.std.proofs.lemmas.Bool.{and_parts, and_from, eqb-true, eq-eqb, and_left}
use Rattle.std.proofs.lemmas.List.{reverse-append}
use Rattle.qd_scheme.specs.declared.key.Key.{Key}
use Rattle.qd_scheme.specs.declared.key.Event.{Event}
use Rattle.qd_scheme.specs.Keys.{key_eq}
use Rattle.qd_scheme.proofs.KeyLaws.{key_eq-same, key_eq-true}
use Rattle.qd_flags.specs.Bits.{is_begin}
use Rattle.qd_gate.specs.declared.machine.Terms.{Terms}
use Rattle.qd_sub.specs.Acts.{Subscribed, Unsubscribed, Closed, Came, Gave, Told, Full, is_pair, is_put}
use Rattle.qd_sub.specs.Subscriptions.{limit_of, subscribed, wanted, and_put, kept}
use Rattle.qd_sub.proofs.SubscriptionLaws.{kept-wanted, kept-came_same, wanted-came}
use Rattle.qd_hist_rules.specs.declared.item.HistItem.{HistItem}
use Rattle.qd_hist_rules.specs.Moments.{HistAct, HistMoment, given, gives, begins, subscribes}
use Rattle.qd_hist_rules.specs.Source.{source}
use Rattle.qd_hist_rules.specs.Lawful.{Lawful}

pub self_pair : (a : ℕ) (k : Key) → is_pair a k a k ≡ true
self_pair a k = and_from (nat_eq a a) (key_eq k k) (eq-eqb a a refl) (key_eq-same k)

pub is_subscribed : (a : ℕ) (k : Key) (m : HistMoment) → subscribed a k m ≡ is_some (limit_of a k m)
unfolding subscribed
is_subscribed a k m = refl

unsub_limit : (c : Bool) (o : Option ℕ) → is_some (if c then None else o) ≡ true → (if c then None else o) ≡ o
unsub_limit true o s = cc s
unsub_limit false o s = refl

-- an act that does not subscribe the pair, and after which it is subscribed, leaves the limit
pub limit_stays : (a : ℕ) (k : Key) (act : HistAct) (m : HistMoment) → subscribes a k act ≡ false → subscribed a k (act ∷ m) ≡ true → limit_of a k (act ∷ m) ≡ limit_of a k m
unfolding limit_of subscribed
limit_stays a k (Subscribed b j l) m h s = rw h refl
limit_stays a k (Unsubscribed b j) m h s = unsub_limit (is_pair a k b j) (limit_of a k m) s
limit_stays a k (Closed b) m h s = refl
limit_stays a k (Came j e) m h s = refl
limit_stays a k (Gave b j i) m h s = refl
limit_stays a k (Told w j x) m h s = refl
limit_stays a k (Full b j) m h s = refl

-- an act that neither subscribes nor unsubscribes leaves the limit
pub limit_given : (a : ℕ) (k : Key) (b : ℕ) (j : Key) (i : HistItem) (m : HistMoment) → limit_of a k (Gave b j i ∷ m) ≡ limit_of a k m
unfolding limit_of
limit_given a k b j i m = refl

pub limit_came : (a : ℕ) (k : Key) (j : Key) (e : Event) (m : HistMoment) → limit_of a k (Came j e ∷ m) ≡ limit_of a k m
unfolding limit_of
limit_came a k j e m = refl

pub gives_gave : (a : ℕ) (k : Key) (act : HistAct) → gives a k act ≡ true → (i : HistItem) × (act ≡ Gave a k i)
gives_gave a k (Gave b j i) h =
    let p = and_parts (nat_eq a b) (key_eq k j) h in
    let q : a ≡ b = eqb-true a b p.0 in
    let r : k ≡ j = key_eq-true k j p.1 in
    (i, cc (q, r))
gives_gave a k (Subscribed b j l) h = cc h
gives_gave a k (Unsubscribed b j) h = cc h
gives_gave a k (Closed b) h = cc h
gives_gave a k (Came j e) h = cc h
gives_gave a k (Told w j x) h = cc h
gives_gave a k (Full b j) h = cc h

begins_gives : (a : ℕ) (k : Key) (act : HistAct) → begins a k act ≡ true → gives a k act ≡ true
begins_gives a k (Gave b j i) h = (and_parts (is_pair a k b j) (is_begin i.event) h).0
begins_gives a k (Subscribed b j l) h = h
begins_gives a k (Unsubscribed b j) h = h
begins_gives a k (Closed b) h = h
begins_gives a k (Came j e) h = h
begins_gives a k (Told w j x) h = h
begins_gives a k (Full b j) h = h

pub begins_gave : (a : ℕ) (k : Key) (act : HistAct) → begins a k act ≡ true → (i : HistItem) × (act ≡ Gave a k i)
begins_gave a k act h = gives_gave a k act (begins_gives a k act h)

pub no_gift_no_begin : (a : ℕ) (k : Key) (act : HistAct) → gives a k act ≡ false → begins a k act ≡ false
no_gift_no_begin a k (Gave b j i) h = and_left (is_pair a k b j) (is_begin i.event) h
no_gift_no_begin a k (Subscribed b j l) h = refl
no_gift_no_begin a k (Unsubscribed b j) h = refl
no_gift_no_begin a k (Closed b) h = refl
no_gift_no_begin a k (Came j e) h = refl
no_gift_no_begin a k (Told w j x) h = refl
no_gift_no_begin a k (Full b j) h = refl

-- an act that gives nothing of the pair leaves what was given
pub given_stays : (a : ℕ) (k : Key) (act : HistAct) (m : HistMoment) → gives a k act ≡ false → given a k (act ∷ m) ≡ given a k m
given_stays a k (Gave b j i) m h = rw h refl
given_stays a k (Subscribed b j l) m h = refl
given_stays a k (Unsubscribed b j) m h = refl
given_stays a k (Closed b) m h = refl
given_stays a k (Came j e) m h = refl
given_stays a k (Told w j x) m h = refl
given_stays a k (Full b j) m h = refl

pub given_now : (a : ℕ) (k : Key) (i : HistItem) (m : HistMoment) → given a k (Gave a k i ∷ m) ≡ i ∷ given a k m
given_now a k i m = rw (self_pair a k) refl

-- a log's earlier moment is lawful
pub lawful_before : (t : Terms) (act : HistAct) (m : HistMoment) → Lawful t (act ∷ m) → Lawful t m
lawful_before t (Gave b j i) m w = w.1
lawful_before t (Subscribed b j l) m w = w
lawful_before t (Unsubscribed b j) m w = w
lawful_before t (Closed b) m w = w
lawful_before t (Came j e) m w = w
lawful_before t (Told w j x) m v = v
lawful_before t (Full b j) m w = w

pub puts_came : (k : Key) (act : HistAct) → is_put k act ≡ true → (e : Event) × (act ≡ Came k e)
puts_came k (Came j e) h = let r : k ≡ j = key_eq-true k j h in (e, cc r)
puts_came k (Subscribed b j l) h = cc h
puts_came k (Unsubscribed b j) h = cc h
puts_came k (Closed b) h = cc h
puts_came k (Gave b j i) h = cc h
puts_came k (Told w j x) h = cc h
puts_came k (Full b j) h = cc h

other_put : (k : Key) (act : HistAct) (es : List Event) → is_put k act ≡ false → and_put k act es ≡ es
other_put k (Came j e) es h = rw h refl
other_put k (Subscribed b j l) es h = refl
other_put k (Unsubscribed b j) es h = refl
other_put k (Closed b) es h = refl
other_put k (Gave b j i) es h = refl
other_put k (Told w j x) es h = refl
other_put k (Full b j) es h = refl

-- the source grows by the events put for the key, and stays else
pub source_stays : (k : Key) (act : HistAct) (m : HistMoment) → wanted k (act ∷ m) ≡ true → is_put k act ≡ false → source k (act ∷ m) ≡ source k m
source_stays k act m w h = ap (λ (es : List Event). reverse es) (kept-wanted k act m w ∙ other_put k act (kept k m) h)

pub source_came : (k : Key) (e : Event) (m : HistMoment) → wanted k m ≡ true → source k (Came k e ∷ m) ≡ e ∷ source k m
source_came k e m w = ap (λ (es : List Event). reverse es) (kept-came_same k e m w) ∙ reverse-append (kept k m) (e ∷ [])

pub wanted_came : (k : Key) (e : Event) (m : HistMoment) → wanted k (Came k e ∷ m) ≡ true → wanted k m ≡ true
wanted_came k e m w = sym (wanted-came k k e m) ∙ w
