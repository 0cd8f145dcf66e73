-- What an act that is not about a key leaves of it.
use Rattle.std.proofs.Common.{◌≡◌, ◌⊎◌, inl, inr, ℕ, Bool, true, false, ◌&&◌, if◌then◌else◌, nat_eq, Option, None, List, [], ◌∷◌, reverse, refl, ap, sym, ◌∙◌}
use Rattle.std.proofs.lemmas.Bool.{cases_Bool, and_right}
use Rattle.qd_scheme.specs.declared.key.Key.{Key}
use Rattle.qd_scheme.specs.declared.key.Event.{Event}
use Rattle.qd_scheme.specs.Keys.{key_eq}
use Rattle.qd_flags.specs.Shown.{or_else}
use Rattle.qd_flags.proofs.Feeding.{if_true, if_false}
use Rattle.qd_gate.specs.declared.machine.Terms.{Terms}
use Rattle.qd_sub.specs.Acts.{Subscribed, Unsubscribed, Closed, Came, Gave, Told, Full, is_put, newest_key}
use Rattle.qd_sub.specs.Subscriptions.{wanted}
use Rattle.qd_sub.proofs.OrderLaws.{is_about}
use Rattle.qd_sub.proofs.HeldLaws.{limit_of-about, wanted-about}
use Rattle.qd_sub.proofs.SubscriptionLaws.{kept-unwanted}
use Rattle.qd_hist_rules.specs.Moments.{HistAct, HistMoment, gives, subscribes}
use Rattle.qd_hist_rules.specs.Source.{source, Commit, made, last}
use Rattle.qd_hist_rules.proofs.ActFacts.{source_stays}
use Rattle.qd_hist_feed.specs.Laws.{IsQuiet}

pub and-false : (b : Bool) → (b && false) ≡ false
and-false true = refl
and-false false = refl

pub no-put : (k : Key) (act : HistAct) (now : HistMoment) → is_about key_eq k (newest_key (act ∷ now)) ≡ false → is_put k act ≡ false
no-put k (Came j e) now h = h
no-put k (Subscribed b j limit) now h = refl
no-put k (Unsubscribed b j) now h = refl
no-put k (Closed b) now h = refl
no-put k (Gave b j i) now h = refl
no-put k (Told w j total) now h = refl
no-put k (Full b j) now h = refl

pub no-gift : (a : ℕ) (k : Key) (act : HistAct) (now : HistMoment) → is_about key_eq k (newest_key (act ∷ now)) ≡ false → gives a k act ≡ false
no-gift a k (Gave b j i) now h = and_right (nat_eq a b) (key_eq k j) h
no-gift a k (Came j e) now h = refl
no-gift a k (Subscribed b j limit) now h = refl
no-gift a k (Unsubscribed b j) now h = refl
no-gift a k (Closed b) now h = refl
no-gift a k (Told w j total) now h = refl
no-gift a k (Full b j) now h = refl

pub no-sub : (a : ℕ) (k : Key) (act : HistAct) (now : HistMoment) → is_about key_eq k (newest_key (act ∷ now)) ≡ false → subscribes a k act ≡ false
no-sub a k (Subscribed b j limit) now h = and_right (nat_eq a b) (key_eq k j) h
no-sub a k (Came j e) now h = refl
no-sub a k (Unsubscribed b j) now h = refl
no-sub a k (Closed b) now h = refl
no-sub a k (Gave b j i) now h = refl
no-sub a k (Told w j total) now h = refl
no-sub a k (Full b j) now h = refl

-- an act that puts nothing of a key makes no commit of it
pub made-none : (base : ℕ) (k : Key) (act : HistAct) (now : HistMoment) → is_put k act ≡ false → made base k (act ∷ now) ≡ None
made-none base k act now h = rw h refl

pub made-elsewhere : (base : ℕ) (k : Key) (act : HistAct) (now : HistMoment) → is_about key_eq k (newest_key (act ∷ now)) ≡ false → made base k (act ∷ now) ≡ None
made-elsewhere base k act now h = made-none base k act now (no-put k act now h)

-- an unwanted key has no last commit and no events
pub last-unwanted : (base : ℕ) (k : Key) (now : HistMoment) → wanted k now ≡ false → last base k now ≡ None
last-unwanted base k [] h = refl
last-unwanted base k (act ∷ now) h = if_false (wanted k (act ∷ now)) (or_else (made base k (act ∷ now)) (last base k now)) None h

pub source-unwanted : (k : Key) (now : HistMoment) → wanted k now ≡ false → source k now ≡ []
source-unwanted k now h = ap (λ (es : List Event). reverse es) (kept-unwanted k now h)

-- an act that makes no commit of a key and leaves whether it is wanted leaves its last commit
pub last-stays : (base : ℕ) (k : Key) (act : HistAct) (now : HistMoment) → made base k (act ∷ now) ≡ None → wanted k (act ∷ now) ≡ wanted k now → last base k (act ∷ now) ≡ last base k now
last-stays base k act now n w =
    ap (λ (o : Option Commit). if wanted k (act ∷ now) then or_else o (last base k now) else None) n
    ∙ ap (λ (b : Bool). if b then last base k now else None) w ∙ go (cases_Bool (wanted k now))
  where
    go : (wanted k now ≡ true) ⊎ (wanted k now ≡ false) → (if wanted k now then last base k now else None) ≡ last base k now
    go (inl h) = if_true (wanted k now) (last base k now) None h
    go (inr h) = if_false (wanted k now) (last base k now) None h ∙ sym (last-unwanted base k now h)

pub last-elsewhere : (base : ℕ) (k : Key) (act : HistAct) (now : HistMoment) → is_about key_eq k (newest_key (act ∷ now)) ≡ false → last base k (act ∷ now) ≡ last base k now
last-elsewhere base k act now h = last-stays base k act now (made-elsewhere base k act now h) (wanted-about act now k h)

-- an act that puts nothing of a key and leaves whether it is wanted leaves its events
pub source-as : (k : Key) (act : HistAct) (now : HistMoment) → is_put k act ≡ false → wanted k (act ∷ now) ≡ wanted k now → source k (act ∷ now) ≡ source k now
source-as k act now p w = go (cases_Bool (wanted k now))
  where
    go : (wanted k now ≡ true) ⊎ (wanted k now ≡ false) → source k (act ∷ now) ≡ source k now
    go (inl h) = source_stays k act now (w ∙ h) p
    go (inr h) = source-unwanted k (act ∷ now) (w ∙ h) ∙ sym (source-unwanted k now h)

pub source-elsewhere : (k : Key) (act : HistAct) (now : HistMoment) → is_about key_eq k (newest_key (act ∷ now)) ≡ false → source k (act ∷ now) ≡ source k now
source-elsewhere k act now h = source-as k act now (no-put k act now h) (wanted-about act now k h)

pub quiet-elsewhere : (terms : Terms) (a : ℕ) (k : Key) (act : HistAct) (now : HistMoment) → is_about key_eq k (newest_key (act ∷ now)) ≡ false → IsQuiet terms a k act now
quiet-elsewhere terms a k act now h = record {
  no_gift = no-gift a k act now h;
  no_commit = made-elsewhere terms.base k act now h;
  same_limit = limit_of-about a act now k h;
  no_sub = no-sub a k act now h;
}
