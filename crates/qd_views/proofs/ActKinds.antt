-- What an act is to an agent and a key.
use Rattle.std.proofs.Common.{◌≡◌, ◌⊎◌, inl, inr, ℕ, true, false, nat_eq, List, ◌∷◌, refl, sym, ◌∙◌, arith, subst}
use Rattle.std.proofs.lemmas.Bool.{cases_Bool}
use Rattle.std.proofs.lemmas.Bool.Decides.{nat_tests}
use Rattle.qd_scheme.specs.declared.key.Key.{Key}
use Rattle.qd_scheme.specs.Keys.{key_eq}
use Rattle.qd_scheme.proofs.KeyLaws.{key_eq-same, key_eq-true}
use Rattle.qd_sub.specs.Acts.{Act, Subscribed, Unsubscribed, Closed, Came, Gave, Told, Full, Moment, is_pair, is_put, is_gift}
use Rattle.qd_sub.specs.Subscriptions.{subscribed, and_put, kept}
use Rattle.qd_sub.proofs.SinceLaws.{and-left, and-right}
use Rattle.qd_sub.proofs.SubscriptionLaws.{subscribed-sub, subscribed-unsub, subscribed-came, subscribed-gave, subscribed-closed, wanted-subscribed, kept-wanted}
use Rattle.qd_sub.proofs.StepLaws.{subscribed-told, subscribed-full}
use Rattle.qd_views.specs.Views.{and_gift}

-- it puts nothing of the key, gives the agent nothing of it, and leaves the agent's subscription
pub record IsQuiet {P T : Type 0} (a : ℕ) (k : Key) (act : Act P T) (past : Moment P T) : Type 0 where
  pub no_put : is_put k act ≡ false
  pub no_gift : is_gift a k act ≡ false
  pub puts_same : (items : List P) → and_put k act items ≡ items
  pub gifts_same : (items : List T) → and_gift a k act items ≡ items
  pub same : subscribed a k (act ∷ past) ≡ subscribed a k past
  pub kept_same : subscribed a k past ≡ true → kept k (act ∷ past) ≡ kept k past

pub data Kind {P T : Type 0} (a : ℕ) (k : Key) (past : Moment P T) : Act P T → Type 0 where
  Puts : (item : P) → Kind a k past (Came k item)
  Gives : (item : T) → Kind a k past (Gave a k item)
  Begins : (limit : ℕ) → subscribed a k past ≡ false → Kind a k past (Subscribed a k limit)
  Ends : Kind a k past (Unsubscribed a k)
  Rests : (act : Act P T) → IsQuiet a k act past → Kind a k past act

pub number-true : (m n : ℕ) → nat_eq m n ≡ true → m ≡ n
number-true m n h = grind (arith, nat_tests)

pub number-same : (n : ℕ) → nat_eq n n ≡ true
number-same n = grind (arith, nat_tests)

pub pair-same : (a : ℕ) (k : Key) → is_pair a k a k ≡ true
pair-same a k = rw (number-same a) (key_eq-same k)

-- an act that leaves the agent's subscription leaves what is kept of the key, unless it puts
kept-alike : {P T : Type 0} (a : ℕ) (k : Key) (act : Act P T) (past : Moment P T) → subscribed a k (act ∷ past) ≡ subscribed a k past → ((items : List P) → and_put k act items ≡ items) → subscribed a k past ≡ true → kept k (act ∷ past) ≡ kept k past
kept-alike a k act past same put h = kept-wanted k act past (wanted-subscribed a k (act ∷ past) (same ∙ h)) ∙ put (kept k past)

are_quiet : {P T : Type 0} (a : ℕ) (k : Key) (act : Act P T) (past : Moment P T) → is_put k act ≡ false → is_gift a k act ≡ false → ((items : List P) → and_put k act items ≡ items) → ((items : List T) → and_gift a k act items ≡ items) → subscribed a k (act ∷ past) ≡ subscribed a k past → IsQuiet a k act past
are_quiet a k act past p g ps gs same = record { no_put = p; no_gift = g; puts_same = ps; gifts_same = gs; same = same; kept_same = kept-alike a k act past same ps }

-- a gift to another agent, or of another key
pub quiet-gift : {P T : Type 0} (a : ℕ) (k : Key) (b : ℕ) (j : Key) (item : T) (past : Moment P T) → is_pair a k b j ≡ false → IsQuiet a k (Gave b j item) past
quiet-gift a k b j item past e = are_quiet a k (Gave b j item) past refl e (λ items. refl) (λ items. rw e refl) (subscribed-gave a k b j item past)

quiet : {P T : Type 0} (a : ℕ) (k : Key) (act : Act P T) (past : Moment P T) → is_put k act ≡ false → is_gift a k act ≡ false → ((items : List P) → and_put k act items ≡ items) → ((items : List T) → and_gift a k act items ≡ items) → subscribed a k (act ∷ past) ≡ subscribed a k past → Kind a k past act
quiet a k act past p g ps gs same = Rests act (are_quiet a k act past p g ps gs same)

at_pair : {P T : Type 0} (a : ℕ) (k : Key) (past : Moment P T) (b : ℕ) (j : Key) (act : ℕ → Key → Act P T) → is_pair a k b j ≡ true → Kind a k past (act a k) → Kind a k past (act b j)
at_pair a k past b j act e h =
    subst (λ i. Kind a k past (act b i)) (key_eq-true k j (and-right (nat_eq a b) (key_eq k j) e))
    (subst (λ c. Kind a k past (act c k)) (number-true a b (and-left (nat_eq a b) (key_eq k j) e)) h)

pub kind_of : {P T : Type 0} (a : ℕ) (k : Key) (act : Act P T) (past : Moment P T) → Kind a k past act
kind_of a k (Closed b) past = quiet a k (Closed b) past refl refl (λ items. refl) (λ items. refl) (subscribed-closed a k b past)
kind_of a k (Told w j total) past = quiet a k (Told w j total) past refl refl (λ items. refl) (λ items. refl) (subscribed-told a k w j total past)
kind_of a k (Full b j) past = quiet a k (Full b j) past refl refl (λ items. refl) (λ items. refl) (subscribed-full a k b j past)
kind_of a k (Came j item) past = go (cases_Bool (key_eq k j))
  where
    go : (key_eq k j ≡ true) ⊎ (key_eq k j ≡ false) → Kind a k past (Came j item)
    go (inl e) = subst (λ i. Kind a k past (Came i item)) (key_eq-true k j e) (Puts item)
    go (inr e) = quiet a k (Came j item) past e refl (λ items. rw e refl) (λ items. refl) (subscribed-came a k j item past)
kind_of a k (Gave b j item) past = go (cases_Bool (is_pair a k b j))
  where
    go : (is_pair a k b j ≡ true) ⊎ (is_pair a k b j ≡ false) → Kind a k past (Gave b j item)
    go (inl e) = at_pair a k past b j (λ c i. Gave c i item) e (Gives item)
    go (inr e) = Rests (Gave b j item) (quiet-gift a k b j item past e)
kind_of a k (Unsubscribed b j) past = go (cases_Bool (is_pair a k b j))
  where
    go : (is_pair a k b j ≡ true) ⊎ (is_pair a k b j ≡ false) → Kind a k past (Unsubscribed b j)
    go (inl e) = at_pair a k past b j Unsubscribed e Ends
    go (inr e) = quiet a k (Unsubscribed b j) past refl refl (λ items. refl) (λ items. refl) (subscribed-unsub a k b j past ∙ rw e refl)
kind_of a k (Subscribed b j limit) past = go (cases_Bool (is_pair a k b j)) (cases_Bool (subscribed a k past))
  where
    go : (is_pair a k b j ≡ true) ⊎ (is_pair a k b j ≡ false) → (subscribed a k past ≡ true) ⊎ (subscribed a k past ≡ false) → Kind a k past (Subscribed b j limit)
    go (inr e) s = quiet a k (Subscribed b j limit) past refl refl (λ items. refl) (λ items. refl) (subscribed-sub a k b j limit past ∙ rw e refl)
    go (inl e) (inl s) = quiet a k (Subscribed b j limit) past refl refl (λ items. refl) (λ items. refl) (subscribed-sub a k b j limit past ∙ rw e (sym s))
    go (inl e) (inr s) = at_pair a k past b j (λ c i. Subscribed c i limit) e (Begins limit s)
