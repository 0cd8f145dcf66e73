-- What an act leaves that puts nothing and changes of no key whether it is wanted: the sources, their commits, and how much is kept.
use Rattle.std.proofs.Common.{◌≡◌, ℕ, suc, true, false, List, ◌∷◌, map, refl, sym, ◌∙◌, ap, subst, Option, Some, None}
use Rattle.std.specs.Prelude.{sum}
use Rattle.std.proofs.Math.Path.{fun_ext}
use Rattle.qd_scheme.specs.declared.key.Key.{Key}
use Rattle.qd_scheme.specs.declared.key.Event.{Event}
use Rattle.qd_scheme.proofs.KeyLaws.{key_eq-same}
use Rattle.qd_flags.proofs.Feeding.{if_false}
use Rattle.qd_sub.specs.Acts.{Subscribed, Unsubscribed, Closed, Came, Gave, Told, Full, is_put, newest_key}
use Rattle.qd_sub.specs.Subscriptions.{wanted}
use Rattle.qd_sub.proofs.SubscriptionLaws.{wanted-gave, wanted-closed}
use Rattle.qd_sub.proofs.SinceLaws.{by_since-same}
use Rattle.qd_sub.proofs.StepLaws.{subscribed-full}
use Rattle.qd_sub.proofs.HeldLaws.{wanted-same}
use Rattle.qd_sub.proofs.WatchLaws.{wanted-told}
use Rattle.qd_table.specs.Tables.{Table, key_at}
use Rattle.qd_hist_key.specs.Kept.{Kept}
use Rattle.qd_hist_key.specs.Keeping as keeping
use Rattle.qd_hist_rules.specs.declared.item.HistItem.{HistItem}
use Rattle.qd_hist_rules.specs.Moments.{HistAct, HistMoment}
use Rattle.qd_hist_rules.specs.Source.{source, Commit, last, commits_now, count, wanted_keys, stock}
use Rattle.qd_hist_rules.proofs.Stock.{key_stock, key_stock-same}
use Rattle.qd_hist_stand.specs.Stripes.{Shown, StandsAt, AllOf, state_at, number_at, source_of}
use Rattle.qd_hist_stand.specs.Steps.{KeepsTracks, KeepsNumbers}
use Rattle.qd_hist_stand.proofs.Elsewhere.{made-none, last-stays, source-as}

-- the act puts nothing, and each key is wanted as before
pub record IsStill (act : HistAct) (now : HistMoment) : Type 0 where
  pub no_put : (k : Key) → is_put k act ≡ false
  pub wants : (k : Key) → wanted k (act ∷ now) ≡ wanted k now

pub still-gave : (a : ℕ) (k : Key) (i : HistItem) (now : HistMoment) → IsStill (Gave a k i) now
still-gave a k i now = record { no_put = λ j. refl; wants = λ j. wanted-gave j a k i now }

pub still-full : (a : ℕ) (k : Key) (now : HistMoment) → IsStill (Full a k) now
still-full a k now = record { no_put = λ j. refl; wants = λ j. wanted-same j (Full a k) now (λ b. subscribed-full b j a k now) }

pub still-closed : (a : ℕ) (now : HistMoment) → IsStill (Closed a) now
still-closed a now = record { no_put = λ j. refl; wants = λ j. wanted-closed j a now }

pub still-told : (w : ℕ) (k : Key) (total : Option ℕ) (now : HistMoment) → IsStill (Told w k total) now
still-told w k total now = record { no_put = λ j. refl; wants = λ j. wanted-told j w k total now }

pub source-still : (k : Key) (act : HistAct) (now : HistMoment) → IsStill act now → source k (act ∷ now) ≡ source k now
source-still k act now h = source-as k act now (h.no_put k) (h.wants k)

pub last-still : (base : ℕ) (k : Key) (act : HistAct) (now : HistMoment) → IsStill act now → last base k (act ∷ now) ≡ last base k now
last-still base k act now h = last-stays base k act now (made-none base k act now (h.no_put k)) (h.wants k)

no-commit : (act : HistAct) (now : HistMoment) → ((k : Key) → is_put k act ≡ false) → commits_now (act ∷ now) ≡ false
no-commit (Came k e) now h = let z : true ≡ false = sym (key_eq-same k) ∙ h k in cc
no-commit (Subscribed b j l) now h = refl
no-commit (Unsubscribed b j) now h = refl
no-commit (Closed b) now h = refl
no-commit (Gave b j i) now h = refl
no-commit (Told w j x) now h = refl
no-commit (Full b j) now h = refl

pub count-still : (base : ℕ) (act : HistAct) (now : HistMoment) → IsStill act now → count base (act ∷ now) ≡ count base now
count-still base act now h = if_false (commits_now (act ∷ now)) (suc (count base now)) (count base now) (no-commit act now h.no_put)

pub stock-still : (base : ℕ) (act : HistAct) (now : HistMoment) → IsStill act now → stock base (act ∷ now) ≡ stock base now
unfolding stock
stock-still base act now h =
    ap (λ (f : Key → ℕ). sum (map f (wanted_keys (act ∷ now)))) (fun_ext (λ k. key_stock-same base k act now (h.no_put k) (h.wants k)))
    ∙ ap (λ (ks : List Key). sum (map (λ k. key_stock base k now) ks)) (by_since-same newest_key wanted act now h.wants)

-- what a stripe keeps of its keys stands after such an act, where tables, tracks and numbers are the same
pub record KeysStand (t : Shown) (now : HistMoment) : Type 0 where
  pub count_is : t.count ≡ count t.base now
  pub stock_is : t.stock ≡ stock t.base now
  pub states : (slot : ℕ) → keeping.StandsFor (state_at t slot) (source_of (key_at t.table slot) now)
  pub numbers : (slot : ℕ) (k : Key) (c : Commit) → key_at t.table slot ≡ Some k → last t.base k now ≡ Some c → number_at t slot ≡ c.number
  pub labels : (k : Key) → AllOf k (source k now)

pub keys-still : (s t : Shown) (act : HistAct) (now : HistMoment) → StandsAt s now → IsStill act now → t.table ≡ s.table → KeepsTracks s t → KeepsNumbers s t → KeysStand t (act ∷ now)
keys-still s t act now st still table tracks kept = record {
  count_is = kept.count ∙ st.count_is ∙ sym (ap (λ (b : ℕ). count b (act ∷ now)) kept.base ∙ count-still s.base act now still);
  stock_is = kept.stock ∙ st.stock_is ∙ sym (ap (λ (b : ℕ). stock b (act ∷ now)) kept.base ∙ stock-still s.base act now still);
  states = λ slot. subst (λ (x : Kept). keeping.StandsFor x (source_of (key_at t.table slot) (act ∷ now))) (sym (tracks.states slot))
      (subst (λ (es : List Event). keeping.StandsFor (state_at s slot) es) (sym (ap (λ (x : Table). source_of (key_at x slot) (act ∷ now)) table ∙ source_same (key_at s.table slot))) (st.states slot));
  numbers = λ slot k c own l. tracks.numbers slot ∙ st.numbers slot k c (sym (ap (λ (x : Table). key_at x slot) table) ∙ own)
      (sym (ap (λ (b : ℕ). last b k (act ∷ now)) kept.base ∙ last-still s.base k act now still) ∙ l);
  labels = λ k. subst (λ (es : List Event). AllOf k es) (sym (source-still k act now still)) (st.labels k);
}
  where
    source_same : (o : Option Key) → source_of o (act ∷ now) ≡ source_of o now
    source_same None = refl
    source_same (Some k) = source-still k act now still
