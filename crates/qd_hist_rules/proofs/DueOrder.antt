-- What each act makes of the list of the due keys.
use Rattle.std.proofs.Common.{◌≡◌, ℕ, suc, Bool, true, false, ◌&&◌, not, List, [], ◌∷◌, ◌++◌, length, refl, ◌∙◌, ap, Option, Some, None}
use Rattle.std.specs.Prelude.{if◌then◌else◌}
use Rattle.std.specs.List.{filter}
use Rattle.std.proofs.lemmas.Bool.{eq-eqb}
use Rattle.std.proofs.lemmas.List.{append-nil}
use Rattle.std.proofs.Math.Bool.{and-true}
use Rattle.qd_scheme.specs.declared.key.Key.{Key}
use Rattle.qd_scheme.specs.Keys.{key_eq}
use Rattle.qd_scheme.proofs.KeyLaws.{key_eq-comm, key_eq-same}
use Rattle.qd_gate.specs.declared.machine.Terms.{Terms}
use Rattle.qd_sub.specs.Acts.{Full, newest_key}
use Rattle.qd_sub.specs.Since.{since, begun_at}
use Rattle.qd_sub.proofs.SinceLaws.{since-≤, by_since-step, by_since-holds, filter-agree_within, filter-all}
use Rattle.qd_sub.proofs.OrderLaws.{by_since-breaks}
use Rattle.qd_hist_rules.specs.Moments.{HistAct, HistMoment, fills}
use Rattle.qd_hist_rules.specs.Standing.{is_due, due_keys}
use Rattle.qd_hist_rules.proofs.DueKeys.{due_mark, new_test}

-- the key that the act is about comes last, if it becomes due
begun_now : (t : Terms) (a : ℕ) (act : HistAct) (m : HistMoment) (k : Key) → fills a k act ≡ false
    → begun_at (fills a) (is_due t a) (act ∷ m) (suc (length m)) (Some k) ≡ (if is_due t a k (act ∷ m) && not (is_due t a k m) then k ∷ [] else [])
unfolding since
begun_now t a act m k n =
    ap (λ (b : Bool). if b then k ∷ [] else [])
    (new_test (is_due t a k (act ∷ m)) (is_due t a k m) (fills a k act) (since (fills a k) (is_due t a k) m) (length m) (since-≤ (fills a k) (is_due t a k) m)
    ∙ ap (λ (b : Bool). is_due t a k (act ∷ m) && not (is_due t a k m && not b)) n
    ∙ ap (λ (b : Bool). is_due t a k (act ∷ m) && not b) (and-true (is_due t a k m)))

-- an act that is no mark: the keys that are due still, in order, and then the one that the act is about, if it becomes due
pub due_keys-step : (t : Terms) (a : ℕ) (act : HistAct) (m : HistMoment) (k : Key) → newest_key (act ∷ m) ≡ Some k → ((y : Key) → fills a y act ≡ false)
    → due_keys t a (act ∷ m) ≡ filter (λ (y : Key). is_due t a y (act ∷ m)) (due_keys t a m) ++ (if is_due t a k (act ∷ m) && not (is_due t a k m) then k ∷ [] else [])
due_keys-step t a act m k q n =
    by_since-step newest_key (fills a) (is_due t a) act m
    ∙ ap (λ (o : Option Key). filter (λ (y : Key). is_due t a y (act ∷ m) && not (fills a y act)) (due_keys t a m) ++ begun_at (fills a) (is_due t a) (act ∷ m) (suc (length m)) o) q
    ∙ ap (λ (ks : List Key). filter (λ (y : Key). is_due t a y (act ∷ m) && not (fills a y act)) (due_keys t a m) ++ ks) (begun_now t a act m k (n k))
    ∙ ap (λ (ks : List Key). ks ++ (if is_due t a k (act ∷ m) && not (is_due t a k m) then k ∷ [] else []))
    (filter-agree_within (λ (y : Key). is_due t a y m) (λ (y : Key). is_due t a y (act ∷ m) && not (fills a y act)) (λ (y : Key). is_due t a y (act ∷ m)) (due_keys t a m) (by_since-holds newest_key (fills a) (is_due t a) m)
    (λ y h. ap (λ (b : Bool). is_due t a y (act ∷ m) && not b) (n y) ∙ and-true (is_due t a y (act ∷ m))))

-- a mark of a key: it leaves its place, and comes last if it is due
pub due_keys-mark : (t : Terms) (a : ℕ) (k : Key) (m : HistMoment) → due_keys t a (Full a k ∷ m) ≡ filter (λ (y : Key). not (key_eq k y)) (due_keys t a m) ++ (if is_due t a k m then k ∷ [] else [])
due_keys-mark t a k m =
    by_since-breaks newest_key (fills a) (is_due t a) (Full a k) m k (λ (y : Key). key_eq k y) refl (marks k ∙ key_eq-same k) marks (λ y n h. due_mark t a a k m y ∙ h)
    ∙ ap (λ (b : Bool). filter (λ (y : Key). not (key_eq k y)) (due_keys t a m) ++ (if b then k ∷ [] else [])) (due_mark t a a k m k)
  where
    marks : (y : Key) → fills a y (Full a k) ≡ key_eq k y
    marks y = ap (λ (b : Bool). b && key_eq y k) (eq-eqb a a refl) ∙ key_eq-comm y k

-- an act that is no mark and changes of no key whether it is due leaves the list
pub due_keys-same : (t : Terms) (a : ℕ) (act : HistAct) (m : HistMoment) → ((y : Key) → fills a y act ≡ false) → ((y : Key) → is_due t a y (act ∷ m) ≡ is_due t a y m) → due_keys t a (act ∷ m) ≡ due_keys t a m
due_keys-same t a act m n same =
    by_since-step newest_key (fills a) (is_due t a) act m
    ∙ ap (λ (ks : List Key). filter (λ (y : Key). is_due t a y (act ∷ m) && not (fills a y act)) (due_keys t a m) ++ ks) (none (newest_key (act ∷ m)))
    ∙ append-nil (filter (λ (y : Key). is_due t a y (act ∷ m) && not (fills a y act)) (due_keys t a m))
    ∙ filter-agree_within (λ (y : Key). is_due t a y m) (λ (y : Key). is_due t a y (act ∷ m) && not (fills a y act)) (λ (y : Key). true) (due_keys t a m) (by_since-holds newest_key (fills a) (is_due t a) m)
    (λ y h. ap (λ (b : Bool). is_due t a y (act ∷ m) && not b) (n y) ∙ and-true (is_due t a y (act ∷ m)) ∙ same y ∙ h)
    ∙ filter-all (due_keys t a m)
  where
    and_not : (b : Bool) → (b && not b) ≡ false
    and_not true = refl
    and_not false = refl

    none : (o : Option Key) → begun_at (fills a) (is_due t a) (act ∷ m) (suc (length m)) o ≡ []
    none None = refl
    none (Some k) = begun_now t a act m k (n k) ∙ ap (λ (b : Bool). if b then k ∷ [] else []) (ap (λ (b : Bool). b && not (is_due t a k m)) (same k) ∙ and_not (is_due t a k m))
