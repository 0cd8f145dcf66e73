-- What acts do to the list of all that was put for a key.
use Rattle.std.proofs.Common.{◌≡◌, Bool, true, false, if◌then◌else◌, List, [], ◌∷◌, ◌++◌, refl, sym, ap, ◌∙◌, append_assoc}
use Rattle.std.proofs.lemmas.List.{append-nil}
use Rattle.qd_scheme.specs.declared.key.Key.{Key}
use Rattle.qd_scheme.specs.Keys.{key_eq}
use Rattle.qd_sub.specs.Acts.{Act, Subscribed, Unsubscribed, Closed, Came, Gave, Told, Full, Moment}
use Rattle.qd_sub.specs.Subscriptions.{wanted, and_put, kept}
use Rattle.qd_views.specs.Views.{puts}

-- an act puts behind all that was put before it
pub put-apart : {P T : Type 0} (k : Key) (act : Act P T) (xs ys : List P) → and_put k act (xs ++ ys) ≡ xs ++ and_put k act ys
put-apart k (Came j r) xs ys = elim (key_eq k j) as (λ b. (if b then (xs ++ ys) ++ r ∷ [] else xs ++ ys) ≡ xs ++ (if b then ys ++ r ∷ [] else ys)) [ true ↦ append_assoc xs ys (r ∷ []) | false ↦ refl ]
put-apart k (Subscribed b j limit) xs ys = refl
put-apart k (Unsubscribed b j) xs ys = refl
put-apart k (Closed b) xs ys = refl
put-apart k (Gave b j r) xs ys = refl
put-apart k (Told w j total) xs ys = refl
put-apart k (Full b j) xs ys = refl

-- what is kept of a key is the last of what was put for it
pub record KeptLast {P T : Type 0} (k : Key) (now : Moment P T) : Type 0 where
  pub older : List P
  pub is : puts k now ≡ older ++ kept k now

pub kept-last : {P T : Type 0} (k : Key) (now : Moment P T) → KeptLast k now
unfolding kept
kept-last k [] = record { older = []; is = refl }
kept-last k (act ∷ past) = go (wanted k (act ∷ past)) refl (kept-last k past)
  where
    go : (b : Bool) → wanted k (act ∷ past) ≡ b → KeptLast k past → KeptLast k (act ∷ past)
    go true e w = record { older = w.older; is = ap (and_put k act) w.is ∙ put-apart k act w.older (kept k past) ∙ ap (λ xs. w.older ++ xs) (rw e refl) }
    go false e w = record { older = puts k (act ∷ past); is = sym (append-nil (puts k (act ∷ past))) ∙ ap (λ xs. puts k (act ∷ past) ++ xs) (rw e refl) }
