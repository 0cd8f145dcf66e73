-- Serving, step after step: the net, the jobs, and the hub that takes the clients in.
use Rattle.std.proofs.Common.{◌≡◌, ℕ, zero, suc, ◌+◌, ◌-◌, ◌<◌, ◌≤◌, true, false, Option, Some, None, List, [], ◌∷◌, ◌++◌, length, refl, sym, ap, ◌∙◌, subst, arith, append_assoc, add-one, inl, inr}
use Rattle.std.specs.Prelude.{map, slice_get}
use Rattle.std.proofs.lemmas.List.{append-nil, length-append}
use mathlib.Core.List.{IsPrefix}
use Rattle.qd_gate.proofs.Prefixes.{prefix_self, prefix_trans}
use Rattle.qd_job.specs.Starting.{SpawnerState, Starts}
use Rattle.qd_net.specs.Meeting.{Asking, NetState, Connects, Ends, GivesFirst, IsAsked, Listens, one_more}
use Rattle.qd_net.specs.Meeting.Asking.{Listen, Accept}
use Rattle.qd_serve.specs.Serving.{AllEnd, AsksFirst, IsComing, Served, asks_of, rises_by}
use Rattle.qd_serve.specs.Steps.{AsksAll, HasAccepted, HasStarted, IsBehind}

asks_more : (a b : List Asking) (u v w : Option (List Asking)) → AsksAll a u v → AsksAll b v w → AsksAll (a ++ b) u w
asks_more a b None None None e g = refl
asks_more a b None None (Some w) e g = g
asks_more a b None (Some v) w e g = absurd (cc)
asks_more a b (Some u) None w e g = absurd e
asks_more a b (Some u) (Some v) None e g = absurd g
asks_more a b (Some u) (Some v) (Some w) e g = g ∙ ap (λ (l : List Asking). l ++ b) e ∙ append_assoc u a b

-- a call that was answered is noted
noted : (call : Asking) (v w : Option (List Asking)) → IsAsked true call v w → AsksAll (call ∷ []) v w
noted call None w h = h
noted call (Some v) None h = h
noted call (Some v) (Some w) (inl e) = e
noted call (Some v) (Some w) (inr (e, same)) = absurd (cc)

-- the first of the lists to come is at the place of the connection
seam : {A : Type 0} (front : List A) (x : A) (rest : List A) → slice_get (front ++ x ∷ rest) (length front) ≡ Some x
seam [] x rest = refl
seam (y ∷ front) x rest = seam front x rest

comes : (k : ℕ) (u v w : Option (List (List ℕ))) (list : Option (List ℕ)) → IsBehind k u v → GivesFirst v w list → IsComing u k list × IsBehind (k + 1) u w
comes k None None w list e g = (g.1, g.0)
comes k None (Some v) w list e g = absurd (cc)
comes k (Some u) None w list e g = absurd e
comes k (Some u) (Some v) None list e g = absurd g
comes k (Some u) (Some v) (Some w) list e g =
    let whole : u ≡ e.0 ++ (g.0 ∷ w) = e.1 ∙ ap (λ (l : List (List ℕ)). e.0 ++ l) g.1 in (
      (g.0, ap (λ (l : List (List ℕ)). slice_get l k) whole ∙ ap (λ (i : ℕ). slice_get (e.0 ++ (g.0 ∷ w)) i) (sym e.2) ∙ seam e.0 g.0 w, g.2),
      (e.0 ++ g.0 ∷ [], whole ∙ sym (append_assoc e.0 (g.0 ∷ []) w), length-append e.0 (g.0 ∷ []) ∙ ap (λ (i : ℕ). i + 1) e.2),
    )

none_taken : (v w : Option (List (List ℕ))) → w ≡ v → IsBehind 0 v w
none_taken None w e = e
none_taken (Some v) None e = absurd (cc)
none_taken (Some v) (Some w) e = ([], cc, refl)

-- it listens
pub listens_first : (addr : List ℕ) (v w : NetState) → Listens true addr v w → HasAccepted addr 0 v w
listens_first addr v w h = record {
  asked = noted (Listen addr) v.asked w.asked h.1;
  behind = none_taken v.coming w.coming (ap (λ (s : NetState). s.coming) h.0);
  opened = ap (λ (s : NetState). s.opened) h.0;
  ended = ap (λ (s : NetState). s.ended) h.0;
  faults = ap (λ (s : NetState). s.faults) h.0;
}

-- one more connection is given
pub accepted_more : (addr : List ℕ) (k : ℕ) (v w x : NetState) (list : Option (List ℕ)) → HasAccepted addr k v w → Connects Accept list w x → IsComing v.coming k list × HasAccepted addr (k + 1) v x
accepted_more addr k v w x list h c =
    let taken = comes k v.coming w.coming x.coming list h.behind c.first in (
      taken.0,
      record {
        asked = rw (add-one k) (asks_more (asks_of addr k) (Accept ∷ []) v.asked w.asked x.asked h.asked (noted Accept w.asked x.asked c.asked));
        behind = taken.1;
        opened = c.opened ∙ ap (λ (i : ℕ). one_more i) h.opened ∙ ap (λ (i : ℕ). rises_by i v.opened) (sym (add-one k));
        ended = ap (λ (s : NetState). s.ended) c.same ∙ h.ended;
        faults = ap (λ (s : NetState). s.faults) c.same ∙ h.faults;
      },
    )

pub started_more : (k : ℕ) (v w x : SpawnerState) → HasStarted k v w → Starts w x → HasStarted (k + 1) v x
started_more k v w x h s = record {
  started = s.started ∙ ap (λ (i : ℕ). one_more i) h.started ∙ ap (λ (i : ℕ). rises_by i v.started) (sym (add-one k));
  faults = s.sound ∙ h.faults;
}

-- what was asked so far is a first part of what is asked in all
asks_begin : (addr : List ℕ) (k d : ℕ) → IsPrefix (asks_of addr k) (asks_of addr (k + d))
asks_begin addr k zero = subst (λ (i : ℕ). IsPrefix (asks_of addr k) (asks_of addr i)) (sym (plus_zero k)) (prefix_self (asks_of addr k))
  where
    plus_zero : (k : ℕ) → k + 0 ≡ k
    plus_zero k = omega arith
asks_begin addr k (suc d) =
    subst (λ (i : ℕ). IsPrefix (asks_of addr k) (asks_of addr i)) (sym (plus_suc k d))
    (prefix_trans (asks_of addr k) (asks_of addr (k + d)) (asks_of addr (suc (k + d))) (asks_begin addr k d) (Accept ∷ [], refl))
  where
    plus_suc : (k d : ℕ) → k + suc d ≡ suc (k + d)
    plus_suc k d = omega arith

pub asks_first : (addr : List ℕ) (k links : ℕ) (v w : Option (List Asking)) → k ≤ links → AsksAll (asks_of addr k) v w → AsksFirst (asks_of addr links) v w
asks_first addr k links None w h e = e
asks_first addr k links (Some v) None h e = e
asks_first addr k links (Some v) (Some w) h e = (asks_of addr k, subst (λ (i : ℕ). IsPrefix (asks_of addr k) (asks_of addr i)) (sum k links h) (asks_begin addr k (links - k)), e)
  where
    sum : (k links : ℕ) → k ≤ links → k + (links - k) ≡ links
    sum k links h = omega (arith, h)

-- the accept that failed is among them, or is missing
pub asks_failed : (addr : List ℕ) (k links : ℕ) (v w x : Option (List Asking)) → k < links → AsksAll (asks_of addr k) v w → IsAsked false Accept w x → AsksFirst (asks_of addr links) v x
asks_failed addr k links None None x h e f = f
asks_failed addr k links None (Some w) x h e f = absurd (cc)
asks_failed addr k links (Some v) None x h e f = absurd e
asks_failed addr k links (Some v) (Some w) None h e f = absurd f
asks_failed addr k links (Some v) (Some w) (Some x) h e (inl a) =
    let more : x ≡ v ++ (asks_of addr k ++ Accept ∷ []) = a ∙ ap (λ (l : List Asking). l ++ Accept ∷ []) e ∙ append_assoc v (asks_of addr k) (Accept ∷ []) in
    asks_first addr (suc k) links (Some v) (Some x) (omega (arith, h)) more
asks_failed addr k links (Some v) (Some w) (Some x) h e (inr b) = asks_first addr k links (Some v) (Some x) (omega (arith, h)) (b.1 ∙ e)

-- a failed listen
pub listens_not : (addr : List ℕ) (links : ℕ) (v w : Option (List Asking)) → IsAsked false (Listen addr) v w → AsksFirst (asks_of addr links) v w
listens_not addr links None w f = f
listens_not addr links (Some v) None f = f
listens_not addr links (Some v) (Some w) (inl a) = asks_first addr 0 links (Some v) (Some w) (omega arith) a
listens_not addr links (Some v) (Some w) (inr b) = ([], (asks_of addr links, refl), b.1 ∙ sym (append-nil v))

-- one more connection is hung up
pub ends_more : (xs : List Served) (x : Served) (u v w : Option (List (List ℕ))) → AllEnd xs u v → Ends x.wrote v w → AllEnd (xs ++ x ∷ []) u w
ends_more xs x None None w a e = e
ends_more xs x None (Some v) w a e = absurd (cc)
ends_more xs x (Some u) None w a e = absurd a
ends_more xs x (Some u) (Some v) None a e = absurd e
ends_more xs x (Some u) (Some v) (Some w) a e = (
  a.0 ++ e.0 ∷ [],
  both xs a.0 a.1,
  e.2 ∙ ap (λ (l : List (List ℕ)). l ++ e.0 ∷ []) a.2 ∙ append_assoc u a.0 (e.0 ∷ []),
)
  where
    map_snoc : {A B : Type 0} (f : A → B) (xs : List A) (y : A) → map f (xs ++ y ∷ []) ≡ map f xs ++ f y ∷ []
    map_snoc f [] y = refl
    map_snoc {B = B} f (x ∷ xs) y = ap (λ (l : List B). f x ∷ l) (map_snoc f xs y)

    both : (xs : List Served) (texts : List (List ℕ)) → map (λ (y : Served). y.wrote) xs ≡ map (λ (t : List ℕ). Some t) texts → map (λ (y : Served). y.wrote) (xs ++ x ∷ []) ≡ map (λ (t : List ℕ). Some t) (texts ++ e.0 ∷ [])
    both xs texts same = map_snoc (λ (y : Served). y.wrote) xs x ∙ ap (λ (l : List (Option (List ℕ))). l ++ x.wrote ∷ []) same ∙ ap (λ (o : Option (List ℕ)). map (λ (t : List ℕ). Some t) texts ++ o ∷ []) e.1 ∙ sym (map_snoc (λ (t : List ℕ). Some t) texts e.0)
