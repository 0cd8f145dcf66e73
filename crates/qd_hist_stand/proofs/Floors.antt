-- What the last commit of a key shows is what its source's last commit place shows, and so the floor that is kept meets a limit as the agent's floor does.
use Rattle.std.proofs.Common.{◌≡◌, ◌⊎◌, inl, inr, ℕ, true, false, List, [], ◌∷◌, reverse, refl, sym, subst, ◌∙◌, ap, Option, Some, None}
use Rattle.std.specs.Prelude.{option_map}
use Rattle.std.proofs.lemmas.Bool.{cases_Bool}
use Rattle.qd_scheme.specs.declared.key.Key.{Key}
use Rattle.qd_scheme.specs.declared.key.Event.{Event}
use Rattle.qd_flags.specs.declared.commits.Floor.{Floor}
use Rattle.qd_flags.specs.Shown.{shown, last_shown, or_else}
use Rattle.qd_flags.specs.Shown as flags
use Rattle.qd_flags.specs.Following.{floor_of}
use Rattle.qd_flags.proofs.Feeding.{if_true, if_false}
use Rattle.qd_sub.specs.Acts.{Came, is_put}
use Rattle.qd_sub.specs.Subscriptions.{limit_of, wanted, kept}
use Rattle.qd_sub.proofs.SubscriptionLaws.{kept-unwanted}
use Rattle.qd_hist_key.specs.Kept.{Kept}
use Rattle.qd_hist_key.specs.Keeping as keeping
use Rattle.qd_hist_rules.specs.Moments.{HistAct, HistMoment}
use Rattle.qd_hist_rules.specs.Source.{source, Commit, made, last}
use Rattle.qd_hist_rules.specs.Agent.{agent_floor, meet}
use Rattle.qd_hist_rules.proofs.ActFacts.{puts_came, source_stays, source_came, wanted_came}
use Rattle.qd_hist_rules.proofs.Numbers.{made_facts, no_place}
use Rattle.qd_hist_stand.specs.Stripes.{floor_in}

abbrev pub shown_in : Commit → flags.Shown
shown_in c = c.shown

no_source : (k : Key) → source k [] ≡ []
unfolding kept
no_source k = refl

place_shown : (es : List Event) (s : flags.Shown) → shown es ≡ Some s → last_shown es ≡ Some s
place_shown [] s h = cc h
place_shown (e ∷ es) s h = rw h refl

-- an act that makes no commit of the key leaves what the source's last commit place shows
pub place_stays : (base : ℕ) (k : Key) (act : HistAct) (m : HistMoment) → wanted k (act ∷ m) ≡ true → made base k (act ∷ m) ≡ None → last_shown (source k (act ∷ m)) ≡ last_shown (source k m)
place_stays base k act m w n = go (cases_Bool (is_put k act))
  where
    came : (e : Event) → wanted k (Came k e ∷ m) ≡ true → made base k (Came k e ∷ m) ≡ None → last_shown (source k (Came k e ∷ m)) ≡ last_shown (source k m)
    came e w n =
        let v = wanted_came k e m w in
        let es = source_came k e m v in
        let none : shown (e ∷ source k m) ≡ None = ap (λ (xs : List Event). shown xs) (sym es) ∙ no_place base k e m v n in
        ap (λ (xs : List Event). last_shown xs) es ∙ ap (λ (o : Option flags.Shown). or_else o (last_shown (source k m))) none

    go : (is_put k act ≡ true) ⊎ (is_put k act ≡ false) → last_shown (source k (act ∷ m)) ≡ last_shown (source k m)
    go (inl p) =
        let c = puts_came k act p in
        subst (λ (x : HistAct). wanted k (x ∷ m) ≡ true → made base k (x ∷ m) ≡ None → last_shown (source k (x ∷ m)) ≡ last_shown (source k m)) (sym c.1) (came c.0) w n
    go (inr p) = ap (λ (xs : List Event). last_shown xs) (source_stays k act m w p)

-- what the last commit place of the source shows, also where there is none
pub shows_last : (base : ℕ) (k : Key) (m : HistMoment) → last_shown (source k m) ≡ option_map shown_in (last base k m)
shows_last base k [] = ap (λ (es : List Event). last_shown es) (no_source k)
shows_last base k (act ∷ m) = go (cases_Bool (wanted k (act ∷ m))) (shows_last base k m)
  where
    at : (o : Option Commit) → made base k (act ∷ m) ≡ o → wanted k (act ∷ m) ≡ true → last_shown (source k m) ≡ option_map shown_in (last base k m)
        → last_shown (source k (act ∷ m)) ≡ option_map shown_in (or_else o (last base k m))
    at None q w ih = place_stays base k act m w q ∙ ih
    at (Some d) q w ih = place_shown (source k (act ∷ m)) d.shown (made_facts base k (act ∷ m) d q).shown_is

    go : (wanted k (act ∷ m) ≡ true) ⊎ (wanted k (act ∷ m) ≡ false) → last_shown (source k m) ≡ option_map shown_in (last base k m) → last_shown (source k (act ∷ m)) ≡ option_map shown_in (last base k (act ∷ m))
    go (inl w) ih = at (made base k (act ∷ m)) refl w ih ∙ sym (ap (λ (o : Option Commit). option_map shown_in o) (if_true (wanted k (act ∷ m)) (or_else (made base k (act ∷ m)) (last base k m)) None w))
    go (inr w) ih =
        ap (λ (es : List Event). last_shown (reverse es)) (kept-unwanted k (act ∷ m) w)
        ∙ sym (ap (λ (o : Option Commit). option_map shown_in o) (if_false (wanted k (act ∷ m)) (or_else (made base k (act ∷ m)) (last base k m)) None w))

meets : (limit : Option ℕ) (o : Option Commit) → floor_in limit (option_map floor_of (option_map shown_in o)) ≡ meet limit o
meets None o = refl
meets (Some l) None = refl
meets (Some l) (Some c) = refl

-- the floor of the state of a key's source meets a limit as the agent's floor does
pub floor_meets : (base a : ℕ) (k : Key) (m : HistMoment) (state : Kept) (limit : Option ℕ) → limit_of a k m ≡ limit → keeping.StandsFor state (source k m) → floor_in limit state.now.floor ≡ agent_floor base a k m
floor_meets base a k m state limit l st =
    ap (λ (o : Option Floor). floor_in limit o) (st.now.floor_is ∙ ap (λ (o : Option flags.Shown). option_map floor_of o) (shows_last base k m))
    ∙ meets limit (last base k m) ∙ ap (λ (o : Option ℕ). meet o (last base k m)) (sym l)
