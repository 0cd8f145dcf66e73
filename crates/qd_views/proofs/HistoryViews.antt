-- What an agent of a history was given of a key, at each moment of a legal log.
use Rattle.std.proofs.Common.{◌≡◌, ◌⊎◌, inl, inr, ℕ, ◌≤◌, true, false, List, [], ◌∷◌, ◌++◌, sym, ap, ◌∙◌, arith, Option, Some, subst}
use Rattle.std.specs.Prelude.{IfSome}
use Rattle.std.proofs.lemmas.Bool.{cases_Bool}
use Rattle.qd_scheme.specs.declared.key.Key.{Key}
use Rattle.qd_gate.specs.declared.machine.Terms.{Terms}
use Rattle.qd_hist_rules.specs.declared.item.HistItem.{HistItem}
use Rattle.qd_hist_rules.specs.Moments.{HistAct, HistMoment, given, gives}
use Rattle.qd_hist_rules.specs.Lawful.{Lawful, NoneAbove}
use Rattle.qd_hist_rules.specs.Laws.{last_number}
use Rattle.qd_hist_rules.proofs.ActFacts.{given_now, given_stays, gives_gave, lawful_before}
use Rattle.qd_hist_rules.proofs.LegalLogs.{legal_lawful}
use Rattle.qd_hist_rules.proofs.OneLog as one_log
use Rattle.qd_views.specs.Views.{IsHistoryMoment, HistoryLaw, HistoryNeverBack}

pub lawful-before : (terms : Terms) (later now : HistMoment) → Lawful terms (later ++ now) → Lawful terms now
lawful-before terms [] now h = h
lawful-before terms (act ∷ later) now h = lawful-before terms later now (lawful_before terms act (later ++ now) h)

pub lawful-moment : (terms : Terms) (now : HistMoment) → IsHistoryMoment terms now → Lawful terms now
lawful-moment terms now m = lawful-before terms m.within.later now (subst (Lawful terms) (sym m.within.is) (legal_lawful terms m.log m.legal))

pub history_view : HistoryLaw
history_view terms now m a k s h = one_log.history terms now (lawful-moment terms now m) a k s h

-- what was given is the first part of what is given later
none-above-before : (a : ℕ) (k : Key) (n : ℕ) (later now : HistMoment) → NoneAbove n (given a k (later ++ now)) → NoneAbove n (given a k now)
none-above-before a k n [] now h = h
none-above-before a k n (act ∷ later) now h = none-above-before a k n later now (go (cases_Bool (gives a k act)))
  where
    go : (gives a k act ≡ true) ⊎ (gives a k act ≡ false) → NoneAbove n (given a k (later ++ now))
    go (inl g) =
        let i = gives_gave a k act g in
        let is : given a k (act ∷ (later ++ now)) ≡ i.0 ∷ given a k (later ++ now) = ap (λ (x : HistAct). given a k (x ∷ (later ++ now))) i.1 ∙ given_now a k i.0 (later ++ now) in
        (subst (NoneAbove n) is h).1
    go (inr g) = subst (NoneAbove n) (given_stays a k act (later ++ now) g) h

last-above : (n m : ℕ) (items : List HistItem) → NoneAbove n items → last_number items ≡ Some m → m ≤ n
last-above n m [] h e = cc e
last-above n m (i ∷ items) h e = subst (λ (o : Option ℕ). IfSome o (λ p. p ≤ n)) e h.0

pub never_back : HistoryNeverBack
never_back terms later now w a k s t m n hs hm ht hn =
    let g = history_view terms (later ++ now) w a k t ht in
    let same : g.n ≡ n = cc (g.number_is, hn) in
    let le : m ≤ g.n = last-above g.n m (given a k now) (none-above-before a k g.n later now g.none_above) hm in
    omega (arith, le, same)
