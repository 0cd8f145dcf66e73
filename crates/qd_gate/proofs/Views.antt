-- What holds of each pass, where the view of one of them changes.
use Rattle.std.proofs.Common.{◌≡◌, ◌≢◌, ℕ, ◌≤◌, List, [], ◌∷◌, ◌++◌, set, sym, ap, ◌∙◌, subst, ⊎_elim, arith}
use Rattle.std.proofs.lemmas.List.Elements.{All-weaker}
use mathlib.Core.Option.{Option, some, some-injective}
use mathlib.Core.List.{IsPrefix}
use lib.ListN.{get_elem?}
use Rattle.atomic_table.proofs.Lists.{at_set, set_else}
use Rattle.qd_gate.specs.declared.machine.Entry.{Entry}
use Rattle.qd_gate.specs.declared.machine.Terms.{Terms}
use Rattle.qd_gate.specs.declared.known.Stage.{Stage}
use Rattle.qd_gate.specs.declared.known.Stage.TheVariants.{Ended, New, Free, InTurn, Joined}
use Rattle.qd_gate.specs.declared.known.Known.{Known}
use Rattle.qd_gate.specs.Logs.{calls_of}
use Rattle.qd_gate.specs.Rules.{KnowsAt, Knows, HasTurn}
use Rattle.qd_gate.proofs.Prefixes.{prefix_trans, at_same, at_before}

module _ {O R : Type 0} where
  -- what holds of each pass, where one view changes
  pub views_set : (K : ℕ → Known O R → Type 0) (views : List (Known O R)) (id : ℕ) (w : Known O R) → (w.stage ≢ Ended → K id w) → ((j : ℕ) (u : Known O R) → j ≢ id → get_elem? views j ≡ some u → u.stage ≢ Ended → K j u)
      → (j : ℕ) (u : Known O R) → get_elem? (set views id w) j ≡ some u → u.stage ≢ Ended → K j u
  views_set K views id w here there j u at live = ⊎_elim
      (λ t. subst (λ (z : ℕ × Known O R). K z.0 z.1) (λ i. (sym t.0 i, t.1 i)) (here (subst (λ (z : Known O R). z.stage ≢ Ended) (sym t.1) live)))
      (λ t. there j u t.0 t.1 live) (at_set views id j w u at)

  -- the holder's view is in turn still, where the view of another one changes
  pub turn_stays : (views : List (Known O R)) (id : ℕ) (v w : Known O R) (i : ℕ) → get_elem? views id ≡ some v → v.stage ≢ InTurn → HasTurn i views → HasTurn i (set views id w)
  turn_stays views id v w i at free h =
      let other : i ≢ id = λ e. free (ap (λ (u : Known O R). u.stage) (some-injective v h.view (sym at ∙ (ap (get_elem? views) (sym e) ∙ h.there))) ∙ h.in_turn) in
      record { view = h.view; there = set_else views id i w other ∙ h.there; in_turn = h.in_turn }

  -- and where a view is put behind the others
  pub turn_before : (views : List (Known O R)) (w : Known O R) (i : ℕ) → HasTurn i views → HasTurn i (views ++ w ∷ [])
  turn_before views w i h = record { view = h.view; there = at_before views w i h.view h.there; in_turn = h.in_turn }

  -- the view of the one that takes the turn is in turn
  pub turn_here : (views : List (Known O R)) (id : ℕ) (v w : Known O R) → get_elem? views id ≡ some v → w.stage ≡ InTurn → HasTurn id (set views id w)
  turn_here views id v w at is = record { view = w; there = at_same views id v w at; in_turn = is }

  -- what a pass knows at a stage stays so where another one moves
  pub stage_stays : (word word' : ℕ) (turn turn' : Option ℕ) (log log' : List (Entry O R)) (j : ℕ) (u : Known O R) (st : Stage O R) → (turn ≡ some j → ⊥) → KnowsAt word turn log j u st → KnowsAt word' turn' log' j u st
  stage_stays word word' turn turn' log log' j u Ended apart k = tt
  stage_stays word word' turn turn' log log' j u New apart k = k
  stage_stays word word' turn turn' log log' j u Free apart k = k
  stage_stays word word' turn turn' log log' j u InTurn apart k = absurd (apart k.1)
  stage_stays word word' turn turn' log log' j u (Joined own others other calls) apart k = k

  pub knows_still : (start : ℕ) (terms : Terms) (legal : List (Entry O R) → Type 0) (word word' : ℕ) (turn turn' : Option ℕ) (log log' : List (Entry O R)) (j : ℕ) (u : Known O R) → word ≤ word' → IsPrefix log log' → calls_of j log' ≡ calls_of j log → (turn ≡ some j → ⊥)
      → Knows word turn log j u start terms legal → Knows word' turn' log' j u start terms legal
  knows_still start terms legal word word' turn turn' log log' j u le more same apart k = record {
    same_start = k.same_start;
    same_terms = k.same_terms;
    begins = prefix_trans u.seen log log' k.begins more;
    legal_seen = k.legal_seen;
    all_mine = same ∙ k.all_mine;
    all_seen = k.all_seen;
    looked_below = All-weaker (λ n. n ≤ word) (λ n. n ≤ word') (λ n h. omega arith) u.looked k.looked_below;
    at_stage = stage_stays word word' turn turn' log log' j u u.stage apart k.at_stage;
  }

  pub live_at : (v : Known O R) (st : Stage O R) → v.stage ≡ st → st ≢ Ended → v.stage ≢ Ended
  live_at v st is live e = live (sym is ∙ e)

  pub not_in_turn : (v : Known O R) (st : Stage O R) → v.stage ≡ st → st ≢ InTurn → v.stage ≢ InTurn
  not_in_turn v st is other e = other (sym is ∙ e)
