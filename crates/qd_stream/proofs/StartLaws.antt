-- A new stripe stands for the empty log.
use Rattle.std.proofs.Common.{◌≡◌, ℕ, suc, zero, true, false, ◌||◌, [], replicate, refl, ap, sym, ◌∙◌, subst, get_or}
use Rattle.std.proofs.lemmas.List.{length-replicate}
use Rattle.qd_sub.specs.Logs.{after_log}
use Rattle.qd_sub.specs.Subscriptions.{subscribed}
use Rattle.qd_slots.specs.Holds.{is_subscribed}
use Rattle.qd_table.specs.Tables.{Table, no_table, hold_for}
use Rattle.qd_table.proofs.StandOthers.{stands-keeps}
use Rattle.qd_table.proofs.NewLaws.{stands-new}
use Rattle.qd_stream.specs.Waiting.{StreamMoment}
use Rattle.qd_stream.specs.Owed.{Owed, nothing, owes, IsOwed}
use Rattle.qd_stream.specs.Outboxes.{Outstanding, empty_for}
use Rattle.qd_stream.specs.Keyed.{keyed, IsNamed}
use Rattle.qd_stream.specs.Boxes.{Boxes, box_at, empty_boxes}
use Rattle.qd_stream.specs.Legal.{moment_of}
use Rattle.qd_stream.specs.Stripes.{Shown, name_in, is_named, owed_in, is_owed_in, StandsAt, Stands, IsReady}
use Rattle.qd_stream.proofs.OwedLaws.{owed-empty}
use Rattle.qd_stream.proofs.NamedLaws.{named-empty, apart-table}
use Rattle.qd_stream.proofs.AgreeLaws.{of}

repeated : (n i : ℕ) (o : Outstanding) → get_or (replicate n o) i o ≡ o
repeated zero i o = refl
repeated (suc n) zero o = refl
repeated (suc n) (suc i) o = repeated n i o

abbrev start : ℕ → Shown
start cap = of no_table (empty_boxes cap)

empty-box : (cap a : ℕ) → box_at (empty_boxes cap) a ≡ empty_for cap
empty-box cap a = repeated 128 a (empty_for cap)

nothing-owed : (cap a : ℕ) → owed_in (start cap) a ≡ nothing
unfolding owed_in keyed
nothing-owed cap a = ap (λ (o : Outstanding). keyed (name_in no_table) o) (empty-box cap a)

stands-start : (cap : ℕ) → StandsAt (start cap) []
unfolding is_owed_in
stands-start cap =
    let table = stands-new _ _ in
    record {
      agrees = record {
        table = stands-keeps no_table (λ a k. false) (is_owed_in (start cap)) [] table (λ a k. ap (λ (o : Owed). let now : StreamMoment = [] in subscribed a k now || owes o k) (nothing-owed cap a));
        named = λ a. subst (λ (o : Outstanding). IsNamed (name_in no_table) (is_named no_table) o) (sym (empty-box cap a)) (named-empty (name_in no_table) (is_named no_table) cap (apart-table no_table table.sound));
      };
      owed = λ a. subst (λ (o : Owed). IsOwed cap a o []) (sym (nothing-owed cap a)) (owed-empty cap a);
      agents = length-replicate 128 (empty_for cap);
      caps = λ a. ap (λ (o : Outstanding). o.cap) (empty-box cap a);
    }

pub stands-empty : (cap : ℕ) (t : Table) (b : Boxes) → t ≡ no_table → b ≡ empty_boxes cap → Stands (of t b) []
unfolding moment_of after_log
stands-empty cap t b e f = subst (λ (x : Shown). StandsAt x []) (λ i. of (sym e i) (sym f i)) (stands-start cap)

free : (a slot : ℕ) → is_subscribed (hold_for no_table a slot) ≡ false
unfolding hold_for
free a slot = refl

-- nobody is subscribed to anything
pub ready-empty : (cap : ℕ) (t : Table) (b : Boxes) → t ≡ no_table → b ≡ empty_boxes cap → IsReady (of t b)
ready-empty cap t b e f = subst (λ (x : Shown). IsReady x) (λ i. of (sym e i) (sym f i)) (record {
  agents = length-replicate 128 (empty_for cap);
  room = λ a slot h. absurd (none a slot h);
})
  where
    none : (a slot : ℕ) → is_subscribed (hold_for no_table a slot) ≡ true → ⊥
    none a slot h = let z = sym h ∙ free a slot in cc
