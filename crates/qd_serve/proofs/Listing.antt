-- For which lists a client stands that was split off, and one that took in another.
use Rattle.std.proofs.Common.{◌≡◌, ℕ, zero, suc, ◌<◌, List, [], ◌∷◌, length, get_or, sym, ap, ◌∙◌, subst, arith}
use Rattle.std.specs.List.{AllZip}
use Rattle.std.proofs.lemmas.Option.{slice_get_within, get_or_from_slice_get, slice_get-get_or}
use Rattle.std.proofs.lemmas.List.Elements.{length_all_zip}
use Rattle.qd_gate.specs.declared.machine.Entry.{Entry}
use Rattle.qd_gate.specs.declared.machine.Terms.{Terms}
use Rattle.qd_gate.specs.Logs.{calls_of}
use Rattle.qd_gate.specs.Passes.{Pass}
use Rattle.qd_row.specs.Passes.{IsChild, IsUnion}
use Rattle.qd_row.specs.Rows.{JoinsAll}
use Rattle.qd_ticker.specs.Legal as ticker
use Rattle.qd_stream.specs.Legal as stream
use Rattle.qd_hist_rules.specs.Legal as history
use Rattle.qd_hub.specs.Clients.{Client, IsPassAt}
use Rattle.qd_path.specs.Lists.{Lists, GrewBy}
use Rattle.qd_serve.specs.Homes.{IsOf, AreHome, AreApart, AreSame}
use Rattle.qd_serve.specs.Steps.{IsSplit, TakesIn}
use Rattle.qd_serve.proofs.Homing.{IsFresh, union_gains, comes_home, stays_home}

-- on each stripe a pass was split off, and made no call
pub record AreFresh (n : ℕ) (l m : Lists) : Type 0 where
  pub on_ticker : (i : ℕ) → i < n → IsFresh (l.ticker i) (m.ticker i)
  pub on_stream : (i : ℕ) → i < n → IsFresh (l.stream i) (m.stream i)
  pub on_history : (i : ℕ) → i < n → IsFresh (l.history i) (m.history i)

pub record AreUnions (n : ℕ) (l w m : Lists) : Type 0 where
  pub on_ticker : (i : ℕ) → i < n → IsUnion ticker.IsLegal (l.ticker i) (w.ticker i) (m.ticker i)
  pub on_stream : (i : ℕ) → i < n → IsUnion stream.IsLegal (l.stream i) (w.stream i) (m.stream i)
  pub on_history : (i : ℕ) → i < n → IsUnion history.IsLegal (l.history i) (w.history i) (m.history i)

module _ {A : Type 0} where
  zip_at : (R : A → A → Type 0) (xs ys : List A) (i : ℕ) (d e : A) → AllZip R xs ys → i < length xs → R (get_or xs i d) (get_or ys i e)
  zip_at R [] ys i d e all h = absurd (omega (arith, h))
  zip_at R (x ∷ xs) [] i d e all h = absurd all
  zip_at R (x ∷ xs) (y ∷ ys) zero d e all h = all.0
  zip_at R (x ∷ xs) (y ∷ ys) (suc i) d e all h = zip_at R xs ys i d e all.1 (omega (arith, h))

module _ {O R : Type 0} where
  child_fresh : (p q : Pass O R) → IsChild p q → IsFresh p q
  child_fresh p q c = record { gate = c.home; terms = c.terms; unseen = c.unseen; saw = c.seen; made_none = c.mine; found_none = c.looked }

  -- the child of a child
  child_after : (before p q : Pass O R) → IsFresh before p → IsChild p q → IsFresh before q
  child_after before p q f c = record {
    gate = c.home ∙ f.gate;
    terms = c.terms ∙ f.terms;
    unseen = ap (λ (l : List (Entry O R)). calls_of q.number l) (sym f.saw) ∙ c.unseen;
    saw = c.seen ∙ f.saw;
    made_none = c.mine;
    found_none = c.looked;
  }

  split_at : (passes fresh : List (Pass O R)) (l : ℕ → Pass O R) (i : ℕ) → AllZip IsChild passes fresh → IsPassAt passes i (l i) → IsPassAt fresh i (get_or fresh i (l i)) × IsChild (l i) (get_or fresh i (l i))
  split_at passes fresh l i all e =
      let below : i < length passes = slice_get_within passes i (l i) e in
      let same = length_all_zip IsChild passes fresh all in (
        slice_get-get_or fresh i (l i) (omega (arith, below, same)),
        subst (λ (p : Pass O R). IsChild p (get_or fresh i (l i))) (get_or_from_slice_get passes i (l i) (l i) e) (zip_at IsChild passes fresh i (l i) (l i) all below),
      )

  join_at : (legal : Terms → List (Entry O R) → Type 0) (passes other now : List (Pass O R)) (l w : ℕ → Pass O R) (i : ℕ) → JoinsAll legal passes other now → IsPassAt passes i (l i) → IsPassAt other i (w i)
      → IsPassAt now i (get_or now i (l i)) × IsUnion legal (l i) (w i) (get_or now i (l i))
  join_at legal passes other now l w i j e f =
      let below : i < length passes = slice_get_within passes i (l i) e in
      let there : IsPassAt now i (get_or now i (l i)) = slice_get-get_or now i (l i) (omega (arith, below, j.count)) in
      (there, j.each i (l i) (w i) (get_or now i (l i)) e f there)

abbrev pub lists_of : Client → Lists → Lists
lists_of d l = record { ticker = λ i. get_or d.ticker i (l.ticker i); stream = λ i. get_or d.stream i (l.stream i); history = λ i. get_or d.history i (l.history i) }

pub split_stands : (c d : Client) (l : Lists) → IsSplit c d → IsOf c l → IsOf d (lists_of d l)
split_stands c d l s are = record {
  on_ticker = λ i h. (split_at c.ticker d.ticker l.ticker i s.on_ticker (are.on_ticker i (rw s.sizes at h))).0;
  on_stream = λ i h. (split_at c.stream d.stream l.stream i s.on_stream (are.on_stream i (rw s.sizes at h))).0;
  on_history = λ i h. (split_at c.history d.history l.history i s.on_history (are.on_history i (rw s.sizes at h))).0;
}

pub split_fresh : (c d : Client) (l : Lists) → IsSplit c d → IsOf c l → AreFresh c.sizes.stripes l (lists_of d l)
split_fresh c d l s are = record {
  on_ticker = λ i h. child_fresh (l.ticker i) (get_or d.ticker i (l.ticker i)) (split_at c.ticker d.ticker l.ticker i s.on_ticker (are.on_ticker i h)).1;
  on_stream = λ i h. child_fresh (l.stream i) (get_or d.stream i (l.stream i)) (split_at c.stream d.stream l.stream i s.on_stream (are.on_stream i h)).1;
  on_history = λ i h. child_fresh (l.history i) (get_or d.history i (l.history i)) (split_at c.history d.history l.history i s.on_history (are.on_history i h)).1;
}

-- a client that was split off from one that was split off
pub split_again : (c d : Client) (before l : Lists) → IsSplit c d → IsOf c l → AreFresh c.sizes.stripes before l → AreFresh c.sizes.stripes before (lists_of d l)
split_again c d before l s are f = record {
  on_ticker = λ i h. child_after (before.ticker i) (l.ticker i) (get_or d.ticker i (l.ticker i)) (f.on_ticker i h) (split_at c.ticker d.ticker l.ticker i s.on_ticker (are.on_ticker i h)).1;
  on_stream = λ i h. child_after (before.stream i) (l.stream i) (get_or d.stream i (l.stream i)) (f.on_stream i h) (split_at c.stream d.stream l.stream i s.on_stream (are.on_stream i h)).1;
  on_history = λ i h. child_after (before.history i) (l.history i) (get_or d.history i (l.history i)) (f.on_history i h) (split_at c.history d.history l.history i s.on_history (are.on_history i h)).1;
}

pub split_apart : (c d : Client) (l : Lists) → IsSplit c d → IsOf c l → AreApart c.sizes.stripes l (lists_of d l)
split_apart c d l s are = record {
  on_ticker = λ i h. (split_at c.ticker d.ticker l.ticker i s.on_ticker (are.on_ticker i h)).1.number;
  on_stream = λ i h. (split_at c.stream d.stream l.stream i s.on_stream (are.on_stream i h)).1.number;
  on_history = λ i h. (split_at c.history d.history l.history i s.on_history (are.on_history i h)).1.number;
}

pub taken_stands : (c w d : Client) (l m : Lists) → TakesIn c w d → w.sizes.stripes ≡ c.sizes.stripes → IsOf c l → IsOf w m → IsOf d (lists_of d l)
taken_stands c w d l m t same are other = record {
  on_ticker = λ i h. (join_at ticker.IsLegal c.ticker w.ticker d.ticker l.ticker m.ticker i t.on_ticker (are.on_ticker i (rw t.sizes at h)) (other.on_ticker i (rw same (rw t.sizes at h)))).0;
  on_stream = λ i h. (join_at stream.IsLegal c.stream w.stream d.stream l.stream m.stream i t.on_stream (are.on_stream i (rw t.sizes at h)) (other.on_stream i (rw same (rw t.sizes at h)))).0;
  on_history = λ i h. (join_at history.IsLegal c.history w.history d.history l.history m.history i t.on_history (are.on_history i (rw t.sizes at h)) (other.on_history i (rw same (rw t.sizes at h)))).0;
}

pub taken_unions : (c w d : Client) (l m : Lists) → TakesIn c w d → w.sizes.stripes ≡ c.sizes.stripes → IsOf c l → IsOf w m → AreUnions c.sizes.stripes l m (lists_of d l)
taken_unions c w d l m t same are other = record {
  on_ticker = λ i h. (join_at ticker.IsLegal c.ticker w.ticker d.ticker l.ticker m.ticker i t.on_ticker (are.on_ticker i h) (other.on_ticker i (rw same h))).1;
  on_stream = λ i h. (join_at stream.IsLegal c.stream w.stream d.stream l.stream m.stream i t.on_stream (are.on_stream i h) (other.on_stream i (rw same h))).1;
  on_history = λ i h. (join_at history.IsLegal c.history w.history d.history l.history m.history i t.on_history (are.on_history i h) (other.on_history i (rw same h))).1;
}

pub unions_grow : (n : ℕ) (l w m : Lists) → AreUnions n l w m → GrewBy n [] l m
unions_grow n l w m u = record {
  on_ticker = λ i h. union_gains ticker.IsLegal (l.ticker i) (w.ticker i) (m.ticker i) (u.on_ticker i h);
  on_stream = λ i h. union_gains stream.IsLegal (l.stream i) (w.stream i) (m.stream i) (u.on_stream i h);
  on_history = λ i h. union_gains history.IsLegal (l.history i) (w.history i) (m.history i) (u.on_history i h);
}

pub come_home : (n : ℕ) (before first last p q : Lists) → AreFresh n before first → AreSame n first last → GrewBy n [] before p → AreUnions n p last q → AreHome n before first last q
come_home n before first last p q f s g u = record {
  on_ticker = λ i h. comes_home ticker.IsLegal (before.ticker i) (first.ticker i) (last.ticker i) (p.ticker i) (q.ticker i) (f.on_ticker i h) (s.on_ticker i h) (g.on_ticker i h) (u.on_ticker i h);
  on_stream = λ i h. comes_home stream.IsLegal (before.stream i) (first.stream i) (last.stream i) (p.stream i) (q.stream i) (f.on_stream i h) (s.on_stream i h) (g.on_stream i h) (u.on_stream i h);
  on_history = λ i h. comes_home history.IsLegal (before.history i) (first.history i) (last.history i) (p.history i) (q.history i) (f.on_history i h) (s.on_history i h) (g.on_history i h) (u.on_history i h);
}

pub stay_home : (n : ℕ) (before first last p q : Lists) → AreHome n before first last p → GrewBy n [] p q → AreHome n before first last q
stay_home n before first last p q a g = record {
  on_ticker = λ i h. stays_home ticker.IsLegal (before.ticker i) (first.ticker i) (last.ticker i) (p.ticker i) (q.ticker i) (a.on_ticker i h) (g.on_ticker i h);
  on_stream = λ i h. stays_home stream.IsLegal (before.stream i) (first.stream i) (last.stream i) (p.stream i) (q.stream i) (a.on_stream i h) (g.on_stream i h);
  on_history = λ i h. stays_home history.IsLegal (before.history i) (first.history i) (last.history i) (p.history i) (q.history i) (a.on_history i h) (g.on_history i h);
}
