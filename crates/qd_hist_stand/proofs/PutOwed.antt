-- The stock moves with the state of a key, and what is owed to an agent in all tells of a commit whether its pair may be restarted.
use Rattle.std.proofs.Common.{◌≡◌, ℕ, ◌+◌, [], ◌∷◌, refl, sym, ◌∙◌, ap, subst, Option, Some, None}
use Rattle.qd_scheme.specs.declared.key.Key.{Key}
use Rattle.qd_scheme.specs.declared.key.Event.{Event}
use Rattle.qd_sub.specs.Acts.{Came}
use Rattle.qd_table.specs.Tables.{key_at, keys_at, order_of}
use Rattle.qd_hist_key.specs.Kept.{Kept}
use Rattle.qd_hist_key.specs.Keeping as keeping
use Rattle.qd_hist_rules.specs.Moments.{HistMoment}
use Rattle.qd_hist_rules.specs.Source.{source, stock}
use Rattle.qd_hist_rules.proofs.Stock.{stock-about}
use Rattle.qd_hist_feed.specs.Feeding.{Feeding}
use Rattle.qd_hist_feed.proofs.Sizes.{size-is}
use Rattle.qd_hist_feed.proofs.InAll.{Owes, Feeds, owed-in_all, overflow-may_restart, update-goes_on}
use Rattle.qd_hist_stand.specs.Stripes.{Shown, StandsAt, IsFed, feed_at, owed_at, terms_in, size_of}
use Rattle.qd_hist_stand.proofs.Base.{feed-of}
use Rattle.qd_hist_stand.proofs.PutFeeds.{Tells}

pub stock_moves : (base : ℕ) (k : Key) (e : Event) (now : HistMoment) (old new : Kept) → keeping.StandsFor old (source k now) → keeping.StandsFor new (source k (Came k e ∷ now))
    → stock base (Came k e ∷ now) + size_of old ≡ stock base now + size_of new
stock_moves base k e now old new h g =
    ap (λ n. stock base (Came k e ∷ now) + n) (size-is base k now old h) ∙ stock-about base (Came k e) now k refl ∙ ap (λ n. stock base now + n) (sym (size-is base k (Came k e ∷ now) new g))

pub owed_tells : (s : Shown) (now : HistMoment) (a slot : ℕ) (e : Event) → StandsAt s now → key_at s.table slot ≡ Some e.key → Tells (terms_in s) a e.key e now (feed_at s a slot).stage (owed_at s a)
unfolding keys_at
owed_tells s now a slot e st here = record {
  may_restart = λ c f fl q ns h. overflow-may_restart (terms_in s) a e.key (feed_at s a slot) e c f now (owed_at s a) (feed-of s now st a slot e.key here) owes fl q ns h;
  goes_on = λ c f fl q ns h. update-goes_on (terms_in s) a e.key (feed_at s a slot) e c f now (owed_at s a) (feed-of s now st a slot e.key here) owes fl q ns h;
}
  where
    vacant : (i : ℕ) → key_at s.table i ≡ None → (feed_at s a i).owed ≡ []
    vacant i h = ap (λ (f : Feeding). f.owed) (subst (λ (o : Option Key). IsFed (terms_in s) a o (feed_at s a i) now) h (st.feeds a i))

    feeds : Feeds (terms_in s) a now (key_at s.table) (feed_at s a)
    feeds = record { fed = λ i k h. feed-of s now st a i k h; vacant = vacant }

    owes : Owes (terms_in s) a now (owed_at s a)
    owes = subst (λ n. Owes (terms_in s) a now n) (sym (st.owed a)) (owed-in_all (terms_in s) a now (key_at s.table) (feed_at s a) (order_of s.table a) feeds (st.table.orders a))
