use Rattle.std.proofs.Common.{◌≡◌, ◌<◌, ℕ, refl, sym, ◌∙◌, ap, subst}
use Rattle.qd_hub.specs.Configs.{Sizes}
use Rattle.qd_replay.specs.Settings.{own_books}
use Rattle.qd_load.proofs.Alone.{new_lists, new_are, new_empty}
use Rattle.qd_tape.specs.Scripts.{generated}
use Rattle.qd_load.specs.Loads.{AreTold}
use Rattle.qd_load.proofs.Running.{new_counting, are_told, done_run, early, ends_as, sound_as, none_rose, not_done}
use Rattle.qd_load.proofs.load.run_counted.Goals as goal

pub new-requires-clause-ticker : goal.new-requires-clause-ticker
new-requires-clause-ticker c = λ i w.
    let n = ap (λ (s : Sizes). s.stripes) c.in-Ok.ensures.sizes in
    let are = new_are c.args.config c.in-Ok.hub.sizes.stripes _ _ _ n c.in-Ok.ensures.ticker c.in-Ok.ensures.stream c.in-Ok.ensures.history in
    ((new_lists c.args.config).ticker i, are.on_ticker i w, refl)

pub new-requires-clause-stream : goal.new-requires-clause-stream
new-requires-clause-stream c = λ i w.
    let n = ap (λ (s : Sizes). s.stripes) c.in-Ok.ensures.sizes in
    let are = new_are c.args.config c.in-Ok.hub.sizes.stripes _ _ _ n c.in-Ok.ensures.ticker c.in-Ok.ensures.stream c.in-Ok.ensures.history in
    ((new_lists c.args.config).stream i, are.on_stream i w, refl)

pub new-requires-clause-history : goal.new-requires-clause-history
new-requires-clause-history c = λ i w.
    let n = ap (λ (s : Sizes). s.stripes) c.in-Ok.ensures.sizes in
    let are = new_are c.args.config c.in-Ok.hub.sizes.stripes _ _ _ n c.in-Ok.ensures.ticker c.in-Ok.ensures.stream c.in-Ok.ensures.history in
    ((new_lists c.args.config).history i, are.on_history i w, refl)

pub replay-requires-clause-new : goal.replay-requires-clause-new
replay-requires-clause-new c =
    let n = ap (λ (s : Sizes). s.stripes) c.in-Ok.ensures.sizes in
    let same = c.in-Ok-new.ensures.same.1 in
    let are = new_are c.args.config c.in-Ok-new.hub.hub.sizes.stripes _ _ _ (same ∙ n) c.in-Ok.ensures.ticker c.in-Ok.ensures.stream c.in-Ok.ensures.history in
    let counting = new_counting c.args.config c.in-Ok-new.hub.hub.sizes.stripes _ _ _ _ _ _ are
    (λ i p w. c.in-Ok-new.ensures.ticker i p (subst (λ (k : ℕ). i < k) same w))
    (λ i p w. c.in-Ok-new.ensures.stream i p (subst (λ (k : ℕ). i < k) same w))
    (λ i p w. c.in-Ok-new.ensures.history i p (subst (λ (k : ℕ). i < k) same w)) in
    (new_lists c.args.config, counting, new_empty c.args.config _)

pub returns-in_default : goal.returns-in_default
returns-in_default c =
    let n = ap (λ (s : Sizes). s.stripes) c.in-Ok.ensures.sizes in
    let same = c.in-Ok-new.ensures.same.1 in
    let are = new_are c.args.config c.in-Ok-new.hub.hub.sizes.stripes _ _ _ (same ∙ n) c.in-Ok.ensures.ticker c.in-Ok.ensures.stream c.in-Ok.ensures.history in
    let counting = new_counting c.args.config c.in-Ok-new.hub.hub.sizes.stripes _ _ _ _ _ _ are
    (λ i p w. c.in-Ok-new.ensures.ticker i p (subst (λ (k : ℕ). i < k) same w))
    (λ i p w. c.in-Ok-new.ensures.stream i p (subst (λ (k : ℕ). i < k) same w))
    (λ i p w. c.in-Ok-new.ensures.history i p (subst (λ (k : ℕ). i < k) same w)) in
    let e = c.replay.ensures.ends (new_lists c.args.config) counting (new_empty c.args.config _) in
    let other = c.in_default.not-Done in
    record {
      runs = early c.args.config.stripes (own_books c.args.config) c.args.start c.args.count c.replay.result e.2.0 _ _ c.new-source.ensures.left other (ends_as c.args.scheme.now _ c.args.config.stripes (own_books c.args.config) e.2.0 _ _ _ c.requires.scheme (same ∙ n) e.2.2);
      decided = λ sound end is.
          let d = c.replay.ensures.decided (new_lists c.args.config) (generated c.args.start c.args.count) counting (new_empty c.args.config _) c.new-source.ensures.left (sound_as c.args.scheme.now _ c.args.config.stripes (own_books c.args.config) _ c.requires.scheme (same ∙ n) sound) none_rose in
          let one : c.replay.result ≡ end = cc (is) in
          sym one ∙ not_done c.replay.result other d;
    }

pub returns-clause-runs : goal.returns-clause-runs
returns-clause-runs c =
    let n = ap (λ (s : Sizes). s.stripes) c.in-Ok.ensures.sizes in
    let same = c.in-Ok-new.ensures.same.1 in
    let are = new_are c.args.config c.in-Ok-new.hub.hub.sizes.stripes _ _ _ (same ∙ n) c.in-Ok.ensures.ticker c.in-Ok.ensures.stream c.in-Ok.ensures.history in
    let counting = new_counting c.args.config c.in-Ok-new.hub.hub.sizes.stripes _ _ _ _ _ _ are
    (λ i p w. c.in-Ok-new.ensures.ticker i p (subst (λ (k : ℕ). i < k) same w))
    (λ i p w. c.in-Ok-new.ensures.stream i p (subst (λ (k : ℕ). i < k) same w))
    (λ i p w. c.in-Ok-new.ensures.history i p (subst (λ (k : ℕ). i < k) same w)) in
    let e = c.in-Done.ensures.ends (new_lists c.args.config) counting (new_empty c.args.config _) in
    let t = c.in-Some.ensures in
    let kept = c.replay.ensures.same.1 in
    let hub = c.replay.new.hub in
    record {
      calls = e.2.0;
      run = done_run c.args.config.stripes (own_books c.args.config) c.args.start c.args.count c.ranges.start.fits c.requires.count e.2.0 _ _ c.new-source.ensures.left refl refl (ends_as c.args.scheme.now _ c.args.config.stripes (own_books c.args.config) e.2.0 _ _ _ c.requires.scheme (same ∙ n) e.2.2);
      counted = subst (λ (k : ℕ). AreTold k (own_books c.args.config) e.2.0 c.in-Some.totals) (same ∙ n)
          (are_told c.args.config c.in-Ok-new.hub.hub.sizes.stripes _ _ _ hub.records hub.items hub.lost hub.views e.0 e.2.0 c.in-Some.totals e.1 e.2.1 (t.stripes.0 ∙ kept, t.stripes.1 ∙ kept, t.stripes.2 ∙ kept, t.stripes.3 ∙ kept) t.none_missed t.records t.items t.lost t.entries);
    }
