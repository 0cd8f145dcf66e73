use Rattle.std.proofs.Common.{◌+◌, ◌<◌, ◌∙◌, length, sym, ap, subst, arith, get_or-set_same}
use Rattle.qd_hist_stand.specs.Stripes.{Side, no_feed}
use Rattle.qd_slots.proofs.HoldLaws.{at-read}
use Rattle.qd_history.specs.Sides.{spared_at, HasRoom, owed_count}
use Rattle.qd_history.proofs.OwedLaws.{owing-fits, owed-room, sum-read}
use Rattle.qd_history.proofs.sides.Side.update.Goals as goal

pub commit-requires : goal.commit-requires
commit-requires c =
    let f = c.index_mut-feed.result.now in
    let within = subst (λ (s : Side). c.args.slot < length s.feeds) (sym c.self.view_is) c.requires.feed in
    let here = at-read c.self.inside.feeds.items c.args.slot f no_feed within c.index_mut-feed.ensures.value in
    let room = subst (λ x. HasRoom c.args.hcap x (length c.args.batch.now)) (ap (λ (s : Side). spared_at s c.args.slot) (sym c.self.view_is) ∙ sym here) c.requires.room in
    owing-fits c.args.hcap f c.args.floor.now.index c.args.number c.args.batch.now c.self.inside.owed room (omega (arith, c.self.invariant, sum-read owed_count c.self.inside.feeds.items c.args.slot f within c.index_mut-feed.ensures.value)) (omega (arith, c.share_of-more.ensures.share c.args.number))

pub returns-clause-room : goal.returns-clause-room
returns-clause-room c n h =
    let f = c.index_mut-feed.result.now in
    let within = subst (λ (s : Side). c.args.slot < length s.feeds) (sym c.self.view_is) c.requires.feed in
    let here = at-read c.self.inside.feeds.items c.args.slot f no_feed within c.index_mut-feed.ensures.value in
    let room = subst (λ x. HasRoom c.args.hcap x (length c.args.batch.now + n)) (ap (λ (s : Side). spared_at s c.args.slot) (sym c.self.view_is) ∙ sym here) h in
    subst (λ x. HasRoom c.args.hcap x n) (sym (get_or-set_same c.self.inside.feeds.items c.args.slot c.commit.new.self no_feed within))
    (owed-room c.args.hcap f c.commit.new.self c.args.floor.now.index c.args.number c.args.batch.now n c.commit.ensures.now c.commit.ensures.spare room)
