use Rattle.std.proofs.Common.{◌≡◌, ◌≤◌, ◌+◌, ◌^◌, ◌∙◌, length, ap, arith}
use Rattle.qd_hist_stand.specs.Stripes.{Shown}
use Rattle.qd_history.specs.Rooms.{wanted_count}
use Rattle.qd_history.proofs.RoomLaws.{can-put}
use Rattle.qd_history.proofs.stripe.HistoryStripe.put_items.Goals as goal

pub overflow_add-stock : goal.overflow_add-stock
overflow_add-stock c = omega (arith, c.stock.ensures, c.self.invariant.within.stock, c.wanted_count-wanted.ensures.few)

pub put_all-requires : goal.put_all-requires
put_all-requires c =
    let s = c.args.self.now in
    let stock : s.stock + wanted_count s.table c.args.items.now ≤ 262144 = (
    let a : c.stock.result ≡ s.stock = c.stock.ensures ∙ ap (λ (x : Shown). x.stock) c.self.view_is in
    let b : c.wanted_count-wanted.result ≡ wanted_count s.table c.args.items.now = c.wanted_count-wanted.ensures.count ∙ ap (λ (x : Shown). wanted_count x.table c.args.items.now) c.self.view_is in
    omega (arith, c.if-stock-wanted-gt-MOST_STOCK.false)) in
    let count : s.count + length c.args.items.now ≤ 2 ^ 63 = (
    let a : c.self.inside.count ≡ s.count = ap (λ (x : Shown). x.count) c.self.view_is in
    omega (arith, c.if-self-items-gt-MOST_COMMITS.false)) in
    can-put s c.make_room.new.self c.args.items.now c.make_room.ensures.table c.make_room.ensures.same.numbers.stock c.make_room.ensures.same.numbers.count c.in-Ok.ensures.room stock count
