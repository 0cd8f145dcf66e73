use Rattle.std.proofs.Common.{◌≡◌, [], ap, sym, subst}
use Rattle.std.specs.Prelude.{vec_len}
use Rattle.qd_hist_stand.specs.Stripes.{Shown, StandsAt}
use Rattle.qd_hist_stand.specs.Laws.{new_stripe}
use Rattle.qd_hist_stand.proofs.Rooms.{new-stands}
use Rattle.qd_history.specs.Tracks.{Tracks}
use Rattle.qd_history.proofs.SoundLaws.{sound-new}
use Rattle.qd_history.proofs.StepLaws.{Stands-empty}
use Rattle.qd_history.proofs.stripe.HistoryStripe.seeded.Goals as goal

pub invariant_of-result : goal.invariant_of-result
invariant_of-result c =
    let s : Shown = record { table = c.in_ok-table.table; tracks = c.new.result.list; sides = c.in_ok-sides.sides.items; count = c.args.commits; stock = c.new.result.stock; hcap = c.args.hcap; base = c.args.commits } in
    sound-new s (vec_len c.new-2.result) c.in_ok-table.ensures (ap (λ (t : Tracks). t.list) c.new.ensures) c.in_ok-sides.ensures (ap (λ (t : Tracks). t.stock) c.new.ensures) c.requires.few.0 c.requires.few.1 c.requires.low

pub returns-clause-stands : goal.returns-clause-stands
returns-clause-stands c =
    let s : Shown = record { table = c.in_ok-table.table; tracks = c.new.result.list; sides = c.in_ok-sides.sides.items; count = c.args.commits; stock = c.new.result.stock; hcap = c.args.hcap; base = c.args.commits } in
    let is : new_stripe c.args.hcap c.args.commits ≡ s = λ i. record { table = sym c.in_ok-table.ensures i; tracks = (sym c.new.ensures i).list; sides = sym c.in_ok-sides.ensures i; count = c.args.commits; stock = (sym c.new.ensures i).stock; hcap = c.args.hcap; base = c.args.commits } in
    Stands-empty s (subst (λ (x : Shown). StandsAt x []) is (new-stands c.args.hcap c.args.commits))
