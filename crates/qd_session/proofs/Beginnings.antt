-- New engines stand for the empty past.
use Rattle.std.proofs.Common.{◌≡◌, None, List, [], false, refl, arith}
use Rattle.std.proofs.lemmas.List.Elements.{All-nil}
use Rattle.qd_items.specs.Standing.{Kept, opening}
use Rattle.qd_items.proofs.StepLaws.{opening_read}
use Rattle.qd_path.specs.declared.call.Asked.{Asked}
use Rattle.qd_path.specs.declared.side.Side.{Side}
use Rattle.qd_path.specs.Calls.{Place, beginning, mode_of}
use Rattle.qd_calls.specs.Dues.{IsDue}
use Rattle.qd_session.specs.Ins.{StandsForNothing, in_beginning}

pub stands_new : (side : Side) → StandsForNothing (in_beginning side (opening (mode_of side)) beginning)
stands_new side = λ defs n left. (
  record { read = opening_read (mode_of side) defs left; mode = refl; place = refl; asked = refl; done = tt; is_open = refl },
  record { each = All-nil (IsDue n); few = omega arith; some = λ e. absurd cc },
)

pub stands_by : (side : Side) (items : Kept) (place : Place) (due : List Asked) → items ≡ opening (mode_of side) → place ≡ beginning → due ≡ []
    → StandsForNothing (record { side = side; items = items; place = place; due = due; closing = false; ended = None })
stands_by side items place due i p d = rw (i, p, d) (stands_new side)
