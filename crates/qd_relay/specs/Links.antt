-- What the two engines of a link keep.
use Rattle.qd_items.specs.Standing.{opening}
use Rattle.qd_path.specs.declared.side.Side.{Side}
use Rattle.qd_path.specs.Calls.{beginning, mode_of}
use Rattle.qd_replies.specs.Outs.{out_beginning}
use Rattle.qd_session.specs.Ins.{in_beginning}
use Rattle.qd_relay.specs.declared.link.Link.{Link}

-- both before their first step
abbrev pub new_link : Side → Link
new_link side = record { reads = in_beginning side (opening (mode_of side)) beginning; writes = out_beginning side }
