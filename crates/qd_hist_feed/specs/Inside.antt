-- How a feed is stored.
use Rattle.std.specs.Prelude.{◌-◌}
use Rattle.std.specs.VecDeque.{deque_capacity, deque_len}
use Rattle.qd_hist_feed.specs.declared.feed.Feed.TheInside.{Inside}
use Rattle.qd_hist_feed.specs.Feeding.{Spared}

abbrev pub spared : Inside → Spared
spared a = record { now = record { stage = a.stage; owed = a.owed.items }; spare = deque_capacity a.owed - deque_len a.owed }
