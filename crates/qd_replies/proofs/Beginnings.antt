-- A new engine stands for no call.
use Rattle.std.proofs.Common.{refl, arith}
use Rattle.qd_outside.proofs.Streams.{Gained-none}
use Rattle.qd_path.specs.declared.side.Side.{Side}
use Rattle.qd_replies.specs.Outs.{StandsForNothing, out_beginning}

pub stands_new : (side : Side) → StandsForNothing (out_beginning side)
stands_new side = λ defs n written. (
  record { round = tt; own = tt; place = refl; empties = refl; replies = Gained-none written },
  λ some. (omega (arith, some), omega (arith, some)),
)
