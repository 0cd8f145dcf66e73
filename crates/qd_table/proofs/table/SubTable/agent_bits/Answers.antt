use Rattle.std.proofs.Common.{◌-◌, arith}
use Rattle.qd_table.proofs.KeyCalls.{bits-start, bits-loop, bits-fit, bit-fits}
use Rattle.qd_table.proofs.table.SubTable.agent_bits.Goals as goal

pub loop-i-init : goal.loop-i-init
loop-i-init c = bits-start c.args.self.now c.args.slot

pub overflow_mul-bits : goal.overflow_mul-bits
overflow_mul-bits c = let f = bits-fit c.args.self.now c.args.slot (128 - c.loop-i.i) c.loop-i.i c.loop-i.bits c.loop-i.invariant (omega arith) in omega (arith, f)

pub overflow_add-bits : goal.overflow_add-bits
overflow_add-bits c =
    let f = bits-fit c.args.self.now c.args.slot (128 - c.loop-i.i) c.loop-i.i c.loop-i.bits c.loop-i.invariant (omega arith) in
    let b = bit-fits c.args.self.now c.args.slot (127 - c.loop-i.i) c.agent_bit.result c.agent_bit.ensures in omega (arith, f, b)

pub loop-i-preserved : goal.loop-i-preserved
loop-i-preserved c = bits-loop c.args.self.now c.args.slot c.loop-i.i c.loop-i.bits c.agent_bit.result c.loop-i-test.true c.loop-i.invariant c.agent_bit.ensures
