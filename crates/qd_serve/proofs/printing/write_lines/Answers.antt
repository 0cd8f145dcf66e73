use Rattle.std.proofs.Common.{◌<◌, length, arith}
use Rattle.qd_session.specs.declared.ends.InEnd.TheVariants as ins
use Rattle.qd_link.specs.declared.ends.OutEnd.TheVariants as outs
use Rattle.qd_serve.proofs.Lines.{lines_more, lines_cut}
use Rattle.qd_serve.proofs.printing.write_lines.Goals as goal

pub returns-then-not-write_line : goal.returns-then-not-write_line
returns-then-not-write_line g c =
    let below : c.loop-link.link-index < length c.args.told.now = omega arith in
    lines_cut c.args.told.now c.loop-link.link-index (record { link = 0; in_end = ins.End; out_end = outs.Shut }) (g.K.Sink.written c.args.out.now) (g.K.Sink.written c.loop-link.out) (g.K.Sink.written c.write_line.new.out)
    (g.K.Sink.faults c.args.out.now) (g.K.Sink.faults c.loop-link.out) (g.K.Sink.faults c.write_line.new.out) below c.loop-link.invariant c.if-not-write_line.ensures

pub loop-link-preserved : goal.loop-link-preserved
loop-link-preserved g c =
    let below : c.loop-link.link-index < length c.args.told.now = omega arith in
    lines_more c.args.told.now c.loop-link.link-index (record { link = 0; in_end = ins.End; out_end = outs.Shut }) (g.K.Sink.written c.args.out.now) (g.K.Sink.written c.loop-link.out) (g.K.Sink.written c.write_line.new.out)
    (g.K.Sink.faults c.args.out.now) (g.K.Sink.faults c.loop-link.out) (g.K.Sink.faults c.write_line.new.out) below c.loop-link.invariant c.if-not-write_line.ensures
