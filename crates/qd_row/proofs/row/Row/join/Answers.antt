use Rattle.std.proofs.Common.{◌≡◌, length, sym, ap, ◌∙◌, arith}
use Rattle.qd_row.specs.Rows.{homes}
use Rattle.qd_row.proofs.Joining.{join_start, join_stepped, join_ended, no_items, of_gate}
use Rattle.qd_row.proofs.Rowing.{as_many}
use Rattle.qd_row.proofs.row.Row.join.Goals as goal

pub loop-pass-init : goal.loop-pass-init
loop-pass-init g c = join_start g.M.Machine.legal c.passes.inside.passes.items c.other.inside.passes.items

pub join-requires-clause-gate : goal.join-requires-clause-gate
join-requires-clause-gate g c κs lives =
    of_gate g.M.Machine.legal c.passes.inside.passes.items c.other.inside.passes.items c.loop-pass.passes-inside.passes.items c.loop-pass.others.items c.pop.new.self.items c.self.inside.gates.items c.len-i.result c.in-Some.pass c.index_mut.result.now c.index.result.now
    c.loop-pass.invariant c.in-Some.ensures.items (c.len-i.ensures ∙ c.pop.new.self.ok.0)
    (ap homes c.passes.view_is ∙ c.requires.home ∙ sym c.self.view_is) (ap homes c.other.view_is ∙ c.requires.same ∙ sym c.self.view_is)
    c.index_mut.ensures.value c.index.ensures

pub loop-pass-preserved : goal.loop-pass-preserved
loop-pass-preserved g c =
    let mine = ap homes c.passes.view_is ∙ c.requires.home ∙ sym c.self.view_is in
    let theirs = ap homes c.other.view_is ∙ c.requires.same ∙ sym c.self.view_is in
    let at = c.len-i.ensures ∙ c.pop.new.self.ok.0 in
    let size : length c.other.inside.passes.items ≡ length c.passes.inside.passes.items =
    let a = as_many c.passes.inside.passes.items c.self.inside.gates.items mine in
    let b = as_many c.other.inside.passes.items c.self.inside.gates.items theirs in
    omega arith in
    join_stepped g.M.Machine.legal c.passes.inside.passes.items c.other.inside.passes.items c.loop-pass.passes-inside.passes.items c.loop-pass.others.items c.pop.new.self.items c.len-i.result c.in-Some.pass c.index_mut.result.now c.join.new.pass
    c.loop-pass.invariant c.in-Some.ensures.items at size c.index_mut.ensures.value
    (record {
      same = c.join.ensures.pass;
      start = c.join.ensures.start;
      begins = c.join.ensures.seen.0;
      begins_too = c.join.ensures.seen.1;
      is_legal = c.join.ensures.seen.2;
      mine = c.join.ensures.calls.0;
      own = c.join.ensures.calls.1;
      other = c.join.ensures.calls.2;
      apart = c.join.ensures.calls.3;
      looked = c.join.ensures.looked;
    })

pub returns : goal.returns
returns g c =
    let mine = ap homes c.passes.view_is ∙ c.requires.home ∙ sym c.self.view_is in
    let theirs = ap homes c.other.view_is ∙ c.requires.same ∙ sym c.self.view_is in
    let size : length c.other.inside.passes.items ≡ length c.passes.inside.passes.items =
    let a = as_many c.passes.inside.passes.items c.self.inside.gates.items mine in
    let b = as_many c.other.inside.passes.items c.self.inside.gates.items theirs in
    omega arith in
    join_ended g.M.Machine.legal c.passes.inside.passes.items c.other.inside.passes.items c.loop-pass.passes-inside.passes.items c.loop-pass.others.items c.args.passes.now c.args.other
    c.loop-pass.invariant (no_items c.loop-pass.others.items c.in_default.ensures.variant.1 c.loop-pass.others.ok.0) size c.passes.view_is c.other.view_is
