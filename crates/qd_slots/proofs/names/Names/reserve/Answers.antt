use Rattle.std.proofs.Common.{ℕ, ◌≤◌, length, subst, sym, ◌∙◌, arith, ap}
use Rattle.qd_slots.specs.Names.{slots_with}
use Rattle.qd_slots.proofs.NameLaws.{slots_with-least, slots_with-more}
use Rattle.qd_slots.proofs.IndexLaws.{grown-none, indexed-reserved}
use Rattle.qd_slots.proofs.names.Names.reserve.Goals as goal

pub returns-then-more-self-clause-names : goal.returns-then-more-self-clause-names
returns-then-more-self-clause-names c = grown-none c.args.self.now.names

pub invariant_of-self-2 : goal.invariant_of-self-2
invariant_of-self-2 c =
    indexed-reserved c.self.inside.slots c.reserve.new.self c.self.inside.names.items c.grow.new.names.items c.self.inside.free c.grow.new.free c.self.inside.free_count c.max-self-inside.result c.self.inside.room c.args.more c.self.invariant c.in_ok-reserve.ensures.entries
    c.in_ok-reserve.ensures.room.0 c.in_ok-reserve.ensures.ok c.in_ok-grow.ensures.ok c.grow.ensures.kept c.grow.ensures.numbers c.max-self-inside.ensures

pub returns-then-more-self-clause-slots : goal.returns-then-more-self-clause-slots
returns-then-more-self-clause-slots c = slots_with-least c.args.self.now c.args.more

pub returns-in_err-reserve-clause-slots : goal.returns-in_err-reserve-clause-slots
returns-in_err-reserve-clause-slots c = subst (λ (n : ℕ). n ≤ slots_with c.args.self.now c.args.more) (sym (ap (λ n. length n.names) c.self.view_is)) (slots_with-least c.args.self.now c.args.more)

pub returns-in_err-grow-clause-slots : goal.returns-in_err-grow-clause-slots
returns-in_err-grow-clause-slots c = subst (λ (n : ℕ). n ≤ slots_with c.args.self.now c.args.more) (sym (ap length c.in_err-grow.ensures.err.0 ∙ ap (λ n. length n.names) c.self.view_is)) (slots_with-least c.args.self.now c.args.more)

pub returns-clause-slots : goal.returns-clause-slots
returns-clause-slots c =
    let e = ap (λ n. length n.names) c.self.view_is in
    let r = ap (λ n. n.room) c.self.view_is in
    let m = slots_with-more c.args.self.now c.args.more (omega arith) in
    let f = c.grow.ensures.few in
    omega arith
