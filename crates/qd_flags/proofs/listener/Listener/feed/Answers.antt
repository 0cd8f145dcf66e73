use Rattle.std.proofs.Common.{List, ◌∷◌, sym, ap, ◌∙◌, subst}
use Rattle.qd_scheme.specs.declared.key.Event.{Event}
use Rattle.qd_flags.specs.Following.{Following, StandsFor}
use Rattle.qd_flags.specs.Listening.{shown_by}
use Rattle.qd_flags.proofs.Answering.{shown_by-answer_to}
use Rattle.qd_flags.proofs.listener.Listener.feed.Goals as goal

pub returns-clause-fed : goal.returns-clause-fed
returns-clause-fed c = λ (past : List Event) (h : StandsFor c.args.self.now past).
    let same = c.reserve.ensures.now ∙ c.self.view_is in
    c.ingest.ensures.stands past (subst (λ (s : Following). StandsFor s past) (sym same) h)

pub returns-clause-shown : goal.returns-clause-shown
returns-clause-shown c = λ (past : List Event) (h : StandsFor c.args.self.now past).
    let same = c.reserve.ensures.now ∙ c.self.view_is in
    c.shown_by.ensures ∙ ap shown_by (c.ingest.ensures.answer past (subst (λ (s : Following). StandsFor s past) (sym same) h))
    ∙ shown_by-answer_to (c.args.e.now ∷ past)
