use Rattle.std.proofs.Common.{◌≡◌, true, false, List, ◌∷◌, sym, ap, ◌∙◌, subst}
use Rattle.std.specs.Prelude.{if◌then◌else◌}
use Rattle.qd_scheme.specs.declared.key.Event.{Event}
use Rattle.qd_flags.specs.declared.commits.Ingest.TheVariants.{Update, Snapshot}
use Rattle.qd_flags.specs.Following.{Following, Tracked, StandsFor, takes, with_held, with_commit}
use Rattle.qd_flags.proofs.Followed.{ignored, held, committed, open_there, no_place}
use Rattle.qd_flags.proofs.Sizes.{IsOneMore, forgotten_more, held_more, commit_more}
use Rattle.qd_flags.proofs.commits.Commits.ingest.Goals as goal

pub returns-then-not-takes-clause-stands : goal.returns-then-not-takes-clause-stands
returns-then-not-takes-clause-stands c = λ (past : List Event) (h : StandsFor c.args.self.now.now past).
    let e = c.args.e.now in
    let t : takes e c.args.self.now.now ≡ false = ap (λ (s : Following). takes e s) (sym c.forget.ensures.now) ∙ sym c.takes.ensures ∙ c.if-not-takes.true in
    subst (λ (s : Following). StandsFor s (e ∷ past)) (sym c.forget.ensures.now) (ignored c.args.self.now.now past e h t).0

pub returns-then-not-takes-clause-answer : goal.returns-then-not-takes-clause-answer
returns-then-not-takes-clause-answer c = λ (past : List Event) (h : StandsFor c.args.self.now.now past).
    let e = c.args.e.now in
    let t : takes e c.args.self.now.now ≡ false = ap (λ (s : Following). takes e s) (sym c.forget.ensures.now) ∙ sym c.takes.ensures ∙ c.if-not-takes.true in
    sym (ignored c.args.self.now.now past e h t).1

pub returns-then-is_tx_pending-clause-stands : goal.returns-then-is_tx_pending-clause-stands
returns-then-is_tx_pending-clause-stands c = λ (past : List Event) (h : StandsFor c.args.self.now.now past).
    let e = c.args.e.now in
    let t : takes e c.args.self.now.now ≡ true = ap (λ (s : Following). takes e s) (sym c.forget.ensures.now) ∙ sym c.takes.ensures ∙ c.if-not-takes.false in
    let is = c.hold.ensures.now ∙ ap (λ (s : Following). with_held e s) c.forget.ensures.now in
    let p = sym c.is_tx_pending.ensures ∙ c.if-is_tx_pending.true in
    subst (λ (s : Following). StandsFor s (e ∷ past)) (sym is) (held c.args.self.now.now past e h t (open_there e past p)).0

pub returns-then-is_tx_pending-clause-answer : goal.returns-then-is_tx_pending-clause-answer
returns-then-is_tx_pending-clause-answer c = λ (past : List Event) (h : StandsFor c.args.self.now.now past).
    let e = c.args.e.now in
    let t : takes e c.args.self.now.now ≡ true = ap (λ (s : Following). takes e s) (sym c.forget.ensures.now) ∙ sym c.takes.ensures ∙ c.if-not-takes.false in
    let p = sym c.is_tx_pending.ensures ∙ c.if-is_tx_pending.true in
    sym (held c.args.self.now.now past e h t (open_there e past p)).1

pub returns-in-Some-clause-stands : goal.returns-in-Some-clause-stands
returns-in-Some-clause-stands c = λ (past : List Event) (h : StandsFor c.args.self.now.now past).
    let e = c.args.e.now in
    let t : takes e c.args.self.now.now ≡ true = ap (λ (s : Following). takes e s) (sym c.forget.ensures.now) ∙ sym c.takes.ensures ∙ c.if-not-takes.false in
    let is = c.hold.ensures.now ∙ ap (λ (s : Following). with_held e s) c.forget.ensures.now in
    let p = sym c.is_tx_pending.ensures ∙ c.if-is_tx_pending.false in
    let end = sym (ap (λ (s : Following). s.end) is) ∙ sym (ap (λ (t : Tracked). t.now.end) c.self.view_is) ∙ c.in-Some.is in
    subst (λ (s : Following). StandsFor s (e ∷ past)) (sym (c.commit.ensures.now ∙ ap (λ (s : Following). with_commit c.in-Some.floor s) is))
    (committed c.args.self.now.now past e c.in-Some.floor h t p end).0

pub returns-in-Some-clause-answer : goal.returns-in-Some-clause-answer
returns-in-Some-clause-answer c = λ (past : List Event) (h : StandsFor c.args.self.now.now past).
    let e = c.args.e.now in
    let t : takes e c.args.self.now.now ≡ true = ap (λ (s : Following). takes e s) (sym c.forget.ensures.now) ∙ sym c.takes.ensures ∙ c.if-not-takes.false in
    let is = c.hold.ensures.now ∙ ap (λ (s : Following). with_held e s) c.forget.ensures.now in
    let p = sym c.is_tx_pending.ensures ∙ c.if-is_tx_pending.false in
    let end = sym (ap (λ (s : Following). s.end) is) ∙ sym (ap (λ (t : Tracked). t.now.end) c.self.view_is) ∙ c.in-Some.is in
    c.commit.ensures.answer ∙ ap (λ (s : Following). if s.begun then Snapshot else Update) is
    ∙ sym (committed c.args.self.now.now past e c.in-Some.floor h t p end).1

pub returns-in-None-clause-stands : goal.returns-in-None-clause-stands
returns-in-None-clause-stands c = λ (past : List Event) (h : StandsFor c.args.self.now.now past).
    let e = c.args.e.now in
    let t : takes e c.args.self.now.now ≡ true = ap (λ (s : Following). takes e s) (sym c.forget.ensures.now) ∙ sym c.takes.ensures ∙ c.if-not-takes.false in
    let is = c.hold.ensures.now ∙ ap (λ (s : Following). with_held e s) c.forget.ensures.now in
    let end = sym (ap (λ (s : Following). s.end) is) ∙ sym (ap (λ (t : Tracked). t.now.end) c.self.view_is) ∙ c.in-None.is in
    subst (λ (s : Following). StandsFor s (e ∷ past)) (sym is) (held c.args.self.now.now past e h t (no_place c.args.self.now.now past e h t end)).0

pub returns-in-None-clause-answer : goal.returns-in-None-clause-answer
returns-in-None-clause-answer c = λ (past : List Event) (h : StandsFor c.args.self.now.now past).
    let e = c.args.e.now in
    let t : takes e c.args.self.now.now ≡ true = ap (λ (s : Following). takes e s) (sym c.forget.ensures.now) ∙ sym c.takes.ensures ∙ c.if-not-takes.false in
    let is = c.hold.ensures.now ∙ ap (λ (s : Following). with_held e s) c.forget.ensures.now in
    let end = sym (ap (λ (s : Following). s.end) is) ∙ sym (ap (λ (t : Tracked). t.now.end) c.self.view_is) ∙ c.in-None.is in
    sym (held c.args.self.now.now past e h t (no_place c.args.self.now.now past e h t end)).1

pub returns-then-not-takes-clause-few : goal.returns-then-not-takes-clause-few
returns-then-not-takes-clause-few c = (subst (IsOneMore c.args.self.now.now) (sym c.forget.ensures.now) (forgotten_more c.args.self.now.now)).few

pub returns-then-not-takes-clause-more : goal.returns-then-not-takes-clause-more
returns-then-not-takes-clause-more c = (subst (IsOneMore c.args.self.now.now) (sym c.forget.ensures.now) (forgotten_more c.args.self.now.now)).more

pub returns-then-is_tx_pending-clause-few : goal.returns-then-is_tx_pending-clause-few
returns-then-is_tx_pending-clause-few c = (subst (IsOneMore c.args.self.now.now) (sym (c.hold.ensures.now ∙ ap (λ (s : Following). with_held c.args.e.now s) c.forget.ensures.now)) (held_more c.args.self.now.now c.args.e.now)).few

pub returns-then-is_tx_pending-clause-more : goal.returns-then-is_tx_pending-clause-more
returns-then-is_tx_pending-clause-more c = (subst (IsOneMore c.args.self.now.now) (sym (c.hold.ensures.now ∙ ap (λ (s : Following). with_held c.args.e.now s) c.forget.ensures.now)) (held_more c.args.self.now.now c.args.e.now)).more

pub returns-in-Some-clause-few : goal.returns-in-Some-clause-few
returns-in-Some-clause-few c = (subst (IsOneMore c.args.self.now.now) (sym (c.commit.ensures.now ∙ ap (λ (s : Following). with_commit c.in-Some.floor s) (c.hold.ensures.now ∙ ap (λ (s : Following). with_held c.args.e.now s) c.forget.ensures.now))) (commit_more c.args.self.now.now c.args.e.now c.in-Some.floor)).few

pub returns-in-Some-clause-more : goal.returns-in-Some-clause-more
returns-in-Some-clause-more c = (subst (IsOneMore c.args.self.now.now) (sym (c.commit.ensures.now ∙ ap (λ (s : Following). with_commit c.in-Some.floor s) (c.hold.ensures.now ∙ ap (λ (s : Following). with_held c.args.e.now s) c.forget.ensures.now))) (commit_more c.args.self.now.now c.args.e.now c.in-Some.floor)).more

pub returns-in-None-clause-few : goal.returns-in-None-clause-few
returns-in-None-clause-few c = (subst (IsOneMore c.args.self.now.now) (sym (c.hold.ensures.now ∙ ap (λ (s : Following). with_held c.args.e.now s) c.forget.ensures.now)) (held_more c.args.self.now.now c.args.e.now)).few

pub returns-in-None-clause-more : goal.returns-in-None-clause-more
returns-in-None-clause-more c = (subst (IsOneMore c.args.self.now.now) (sym (c.hold.ensures.now ∙ ap (λ (s : Following). with_held c.args.e.now s) c.forget.ensures.now)) (held_more c.args.self.now.now c.args.e.now)).more
