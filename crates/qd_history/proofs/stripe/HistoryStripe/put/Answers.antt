use Rattle.std.proofs.Common.{◌≡◌, ◌≤◌, ◌+◌, ℕ, None, length, true, false, refl, ap, sym, ◌∙◌, arith, subst, List, [], ◌∷◌}
use Rattle.std.specs.Prelude.{vec_len}
use Rattle.std.specs.Prelude.{if◌then◌else◌}
use Rattle.qd_scheme.specs.declared.key.Event.{Event}
use Rattle.qd_table.specs.Tables.{limit_for}
use Rattle.qd_hist_stand.specs.Stripes.{Shown, Track, floor_in}
use Rattle.qd_hist_stand.specs.Steps.{Part, IsPut, part_after, makes_commit}
use Rattle.qd_history.specs.Tracks.{track_at, wanted_slot}
use Rattle.qd_history.specs.Sides.{sided_at, spared_at, HasRoom, AllSided}
use Rattle.qd_history.specs.Rooms.{CanPut}
use Rattle.qd_history.proofs.RoomLaws.{TakesRoom, stock-room, can-rest, can-unwanted}
use Rattle.qd_history.proofs.PutLaws.{Takes, can-follow, put-commit, put-held, put-unwanted, sided-others, sound-commit, sound-held, held-room}
use Rattle.qd_history.proofs.stripe.HistoryStripe.put.Goals as goal

pub ingest-answer-requires-clause-stock : goal.ingest-answer-requires-clause-stock
ingest-answer-requires-clause-stock c =
    let s : Shown = record { table = c.self.inside.table; tracks = c.self.inside.tracks.list; sides = c.self.inside.sides.items; count = c.self.inside.count; stock = c.self.inside.tracks.stock; hcap = c.self.inside.hcap; base = c.self.inside.base } in
    stock-room s c.args.e.now c.in-Some.slot (sym c.in-Some.ensures.slot) (subst (λ (x : Shown). CanPut x (c.args.e.now ∷ [])) (sym c.self.view_is) c.requires)

pub follow_all-requires-clause-ready : goal.follow_all-requires-clause-ready
follow_all-requires-clause-ready c =
    let s : Shown = record { table = c.self.inside.table; tracks = c.self.inside.tracks.list; sides = c.self.inside.sides.items; count = c.self.inside.count; stock = c.self.inside.tracks.stock; hcap = c.self.inside.hcap; base = c.self.inside.base } in
    let can = subst (λ (x : Shown). CanPut x (c.args.e.now ∷ [])) (sym c.self.view_is) c.requires in
    can-follow s c.args.e.now c.in-Some.slot c.at-track.result.now (sym c.in-Some.ensures.slot) can c.self.invariant.placed c.self.invariant.within
    (subst (λ (x : Track). length x.state.now.held + length x.state.now.batch ≤ length (track_at c.self.inside.tracks.list c.in-Some.slot).state.now.held + 1) (sym c.at-track.ensures) c.ingest-answer.ensures.few)

pub invariant_of-self : goal.invariant_of-self
invariant_of-self c =
    let s : Shown = record { table = c.self.inside.table; tracks = c.self.inside.tracks.list; sides = c.self.inside.sides.items; count = c.self.inside.count; stock = c.self.inside.tracks.stock; hcap = c.self.inside.hcap; base = c.self.inside.base } in
    let t : Shown = record { table = c.self.inside.table; tracks = c.ingest-answer.new.self.list; sides = c.follow_all.new.sides.items; count = c.self.inside.count + 1; stock = c.ingest-answer.new.self.stock; hcap = c.self.inside.hcap; base = c.self.inside.base } in
    let can = subst (λ (x : Shown). CanPut x (c.args.e.now ∷ [])) (sym c.self.view_is) c.requires in
    let f : ℕ → Part → Part = λ a. part_after c.self.inside.hcap c.ingest-answer.result (floor_in (limit_for c.self.inside.table a c.in-Some.slot) c.at-track.result.now.state.now.floor) c.at-track.result.now.number c.at-track.result.now.state.now.batch c.in-Some.slot in
    sound-commit s t (vec_len c.self.inside.tally) c.in-Some.slot f c.self.invariant refl refl c.ingest-answer.ensures.len (omega (arith, c.follow_all.ensures.len, c.follow_all.new.sides.ok, c.self.inside.sides.ok)) c.follow_all.ensures.parts c.follow_all.ensures.within
    (omega (arith, c.ingest-answer.ensures.more, stock-room s c.args.e.now c.in-Some.slot (sym c.in-Some.ensures.slot) can)) (omega (arith, can.count))

pub invariant_of-self-else-makes_commit : goal.invariant_of-self-else-makes_commit
invariant_of-self-else-makes_commit c =
    let s : Shown = record { table = c.self.inside.table; tracks = c.self.inside.tracks.list; sides = c.self.inside.sides.items; count = c.self.inside.count; stock = c.self.inside.tracks.stock; hcap = c.self.inside.hcap; base = c.self.inside.base } in
    let t : Shown = record { table = c.self.inside.table; tracks = c.ingest-answer.new.self.list; sides = c.self.inside.sides.items; count = c.self.inside.count; stock = c.ingest-answer.new.self.stock; hcap = c.self.inside.hcap; base = c.self.inside.base } in
    let can = subst (λ (x : Shown). CanPut x (c.args.e.now ∷ [])) (sym c.self.view_is) c.requires in
    sound-held s t (vec_len c.self.inside.tally) c.self.invariant refl refl c.ingest-answer.ensures.len refl
    (omega (arith, c.ingest-answer.ensures.more, stock-room s c.args.e.now c.in-Some.slot (sym c.in-Some.ensures.slot) can)) c.self.invariant.within.count

pub returns-then-makes_commit-clause-put : goal.returns-then-makes_commit-clause-put
returns-then-makes_commit-clause-put c =
    let s : Shown = record { table = c.self.inside.table; tracks = c.self.inside.tracks.list; sides = c.self.inside.sides.items; count = c.self.inside.count; stock = c.self.inside.tracks.stock; hcap = c.self.inside.hcap; base = c.self.inside.base } in
    let t : Shown = record { table = c.self.inside.table; tracks = c.ingest-answer.new.self.list; sides = c.follow_all.new.sides.items; count = c.self.inside.count + 1; stock = c.ingest-answer.new.self.stock; hcap = c.self.inside.hcap; base = c.self.inside.base } in
    let yes : makes_commit c.ingest-answer.result ≡ true = sym c.makes_commit.ensures ∙ c.if-makes_commit.true in
    let takes : Takes s c.args.e.now c.in-Some.slot c.ingest-answer.result t = record {
      found = sym c.in-Some.ensures.slot;
      table = refl;
      hcap = refl;
      base = refl;
      stands = c.ingest-answer.ensures.stands;
      answered = c.ingest-answer.ensures.answer;
      others = c.ingest-answer.ensures.others;
      number = c.ingest-answer.ensures.number;
      count = sym (ap (λ b. if b then c.self.inside.count + 1 else c.self.inside.count) yes);
      stock = c.ingest-answer.ensures.stock;
    } in
    subst (λ (x : Shown). IsPut x c.args.e.now t) c.self.view_is
    (put-commit s t c.args.e.now c.in-Some.slot c.ingest-answer.result takes yes
    (subst (λ (k : Track). AllSided s.table c.in-Some.slot (λ a. part_after s.hcap c.ingest-answer.result (floor_in (limit_for s.table a c.in-Some.slot) k.state.now.floor) k.number k.state.now.batch c.in-Some.slot) s.sides t.sides) c.at-track.ensures c.follow_all.ensures.parts))

pub returns-then-makes_commit-clause-rest : goal.returns-then-makes_commit-clause-rest
returns-then-makes_commit-clause-rest c = λ (es : List Event) can.
    let s : Shown = record { table = c.self.inside.table; tracks = c.self.inside.tracks.list; sides = c.self.inside.sides.items; count = c.self.inside.count; stock = c.self.inside.tracks.stock; hcap = c.self.inside.hcap; base = c.self.inside.base } in
    let t : Shown = record { table = c.self.inside.table; tracks = c.ingest-answer.new.self.list; sides = c.follow_all.new.sides.items; count = c.self.inside.count + 1; stock = c.ingest-answer.new.self.stock; hcap = c.self.inside.hcap; base = c.self.inside.base } in
    let f : ℕ → Part → Part = λ a. part_after c.self.inside.hcap c.ingest-answer.result (floor_in (limit_for c.self.inside.table a c.in-Some.slot) c.at-track.result.now.state.now.floor) c.at-track.result.now.number c.at-track.result.now.state.now.batch c.in-Some.slot in
    let takes : TakesRoom s c.in-Some.slot t = record {
      table = refl;
      hcap = refl;
      few = c.ingest-answer.ensures.few;
      spare = c.ingest-answer.ensures.spare;
      others = c.ingest-answer.ensures.others;
      room = subst (λ (k : Track). (a n : ℕ) → HasRoom s.hcap (spared_at (sided_at s.sides a) c.in-Some.slot) (length k.state.now.batch + n) → HasRoom s.hcap (spared_at (sided_at t.sides a) c.in-Some.slot) n) c.at-track.ensures c.follow_all.ensures.room;
      feeds = sided-others s t c.in-Some.slot f c.follow_all.ensures.parts;
      stock = c.ingest-answer.ensures.more;
      count = omega arith;
    } in
    can-rest s t c.in-Some.slot c.args.e.now es (sym c.in-Some.ensures.slot) takes (subst (λ (x : Shown). CanPut x (c.args.e.now ∷ es)) (sym c.self.view_is) can)

pub returns-else-makes_commit-clause-put : goal.returns-else-makes_commit-clause-put
returns-else-makes_commit-clause-put c =
    let s : Shown = record { table = c.self.inside.table; tracks = c.self.inside.tracks.list; sides = c.self.inside.sides.items; count = c.self.inside.count; stock = c.self.inside.tracks.stock; hcap = c.self.inside.hcap; base = c.self.inside.base } in
    let t : Shown = record { table = c.self.inside.table; tracks = c.ingest-answer.new.self.list; sides = c.self.inside.sides.items; count = c.self.inside.count; stock = c.ingest-answer.new.self.stock; hcap = c.self.inside.hcap; base = c.self.inside.base } in
    let no : makes_commit c.ingest-answer.result ≡ false = sym c.makes_commit.ensures ∙ c.if-makes_commit.false in
    let takes : Takes s c.args.e.now c.in-Some.slot c.ingest-answer.result t = record {
      found = sym c.in-Some.ensures.slot;
      table = refl;
      hcap = refl;
      base = refl;
      stands = c.ingest-answer.ensures.stands;
      answered = c.ingest-answer.ensures.answer;
      others = c.ingest-answer.ensures.others;
      number = c.ingest-answer.ensures.number;
      count = sym (ap (λ b. if b then c.self.inside.count + 1 else c.self.inside.count) no);
      stock = c.ingest-answer.ensures.stock;
    } in
    subst (λ (x : Shown). IsPut x c.args.e.now t) c.self.view_is (put-held s t c.args.e.now c.in-Some.slot c.ingest-answer.result takes no refl)

pub returns-else-makes_commit-clause-rest : goal.returns-else-makes_commit-clause-rest
returns-else-makes_commit-clause-rest c = λ (es : List Event) can.
    let s : Shown = record { table = c.self.inside.table; tracks = c.self.inside.tracks.list; sides = c.self.inside.sides.items; count = c.self.inside.count; stock = c.self.inside.tracks.stock; hcap = c.self.inside.hcap; base = c.self.inside.base } in
    let t : Shown = record { table = c.self.inside.table; tracks = c.ingest-answer.new.self.list; sides = c.self.inside.sides.items; count = c.self.inside.count; stock = c.ingest-answer.new.self.stock; hcap = c.self.inside.hcap; base = c.self.inside.base } in
    let takes : TakesRoom s c.in-Some.slot t = record {
      table = refl;
      hcap = refl;
      few = c.ingest-answer.ensures.few;
      spare = c.ingest-answer.ensures.spare;
      others = c.ingest-answer.ensures.others;
      room = held-room s t c.in-Some.slot refl;
      feeds = λ a i e. refl;
      stock = c.ingest-answer.ensures.more;
      count = omega arith;
    } in
    can-rest s t c.in-Some.slot c.args.e.now es (sym c.in-Some.ensures.slot) takes (subst (λ (x : Shown). CanPut x (c.args.e.now ∷ es)) (sym c.self.view_is) can)

pub returns-in-None-clause-put : goal.returns-in-None-clause-put
returns-in-None-clause-put c =
    put-unwanted c.args.self.now c.args.e.now (subst (λ (x : Shown). wanted_slot x.table c.args.e.now.key ≡ None) c.self.view_is (sym c.in-None.ensures.slot))

pub returns-in-None-clause-rest : goal.returns-in-None-clause-rest
returns-in-None-clause-rest c = λ (es : List Event) can.
    can-unwanted c.args.self.now c.args.e.now es (subst (λ (x : Shown). wanted_slot x.table c.args.e.now.key ≡ None) c.self.view_is (sym c.in-None.ensures.slot)) can
