use Rattle.std.proofs.Common.{◌≡◌, ◌<◌, ◌^◌, ℕ, length, slice_set, refl, ap, sym, ◌∙◌, arith, subst}
use Rattle.std.specs.Prelude.{vec_len}
use Rattle.qd_pend.specs.Slots.{first_in}
use Rattle.qd_slots.proofs.HoldLaws.{at-read}
use Rattle.qd_table.specs.Tables.{limit_for}
use Rattle.qd_hist_key.specs.Kept.{Kept}
use Rattle.qd_hist_stand.specs.Stripes.{Shown, Side, Track, no_side, floor_in}
use Rattle.qd_hist_stand.specs.Steps.{IsGiven}
use Rattle.qd_entries.specs.Entries.{AllBelow}
use Rattle.qd_history.specs.Tracks.{track_at}
use Rattle.qd_history.specs.Sides.{sided_at}
use Rattle.qd_history.proofs.GiveLaws.{floor-subscribed, sound-gift, given-step}
use Rattle.qd_history.proofs.stripe.HistoryStripe.give.Goals as goal

pub is_done-requires : goal.is_done-requires
is_done-requires c =
    let n : ℕ = c.get-number.result in
    let sides = c.self.inside.sides.items in
    let within : n < length sides = omega (arith, c.self.invariant.placed.agents, c.get-number.ensures.within, c.get-number.ensures.value) in
    let floor_is = sym c.floor_of.ensures ∙ c.in_ok-floor.was in
    let sub = floor-subscribed c.self.inside.table c.args.agent c.in_ok-slot.slot c.state-state.result.now.now.floor c.in_ok-floor.floor floor_is in
    let here = ap (sided_at sides) (sym c.get-number.ensures.value) ∙ sym (at-read sides n c.index-2.result.now no_side within c.index-2.ensures) in
    subst (λ (s : Side). c.in_ok-slot.slot < length s.feeds) here (c.self.invariant.placed.feeds c.args.agent c.in_ok-slot.slot sub)

pub next-requires : goal.next-requires
next-requires c =
    let n : ℕ = c.get-number.result in
    let sides = c.self.inside.sides.items in
    let within : n < length sides = omega (arith, c.self.invariant.placed.agents, c.get-number.ensures.within, c.get-number.ensures.value) in
    let floor_is = sym c.floor_of.ensures ∙ c.in_ok-floor.was in
    let sub = floor-subscribed c.self.inside.table c.args.agent c.in_ok-slot.slot c.state-state.result.now.now.floor c.in_ok-floor.floor floor_is in
    let here = ap (sided_at sides) (sym c.get-number.ensures.value) ∙ sym (at-read sides n c.index_mut-side.result.now no_side within c.index_mut-side.ensures.value) in
    subst (λ (s : Side). c.in_ok-slot.slot < length s.feeds) here (c.self.invariant.placed.feeds c.args.agent c.in_ok-slot.slot sub)

pub invariant_of-self : goal.invariant_of-self
invariant_of-self c =
    let n : ℕ = c.get-number.result in
    let sides = c.self.inside.sides.items in
    let few : n < 128 = omega (arith, c.get-number.ensures.within, c.get-number.ensures.value) in
    let within : n < length sides = omega (arith, c.self.invariant.placed.agents) in
    let s : Shown = record { table = c.self.inside.table; tracks = c.self.inside.tracks.list; sides = sides; count = c.self.inside.count; stock = c.self.inside.tracks.stock; hcap = c.self.inside.hcap; base = c.self.inside.base } in
    let t : Shown = record { table = c.self.inside.table; tracks = c.self.inside.tracks.list; sides = slice_set sides n c.next.new.self; count = c.self.inside.count; stock = c.self.inside.tracks.stock; hcap = c.self.inside.hcap; base = c.self.inside.base } in
    sound-gift s t (vec_len c.self.inside.tally) n c.in_ok-slot.slot c.at-2.result.now c.in_ok-floor.floor c.index_mut-side.result.now c.next.new.self c.self.invariant few (at-read sides n c.index_mut-side.result.now no_side within c.index_mut-side.ensures.value) c.next.ensures.part refl refl refl refl refl refl

pub returns-clause-given : goal.returns-clause-given
returns-clause-given c =
    let n : ℕ = c.get-number.result in
    let sides = c.self.inside.sides.items in
    let within : n < length sides = omega (arith, c.self.invariant.placed.agents, c.get-number.ensures.within, c.get-number.ensures.value) in
    let floor_is = sym c.floor_of.ensures ∙ c.in_ok-floor.was in
    let sub = floor-subscribed c.self.inside.table c.args.agent c.in_ok-slot.slot c.state-state.result.now.now.floor c.in_ok-floor.floor floor_is in
    let s : Shown = record { table = c.self.inside.table; tracks = c.self.inside.tracks.list; sides = sides; count = c.self.inside.count; stock = c.self.inside.tracks.stock; hcap = c.self.inside.hcap; base = c.self.inside.base } in
    let t : Shown = record { table = c.self.inside.table; tracks = c.self.inside.tracks.list; sides = slice_set sides n c.next.new.self; count = c.self.inside.count; stock = c.self.inside.tracks.stock; hcap = c.self.inside.hcap; base = c.self.inside.base } in
    let first = ap (λ (y : Side). first_in y.queue.list) (sym (at-read sides n c.index.result.now no_side within c.index.ensures)) ∙ sym c.front.ensures ∙ c.in_ok-slot.was in
    let named = sym c.key_at.ensures ∙ c.in_ok-key.was in
    let state : c.state-state.result.now ≡ (track_at c.self.inside.tracks.list c.in_ok-slot.slot).state = c.state-state.ensures ∙ ap (λ (y : Track). y.state) c.at.ensures in
    let fits = ap (λ a. floor_in (limit_for c.self.inside.table a c.in_ok-slot.slot) (track_at c.self.inside.tracks.list c.in_ok-slot.slot).state.now.floor) c.get-number.ensures.value ∙ ap (λ (y : Kept). floor_in (limit_for c.self.inside.table c.args.agent c.in_ok-slot.slot) y.now.floor) (sym state) ∙ floor_is in
    let low : c.in_ok-floor.floor.index < 2 ^ 64 = omega arith in
    let entries = subst (λ (y : Kept). AllBelow (2 ^ 64) y.now.entries) state c.kept.ensures.low in
    subst (λ (x : Shown). IsGiven x c.args.agent c.in_ok-slot.slot c.in-Some.item t) c.self.view_is (subst (λ a. IsGiven s a c.in_ok-slot.slot c.in-Some.item t) c.get-number.ensures.value
    (given-step s t n c.in_ok-slot.slot c.in-Some.item c.in_ok-key.key c.in_ok-floor.floor c.index_mut-side.result.now c.next.new.self c.at-2.result.now within (at-read sides n c.index_mut-side.result.now no_side within c.index_mut-side.ensures.value) c.at-2.ensures
    first named fits low entries (sym c.next.ensures.item ∙ c.in-Some.is) refl refl (record { hcap = refl; base = refl; count = refl; stock = refl }) refl c.next.ensures.part))
