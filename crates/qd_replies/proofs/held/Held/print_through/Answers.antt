use Rattle.std.proofs.Common.{◌≡◌, ◌++◌, refl}
use Rattle.std.proofs.lemmas.List.{append-nil}
use Rattle.qd_outside.proofs.Streams.{cut_after, written_after}
use Rattle.qd_replies.proofs.held.Held.print_through.Goals as goal

pub returns-then-not-write_all-2 : goal.returns-then-not-write_all-2
returns-then-not-write_all-2 g c =
    let same : c.deref.result.now ≡ c.args.self.now = rw (c.deref.ensures.value) c.self.view_is in
    cut_after c.args.self.now c.args.text.now _ _ _ _ _ _ (rw same at c.if-not-write_all.ensures.writes) c.if-not-write_all-2.ensures.writes

pub returns : goal.returns
returns g c =
    let same : c.deref.result.now ≡ c.args.self.now = rw (c.deref.ensures.value) c.self.view_is in (
      c.args.self.now ++ c.args.text.now,
      rw (c.clear.ensures.items, append-nil) refl,
      written_after c.args.self.now c.args.text.now _ _ _ _ _ _ (rw same at c.if-not-write_all.ensures.writes) c.if-not-write_all-2.ensures.writes,
    )
