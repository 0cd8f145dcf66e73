-- What a listener answers.
use Rattle.std.proofs.Common.{◌≡◌, Bool, true, false, List, refl, Option, Some, None}
use Rattle.std.specs.Prelude.{if◌then◌else◌, is_some}
use Rattle.qd_scheme.specs.declared.key.Event.{Event}
use Rattle.qd_flags.specs.declared.commits.Ingest.TheVariants.{Ignored, Held, Update, Snapshot}
use Rattle.qd_flags.specs.Shown.{Shown, has_begin, shown, events_of}
use Rattle.qd_flags.specs.Following.{answer_to}
use Rattle.qd_flags.specs.Listening.{shown_by, shown_of}
use Rattle.qd_flags.specs.declared.listener.Shown.TheVariants.{Committed, Held as HeldBack}
use Rattle.qd_flags.proofs.Followed.{nothing_shown}

-- it is by whether all events are a commit place
pub shown_by-answer_to : (es : List Event) → shown_by (answer_to es) ≡ shown_of es
shown_by-answer_to es = go (has_begin es) (shown es) (has_begin (events_of es)) refl refl (nothing_shown es)
  where
    go : (b : Bool) (o : Option Shown) (u : Bool) → has_begin es ≡ b → shown es ≡ o → (has_begin es ≡ false → shown es ≡ None)
        → shown_by (if b then (if is_some o then (if u then Snapshot else Update) else Held) else Ignored) ≡ (if is_some o then Committed else HeldBack)
    go true None u p q n = refl
    go true (Some s) true p q n = refl
    go true (Some s) false p q n = refl
    go false None u p q n = refl
    go false (Some s) u p q n = let no = n p in cc (no, q)
