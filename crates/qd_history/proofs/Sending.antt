-- That a stripe may be sent to another thread: part by part, since one search through all that a stripe holds gives up at its limits.
use denote.Param.Send.{IsSend, sendable}
use Rattle.std.proofs.Crossing.{crosses}
use Rattle.qd_scheme.proofs.key.Event.TheSendSync.{the_send as event_send}
use Rattle.qd_scheme.proofs.cells.Cells.TheSendSync.{the_send as cells_send}
use Rattle.qd_entries.proofs.Entry.TheSendSync.{the_send as entry_send}
use Rattle.qd_entries.proofs.tree.Tree.TheLaws.TheKnot.{crosses as tree_crosses}
use Rattle.qd_entries.specs.contracts.entries.Entries as Entries
use Rattle.qd_flags.specs.contracts.commits.Commits as Commits
use Rattle.qd_hist_key.specs.contracts.key_state.KeyState as KeyState
use Rattle.qd_table.proofs.table.SubTable.TheSendSync.{the_send as table_send}
use Rattle.qd_history.specs.contracts.tracks.Track as Track
use Rattle.qd_history.specs.contracts.tracks.Tracks as Tracks
use Rattle.qd_history.proofs.sides.Side.TheSendSync.{the_send as side_send}
use Rattle.qd_history.specs.contracts.stripe.HistoryStripe as HistoryStripe

entries_send : IsSend Entries.the_field.row
entries_send = search (sendable, crosses, tree_crosses, entry_send, cells_send) depth 20

commits_send : IsSend Commits.the_field.row
commits_send = let e = entries_send in search (sendable, crosses, event_send) depth 20

state_send : IsSend KeyState.the_field.row
state_send = let c = commits_send in search (sendable, crosses) depth 20

track_send : IsSend Track.the_field.row
track_send = let s = state_send in search (sendable, crosses) depth 20

tracks_send : IsSend Tracks.the_field.row
tracks_send = let t = track_send in search (sendable, crosses) depth 20

-- for the crates above: what a search for the `Send` of a type that holds a stripe lists
pub stripe_send : IsSend HistoryStripe.the_field.row
stripe_send = let t = tracks_send in search (sendable, crosses, table_send, side_send) depth 20
