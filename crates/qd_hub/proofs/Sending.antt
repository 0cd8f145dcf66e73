-- What may cross threads: what clients share, a client, and a hub of one thread.
use denote.Param.Send.{IsSend, IsSync, sendable}
use Rattle.std.proofs.Crossing.{crosses}
use Rattle.qd_row.proofs.row.Row.TheSendSync.{the_send as row_send, the_sync as row_sync}
use Rattle.qd_row.proofs.row.RowPass.TheSendSync.{the_send as passes_send}
use Rattle.qd_row.proofs.own.OwnRow.TheSendSync.{the_send as own_row_send}
use Rattle.qd_ticker.proofs.stripe.TickerStripe.TheSendSync.{the_send as ticker_send}
use Rattle.qd_stream.proofs.stripe.StreamStripe.TheSendSync.{the_send as stream_send}
use Rattle.qd_history.proofs.Sending.{stripe_send}
use Rattle.qd_hub.specs.contracts.client.Shared as Shared
use Rattle.qd_hub.specs.contracts.client.HubClient as HubClient
use Rattle.qd_hub.specs.contracts.own.OwnHub as OwnHub

pub shared_send : IsSend Shared.the_field.row
shared_send = search (sendable, crosses, row_send, ticker_send, stream_send, stripe_send) depth 20

pub shared_sync : IsSync Shared.the_field.row
shared_sync = search (sendable, crosses, row_sync, ticker_send, stream_send, stripe_send) depth 20

pub client_send : IsSend HubClient.the_field.row
client_send = let s = shared_send in let y = shared_sync in search (sendable, crosses, passes_send, ticker_send, stream_send, stripe_send) depth 20

pub own_send : IsSend OwnHub.the_field.row
own_send = search (sendable, crosses, own_row_send, ticker_send, stream_send, stripe_send) depth 20
