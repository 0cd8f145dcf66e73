use Rattle.qd_hist_stand.proofs.Rooms.{new-stands, roomier-stands}
use Rattle.qd_hist_stand.proofs.laws.room_stands.Goals as goal

pub returns-clause-start : goal.returns-clause-start
returns-clause-start c = new-stands

pub returns-clause-roomier : goal.returns-clause-roomier
returns-clause-roomier c = roomier-stands
