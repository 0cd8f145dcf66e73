use Rattle.qd_hist_feed.proofs.Owing.{end_start}
use Rattle.qd_hist_feed.proofs.feed.share_end.Goals as goal

pub loop-i-init : goal.loop-i-init
loop-i-init c = end_start c.args.floor c.args.batch.now
