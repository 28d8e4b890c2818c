use Rattle.std.proofs.Common.{append-nil, sym}
use Rattle.stream_play.proofs.playing.close.Goals as goal

pub returns-else-has_feed : goal.returns-else-has_feed
returns-else-has_feed c = rw (c.if-find.false, c.if-has_feed.false) (sym (append-nil c.args.line.now.items))
