-- `replies::put_reply` meets its contract; the law that it needs is in ReplyReturns.
use Rattle.std.proofs.Common.{rules}
use Rattle.replay.proofs.ReplyReturns.{stored_reply}
use Rattle.replay.proofs.replies.put_reply.Goals as goal

pub returns : goal.returns
returns c =
    stored_reply c.args.answers.now c.args.i c.from.result c.copy_from_slice.new.self c.args.reply c.from.ensures c.copy_from_slice.ensures.after (search rules) c.requires
