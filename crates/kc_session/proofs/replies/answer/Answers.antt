use Rattle.std.proofs.lemmas.Result.{on_ok_weaker, on_err_weaker}
use Rattle.kc_session.proofs.Replying.{answers_held, stops_held}
use Rattle.kc_session.proofs.UnfedRequests.{held_unfed}
use Rattle.kc_session.proofs.replies.answer.Goals as goal

pub returns-clause-ok : goal.returns-clause-ok
returns-clause-ok g c =
    on_ok_weaker c.write_reply.result (answers_held _ _ _ _ _ c.reply_to-reply.ensures.outcome c.reply_to-reply.ensures.keeps
    c.reply_to-reply.ensures.laws c.reply_to-reply.ensures.right_before c.reply_to-reply.ensures.right _ _) c.write_reply.ensures.ok

pub returns-clause-err : goal.returns-clause-err
returns-clause-err g c =
    on_err_weaker c.write_reply.result (stops_held _ _ _ _ _ c.reply_to-reply.ensures.outcome c.reply_to-reply.ensures.keeps
    c.reply_to-reply.ensures.laws c.reply_to-reply.ensures.right_before c.reply_to-reply.ensures.right _ _) c.write_reply.ensures.err

pub returns-clause-unfed : goal.returns-clause-unfed
returns-clause-unfed g c = λ line command is holds. held_unfed line _ _ c.reply_to-reply.ensures.unfed command is holds
