use Rattle.std.proofs.Common.{sym, subst}
use Rattle.std.proofs.lemmas.Result.{IfOk-weaker}
use Rattle.kc_files.specs.DefaultLoading.{HasNoFeeds}
use Rattle.kc_session.specs.Session.{SessionState}
use Rattle.kc_session.proofs.Feeds.{empty_unfed}
use Rattle.kc_session.proofs.session.Session.new.Goals as goal

pub returns-in-Ok-clause-unfed : goal.returns-in-Ok-clause-unfed
returns-in-Ok-clause-unfed c =
    IfOk-weaker c.with_user.result _ _ (λ s is. subst (λ (x : SessionState). HasNoFeeds x.session.user) (sym is) (empty_unfed c.args.tree _ c.in-Ok.ensures.values)) c.with_user.ensures.ok
