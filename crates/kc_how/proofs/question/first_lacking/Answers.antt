use Rattle.std.proofs.Common.{arith}
use Rattle.kc_value.specs.Solution.{solution}
use Rattle.kc_files.specs.Effects.{HasEffect}
use Rattle.kc_how.proofs.TakenLists.{one_more, all_of}
use Rattle.kc_how.proofs.question.first_lacking.Goals as goal

pub loop-index-preserved : goal.loop-index-preserved
loop-index-preserved c = record {
  kept = c.has_wanted.ensures.kept;
  given = one_more (HasEffect (solution c.args.tree.now c.args.user.now)) c.args.wanted.now c.loop-index.index c.index-wanted-index.result
      (omega arith) c.index-wanted-index.is c.loop-index.invariant.given (c.in_ok-has_wanted.ensures.given.0 c.if-not-branch.false);
}

pub returns-clause-lacking : goal.returns-clause-lacking
returns-clause-lacking c =
    all_of (HasEffect (solution c.args.tree.now c.args.user.now)) c.args.wanted.now c.loop-index.index (omega arith) c.loop-index.invariant.given
