use Rattle.std.proofs.Common.{◌∙◌, []}
use Rattle.std.proofs.lemmas.List.{get_or_default}
use Rattle.kc_session.proofs.MergedLaws.{merged_more}
use Rattle.kc_session.proofs.merging.merge_all.Goals as goal

pub loop-index-preserved : goal.loop-index-preserved
loop-index-preserved c =
    let before = c.loop-index.invariant in
    let body = c.index-bodies-index.is ∙ get_or_default c.args.bodies.now c.loop-index.index _ [] c.loop-index-test.true in
    record {
      merged = merged_more c.args.session.now.session c.args.bodies.now c.loop-index.index c.loop-index-test.true c.loop-index.session.session before.merged c.index-bodies-index.result c.merge_one.new.session.session body c.in_default.ensures.fits c.in_default.ensures.done;
      right = c.merge_one.ensures.right;
      unfed = λ plain. c.merge_one.ensures.unfed (before.unfed plain);
    }
