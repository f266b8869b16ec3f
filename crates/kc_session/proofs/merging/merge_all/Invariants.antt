use Rattle.std.proofs.Common.{take}
use Rattle.kc_files.specs.DefaultLoading.{HasNoFeeds}
use Rattle.kc_session.specs.Keeping.{KeepsRight}
use Rattle.kc_session.specs.MergedBodies.{AreMerged}
use Rattle.kc_session.proofs.merging.merge_all.Given as goal

-- the bodies before the index were merged
abbrev pub invariant-loop-index : goal.invariant-loop-index
invariant-loop-index l = record {
  merged : AreMerged l.fn.session.session (take l.index l.bodies) l.session.session;
  right : KeepsRight l.session;
  unfed : HasNoFeeds l.fn.session.session.user → HasNoFeeds l.session.session.user;
}
