use Rattle.std.proofs.Common.{take}
use Rattle.std.specs.Prelude.{All}
use Rattle.kc_value.specs.Kept.{AreKept}
use Rattle.kc_value.specs.Solution.{solution}
use Rattle.kc_files.specs.Effects.{HasEffect}
use Rattle.kc_how.proofs.question.first_lacking.Given as goal

-- the wanted symbols so far have their values
abbrev pub invariant-loop-index : goal.invariant-loop-index
invariant-loop-index l = record {
  kept : AreKept l.tree l.user l.kept.values;
  given : All (HasEffect (solution l.tree l.user)) (take l.index l.wanted);
}
