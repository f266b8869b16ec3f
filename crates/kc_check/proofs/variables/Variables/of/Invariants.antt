use Rattle.std.proofs.Common.{take}
use Rattle.std.specs.List.{AllZip}
use Rattle.kc_check.specs.CheckReport.{IsFileOf}
use Rattle.kc_check.proofs.variables.Variables.of.Given as goal

-- those of the files so far
abbrev pub invariant-loop-source : goal.invariant-loop-source
invariant-loop-source l = AllZip IsFileOf (take l.source-index l.sources) l.files.items
