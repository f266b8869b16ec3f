use Rattle.std.proofs.Common.{◌≡◌, take}
use Rattle.kc_statement.specs.Names.{names_of}
use Rattle.kc_statement.proofs.name.read_names.Given as goal

abbrev pub invariant-loop-line : goal.invariant-loop-line
invariant-loop-line l = l.names ≡ names_of (take l.line-index l.lines)
