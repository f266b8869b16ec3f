use Rattle.std.proofs.Common.{◌≡◌, ◌++◌, drop, map}
use Rattle.std.specs.String.{string_bytes}
use Rattle.kc_text.specs.LineReferences.{lent_names}
use Rattle.kc_check.proofs.said_findings.lent.Given as goal

-- with those that are left they are all
abbrev pub invariant-loop-line : goal.invariant-loop-line
invariant-loop-line l = lent_names l.names.items ++ map string_bytes (drop l.line-index l.lines) ≡ map string_bytes l.lines
