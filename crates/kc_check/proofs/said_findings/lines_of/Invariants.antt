use Rattle.std.proofs.Common.{◌≡◌, ◌++◌, drop, map}
use Rattle.std.specs.String.{string_bytes}
use Rattle.kc_check.specs.ReportLines.{line_text}
use Rattle.kc_check.proofs.said_findings.lines_of.Given as goal

-- with those that are left they are all
abbrev pub invariant-loop-finding : goal.invariant-loop-finding
invariant-loop-finding l =
    map string_bytes l.lines.items ++ map line_text (drop l.finding-index l.findings) ≡ map line_text l.findings
