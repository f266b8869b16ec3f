use Rattle.std.proofs.Common.{◌≡◌, ◌++◌, drop}
use Rattle.std.specs.String.{string_bytes}
use Rattle.kc_check.specs.ReportLines.{lines_text}
use Rattle.kc_check.proofs.finding.push_lines.Given as goal

-- with those that are left they are all
abbrev pub invariant-loop-finding : goal.invariant-loop-finding
invariant-loop-finding l =
    string_bytes l.text ++ lines_text (drop l.finding-index l.findings) ≡ string_bytes l.initial.text ++ lines_text l.findings
