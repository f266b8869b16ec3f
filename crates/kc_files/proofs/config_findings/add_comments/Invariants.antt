use Rattle.std.proofs.Common.{◌≡◌, ◌++◌, drop, map}
use Rattle.kc_files.specs.ConfigFindings.{comment_found}
use Rattle.kc_files.proofs.config_findings.add_comments.Given as goal

-- with those that are left they are all
abbrev pub invariant-loop-one : goal.invariant-loop-one
invariant-loop-one l = l.found.items ++ map comment_found (drop l.one-index l.comments) ≡ l.initial.found.items ++ map comment_found l.comments
