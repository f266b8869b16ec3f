use Rattle.std.proofs.Common.{◌≡◌, ◌++◌, drop, map}
use Rattle.kc_line_facts.specs.ListedNames.{line_of}
use Rattle.kc_line_facts.proofs.listed_names.lines_of.Given as goal

-- with those of the names that are left they are all
abbrev pub invariant-loop-name : goal.invariant-loop-name
invariant-loop-name l = l.lines.items ++ map line_of (drop l.name-index l.listed) ≡ map line_of l.listed
