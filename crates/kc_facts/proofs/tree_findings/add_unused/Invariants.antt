use Rattle.std.proofs.Common.{◌≡◌, ◌++◌, drop}
use Rattle.std.specs.List.{flat_map}
use Rattle.kc_lines.specs.declared.parts.Attribute.TheVariants.{Default}
use Rattle.kc_facts.specs.TreeFindings.{unused_found}
use Rattle.kc_facts.proofs.tree_findings.add_unused.Given as goal

-- with those that are left they are all
abbrev pub invariant-loop-one : goal.invariant-loop-one
invariant-loop-one l = record {
  all : l.found.items ++ flat_map (unused_found l.index) (drop l.one-index l.unused) ≡ l.initial.found.items ++ flat_map (unused_found l.index) l.unused;
  lines : l.lines.lines ≡ l.index;
  attribute : l.lines.attribute ≡ Default;
}
