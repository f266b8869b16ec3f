use Rattle.std.proofs.Common.{◌≡◌, ◌++◌, drop}
use Rattle.std.specs.List.{flat_map}
use Rattle.kc_lines.specs.declared.parts.Attribute.TheVariants.{Range}
use Rattle.kc_facts.specs.TreeFindings.{range_found}
use Rattle.kc_facts.proofs.tree_findings.add_ranges.Given as goal

-- with those that are left they are all
abbrev pub invariant-loop-one : goal.invariant-loop-one
invariant-loop-one l = record {
  all : l.found.items ++ flat_map (range_found l.index) (drop l.one-index l.ranges) ≡ l.initial.found.items ++ flat_map (range_found l.index) l.ranges;
  lines : l.lines.lines ≡ l.index;
  attribute : l.lines.attribute ≡ Range;
}
