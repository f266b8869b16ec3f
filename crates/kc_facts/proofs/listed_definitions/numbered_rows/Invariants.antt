use Rattle.std.proofs.Common.{◌≡◌, ◌++◌, drop, map}
use Rattle.std.specs.Prelude.{All}
use Rattle.kc_value.specs.Assignment.{assignment_of}
use Rattle.kc_facts.specs.declared.listed_definitions.DefinitionRow.{DefinitionRow}
use Rattle.kc_facts.specs.WhyRows.{IsDefinitionRow}
use Rattle.kc_facts.proofs.listed_definitions.numbered_rows.Given as goal

-- the rows so far are those of the numbers before
abbrev pub invariant-loop-number : goal.invariant-loop-number
invariant-loop-number l = record {
  all : map (λ (r : DefinitionRow). r.number) l.rows.items ++ drop l.number-index l.numbers ≡ l.numbers;
  each : All (IsDefinitionRow l.view.tree (assignment_of l.view.tree l.view.values) l.index) l.rows.items;
}
