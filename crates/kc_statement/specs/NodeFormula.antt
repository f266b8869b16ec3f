-- An expression as it is kept, one level of it: this project's own. A run of `!` is one node, and so is a list.
use Rattle.std.specs.Prelude.{◌≡◌, ◌≤◌, true, length}
use Rattle.std.specs.List.{list_all}
use Rattle.kc_statement.specs.Formula.{Formula, atom, bare, compare, group, all_joined, any_joined, negations, is_plain, is_factor, is_part}
use Rattle.kc_statement.specs.declared.expr.ExprNode.{ExprNode}
use Rattle.kc_statement.specs.declared.expr.ExprNode.TheVariants.{Term, BareModule, Compare, Not, Group, All, Any}

abbrev pub node_formula : ExprNode → Formula
node_formula (Term x) = atom x
node_formula (BareModule x) = bare x
node_formula (Compare c o) = compare c o.value.left o.value.right
node_formula (Not n e) = negations n e.value
node_formula (Group e) = group e.value
node_formula (All es) = all_joined es.items
node_formula (Any es) = any_joined es.items

-- after a run of `!` comes no `!`; a list has two or more, and none of its own kind
abbrev pub IsKept : ExprNode → Type 0
IsKept (Not n e) = (1 ≤ n) × (is_plain e.value ≡ true)
IsKept (All es) = (2 ≤ length es.items) × (list_all is_factor es.items ≡ true)
IsKept (Any es) = (2 ≤ length es.items) × (list_all is_part es.items ≡ true)
IsKept _ = Unit {0}
