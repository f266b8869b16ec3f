use Rattle.std.proofs.Common.{map, take}
use Rattle.kc_statement.specs.Tristate.{greatest_of, least_of}
use Rattle.kc_value.specs.ExprValue.{formula_value}
use Rattle.kc_bounds.specs.Bounds.{CoversIn}
use Rattle.kc_bounds.proofs.expressions.+expressions.Given as goal

abbrev pub invariant-conditions_set-loop-part : goal.invariant-conditions_set-loop-part
invariant-conditions_set-loop-part l =
    CoversIn l.bounds.tree l.bounds.modules l.least (λ a. least_of (map (formula_value l.bounds.tree a) (take l.part-index l.parts)))

abbrev pub invariant-any_set-loop-part : goal.invariant-any_set-loop-part
invariant-any_set-loop-part l =
    CoversIn l.bounds.tree l.bounds.modules l.greatest (λ a. greatest_of (map (formula_value l.bounds.tree a) (take l.part-index l.parts)))
