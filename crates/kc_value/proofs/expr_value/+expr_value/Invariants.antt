use Rattle.std.proofs.Common.{◌≡◌, map, drop}
use Rattle.kc_statement.specs.Tristate.{least, least_of, greatest, greatest_of}
use Rattle.kc_value.specs.Known.{given}
use Rattle.kc_value.specs.ExprValue.{formula_value}
use Rattle.kc_value.proofs.expr_value.+expr_value.Given as goal

abbrev pub invariant-conditions_tri-loop-part : goal.invariant-conditions_tri-loop-part
invariant-conditions_tri-loop-part l =
    let value = formula_value l.known.tree (given l.known) in
    least l.least (least_of (map value (drop l.part-index l.parts))) ≡ least_of (map value l.parts)

abbrev pub invariant-any_tri-loop-part : goal.invariant-any_tri-loop-part
invariant-any_tri-loop-part l =
    let value = formula_value l.known.tree (given l.known) in
    greatest l.greatest (greatest_of (map value (drop l.part-index l.parts))) ≡ greatest_of (map value l.parts)
