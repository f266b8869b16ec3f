use Rattle.std.proofs.Common.{List, ℕ, refl, ap, subst}
use Rattle.kc_statement.specs.LineParts.{SaysOnly}
use Rattle.kc_statement.specs.declared.statement.Statement.TheVariants as statement
use Rattle.kc_outline.proofs.outline.Outline.read_if.Goals as goal

pub returns-then-is_too_deep-clause-stop : goal.returns-then-is_too_deep-clause-stop
returns-then-is_too_deep-clause-stop c = λ nearest.
    let says : SaysOnly c.args.self.now.names c.args.line.now (statement.If c.in_ok-condition.condition) =
    subst (λ (ns : List (List ℕ)). SaysOnly ns c.args.line.now (statement.If c.in_ok-condition.condition)) (ap (λ t. t.names) c.self.view_is) (c.in_ok-condition.ensures) in
    ((refl, statement.If c.in_ok-condition.condition, says, refl, rw c.if-is_too_deep.true refl), refl)
