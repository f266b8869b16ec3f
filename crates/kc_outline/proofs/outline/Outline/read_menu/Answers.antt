use Rattle.std.proofs.Common.{List, ℕ, refl, ap, subst}
use Rattle.kc_statement.specs.LineParts.{SaysOnly}
use Rattle.kc_statement.specs.declared.statement.Statement.TheVariants as statement
use Rattle.kc_outline.proofs.outline.Outline.read_menu.Goals as goal

pub returns-then-is_too_deep-clause-stop : goal.returns-then-is_too_deep-clause-stop
returns-then-is_too_deep-clause-stop c = λ nearest.
    let says : SaysOnly c.args.self.now.names c.args.line.now (statement.Menu c.in_ok-title.title) =
    subst (λ (ns : List (List ℕ)). SaysOnly ns c.args.line.now (statement.Menu c.in_ok-title.title)) (ap (λ t. t.names) c.self.view_is) (c.in_ok-title.ensures.menu c.requires) in
    ((refl, statement.Menu c.in_ok-title.title, says, refl, rw c.if-is_too_deep.true refl), refl)
