use Rattle.std.proofs.Common.{List, ℕ, refl, ap, subst}
use Rattle.kc_statement.specs.LineParts.{SaysOnly}
use Rattle.kc_statement.specs.declared.statement.Statement.TheVariants as statement
use Rattle.kc_outline.proofs.outline.Outline.read_main_menu.Goals as goal

pub returns-clause-added : goal.returns-clause-added
returns-clause-added c = λ nearest block choice owner.
    let says : SaysOnly c.args.self.now.names c.args.line.now statement.MainMenu =
    subst (λ (ns : List (List ℕ)). SaysOnly ns c.args.line.now statement.MainMenu) (ap (λ t. t.names) c.self.view_is) (c.in_ok-title.ensures.main c.requires) in
    record { statement = statement.MainMenu; says = says; fits = refl; few = refl; tree = refl }
