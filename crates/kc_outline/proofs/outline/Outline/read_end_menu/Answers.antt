use Rattle.std.proofs.Common.{rules, refl}
use Rattle.kc_statement.specs.declared.keyword.Keyword.TheVariants as keyword
use Rattle.kc_statement.specs.declared.statement.Statement.TheVariants as statement
use Rattle.kc_outline.proofs.outline.Outline.read_end_menu.Goals as goal

pub returns-clause-added : goal.returns-clause-added
returns-clause-added c = λ nearest choice owner.
    let says = c.in_ok-read_alone.ensures c.args.self.now.names keyword.EndMenu statement.EndMenu c.requires refl in
    record { statement = statement.EndMenu; says = says; fits = refl; few = refl; tree = c.in_ok-add_end_menu.ensures }

pub returns-in_err-read_alone-clause-stop : goal.returns-in_err-read_alone-clause-stop
returns-in_err-read_alone-clause-stop c = λ nearest deep.
    let none = c.in_err-read_alone.ensures c.args.self.now.names keyword.EndMenu statement.EndMenu c.requires refl in
    search (rules, none)
