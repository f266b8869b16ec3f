use Rattle.std.proofs.Common.{rules, refl}
use Rattle.kc_statement.specs.declared.keyword.Keyword.TheVariants as keyword
use Rattle.kc_statement.specs.declared.statement.Statement.TheVariants as statement
use Rattle.kc_outline.proofs.outline.statements.read_end_if.Goals as goal

pub returns-clause-added : goal.returns-clause-added
returns-clause-added c = λ tree nearest block choice owner.
    let says = c.in_ok-read_alone.ensures tree.names keyword.EndIf statement.EndIf c.requires refl in
    record { statement = statement.EndIf; says = says; fits = refl; few = refl; tree = refl }

pub returns-in_err-read_alone-clause-stop : goal.returns-in_err-read_alone-clause-stop
returns-in_err-read_alone-clause-stop c = λ tree nearest deep.
    let none = c.in_err-read_alone.ensures tree.names keyword.EndIf statement.EndIf c.requires refl in
    search (rules, none)
