use Rattle.std.proofs.Common.{rules, refl}
use Rattle.kc_statement.specs.declared.keyword.Keyword.TheVariants as keyword
use Rattle.kc_statement.specs.declared.statement.Statement.TheVariants as statement
use Rattle.kc_outline.proofs.outline.Outline.read_choice.Goals as goal

pub returns-clause-added : goal.returns-clause-added
returns-clause-added c = λ nearest choice.
    let says = c.in_ok-read_alone.ensures c.args.self.now.names keyword.Choice statement.Choice c.requires refl in
    record { statement = statement.Choice; says = says; fits = refl; few = refl; tree = c.in_ok-add_choice.ensures }

pub returns-in_err-read_alone-clause-stop : goal.returns-in_err-read_alone-clause-stop
returns-in_err-read_alone-clause-stop c = λ nearest.
    let none = c.in_err-read_alone.ensures c.args.self.now.names keyword.Choice statement.Choice c.requires refl in
    search (rules, none)

pub returns-then-is_too_deep-clause-stop : goal.returns-then-is_too_deep-clause-stop
returns-then-is_too_deep-clause-stop c = λ nearest.
    let says = c.in_ok-read_alone.ensures c.args.self.now.names keyword.Choice statement.Choice c.requires refl in
    ((refl, statement.Choice, says, refl, rw c.if-is_too_deep.true refl), refl)
