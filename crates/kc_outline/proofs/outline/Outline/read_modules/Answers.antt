use Rattle.std.proofs.Common.{rules, refl}
use Rattle.kc_statement.specs.declared.keyword.Keyword.TheVariants as keyword
use Rattle.kc_statement.specs.declared.statement.Statement.TheVariants as statement
use Rattle.kc_outline.proofs.outline.Outline.read_modules.Goals as goal

pub returns-in-Some-clause-added : goal.returns-in-Some-clause-added
returns-in-Some-clause-added c =
    let says = c.in_ok-read_alone.ensures c.args.self.now.names keyword.Modules statement.Modules c.requires refl in
    search (rules, says)

pub returns-in_default-clause-added : goal.returns-in_default-clause-added
returns-in_default-clause-added c =
    let says = c.in_ok-read_alone.ensures c.args.self.now.names keyword.Modules statement.Modules c.requires refl in
    search (rules, says)

pub returns-in_err-read_alone-clause-stop : goal.returns-in_err-read_alone-clause-stop
returns-in_err-read_alone-clause-stop c = λ nearest.
    let none = c.in_err-read_alone.ensures c.args.self.now.names keyword.Modules statement.Modules c.requires refl in
    search (rules, none)
