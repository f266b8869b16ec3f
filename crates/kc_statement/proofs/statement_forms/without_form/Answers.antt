use Rattle.std.proofs.Common.{refl, inl, inr}
use Rattle.kc_statement.specs.declared.keyword.Keyword.TheVariants as keyword
use Rattle.kc_statement.proofs.PartLaws.{says_nothing}
use Rattle.kc_statement.proofs.statement_forms.without_form.Goals as goal

pub returns-clause-source : goal.returns-clause-source
returns-clause-source c = λ names is. says_nothing names c.args.line.now keyword.Source is (inl refl)

pub returns-clause-unsupported : goal.returns-clause-unsupported
returns-clause-unsupported c = λ names is. says_nothing names c.args.line.now keyword.Unsupported is (inr refl)
