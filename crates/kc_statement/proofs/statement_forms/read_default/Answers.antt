use Rattle.std.proofs.Common.{rules, refl}
use Rattle.kc_statement.specs.declared.keyword.Keyword.TheVariants as keyword
use Rattle.kc_statement.specs.declared.statement.Statement.TheVariants as statement
use Rattle.kc_statement.specs.Statements.{IsDefault}
use Rattle.kc_statement.proofs.FormOf.{FormOf}
use Rattle.kc_statement.proofs.PartLaws.{part_of, typed_default_of}
use Rattle.kc_statement.proofs.statement_forms.read_default.Goals as goal

pub returns-clause-part : goal.returns-clause-part
unfolding FormOf
returns-clause-part c = λ is.
    let names = c.args.names.now in
    let tokens = c.after_first.result.now in
    part_of names c.args.line.now tokens (search rules) keyword.Default is (IsDefault names tokens) (λ x. statement.Default x) (λ x h. (refl, h)) (λ s h. h) _ c.default_value.ensures.read c.default_value.ensures.mistake

pub returns-clause-typed : goal.returns-clause-typed
returns-clause-typed c = λ kind k word is.
    typed_default_of c.args.names.now c.args.line.now c.after_first.result.now (search rules) kind k word is _ c.default_value.ensures.read c.default_value.ensures.mistake
