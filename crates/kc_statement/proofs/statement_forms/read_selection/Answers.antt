use Rattle.std.proofs.Common.{rules, refl}
use Rattle.kc_statement.specs.declared.keyword.Keyword.TheVariants as keyword
use Rattle.kc_statement.specs.declared.statement.Statement.TheVariants as statement
use Rattle.kc_statement.proofs.FormOf.{Selects, FormOf}
use Rattle.kc_statement.proofs.PartLaws.{part_of}
use Rattle.kc_statement.proofs.statement_forms.read_selection.Goals as goal

pub returns-clause-select : goal.returns-clause-select
unfolding FormOf
returns-clause-select c = λ is.
    let names = c.args.names.now in
    let tokens = c.after_first.result.now in
    part_of names c.args.line.now tokens (search rules) keyword.Select is (Selects names tokens) (λ x. statement.Select x.0 x.1) (λ x h. (refl, h)) (λ s h. h) _ c.selection.ensures.read c.selection.ensures.mistake

pub returns-clause-imply : goal.returns-clause-imply
unfolding FormOf
returns-clause-imply c = λ is.
    let names = c.args.names.now in
    let tokens = c.after_first.result.now in
    part_of names c.args.line.now tokens (search rules) keyword.Imply is (Selects names tokens) (λ x. statement.Imply x.0 x.1) (λ x h. (refl, h)) (λ s h. h) _ c.selection.ensures.read c.selection.ensures.mistake
