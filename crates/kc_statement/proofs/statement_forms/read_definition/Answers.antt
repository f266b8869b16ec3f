use Rattle.std.proofs.Common.{rules, refl}
use Rattle.kc_statement.specs.declared.keyword.Keyword.TheVariants as keyword
use Rattle.kc_statement.specs.declared.statement.Statement.TheVariants as statement
use Rattle.kc_statement.specs.Statements.{HasFormAfter}
use Rattle.kc_statement.proofs.FormOf.{FormOf}
use Rattle.kc_statement.proofs.PartLaws.{part_of}
use Rattle.kc_statement.proofs.statement_forms.read_definition.Goals as goal

pub returns : goal.returns
unfolding FormOf
returns c =
    let names = c.args.names.now in
    let tokens = c.after_first.result.now in
    part_of names c.args.line.now tokens (search rules) keyword.Config c.requires (λ x. HasFormAfter names keyword.Config tokens (statement.Config x)) (λ x. statement.Config x) (λ x h. h) (λ s h. (h.0, (refl, h.1.0, h.1.1, h.1.2, h.1.3, h.1.4), h.2)) _ c.definition.ensures.read c.definition.ensures.mistake
