use Rattle.std.proofs.Common.{rules, sym, ◌∙◌}
use Rattle.kc_statement.proofs.PartLaws.{type_where}
use Rattle.kc_statement.proofs.statement_forms.stands_alone.Goals as goal

pub returns-clause-kind : goal.returns-clause-kind
returns-clause-kind c = λ names kind is alone. type_where names c.args.line.now c.after_first.result.now (search rules) kind is (sym c.is_empty.ensures ∙ alone)
