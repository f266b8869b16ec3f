use Rattle.std.proofs.Common.{sym, ◌∙◌}
use Rattle.kc_value.proofs.ExprLemmas.{complements_even, complements_odd}
use Rattle.kc_value.proofs.expr_value.negated.Goals as goal

pub returns-then-count-eq0 : goal.returns-then-count-eq0
returns-then-count-eq0 c = sym (complements_even c.args.count c.args.value c.if-count-eq0.true)

pub returns-else-count-eq0 : goal.returns-else-count-eq0
returns-else-count-eq0 c = c.complement.ensures ∙ sym (complements_odd c.args.count c.args.value c.if-count-eq0.false)
