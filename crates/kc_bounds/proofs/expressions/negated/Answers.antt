use Rattle.std.proofs.Common.{sym, subst}
use Rattle.kc_bounds.specs.TriSets.{IsIn}
use Rattle.kc_bounds.proofs.ExprLemmas.{complements_even, complements_odd}
use Rattle.kc_bounds.proofs.expressions.negated.Goals as goal

pub returns-then-count-eq0 : goal.returns-then-count-eq0
returns-then-count-eq0 c = λ v h. subst (IsIn c.args.set) (sym (complements_even c.args.count v c.if-count-eq0.true)) h

pub returns-else-count-eq0 : goal.returns-else-count-eq0
returns-else-count-eq0 c = λ v h. subst (IsIn c.complement.result) (sym (complements_odd c.args.count v c.if-count-eq0.false)) (c.complement.ensures v h)
