use Rattle.std.proofs.Common.{arith}
use Rattle.std.proofs.lemmas.Grind.{common_steps}
use Rattle.kc_value.specs.Known.{given}
use Rattle.kc_value.specs.Factors.{choice_condition_at}
use Rattle.kc_value.proofs.FactorLists.{least_judged_of}
use Rattle.kc_value.proofs.factors.choice_factors.Goals as goal

pub returns-clause-value : goal.returns-clause-value
returns-clause-value c =
    let t = c.args.known.now.tree in
    least_judged_of t (given c.args.known.now) (choice_condition_at t c.args.choice) c.add_choice_prompt.new.factors.items (grind (arith, common_steps))
