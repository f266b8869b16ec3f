use Rattle.std.proofs.Common.{◌≡◌, ◌∙◌, subst}
use Rattle.std.specs.Result.{IfOk}
use Rattle.kc_outline.specs.TreeValue.{TreeValue}
use Rattle.kc_value.specs.Without.{value_without}
use Rattle.kc_value.proofs.AskedLemmas.{known_right}
use Rattle.kc_value.proofs.without.without_user.Goals as goal

pub returns-in_err-used-clause-solved : goal.returns-in_err-used-clause-solved
returns-in_err-used-clause-solved g c = c.values_of_used.ensures.solved (g.R.Resolver.user_of c.args.resolver.now)

pub returns-clause-value : goal.returns-clause-value
returns-clause-value g c =
    let t = g.R.Resolver.tree_of c.args.resolver.now in
    let u = g.R.Resolver.user_of c.args.resolver.now in
    let n = c.args.node in
    let k = c.of_nodes.result in
    let tree : k.tree ≡ t = c.of_nodes.ensures.tree ∙ c.tree.ensures ∙ c.values_of_used.ensures.tree in
    let right = known_right t u k c.in_ok-used.used n tree c.of_nodes.ensures.values c.in_ok-used.ensures.values in
    subst (λ (x : TreeValue). IfOk c.value_without.result (λ v. v ≡ value_without x u n)) tree (c.value_without.ensures u right)

pub returns-clause-solved : goal.returns-clause-solved
returns-clause-solved g c = c.values_of_used.ensures.solved (g.R.Resolver.user_of c.args.resolver.now)
