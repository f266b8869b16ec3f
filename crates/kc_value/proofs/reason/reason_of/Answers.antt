use Rattle.std.proofs.Common.{◌≡◌, List, Option, sym, ◌∙◌, subst}
use Rattle.kc_tree.specs.declared.node.Node.{Node}
use Rattle.kc_tree.specs.declared.node.Node.TheVariants.{Val}
use Rattle.kc_tree.specs.Uses.{Uses}
use Rattle.kc_value.specs.declared.value.Value.{Value}
use Rattle.kc_value.specs.Assignment.{assignment_of}
use Rattle.kc_value.specs.Solution.{solution}
use Rattle.kc_value.proofs.ReasonLaws.{only_reason, gives_solved, used_reason}
use Rattle.kc_value.proofs.reason.reason_of.Goals as goal

pub returns-clause-reason : goal.returns-clause-reason
returns-clause-reason g c =
    let t = g.R.Resolver.tree_of c.args.resolver.now in
    let u = g.R.Resolver.user_of c.args.resolver.now in
    let k = c.of_nodes-known.result in
    let tree : k.tree ≡ t = c.of_nodes-known.ensures.tree ∙ c.tree.ensures ∙ c.values_of_used.ensures.tree in
    let user : c.user.result.now ≡ u = c.user.ensures.user ∙ c.values_of_used.ensures.user in
    let right : (n : Node) → Uses t (Val c.args.symbol) n → assignment_of t k.values n ≡ solution t u n =
    subst (λ (vs : List (Option Value)). (n : Node) → Uses t (Val c.args.symbol) n → assignment_of t vs n ≡ solution t u n) (sym c.of_nodes-known.ensures.values) c.in_ok-used.ensures.values
    in
    used_reason t k.tree u c.user.result.now c.args.symbol k.values c.reason_among.result tree user right c.reason_among.ensures.reason

pub returns-clause-only : goal.returns-clause-only
returns-clause-only g c =
    let t = g.R.Resolver.tree_of c.args.resolver.now in
    let u = g.R.Resolver.user_of c.args.resolver.now in
    λ other is. only_reason t u (solution t u) c.args.symbol other c.reason_among.result is (returns-clause-reason g c)

pub returns-clause-gives : goal.returns-clause-gives
returns-clause-gives g c =
    let t = g.R.Resolver.tree_of c.args.resolver.now in
    let u = g.R.Resolver.user_of c.args.resolver.now in
    gives_solved t u (solution t u) c.args.symbol c.reason_among.result ((c.values_of_used.ensures.solved u).solves) c.requires (returns-clause-reason g c)
