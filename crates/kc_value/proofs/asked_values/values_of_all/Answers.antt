use Rattle.std.proofs.Common.{◌≡◌, refl, sym, ap, ◌∙◌, subst}
use Rattle.std.proofs.lemmas.Iterator.{items_from_collect}
use Rattle.std.proofs.lemmas.Iterator.Consumers.{YieldsList-from_first}
use Rattle.std.proofs.lemmas.Result.{IfOk-weaker}
use Rattle.kc_outline.specs.TreeValue.{TreeValue}
use Rattle.kc_tree.specs.Nodes.{all_nodes}
use Rattle.kc_value.specs.NodeLists.{AreNodesOf, AreValuesOf}
use Rattle.kc_value.specs.Solution.{solution, IsOnlySolution, AreSolved}
use Rattle.kc_value.proofs.AskedLemmas.{listed, all_inside, all_solved}
use Rattle.kc_value.proofs.SolutionLaws.{one_solution}
use Rattle.kc_value.proofs.asked_values.values_of_all.Goals as goal

pub returns-in_err-nodes-clause-solved : goal.returns-in_err-nodes-clause-solved
returns-in_err-nodes-clause-solved g c u =
    subst (λ (t : TreeValue). IsOnlySolution t u (solution t u)) c.tree.ensures (one_solution c.tree.result.now u c.nodes.ensures.accepted)

pub values_of-requires : goal.values_of-requires
values_of-requires g c =
    let t = g.R.Resolver.tree_of c.args.resolver.now in
    let items : c.as_slice.result.now ≡ all_nodes t =
    c.as_slice.ensures.value ∙ listed c.collect.result c.in_ok-nodes.nodes c.in_ok-nodes.was (items_from_collect _ c.collect.ensures.ran (YieldsList-from_first (λ x. x) (λ s. s) c.nodes.result refl)) ∙ c.nodes.ensures.nodes ∙ ap all_nodes c.tree.ensures
    in
    subst (AreNodesOf t) (sym items) (all_inside t)

pub returns-clause-values : goal.returns-clause-values
returns-clause-values g c =
    let t = g.R.Resolver.tree_of c.args.resolver.now in
    let u = g.R.Resolver.user_of c.args.resolver.now in
    let items : c.as_slice.result.now ≡ all_nodes t =
    c.as_slice.ensures.value ∙ listed c.collect.result c.in_ok-nodes.nodes c.in_ok-nodes.was (items_from_collect _ c.collect.ensures.ran (YieldsList-from_first (λ x. x) (λ s. s) c.nodes.result refl)) ∙ c.nodes.ensures.nodes ∙ ap all_nodes c.tree.ensures
    in
    IfOk-weaker c.values_of.result (λ v. AreValuesOf t (solution t u) c.as_slice.result.now v) (AreSolved t u)
    (λ v are. all_solved t u v (subst (λ nodes. AreValuesOf t (solution t u) nodes v) items are)) c.values_of.ensures.values
