use Rattle.std.proofs.Common.{◌≡◌, [], ◌∷◌, unwrap_or, refl, sym, ap, ◌∙◌, subst}
use Rattle.std.proofs.lemmas.Iterator.{items_from_collect}
use Rattle.std.proofs.lemmas.Iterator.Consumers.{YieldsList-from_first}
use Rattle.std.proofs.lemmas.Result.{IfOk-weaker}
use Rattle.std.specs.List.{Contains}
use Rattle.kc_statement.specs.declared.tri.Tri.TheVariants.{No}
use Rattle.kc_outline.specs.TreeValue.{TreeValue}
use Rattle.kc_tree.specs.declared.node.Node.{Node}
use Rattle.kc_tree.specs.Nodes.{IsNodeOf}
use Rattle.kc_tree.specs.Uses.{Uses}
use Rattle.kc_value.specs.declared.value.Value.TheVariants.{Tri as Level}
use Rattle.kc_value.specs.Assignment.{assignment_of}
use Rattle.kc_value.specs.NodeLists.{AreValuesOf}
use Rattle.kc_value.specs.Solution.{solution, IsOnlySolution}
use Rattle.kc_value.proofs.AskedLemmas.{listed, used_reached}
use Rattle.kc_value.proofs.SolutionLaws.{one_solution}
use Rattle.kc_value.proofs.asked_values.values_of_used.Goals as goal

pub returns-in_err-nodes-clause-solved : goal.returns-in_err-nodes-clause-solved
returns-in_err-nodes-clause-solved g c u =
    subst (λ (t : TreeValue). IsOnlySolution t u (solution t u)) c.tree.ensures (one_solution c.tree.result.now u c.uses.ensures.accepted)

pub values_of-requires : goal.values_of-requires
values_of-requires g c n asked =
    let t = g.R.Resolver.tree_of c.args.resolver.now in
    let items : c.as_slice.result.now ≡ c.uses.result =
    c.as_slice.ensures.value ∙ listed c.collect.result c.in_ok-nodes.nodes c.in_ok-nodes.was (items_from_collect _ c.collect.ensures.ran (YieldsList-from_first (λ x. x) (λ s. s) c.uses.result refl))
    in
    let used : Uses c.tree.result.now c.args.node n = (c.uses.ensures.exact n).0 (subst (λ ns. Contains ns n) items asked) in
    let inside : IsNodeOf c.tree.result.now c.args.node = subst (λ (x : TreeValue). IsNodeOf x c.args.node) (sym c.tree.ensures) c.requires in
    subst (λ (x : TreeValue). IsNodeOf x n) c.tree.ensures (c.uses.ensures.accepted.within c.args.node n inside used)

pub returns-clause-values : goal.returns-clause-values
returns-clause-values g c =
    let t = g.R.Resolver.tree_of c.args.resolver.now in
    let u = g.R.Resolver.user_of c.args.resolver.now in
    let m = c.args.node in
    let items : c.as_slice.result.now ≡ c.uses.result =
    c.as_slice.ensures.value ∙ listed c.collect.result c.in_ok-nodes.nodes c.in_ok-nodes.was (items_from_collect _ c.collect.ensures.ran (YieldsList-from_first (λ x. x) (λ s. s) c.uses.result refl))
    in
    IfOk-weaker c.values_of.result (λ v. AreValuesOf t (solution t u) c.as_slice.result.now v) (λ v. (n : Node) → Uses t m n → assignment_of t v n ≡ solution t u n)
    (λ v are n used.
    let listed : Contains c.uses.result n = (c.uses.ensures.exact n).1 (subst (λ (x : TreeValue). Uses x m n) (sym c.tree.ensures) used) in
    ap (λ o. unwrap_or o (Level No)) (are n (subst (λ ns. Contains ns n) (sym items) listed)))
    c.values_of.ensures.values

pub returns-clause-grew : goal.returns-clause-grew
returns-clause-grew g c =
    let t = g.R.Resolver.tree_of c.args.resolver.now in
    let m = c.args.node in
    let items : c.as_slice.result.now ≡ c.uses.result =
    c.as_slice.ensures.value ∙ listed c.collect.result c.in_ok-nodes.nodes c.in_ok-nodes.was (items_from_collect _ c.collect.ensures.ran (YieldsList-from_first (λ x. x) (λ s. s) c.uses.result refl))
    in
    g.met.R.Resolver.grew_wider c.args.resolver.now c.values_of.new.self c.as_slice.result.now (m ∷ [])
    (used_reached t m c.as_slice.result.now (λ n asked. subst (λ (x : TreeValue). Uses x m n) c.tree.ensures ((c.uses.ensures.exact n).0 (subst (λ ns. Contains ns n) items asked))))
    c.values_of.ensures.grew
