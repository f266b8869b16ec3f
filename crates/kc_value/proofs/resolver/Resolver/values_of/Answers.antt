use Rattle.std.proofs.Common.{◌≡◌, ◌+◌, ◌<◌, [], ◌∷◌, ◌++◌, Some, length, get_or, slice_set, take, refl, sym, ap, ◌∙◌, subst, arith}
use Rattle.std.proofs.lemmas.List.{length-replicate, length-set, take_more}
use Rattle.kc_outline.specs.TreeValue.{TreeValue}
use Rattle.kc_tree.specs.declared.node.Node.TheVariants.{Vis}
use Rattle.kc_tree.specs.Nodes.{AreNumbered, IsNodeOf, node_count, number_of}
use Rattle.kc_value.specs.NodeLists.{AreValuesOf}
use Rattle.kc_value.specs.Solution.{solution, IsOnlySolution}
use Rattle.kc_value.proofs.AskedLemmas.{all_first, next_copied, next_inside, next_reached, none_copied, none_reached}
use Rattle.kc_value.proofs.SolutionLaws.{one_solution}
use Rattle.kc_value.proofs.resolver.Resolver.values_of.Goals as goal

-- ---- the tree has one solution
pub returns-in_err-values-clause-solved : goal.returns-in_err-values-clause-solved
returns-in_err-values-clause-solved g c u =
    subst (λ (t : TreeValue). IsOnlySolution t u (solution t u)) c.tree.ensures (one_solution c.tree.result.now u c.node_count.ensures.accepted)

pub returns-in_err-node-clause-solved : goal.returns-in_err-node-clause-solved
returns-in_err-node-clause-solved g c u =
    subst (λ (t : TreeValue). IsOnlySolution t u (solution t u)) c.tree.ensures (one_solution c.tree.result.now u c.node_count.ensures.accepted)

pub returns-in_err-value-clause-solved : goal.returns-in_err-value-clause-solved
returns-in_err-value-clause-solved g c u =
    subst (λ (t : TreeValue). IsOnlySolution t u (solution t u)) c.tree.ensures (one_solution c.tree.result.now u c.node_count.ensures.accepted)

pub returns-in_err-put-clause-solved : goal.returns-in_err-put-clause-solved
returns-in_err-put-clause-solved g c u =
    subst (λ (t : TreeValue). IsOnlySolution t u (solution t u)) c.tree.ensures (one_solution c.tree.result.now u c.node_count.ensures.accepted)

pub returns-clause-solved : goal.returns-clause-solved
returns-clause-solved g c u =
    subst (λ (t : TreeValue). IsOnlySolution t u (solution t u)) c.tree.ensures (one_solution c.tree.result.now u c.node_count.ensures.accepted)

-- ---- what was asked
pub returns-in_err-values-clause-grew : goal.returns-in_err-values-clause-grew
returns-in_err-values-clause-grew g c =
    let r = c.args.self.now in
    g.met.Self.Resolver.grew_wider r r [] c.args.nodes.now (none_reached (g.Self.Resolver.tree_of r) c.args.nodes.now) (g.met.Self.Resolver.grew_nothing r)

pub returns-in_err-node-clause-grew : goal.returns-in_err-node-clause-grew
returns-in_err-node-clause-grew g c =
    let r = c.args.self.now in
    let nodes = c.args.nodes.now in
    let i = c.loop-node.node-index in
    let next = get_or nodes i (Vis (record { 0 = 0 })) in
    g.met.Self.Resolver.grew_wider r _ (take i nodes ++ next ∷ []) nodes (next_reached (g.Self.Resolver.tree_of r) nodes i c.loop-node-test.true (Vis (record { 0 = 0 })))
    (g.met.Self.Resolver.grew_then r c.loop-node.self _ (take i nodes) (next ∷ []) c.loop-node.invariant.grew c.node.follows.holds-at-none.2)

pub returns-in_err-value-clause-grew : goal.returns-in_err-value-clause-grew
returns-in_err-value-clause-grew g c =
    let r = c.args.self.now in
    let nodes = c.args.nodes.now in
    let i = c.loop-node.node-index in
    let next = get_or nodes i (Vis (record { 0 = 0 })) in
    g.met.Self.Resolver.grew_wider r _ (take i nodes ++ next ∷ []) nodes (next_reached (g.Self.Resolver.tree_of r) nodes i c.loop-node-test.true (Vis (record { 0 = 0 })))
    (g.met.Self.Resolver.grew_then r c.loop-node.self _ (take i nodes) (next ∷ []) c.loop-node.invariant.grew c.node.follows.holds-at-none.2)

pub returns-in_err-put-clause-grew : goal.returns-in_err-put-clause-grew
returns-in_err-put-clause-grew g c =
    let r = c.args.self.now in
    let nodes = c.args.nodes.now in
    let i = c.loop-node.node-index in
    let next = get_or nodes i (Vis (record { 0 = 0 })) in
    g.met.Self.Resolver.grew_wider r _ (take i nodes ++ next ∷ []) nodes (next_reached (g.Self.Resolver.tree_of r) nodes i c.loop-node-test.true (Vis (record { 0 = 0 })))
    (g.met.Self.Resolver.grew_then r c.loop-node.self _ (take i nodes) (next ∷ []) c.loop-node.invariant.grew c.node.follows.holds-at-none.2)

pub returns-clause-grew : goal.returns-clause-grew
returns-clause-grew g c =
    subst (λ nodes. g.Self.Resolver.grew c.args.self.now c.loop-node.self nodes) (all_first (g.Self.Resolver.tree_of c.args.self.now) c.args.nodes.now c.loop-node.node-index c.loop-node-test.false)
    c.loop-node.invariant.grew

-- ---- one more node
pub loop-node-init : goal.loop-node-init
loop-node-init g c =
    let r = c.args.self.now in
    record {
      tree = refl;
      user = refl;
      grew = g.met.Self.Resolver.grew_nothing r;
      sized = ap length c.in_ok-values.ensures ∙ length-replicate _ _ ∙ c.node_count.ensures.count ∙ ap node_count c.tree.ensures;
      values = none_copied (g.Self.Resolver.tree_of r) _ _;
    }

pub node-requires : goal.node-requires
node-requires g c =
    let nodes = c.args.nodes.now in
    let i = c.loop-node.node-index in
    let d = Vis (record { 0 = 0 }) in
    subst (λ (t : TreeValue). IsNodeOf t (get_or nodes i d)) (sym c.loop-node.invariant.tree)
    (next_inside (g.Self.Resolver.tree_of c.args.self.now) nodes i c.loop-node-test.true d c.requires)

pub put-requires : goal.put-requires
put-requires g c =
    let t = g.Self.Resolver.tree_of c.args.self.now in
    let nodes = c.args.nodes.now in
    let i = c.loop-node.node-index in
    let d = Vis (record { 0 = 0 }) in
    let same : c.tree-in-loop-node.result.now ≡ t = c.tree-in-loop-node.ensures ∙ c.node.follows.holds-at-none.0 ∙ c.loop-node.invariant.tree in
    let numbered : AreNumbered t = subst AreNumbered same c.number.ensures.numbered in
    let number : c.number.result ≡ number_of t (get_or nodes i d) = c.number.ensures.number ∙ ap (λ (x : TreeValue). number_of x (get_or nodes i d)) same in
    let below = numbered.below (get_or nodes i d) (next_inside t nodes i c.loop-node-test.true d c.requires) in
    omega (arith, number, below, c.loop-node.invariant.sized)

pub loop-node-preserved : goal.loop-node-preserved
loop-node-preserved g c =
    let r = c.args.self.now in
    let t = g.Self.Resolver.tree_of r in
    let u = g.Self.Resolver.user_of r in
    let nodes = c.args.nodes.now in
    let i = c.loop-node.node-index in
    let d = Vis (record { 0 = 0 }) in
    let next = get_or nodes i d in
    let before = c.loop-node.invariant in
    let asked = c.node.follows.holds-at-none in
    let same : c.tree-in-loop-node.result.now ≡ t = c.tree-in-loop-node.ensures ∙ asked.0 ∙ before.tree in
    let numbered : AreNumbered t = subst AreNumbered same c.number.ensures.numbered in
    let number : c.number.result ≡ number_of t next = c.number.ensures.number ∙ ap (λ (x : TreeValue). number_of x next) same in
    let below : number_of t next < length c.loop-node.values =
    omega (arith, numbered.below next (next_inside t nodes i c.loop-node-test.true d c.requires), before.sized) in
    let value : c.in_ok-value.value ≡ solution t u next =
    c.in_ok-value.ensures ∙ c.in_ok-node.ensures.value ∙ (λ j. solution (before.tree j) (before.user j) next) in
    let put : c.put.new.self ≡ slice_set c.loop-node.values (number_of t next) (Some (solution t u next)) =
    c.in_ok-put.ensures.value ∙ (λ j. slice_set c.loop-node.values (number j) (Some (value j))) in
    record {
      tree = asked.0 ∙ before.tree;
      user = asked.1 ∙ before.user;
      grew = subst (λ ns. g.Self.Resolver.grew r c.node.follows.lender-at-none ns) (sym (take_more nodes i d c.loop-node-test.true))
          (g.met.Self.Resolver.grew_then r c.loop-node.self _ (take i nodes) (next ∷ []) before.grew asked.2);
      sized = ap length put ∙ length-set _ _ _ ∙ before.sized;
      values = subst (AreValuesOf t (solution t u) (take (i + 1) nodes)) (sym put)
          (next_copied t nodes i c.loop-node-test.true d (solution t u) c.loop-node.values numbered c.requires below before.values);
    }

-- ---- after the last
pub returns-clause-values : goal.returns-clause-values
returns-clause-values g c =
    let t = g.Self.Resolver.tree_of c.args.self.now in
    let u = g.Self.Resolver.user_of c.args.self.now in
    subst (λ nodes. AreValuesOf t (solution t u) nodes c.loop-node.values) (all_first t c.args.nodes.now c.loop-node.node-index c.loop-node-test.false) c.loop-node.invariant.values
