use Rattle.std.proofs.Common.{◌≡◌, ◌↔◌, ℕ, List, length, map, subst, sym, ap, ◌∙◌}
use Rattle.std.specs.List.{Contains}
use Rattle.kc_graph.specs.Graph as graph
use Rattle.kc_tree.specs.declared.node.Node.{Node}
use Rattle.kc_tree.specs.Nodes.{IsNodeOf, node_at, node_count, node_in, number_in, number_of}
use Rattle.kc_tree.specs.Users.{AreLeveled, whole_users}
use Rattle.kc_tree.specs.Uses.{Uses}
use Rattle.kc_tree.proofs.LevelLaws.{leveled, users_exact}
use Rattle.kc_tree.proofs.tree.Tree.used_by.Goals as goal

pub of-requires-clause-leveled : goal.of-requires-clause-leveled
of-requires-clause-leveled c =
    let o = c.self.inside.outline in
    let known = c.self.invariant in
    let count : c.node_count.result ≡ node_count o = c.node_count.ensures.count ∙ ap node_count (sym c.self.view_is) in
    subst (λ (n : ℕ). AreLeveled n c.self.inside.used_by) (sym count) (leveled o known.accepted.nested c.self.inside.uses known.uses c.self.inside.used_by known.used_by)

pub of-requires-clause-inside : goal.of-requires-clause-inside
of-requires-clause-inside c = λ j there.
    let known = c.self.invariant in
    (leveled c.self.inside.outline known.accepted.nested c.self.inside.uses known.uses c.self.inside.used_by known.used_by).closed
    c.number_in.result j (subst (λ (ks : List ℕ). Contains ks j) c.row-row.ensures.row there)

pub returns-clause-exact : goal.returns-clause-exact
returns-clause-exact c = λ m.
    let o = c.self.inside.outline in
    let users = c.self.inside.used_by in
    let node = c.args.node in
    let known = c.self.invariant in
    let inside : IsNodeOf o node = subst (λ t. IsNodeOf t node) (sym c.self.view_is) c.requires in
    let symbols : length c.symbols-symbols.result.now ≡ length o.symbols = ap length c.symbols-symbols.ensures in
    let count : c.node_count.result ≡ node_count o = c.node_count.ensures.count ∙ ap node_count (sym c.self.view_is) in
    let number : c.number_in.result ≡ number_of o node = c.number_in.ensures ∙ ap (λ (s : ℕ). number_in s node) symbols in
    let made : c.of.result ≡ map (node_at o) (whole_users (node_count o) users (graph.row users (number_of o node))) =
    c.of.ensures
    ∙ ap (λ (s : ℕ). map (node_in s) (whole_users c.node_count.result users c.row-row.result.now)) symbols
    ∙ ap (λ (n : ℕ). map (node_at o) (whole_users n users c.row-row.result.now)) count
    ∙ ap (λ (ks : List ℕ). map (node_at o) (whole_users (node_count o) users ks)) (c.row-row.ensures.row ∙ ap (graph.row users) number) in
    subst (λ t. Contains c.of.result m ↔ Uses t m node) c.self.view_is
    (subst (λ (ns : List Node). Contains ns m ↔ Uses o m node) (sym made)
    (users_exact o known.accepted.nested c.self.inside.uses known.uses users known.used_by node m inside))
