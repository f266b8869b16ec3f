use Rattle.std.proofs.Common.{◌≡◌, ◌+◌, [], ◌∷◌, ◌++◌, length, sym, ap, ◌∙◌, subst}
use Rattle.std.proofs.lemmas.List.{length-append}
use Rattle.kc_outline.specs.TreeValue.{TreeValue}
use Rattle.kc_tree.specs.Accepted.{IsAccepted}
use Rattle.kc_tree.specs.Nodes.{IsNodeOf, node_at}
use Rattle.kc_value.specs.Known.{given}
use Rattle.kc_value.specs.Solution.{solution}
use Rattle.kc_session_tests.specs.Listed.{AreValuesByPlace}
use Rattle.kc_session_tests.proofs.ListedLaws.{one_more, rule_solved}
use Rattle.kc_session_tests.proofs.listed.rules_of.Goals as goal

pub loop-number-preserved : goal.loop-number-preserved
loop-number-preserved c =
    let t = c.args.known.now.tree in
    let u = c.args.user.now in
    let n = c.node.result in
    let v = c.in_ok-eval.field-0 in
    let before = c.loop-number.invariant in
    let items : c.push.new.self.items ≡ c.loop-number.values.items ++ v ∷ [] = c.in_ok-push.ensures.items in
    let inside : IsNodeOf t n = subst (λ (x : TreeValue). IsNodeOf x n) c.tree-tree.ensures.tree c.node.ensures.inside in
    let at : n ≡ node_at t c.loop-number.number = c.node.ensures.node ∙ ap (λ (x : TreeValue). node_at x c.loop-number.number) c.tree-tree.ensures.tree in
    let accepted : IsAccepted t = subst IsAccepted c.tree-tree.ensures.tree c.node.ensures.accepted in
    let is : v ≡ solution t u n = c.in_ok-eval.ensures.value ∙ rule_solved t u (given c.args.known.now) n accepted c.requires.one c.requires.solved c.eval.ensures.agrees inside in
    record {
      all = ap length items ∙ length-append c.loop-number.values.items (v ∷ []) ∙ ap (λ k. k + 1) before.all;
      right = subst (AreValuesByPlace t u) (sym items) (one_more t u c.loop-number.values.items c.loop-number.number v before.all (is ∙ ap (solution t u) at) before.right);
    }
