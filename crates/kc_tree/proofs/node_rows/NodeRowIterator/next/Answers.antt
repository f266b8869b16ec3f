use Rattle.std.proofs.Common.{◌≡◌, ◌++◌, ℕ, List, map, sym, ap, ◌∙◌}
use Rattle.kc_tree.specs.Nodes.{node_in}
use Rattle.kc_tree.specs.WholeRows.{whole_row}
use Rattle.kc_tree.proofs.ChainLaws.{back_inside, front_inside, one_chain, whole_joined}
use Rattle.kc_tree.proofs.node_rows.NodeRowIterator.next.Goals as goal

pub invariant_of-self-in-loop-number : goal.invariant_of-self-in-loop-number
invariant_of-self-in-loop-number c =
    let s = c.loop-number.self-inside in
    let known = c.loop-number.invariant in
    let split = c.split_at.ensures in (
      known.chains,
      one_chain s.nodes s.rows.now c.split_at.result.0.now split.front_len,
      front_inside s.nodes s.rows.now s.left.now c.split_at.result.0.now c.split_at.result.1.now split.by_index.0 known.inside,
    )

pub loop-number-preserved : goal.loop-number-preserved
loop-number-preserved c =
    let s = c.loop-number.self-inside in
    let known = c.loop-number.invariant in
    let split = c.split_at.ensures in
    let front = c.split_at.result.0.now in
    let back = c.split_at.result.1.now in
    let none = c.in_default.ensures.steps in
    let joined : whole_row s.nodes s.rows.now s.left.now ≡ whole_row s.nodes s.rows.now front ++ whole_row s.nodes s.rows.now back = whole_joined s.nodes s.rows.now s.left.now front back split.by_index.0 in
    record {
      same = ap (map (node_in s.symbols)) (sym joined) ∙ ap (λ (ks : List ℕ). map (node_in s.symbols) (ks ++ whole_row s.nodes s.rows.now s.left.now)) (sym none.0) ∙ known.same;
      few = known.few;
      chains = known.chains;
      inside = back_inside s.nodes s.rows.now s.left.now front back split.by_index.0 known.inside;
    }
