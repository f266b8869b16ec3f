use Rattle.std.proofs.Common.{◌≡◌, ℕ, suc, ◌+◌, ◌-◌, ◌<◌, ◌∷◌, map, length, refl, sym, ap, ◌∙◌, arith}
use Rattle.std.specs.List.{range_with_len}
use Rattle.kc_tree.specs.Nodes.{node_in}
use Rattle.kc_tree.proofs.nodes.NodesIterator.next.Goals as goal

front : (symbols next end : ℕ) → next < end → map (node_in symbols) (range_with_len next (end - next)) ≡ node_in symbols next ∷ map (node_in symbols) (range_with_len (next + 1) (end - (next + 1)))
front symbols next end below = let more : end - next ≡ suc (end - (next + 1)) = omega arith in rw more refl

pub returns-clause-steps : goal.returns-clause-steps
returns-clause-steps c =
    sym c.self.view_is ∙ front c.self.inside.symbols c.self.inside.next c.self.inside.end c.if-self.false
    ∙ ap (λ n. n ∷ map (node_in c.self.inside.symbols) (range_with_len (c.self.inside.next + 1) (c.self.inside.end - (c.self.inside.next + 1)))) (sym c.in_tree-node.ensures)

pub returns-clause-goes : goal.returns-clause-goes
returns-clause-goes c =
    let steps = sym c.self.view_is ∙ front c.self.inside.symbols c.self.inside.next c.self.inside.end c.if-self.false in
    let shorter = ap length steps in
    grind arith
