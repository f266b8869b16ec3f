use Rattle.std.proofs.Common.{◌≡◌, map, take}
use Rattle.kc_tree.specs.Linked.{named_node}
use Rattle.kc_tree.proofs.link.named_nodes.Given as goal

-- the nodes of the numbers so far
abbrev pub invariant-loop-number : goal.invariant-loop-number
invariant-loop-number l = l.nodes.items ≡ map (named_node l.outline) (take l.number-index l.numbers)
