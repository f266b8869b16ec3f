use Rattle.std.proofs.Common.{◌≤◌, map}
use Rattle.std.specs.List.{range_with_len}
use Rattle.kc_tree.specs.Nodes.{node_at}
use Rattle.kc_value.specs.Kept.{AreKept, Fills}
use Rattle.kc_value.proofs.NumberedSteps.{AreDone}
use Rattle.kc_value.proofs.kept_values.KeptValues.fill_numbers.Given as goal

abbrev pub invariant-loop-number : goal.invariant-loop-number
invariant-loop-number l = record {
  kept : AreKept l.tree l.user l.self.values;
  fills : Fills l.tree (map (node_at l.tree) (range_with_len l.fn.first l.fn.count)) l.fn.self l.self;
  from : l.fn.first ≤ l.number;
  done : AreDone l.tree l.fn.first l.number l.self.values;
}
