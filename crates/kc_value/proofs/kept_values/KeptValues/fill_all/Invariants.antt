use Rattle.kc_tree.specs.Nodes.{all_nodes}
use Rattle.kc_value.specs.Kept.{AreKept, Fills}
use Rattle.kc_value.proofs.OrderSteps.{AreDone}
use Rattle.kc_value.proofs.kept_values.KeptValues.fill_all.Given as goal

abbrev pub invariant-loop-number : goal.invariant-loop-number
invariant-loop-number l = record {
  kept : AreKept l.tree l.user l.self.values;
  fills : Fills l.tree (all_nodes l.tree) l.fn.self l.self;
  done : AreDone l.number-items l.number-index l.self.values;
}
