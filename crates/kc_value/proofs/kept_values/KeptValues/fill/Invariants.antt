use Rattle.std.proofs.Common.{[], ◌∷◌}
use Rattle.kc_value.specs.Kept.{AreKept, Fills}
use Rattle.kc_value.proofs.PathLemmas.{IsPath, work_left}
use Rattle.kc_value.proofs.kept_values.KeptValues.fill.Given as goal

abbrev pub invariant-loop-step : goal.invariant-loop-step
invariant-loop-step l = record {
  kept : AreKept l.tree l.user l.self.values;
  fills : Fills l.tree (l.fn.node ∷ []) l.fn.self l.self;
  path : IsPath l.tree l.table l.fn.node l.self.values l.path.items;
}

abbrev pub decreases-loop-step : goal.decreases-loop-step
decreases-loop-step l = work_left l.tree l.self.values l.path.items
