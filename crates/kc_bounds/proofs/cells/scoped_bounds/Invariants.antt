use Rattle.std.proofs.Common.{◌≡◌}
use Rattle.kc_bounds.proofs.cells.scoped_bounds.Given as goal

abbrev pub invariant-loop-number : goal.invariant-loop-number
invariant-loop-number l = (l.bounds.tree ≡ l.tree) × (l.bounds.modules ≡ l.fn.modules)
