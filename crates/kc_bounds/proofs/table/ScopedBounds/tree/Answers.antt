use Rattle.std.proofs.Common.{subst}
use Rattle.kc_bounds.specs.Bounds.{AreScopedBounds}
use Rattle.kc_bounds.proofs.table.ScopedBounds.tree.Goals as goal

pub returns-clause-bounds : goal.returns-clause-bounds
returns-clause-bounds c = subst AreScopedBounds c.self.view_is c.self.invariant
