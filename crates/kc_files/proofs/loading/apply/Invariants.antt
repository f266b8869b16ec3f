use Rattle.std.proofs.Common.{◌≡◌}
use Rattle.std.specs.Prelude.{All}
use Rattle.std.specs.Vec.Iter.{into_iter_items}
use Rattle.kc_value.specs.UserValues.{IsUserFor}
use Rattle.kc_files.specs.LineReading.{IsAssignFor}
use Rattle.kc_files.specs.LoadingSteps.{loaded, left_by}
use Rattle.kc_files.proofs.loading.apply.Given as goal

-- the assignments that are left lead to the same user values
abbrev pub invariant-loop-assign : goal.invariant-loop-assign
invariant-loop-assign l = record {
  user : IsUserFor l.tree l.user;
  assigns : All (IsAssignFor l.tree) (into_iter_items l.assign-iterator);
  same : loaded l.tree l.user (into_iter_items l.assign-iterator) ≡ loaded l.tree (left_by l.fn.load l.fn.user) l.fn.assigns.items;
}
