-- A list that has the solution's values of all nodes, and what is made over it.
use Rattle.std.proofs.Common.{◌≡◌, List, Option, sym, subst}
use Rattle.kc_outline.specs.TreeValue.{TreeValue}
use Rattle.kc_value.specs.declared.value.Value.{Value}
use Rattle.kc_value.specs.Known.{KnownValue}
use Rattle.kc_value.specs.Solution.{solution, AreSolved}
use Rattle.kc_value.specs.UserValues.{UserValues}
use Rattle.kc_files.specs.DraftValue.{Agrees}
use Rattle.kc_files.proofs.DraftLaws.{agrees_as}

module _ (t : TreeValue) (u : UserValues) (values : List (Option Value)) (solved : AreSolved t u values) where
  -- what is known of it agrees with the solution
  pub known_agrees : (k : KnownValue) → k.tree ≡ t → k.values ≡ values → Agrees k.tree k.values (solution t u)
  known_agrees k tree same = agrees_as t values k (solution t u) tree same solved

  -- it has them by other names of the tree and the user values
  pub solved_by : (x : TreeValue) (w : UserValues) → x ≡ t → w ≡ u → AreSolved x w values
  solved_by x w tree user = subst (λ (p : TreeValue × UserValues). AreSolved p.0 p.1 values) (λ i. (sym tree i, sym user i)) solved
