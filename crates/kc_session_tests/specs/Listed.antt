-- Steps: a resolver that is written outside kc_value, over a plain list of values: this project's own.
use Rattle.std.specs.Prelude.{◌≡◌, ℕ, ◌<◌, List, length, slice_index_or}
use Rattle.kc_outline.specs.TreeValue.{TreeValue}
use Rattle.kc_tree.specs.Nodes.{node_at, node_count}
use Rattle.kc_value.specs.declared.value.Value.{Value}
use Rattle.kc_value.specs.Solution.{solution, IsOnlySolution}
use Rattle.kc_value.specs.UserValues.{UserValues, IsUserFor}

-- the tree and the user values
pub record ListedValue : Type 0 where
  pub tree : TreeValue
  pub user : UserValues

-- the first values of a list are those of the nodes of their places
abbrev pub AreValuesByPlace : TreeValue → UserValues → List Value → Type 0
AreValuesByPlace t u values = (k : ℕ) (v : Value) → k < length values → slice_index_or values k v ≡ solution t u (node_at t k)

-- the user values are those of a user of the tree, it has one solution, and the list has the value of each node
pub record IsListed (t : TreeValue) (u : UserValues) (values : List Value) : Type 0 where
  pub fitting : IsUserFor t u
  pub solved : IsOnlySolution t u (solution t u)
  pub all : length values ≡ node_count t
  pub right : AreValuesByPlace t u values
