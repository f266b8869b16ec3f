-- What is in the way of a value: this project's own.
use Rattle.kc_statement.specs.declared.tri.Tri.{Tri}
use Rattle.kc_outline.specs.TreeValue.{TreeValue}
use Rattle.kc_value.specs.Assignment.{Assignment}
use Rattle.kc_value.specs.ExprValue.{expr_value, symbol_tri}
use Rattle.kc_value.specs.Solution.{solution}
use Rattle.kc_value.specs.UserValues.{IsUserFor, UserValues}
use Rattle.kc_bounds.specs.declared.tri_set.TriSet.{TriSet}
use Rattle.kc_bounds.specs.TriSets.{IsIn}
use Rattle.kc_how.specs.declared.obstacle.Obstacle.{Obstacle}
use Rattle.kc_how.specs.declared.obstacle.Obstacle.TheVariants.{Undefined, NoModules, Condition, Symbol}

-- what is computed from the values of all nodes is no value of the set, whatever the user gives and chooses
abbrev pub Lacks : TreeValue → TriSet → (Assignment → Tri) → Type 0
Lacks t needed f = (w : UserValues) → IsUserFor t w → IsIn needed (f (solution t w)) → ⊥

-- The condition or the symbol never has one of the values that are needed of it. Words that no line defines are n.
abbrev pub IsInTheWay : TreeValue → Obstacle → Type 0
IsInTheWay t (Undefined w) = Unit {0}
IsInTheWay t NoModules = Unit {0}
IsInTheWay t (Condition c) = Lacks t c.needed (λ a. expr_value t a c.condition.now)
IsInTheWay t (Symbol s) = Lacks t s.needed (λ a. symbol_tri t a s.symbol)
