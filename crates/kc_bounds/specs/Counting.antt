-- Steps: terms that count as tristate values in a comparison: this project's own, after kc_value's ExprValue.
use Rattle.std.specs.Prelude.{◌≡◌, Bool, true, false, Some}
use Rattle.kc_statement.specs.declared.expr.Term.{Term}
use Rattle.kc_statement.specs.declared.expr.Term.TheVariants.{Tri as Constant, Text, Symbol, Undefined}
use Rattle.kc_statement.specs.declared.tri.Tri.{Tri}
use Rattle.kc_outline.specs.TreeValue.{TreeValue}
use Rattle.kc_value.specs.ExprValue.{is_string_term, term_number, tri_number}
use Rattle.kc_value.specs.Solution.{solution}
use Rattle.kc_value.specs.UserValues.{UserValues}
use Rattle.kc_bounds.specs.Bounds.{IsScoped}
use Rattle.kc_bounds.specs.declared.tri_set.TriSet.{TriSet}
use Rattle.kc_bounds.specs.TriSets.{IsIn}

-- a term that is no string counts as a value of the set, whatever the user gives and chooses with which MODULES has a value of the scope
pub record CountsWithin (t : TreeValue) (m : TriSet) (x : Term) (s : TriSet) : Type 0 where
  pub plain : is_string_term t x ≡ false
  pub counts : (w : UserValues) → IsScoped t m w → (v : Tri) × (IsIn s v × (term_number t (solution t w) x ≡ Some (tri_number v)))

-- a term that is no symbol
abbrev pub is_fixed : Term → Bool
is_fixed (Constant v) = true
is_fixed (Text w) = true
is_fixed (Symbol s) = false
is_fixed (Undefined w) = true
