-- Expressions as they are written: kconfig-language.rst, "Menu dependencies".
use Rattle.std.specs.Prelude.{ℕ, zero, suc, ◌+◌, Bool, true, false, List, [], ◌∷◌}
use Rattle.kc_statement.specs.declared.tri.Tri.TheVariants.{No, Yes}
use Rattle.kc_statement.specs.declared.expr.Term.{Term}
use Rattle.kc_statement.specs.declared.expr.Term.TheVariants.{Tri}
use Rattle.kc_statement.specs.declared.expr.Comparison.{Comparison}

-- an expression, with the parentheses that were written; `bare` is an m alone in a condition
pub data Formula : Type 0 where
  atom : Term → Formula
  bare : Term → Formula
  compare : Comparison → Term → Term → Formula
  negation : Formula → Formula
  group : Formula → Formula
  both : Formula → Formula → Formula
  either : Formula → Formula → Formula

-- the formulas of a list, each joined with those after it. No expression has an empty list: that case is there so that
-- each list has a formula
abbrev pub joined : (Formula → Formula → Formula) → Formula → List Formula → Formula
joined join empty [] = empty
joined join empty (f ∷ []) = f
joined join empty (f ∷ g ∷ fs) = join f (joined join empty (g ∷ fs))

-- joined by `&&`: of an empty list y, the greatest value
abbrev pub all_joined : List Formula → Formula
all_joined = joined both (atom (Tri Yes))

-- joined by `||`: of an empty list n, the least value
abbrev pub any_joined : List Formula → Formula
any_joined = joined either (atom (Tri No))

-- the formula after a number of `!`: each is a negation
abbrev pub negations : ℕ → Formula → Formula
negations zero f = f
negations (suc n) f = negation (negations n f)

-- how many operators, parentheses and terms there are: a part has fewer than the whole
abbrev pub marks : Formula → ℕ
marks (atom x) = 1
marks (bare x) = 1
marks (compare c x y) = 1
marks (negation f) = marks f + 1
marks (group f) = marks f + 1
marks (both f g) = marks f + marks g + 1
marks (either f g) = marks f + marks g + 1

-- neither a negation nor joined
abbrev pub is_plain : Formula → Bool
is_plain (negation f) = false
is_plain (both f g) = false
is_plain (either f g) = false
is_plain _ = true

abbrev pub is_factor : Formula → Bool
is_factor (both f g) = false
is_factor (either f g) = false
is_factor _ = true

abbrev pub is_part : Formula → Bool
is_part (either f g) = false
is_part _ = true
