-- How terms that count as tristate values are ordered, and those that are no symbols.
use Rattle.std.proofs.Common.{◌≡◌, true, false, true≢false, Some, refl, sym}
use Rattle.std.specs.Ordering.{int_cmp}
use Rattle.kc_statement.specs.declared.expr.Comparison.{Comparison}
use Rattle.kc_statement.specs.declared.expr.Term.{Term}
use Rattle.kc_statement.specs.declared.expr.Term.TheVariants.{Tri as Constant, Text, Symbol, Undefined}
use Rattle.kc_statement.specs.Formula.{compare}
use Rattle.kc_statement.specs.declared.tri.Tri.{Tri}
use Rattle.kc_outline.specs.TreeValue.{TreeValue}
use Rattle.kc_value.specs.Assignment.{Assignment}
use Rattle.kc_bounds.specs.Counting.{is_fixed}
use Rattle.kc_value.specs.ExprValue.{formula_value, is_string_term, term_number, term_order, tri_number}

pub counted_order : (t : TreeValue) (a : Assignment) (x y : Term) (v w : Tri) → is_string_term t x ≡ false
    → term_number t a x ≡ Some (tri_number v) → term_number t a y ≡ Some (tri_number w) → int_cmp (tri_number v) (tri_number w) ≡ term_order t a x y
counted_order t a x y v w plain left right = rw (plain, left, right)

-- without symbols the values make no difference
pub fixed_compare : (t : TreeValue) (a b : Assignment) (c : Comparison) (x y : Term) → is_fixed x ≡ true → is_fixed y ≡ true
    → formula_value t a (compare c x y) ≡ formula_value t b (compare c x y)
fixed_compare t a b c (Symbol s) y h k = absurd (true≢false (sym h))
fixed_compare t a b c (Constant v) (Symbol s) h k = absurd (true≢false (sym k))
fixed_compare t a b c (Constant v) (Constant u) h k = refl
fixed_compare t a b c (Constant v) (Text w) h k = refl
fixed_compare t a b c (Constant v) (Undefined w) h k = refl
fixed_compare t a b c (Text v) (Symbol s) h k = absurd (true≢false (sym k))
fixed_compare t a b c (Text v) (Constant u) h k = refl
fixed_compare t a b c (Text v) (Text w) h k = refl
fixed_compare t a b c (Text v) (Undefined w) h k = refl
fixed_compare t a b c (Undefined v) (Symbol s) h k = absurd (true≢false (sym k))
fixed_compare t a b c (Undefined v) (Constant u) h k = refl
fixed_compare t a b c (Undefined v) (Text w) h k = refl
fixed_compare t a b c (Undefined v) (Undefined w) h k = refl
