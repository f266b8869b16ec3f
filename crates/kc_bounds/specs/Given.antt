-- Steps: what a default gives its symbol, in the definition of a number: this project's own, after kc_value's Rule.
use Rattle.std.specs.Prelude.{ℕ, not, if◌then◌else◌, Option, Some, None, slice_get}
use Rattle.std.specs.Option.{option_map_or}
use Rattle.kc_statement.specs.declared.attribute.DefaultValue.{DefaultValue}
use Rattle.kc_statement.specs.declared.tri.Tri.{Tri}
use Rattle.kc_statement.specs.declared.tri.Tri.TheVariants.{No}
use Rattle.kc_statement.specs.Tristate.{is_no, least}
use Rattle.kc_outline.specs.TreeValue.{TreeValue}
use Rattle.kc_value.specs.Assignment.{Assignment}
use Rattle.kc_value.specs.Conditions.{dependency}
use Rattle.kc_value.specs.ExprValue.{expr_value, own_condition}

-- the least of a value and a condition, where that is not n
abbrev pub given : Tri → Tri → Option Tri
given condition v = if not (is_no condition) then Some (least v condition) else None

-- what a default gives, if it is active
abbrev pub given_at : TreeValue → Assignment → ℕ → DefaultValue → Option Tri
given_at t a number v =
    given (least (own_condition t a v.condition) (option_map_or (dependency t a) (slice_get t.definitions number) No)) (expr_value t a v.value)
