-- When a default is active: kconfig-language.rst, "Menu attributes".
use Rattle.std.specs.Prelude.{Bool, not}
use Rattle.kc_statement.specs.declared.tri.Tri.{Tri}
use Rattle.kc_statement.specs.declared.attribute.DefaultValue.{DefaultValue}
use Rattle.kc_statement.specs.Tristate.{is_no}
use Rattle.kc_outline.specs.TreeValue.{TreeValue, DefinitionValue}
use Rattle.kc_value.specs.Assignment.{Assignment}
use Rattle.kc_tree.specs.ConditionTable.{of_property}
use Rattle.kc_value.specs.Conditions.{condition_value}

abbrev pub default_condition : TreeValue → Assignment → DefinitionValue → DefaultValue → Tri
default_condition t a d v = condition_value t a (of_property t d v.condition)

-- its condition is not n
abbrev pub is_active : TreeValue → Assignment → DefinitionValue → DefaultValue → Bool
is_active t a d v = not (is_no (default_condition t a d v))
