-- Defaults of a definition whose dependencies are n.
use Rattle.std.proofs.Common.{◌≡◌, true, cond, List, [], ◌∷◌, Some, None, find, refl, sym, ap, ◌∙◌}
use Rattle.std.specs.Prelude.{not}
use Rattle.std.specs.Option.{option_map}
use Rattle.kc_statement.specs.declared.tri.Tri.{Tri}
use Rattle.kc_statement.specs.declared.tri.Tri.TheVariants.{No, Module, Yes}
use Rattle.kc_statement.specs.declared.attribute.DefaultValue.{DefaultValue}
use Rattle.kc_statement.specs.Tristate.{least, is_no}
use Rattle.kc_outline.specs.TreeValue.{TreeValue, DefinitionValue}
use Rattle.kc_value.specs.Assignment.{Assignment}
use Rattle.kc_value.specs.Conditions.{dependency}
use Rattle.kc_value.specs.Defaults.{default_condition, is_active}
use Rattle.kc_value.specs.ExprValue.{expr_value, own_condition}
use Rattle.kc_value.specs.Rule.{definition_default}

least_no : (x y : Tri) → is_no y ≡ true → is_no (least x y) ≡ true
least_no No y h = refl
least_no Module No h = refl
least_no Module Module h = h
least_no Module Yes h = cc
least_no Yes y h = h

-- none of them is active
none_active : (t : TreeValue) (a : Assignment) (d : DefinitionValue) → is_no (dependency t a d) ≡ true → (vs : List DefaultValue) → find (is_active t a d) vs ≡ None
none_active t a d e [] = refl
none_active t a d e (v ∷ vs) =
    ap (λ b. cond (not b) (Some v) (find (is_active t a d) vs)) (least_no (own_condition t a v.condition) (dependency t a d) e)
    ∙ none_active t a d e vs

pub no_default : (t : TreeValue) (a : Assignment) (d : DefinitionValue) → is_no (dependency t a d) ≡ true → None ≡ definition_default t a d
no_default t a d e =
    ap (λ o. option_map (λ v. least (expr_value t a v.value) (default_condition t a d v)) o) (sym (none_active t a d e d.defaults))
