-- What the definitions of a symbol give, by their numbers.
use Rattle.std.proofs.Common.{◌≡◌, ℕ, List, [], ◌∷◌, Option, Some, None, cond, map, filter_map, refl, sym, ap, ◌∙◌, slice_get}
use Rattle.std.specs.Prelude.{option_and_then}
use Rattle.std.specs.Option.{option_map_or, option_or}
use Rattle.kc_statement.specs.declared.tri.Tri.{Tri}
use Rattle.kc_statement.specs.declared.tri.Tri.TheVariants.{No}
use Rattle.kc_statement.specs.Tristate.{greatest, greatest_of, least}
use Rattle.kc_statement.specs.declared.attribute.DefaultValue.{DefaultValue}
use Rattle.kc_outline.specs.TreeValue.{TreeValue, DefinitionValue}
use Rattle.kc_value.specs.Assignment.{Assignment}
use Rattle.kc_value.specs.Conditions.{dependency}
use Rattle.kc_value.specs.Defaults.{default_condition, is_active}
use Rattle.kc_value.specs.ExprValue.{expr_value, own_condition}
use Rattle.kc_value.specs.Rule.{definition_default}
use Rattle.kc_bounds.specs.Given.{given, given_at}
use Rattle.kc_bounds.proofs.TakenLists.{first, found_first}

module _ {X : Type 0} (at : ℕ → Option X) where
  -- the greatest over those that there are
  pub greatest_there : (f : X → Tri) (ns : List ℕ) → greatest_of (map (λ n. option_map_or f (at n) No) ns) ≡ greatest_of (map f (filter_map at ns))
  greatest_there f [] = refl
  greatest_there f (n ∷ ns) = go (at n) refl (greatest_there f ns)
    where
      go : (o : Option X) → at n ≡ o → greatest_of (map (λ n. option_map_or f (at n) No) ns) ≡ greatest_of (map f (filter_map at ns))
          → greatest (option_map_or f (at n) No) (greatest_of (map (λ n. option_map_or f (at n) No) ns)) ≡ greatest_of (map f (filter_map at (n ∷ ns)))
      go None e more = rw e more
      go (Some x) e more = rw e (ap (greatest (f x)) more)

  -- the first that one of those that there are gives
  pub first_given : (g : X → Option Tri) (ns : List ℕ) → first (λ n. option_and_then g (at n)) ns ≡ first g (filter_map at ns)
  first_given g [] = refl
  first_given g (n ∷ ns) = go (at n) refl (first_given g ns)
    where
      go : (o : Option X) → at n ≡ o → first (λ n. option_and_then g (at n)) ns ≡ first g (filter_map at ns)
          → option_or (option_and_then g (at n)) (first (λ n. option_and_then g (at n)) ns) ≡ first g (filter_map at (n ∷ ns))
      go None e more = rw e more
      go (Some x) e more = rw e (ap (option_or (g x)) more)

-- the first default that is active
pub default_is : (t : TreeValue) (a : Assignment) (number : ℕ) (d : DefinitionValue) → slice_get t.definitions number ≡ Some d
    → first (given_at t a number) d.defaults ≡ option_and_then (definition_default t a) (slice_get t.definitions number)
default_is t a number d at =
    let f : DefaultValue → Tri = λ x. least (expr_value t a x.value) (default_condition t a d x) in
    let same : (x : DefaultValue) → given_at t a number x ≡ cond (is_active t a d x) (Some (f x)) None =
    λ x. ap (λ o. given (least (own_condition t a x.condition) (option_map_or (dependency t a) o No)) (expr_value t a x.value)) at in
    sym (found_first (given_at t a number) (is_active t a d) f same d.defaults) ∙ ap (λ o. option_and_then (definition_default t a) o) (sym at)
