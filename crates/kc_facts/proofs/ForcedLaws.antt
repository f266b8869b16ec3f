-- What `select` lines give at most, and what dependencies are worth at most.
use Rattle.std.proofs.Common.{◌≡◌, ℕ, false, List, [], ◌∷◌, Option, Some, None, map, filter_map, refl, sym, ap, ◌∙◌, ◌&&◌, ◌||◌, slice_get}
use Rattle.std.specs.List.{cons_option, list_any}
use Rattle.std.specs.Option.{option_map_or}
use Rattle.kc_statement.specs.declared.tri.Tri.{Tri}
use Rattle.kc_statement.specs.declared.tri.Tri.TheVariants.{No, Module, Yes}
use Rattle.kc_statement.specs.Tristate.{greatest, greatest_of}
use Rattle.kc_outline.specs.declared.symbol.Reverse.{Reverse}
use Rattle.kc_outline.specs.TreeValue.{TreeValue, DefinitionValue, SymbolValue}
use Rattle.kc_tree.specs.ConditionTable.{dependencies_in}
use Rattle.kc_value.specs.Assignment.{Assignment}
use Rattle.kc_value.specs.Conditions.{condition_value, dependency}
use Rattle.kc_value.specs.Rule.{reverse_value, reverse_values, direct}
use Rattle.kc_facts.specs.Forced.{is_above, worth}

above_greatest : (x y v : Tri) → is_above (greatest x y) v ≡ (is_above x v || is_above y v)
above_greatest No y v = refl
above_greatest Module No No = refl
above_greatest Module No Module = refl
above_greatest Module No Yes = refl
above_greatest Module Module No = refl
above_greatest Module Module Module = refl
above_greatest Module Module Yes = refl
above_greatest Module Yes No = refl
above_greatest Module Yes Module = refl
above_greatest Module Yes Yes = refl
above_greatest Yes y No = refl
above_greatest Yes y Module = refl
above_greatest Yes No Yes = refl
above_greatest Yes Module Yes = refl
above_greatest Yes Yes Yes = refl

-- what is more than another value is more than n
above_no : (v w : Tri) → is_above v w ≡ (is_above v No && is_above v w)
above_no No w = refl
above_no Module w = refl
above_no Yes w = refl

-- one of `select` lines gives more than a value where the greatest of their values is more
some_above : (t : TreeValue) (a : Assignment) (v : Tri) (lines : List Reverse) →
    list_any (λ r. is_above (reverse_value t a r) v) lines ≡ is_above (reverse_values t a lines) v
some_above t a v [] = refl
some_above t a v (r ∷ rs) =
    ap (λ b. is_above (reverse_value t a r) v || b) (some_above t a v rs)
    ∙ sym (above_greatest (reverse_value t a r) (reverse_values t a rs) v)

module _ (t : TreeValue) (a : Assignment) where
  most_from : (numbers : List ℕ) →
      greatest_of (map (worth t a) numbers) ≡ greatest_of (map (dependency t a) (filter_map (slice_get t.definitions) numbers))
  most_from [] = refl
  most_from (n ∷ ns) =
      elim (slice_get t.definitions n) as
      (λ o. greatest (condition_value t a (dependencies_in o)) (greatest_of (map (worth t a) ns))
      ≡ greatest_of (map (dependency t a) (cons_option o (filter_map (slice_get t.definitions) ns)))) [
        | None ↦ most_from ns
        | Some d ↦ ap (greatest (dependency t a d)) (most_from ns)
      ]

  most_is_direct : (x : SymbolValue) → greatest_of (map (worth t a) x.definitions) ≡ direct t a x
  most_is_direct x = most_from x.definitions

  pub selected_beyond : (x : SymbolValue) (v : Tri) → v ≡ greatest_of (map (worth t a) x.definitions) →
      list_any (λ r. is_above (reverse_value t a r) v) x.selected ≡ is_above (reverse_values t a x.selected) (direct t a x)
  selected_beyond x v is = some_above t a v x.selected ∙ ap (is_above (reverse_values t a x.selected)) (is ∙ most_is_direct x)

  pub not_selected : (x : SymbolValue) → list_any (λ r. is_above (reverse_value t a r) No) x.selected ≡ false →
      is_above (reverse_values t a x.selected) (direct t a x) ≡ false
  not_selected x none =
      above_no (reverse_values t a x.selected) (direct t a x)
      ∙ ap (λ b. b && is_above (reverse_values t a x.selected) (direct t a x)) (sym (some_above t a No x.selected) ∙ none)

-- what the dependencies of a definition are worth, if it is there
pub worth_given : (t : TreeValue) (a : Assignment) (o : Option DefinitionValue) → option_map_or (dependency t a) o No ≡ condition_value t a (dependencies_in o)
worth_given t a None = refl
worth_given t a (Some d) = refl
