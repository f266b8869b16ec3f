-- The default and the range that count are those of the rule.
use Rattle.std.proofs.Common.{◌≡◌, ℕ, ◌+◌, cond, List, [], ◌∷◌, map, Option, Some, None, find, slice_get, option_map, unwrap_or, filter_map, refl, sym, ap, ◌∙◌, true, false, Bool, if◌then◌else◌}
use Rattle.std.specs.Prelude.{option_and_then}
use Rattle.std.specs.List.{cons_option, position_or_len}
use Rattle.std.specs.Option.{option_map_or}
use Rattle.std.proofs.lemmas.List.Recursion.{is_position_or_len}
use Rattle.std.proofs.lemmas.Option.{none-some}
use Rattle.kc_statement.specs.declared.tri.Tri.TheVariants.{No}
use Rattle.kc_statement.specs.declared.symbol_type.SymbolType.{SymbolType}
use Rattle.kc_statement.specs.declared.attribute.DefaultValue.{DefaultValue}
use Rattle.kc_statement.specs.declared.attribute.Range.{Range}
use Rattle.kc_statement.specs.Tristate.{least}
use Rattle.kc_outline.specs.TreeValue.{TreeValue, SymbolValue, DefinitionValue, kind_of}
use Rattle.kc_value.specs.Assignment.{Assignment}
use Rattle.kc_value.specs.Defaults.{default_condition, is_active}
use Rattle.kc_value.specs.ExprValue.{expr_value}
use Rattle.kc_value.specs.Reasons.{ActiveDefault, default_at, default_of, default_in, active_default, range_at, range_of, range_in, active_range_of, bounds_in_range}
use Rattle.kc_value.specs.Rule.{definition_default, default_value}
use Rattle.kc_value.specs.TextRule.{value_text, definition_text, default_text, is_range_active, bounds_in, definition_bounds, is_number_type, bounds_of}

-- where the first is that passes a test, of a list with a first item
abbrev place_of : {X : Type 0} → (X → Bool) → List X → ℕ
place_of p [] = 0
place_of p (x ∷ xs) = cond (p x) 0 (1 + place_of p xs)

pub position_step : {X : Type 0} (p : X → Bool) (x : X) (xs : List X) → position_or_len p (x ∷ xs) ≡ cond (p x) 0 (1 + position_or_len p xs)
position_step p x xs =
    sym (is_position_or_len (place_of p) p refl (λ y ys. refl) (x ∷ xs))
    ∙ ap (λ n. cond (p x) 0 (1 + n)) (is_position_or_len (place_of p) p refl (λ y ys. refl) xs)

-- what is found by the number of a definition, and what is found in the definition
module _ {Y Z : Type 0} (t : TreeValue) (f : DefinitionValue → Option Y) (g : ℕ → Option Z) (h : Z → Y)
    (same : (n : ℕ) → option_and_then f (slice_get t.definitions n) ≡ option_map h (g n)) where
  firsts : (ns : List ℕ) → filter_map f (filter_map (slice_get t.definitions) ns) ≡ map h (filter_map g ns)
  firsts [] = refl
  firsts (n ∷ ns) = go (slice_get t.definitions n) (g n) (same n) (firsts ns)
    where
      put : (p : Option Z) (zs : List Z) → cons_option (option_map h p) (map h zs) ≡ map h (cons_option p zs)
      put None zs = refl
      put (Some z) zs = refl

      go : (o : Option DefinitionValue) (p : Option Z) → option_and_then f o ≡ option_map h p
          → filter_map f (filter_map (slice_get t.definitions) ns) ≡ map h (filter_map g ns)
          → filter_map f (cons_option o (filter_map (slice_get t.definitions) ns)) ≡ map h (cons_option p (filter_map g ns))
      go None None e later = later
      go None (Some z) e later = absurd (none-some _ e)
      go (Some d) p e later =
          ap (λ y. cons_option y (filter_map f (filter_map (slice_get t.definitions) ns))) e
          ∙ ap (λ ys. cons_option (option_map h p) ys) later
          ∙ put p (filter_map g ns)

  head : (zs : List Z) → slice_get (map h zs) 0 ≡ option_map h (slice_get zs 0)
  head [] = refl
  head (z ∷ zs) = refl

  pub first : (ns : List ℕ) → slice_get (filter_map f (filter_map (slice_get t.definitions) ns)) 0 ≡ option_map h (slice_get (filter_map g ns) 0)
  first ns = ap (λ l. slice_get l 0) (firsts ns) ∙ head (filter_map g ns)

module _ (t : TreeValue) (a : Assignment) where
  -- ---- defaults
  level_found : (n : ℕ) (d : DefinitionValue) (i : ℕ) (o : Option DefaultValue)
      → option_map (λ v. least (expr_value t a v.value) (default_condition t a d v)) o ≡ option_map (λ f. f.level) (option_map (default_at t a n d i) o)
  level_found n d i None = refl
  level_found n d i (Some v) = refl

  level_same : (n : ℕ) (o : Option DefinitionValue) → option_and_then (definition_default t a) o ≡ option_map (λ f. f.level) (option_and_then (default_of t a n) o)
  level_same n None = refl
  level_same n (Some d) = level_found n d (position_or_len (is_active t a d) d.defaults) (find (is_active t a d) d.defaults)

  or_none : (o : Option ActiveDefault) → unwrap_or (option_map (λ f. f.level) o) No ≡ option_map_or (λ f. f.level) o No
  or_none None = refl
  or_none (Some f) = refl

  pub default_level_is : (x : SymbolValue) → default_value t a x ≡ option_map_or (λ f. f.level) (active_default t a x) No
  default_level_is x =
      ap (λ o. unwrap_or o No) (first t (definition_default t a) (default_in t a) (λ f. f.level) (λ n. level_same n (slice_get t.definitions n)) x.definitions)
      ∙ or_none (active_default t a x)

  text_found : (n : ℕ) (d : DefinitionValue) (i : ℕ) (o : Option DefaultValue)
      → option_map (λ v. value_text t a v.value) o ≡ option_map (λ f. f.text) (option_map (default_at t a n d i) o)
  text_found n d i None = refl
  text_found n d i (Some v) = refl

  text_same : (n : ℕ) (o : Option DefinitionValue) → option_and_then (definition_text t a) o ≡ option_map (λ f. f.text) (option_and_then (default_of t a n) o)
  text_same n None = refl
  text_same n (Some d) = text_found n d (position_or_len (is_active t a d) d.defaults) (find (is_active t a d) d.defaults)

  pub default_text_is : (x : SymbolValue) → default_text t a x ≡ option_map (λ f. f.text) (active_default t a x)
  default_text_is x = first t (definition_text t a) (default_in t a) (λ f. f.text) (λ n. text_same n (slice_get t.definitions n)) x.definitions

  -- ---- ranges
  bounds_found : (k : SymbolType) (n i : ℕ) (o : Option Range) → option_map (bounds_in t a k) o ≡ option_map bounds_in_range (option_map (range_at t a k n i) o)
  bounds_found k n i None = refl
  bounds_found k n i (Some r) = refl

  bounds_same : (k : SymbolType) (n : ℕ) (o : Option DefinitionValue) → option_and_then (definition_bounds t a k) o ≡ option_map bounds_in_range (option_and_then (range_of t a k n) o)
  bounds_same k n None = refl
  bounds_same k n (Some d) = bounds_found k n (position_or_len (is_range_active t a d) d.ranges) (find (is_range_active t a d) d.ranges)

  pub bounds_are : (x : SymbolValue) → bounds_of t a x ≡ option_map bounds_in_range (active_range_of t a x)
  bounds_are x =
      elim (is_number_type (kind_of x)) as (λ b. (if b then slice_get (filter_map (definition_bounds t a (kind_of x)) (filter_map (slice_get t.definitions) x.definitions)) 0 else None) ≡ option_map bounds_in_range (if b then slice_get (filter_map (range_in t a (kind_of x)) x.definitions) 0 else None)) [
        | true ↦ first t (definition_bounds t a (kind_of x)) (range_in t a (kind_of x)) bounds_in_range (λ n. bounds_same (kind_of x) n (slice_get t.definitions n)) x.definitions
        | false ↦ refl
      ]
