-- Each bool and each tristate given its value in turn, and each other symbol none.
use Rattle.std.proofs.Common.{◌≡◌, ℕ, ◌+◌, ◌<◌, ◌≤◌, Bool, true, false, true≢false, not, ◌&&◌, if◌then◌else◌, length, map, Option, Some, None, is_some, slice_get, slice_index_or, replicate, sym, ap, ◌∙◌, ⊎_elim, arith, refl}
use Rattle.std.specs.List.{range_with_len}
use Rattle.std.specs.Prelude.{option_and_then}
use Rattle.std.specs.Option.{option_map_or}
use Rattle.std.proofs.lemmas.Bool.{and_parts, cases_eq}
use Rattle.std.proofs.lemmas.List.{get_or-set_same, get_or-set_other}
use Rattle.std.proofs.lemmas.List.FromFn.{get_or-map-range_with_len}
use Rattle.std.proofs.lemmas.List.FromFn.{fill_by_all}
use Rattle.std.proofs.lemmas.Option.{slice_get_cases}
use Rattle.kc_statement.specs.declared.id.SymId.{SymId}
use Rattle.kc_statement.specs.declared.symbol_type.SymbolType.{SymbolType}
use Rattle.kc_statement.specs.declared.symbol_type.SymbolType.TheVariants as kind
use Rattle.kc_statement.specs.declared.tri.Tri.TheVariants as tri
use Rattle.kc_statement.specs.SymbolTypes.{is_tri_type}
use Rattle.kc_outline.specs.declared.id.ChoiceId.{ChoiceId}
use Rattle.kc_outline.specs.TreeValue.{TreeValue, SymbolValue, kind_of}
use Rattle.kc_tree.specs.declared.user_value.UserVal.{UserVal}
use Rattle.kc_tree.specs.declared.user_value.UserVal.TheVariants.{Tri as TriVal}
use Rattle.kc_tree.specs.Fits.{fits, fits_type}
use Rattle.kc_value.specs.declared.all_values.AllValue.{AllValue}
use Rattle.kc_value.specs.declared.all_values.AllValue.TheVariants.{No, Yes}
use Rattle.kc_value.specs.AllValues.{all_given, is_free_tri, is_yes_in_allnoconfig, tri_given, value_given}
use Rattle.kc_value.specs.UserValues.{UserValues, IsUserFor, chosen_in, no_values, user_value, with_value}
use Rattle.kc_value.proofs.UserLemmas.{none_in}

-- ---- a symbol takes the value that it is given
-- n and y are values of a bool and of a tristate
tri_fits : (k : SymbolType) (b : Bool) → is_tri_type k ≡ true → fits_type k (TriVal (if b then tri.Yes else tri.No)) ≡ true
tri_fits kind.Bool true h = refl
tri_fits kind.Bool false h = refl
tri_fits kind.Tristate b h = refl
tri_fits kind.String b h = absurd (true≢false (sym h))
tri_fits kind.Int b h = absurd (true≢false (sym h))
tri_fits kind.Hex b h = absurd (true≢false (sym h))

given_of_type : (t : TreeValue) (a : AllValue) (s : SymId) (k : SymbolType) → is_tri_type k ≡ true → fits_type k (TriVal (tri_given t a s)) ≡ true
given_of_type t No s k h = tri_fits k (is_yes_in_allnoconfig t s) h
given_of_type t Yes s k h = tri_fits k true h

pub given_fits : (t : TreeValue) (a : AllValue) (s : SymId) → s.0 < length t.symbols → is_free_tri t s ≡ true → fits t s (TriVal (tri_given t a s)) ≡ true
given_fits t a s within free =
    ⊎_elim (λ at. found at.0 at.2) (λ past. absurd (omega (arith, within, past.0))) (slice_get_cases t.symbols s.0).1
  where
    found : (x : SymbolValue) → slice_get t.symbols s.0 ≡ Some x → fits t s (TriVal (tri_given t a s)) ≡ true
    found x e =
        let at : (not (is_some x.choice) && is_tri_type (kind_of x)) ≡ true =
        sym (ap (λ (o : Option SymbolValue). not (is_some (option_and_then (λ z. z.choice) o)) && is_tri_type (option_map_or kind_of o kind.Bool)) e) ∙ free in
        let parts = and_parts (not (is_some x.choice)) (is_tri_type (kind_of x)) at in
        ap (λ (o : Option SymbolValue). option_map_or (λ z. not (is_some z.choice) && fits_type (kind_of z) (TriVal (tri_given t a s))) o false) e
        ∙ ap (λ b. b && fits_type (kind_of x) (TriVal (tri_given t a s))) parts.0
        ∙ given_of_type t a s (kind_of x) parts.1

-- ---- one symbol after the other
abbrev given_at : TreeValue → AllValue → ℕ → Option UserVal
given_at t a k = value_given t a (record { 0 = k })

-- the symbols below a number have their values, and no member is chosen
pub record HasGiven (t : TreeValue) (a : AllValue) (n : ℕ) (u : UserValues) : Type 0 where
  pub user : IsUserFor t u
  pub values : (k : ℕ) → k < n → slice_index_or u.values k None ≡ given_at t a k
  pub chosen : u.chosen ≡ replicate (length t.choices) None

module _ (t : TreeValue) (a : AllValue) where
  pub given_none : (u : UserValues) → u ≡ no_values t → IsUserFor t u → HasGiven t a 0 u
  given_none u none user = record { user = user; values = λ k below. absurd (omega (arith, below)); chosen = ap (λ (x : UserValues). x.chosen) none }

  pub given_more : (n : ℕ) (u w : UserValues) → HasGiven t a n u → n < length t.symbols → w ≡ with_value u (record { 0 = n }) (given_at t a n) → IsUserFor t w → HasGiven t a (n + 1) w
  given_more n u w h inside is user = record {
    user = user;
    values = λ k below.
        ap (λ (x : UserValues). slice_index_or x.values k None) is
        ∙ ⊎_elim
        (λ own. ap (λ j. slice_index_or (with_value u (record { 0 = n }) (given_at t a n)).values j None) own
        ∙ get_or-set_same u.values n (given_at t a n) None (omega (arith, inside, h.user.values)) ∙ ap (given_at t a) (sym own))
        (λ other. get_or-set_other u.values n k (given_at t a n) None other ∙ h.values k (omega (arith, below, other)))
        (cases_eq k n);
    chosen = ap (λ (x : UserValues). x.chosen) is ∙ h.chosen;
  }

  pub given_all : (n : ℕ) (u : UserValues) → HasGiven t a n u → length t.symbols ≤ n → u ≡ all_given t a
  unfolding all_given
  given_all n u h all =
      ap (λ x. record { values = x; chosen = u.chosen }) (fill_by_all (given_at t a) u.values (length t.symbols) None h.user.values (λ k l. h.values k (omega (arith, l, all))))
      ∙ ap (λ x. record { values = map (given_at t a) (range_with_len 0 (length t.symbols)); chosen = x }) h.chosen

  -- what each is given, and each choice
  pub given_there : (s : SymId) → s.0 < length t.symbols → user_value (all_given t a) s ≡ value_given t a s
  unfolding all_given
  given_there s inside = get_or-map-range_with_len (given_at t a) 0 (length t.symbols) s.0 s.0 None inside (omega arith)

  pub none_there : (c : ChoiceId) → chosen_in (all_given t a) c ≡ None
  unfolding all_given
  none_there c = none_in {X = SymId} (length t.choices) c.0
