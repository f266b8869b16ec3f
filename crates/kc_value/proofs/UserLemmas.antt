-- User values that fit their symbols still do once one is set or removed.
use Rattle.std.proofs.Common.{◌≡◌, ◌<◌, ℕ, true, false, true≢false, not, ◌&&◌, if◌then◌else◌, Option, Some, None, is_some, length, replicate, get_or, set, slice_get, get_or-set_same, get_or-set_other, sym, ap, ◌∙◌, refl, subst, ⊎_elim, arith}
use Rattle.std.specs.Option.{option_map_or}
use Rattle.std.proofs.lemmas.Bool.{cases_eq, cases_lt}
use Rattle.std.proofs.lemmas.List.{length-set, length-replicate, get_or-replicate, get_or_past}
use Rattle.std.proofs.lemmas.Option.{slice_get_within}
use Rattle.kc_statement.specs.declared.id.SymId.{SymId}
use Rattle.kc_statement.specs.declared.tri.Tri.{Tri}
use Rattle.kc_statement.specs.declared.tri.Tri.TheVariants.{No, Module, Yes}
use Rattle.kc_statement.specs.Tristate.{is_no}
use Rattle.kc_outline.specs.declared.id.ChoiceId.{ChoiceId}
use Rattle.kc_outline.specs.TreeValue.{TreeValue, SymbolValue, kind_of}
use Rattle.kc_tree.specs.Fits.{fits, fits_type}
use Rattle.kc_tree.specs.declared.user_value.UserVal.{UserVal}
use Rattle.kc_value.specs.Assignment.{Assignment}
use Rattle.kc_value.specs.Rule.{symbol_rule}
use Rattle.kc_value.specs.UserValues.{UserValues, IsUserFor, with_value, with_chosen, no_values}

-- ---- lists of places
pub none_in : {X : Type 0} (n i : ℕ) → get_or {A = Option X} (replicate n None) i None ≡ None
none_in {X} n i =
    ⊎_elim (λ h. get_or-replicate {A = Option X} n i None None h)
    (λ h. get_or_past {X = Option X} (replicate n None) i None (omega (arith, length-replicate {A = Option X} n None, h)))
    (cases_lt i n)

-- ---- the values of a user
-- what fits is a value of a symbol of the tree, which has a place
fits_within : (t : TreeValue) (s : SymId) (v : UserVal) → fits t s v ≡ true → s.0 < length t.symbols
fits_within t s v h = go (slice_get t.symbols s.0) refl h
  where
    go : (o : Option SymbolValue) → slice_get t.symbols s.0 ≡ o → option_map_or (λ x. not (is_some x.choice) && fits_type (kind_of x) v) o false ≡ true
        → s.0 < length t.symbols
    go None e k = absurd (true≢false (sym k))
    go (Some x) e k = slice_get_within t.symbols s.0 x e

pub value_room : (t : TreeValue) (u : UserValues) (s : SymId) (v : UserVal) → IsUserFor t u → fits t s v ≡ true → s.0 < length u.values
value_room t u s v user h = omega (arith, fits_within t s v h, user.values)

-- .. after one place changed
changed : (t : TreeValue) (u : UserValues) (s : SymId) (o : Option UserVal) → IsUserFor t u → s.0 < length u.values
    → ((v : UserVal) → o ≡ Some v → fits t s v ≡ true) → IsUserFor t (with_value u s o)
changed t u s o user room fit = record {
  values = length-set u.values s.0 o ∙ user.values;
  chosen = user.chosen;
  fitting = λ r v given.
      ⊎_elim
      (λ (same : r.0 ≡ s.0).
      let own : o ≡ Some v = sym (get_or-set_same u.values s.0 o None room) ∙ ap (λ k. get_or (set u.values s.0 o) k None) (sym same) ∙ given in
      ap (λ (n : ℕ). fits t (record { 0 = n }) v) same ∙ fit v own)
      (λ other. user.fitting r v (sym (get_or-set_other u.values s.0 r.0 o None other) ∙ given))
      (cases_eq r.0 s.0);
}

-- a value that fits
pub value_kept : (t : TreeValue) (u w : UserValues) (s : SymId) (v : UserVal) → w ≡ with_value u s (Some v) → IsUserFor t u → fits t s v ≡ true → IsUserFor t w
value_kept t u w s v is user h =
    subst (IsUserFor t) (sym is)
    (changed t u s (Some v) user (value_room t u s v user h) (λ x e. ap (λ (o : Option UserVal). option_map_or (fits t s) o true) (sym e) ∙ h))

-- no value
pub none_kept : (t : TreeValue) (u w : UserValues) (s : SymId) → s.0 < length u.values → w ≡ with_value u s None → IsUserFor t u → IsUserFor t w
none_kept t u w s room is user = subst (IsUserFor t) (sym is) (changed t u s None user room (λ x e. absurd (true≢false (sym (ap is_some e)))))

-- a chosen member
pub member_kept : (t : TreeValue) (u w : UserValues) (c : ChoiceId) (m : Option SymId) → w ≡ with_chosen u c m → IsUserFor t u → IsUserFor t w
member_kept t u w c m is user =
    let kept : IsUserFor t (with_chosen u c m) = record { values = user.values; chosen = length-set u.chosen c.0 m ∙ user.chosen; fitting = user.fitting } in
    subst (IsUserFor t) (sym is) kept

-- nothing at all
no_values_fit : (t : TreeValue) → IsUserFor t (no_values t)
no_values_fit t = record {
  values = length-replicate {A = Option UserVal} (length t.symbols) None;
  chosen = length-replicate {A = Option SymId} (length t.choices) None;
  fitting = λ s v given. absurd (true≢false (sym (ap is_some (sym (none_in {X = UserVal} (length t.symbols) s.0) ∙ given))));
}

pub empty_fits : (t : TreeValue) (u : UserValues) → u ≡ no_values t → IsUserFor t u
empty_fits t u is = subst (IsUserFor t) (sym is) (no_values_fit t)

pub all_removed : (t : TreeValue) (u w : UserValues) → w.values ≡ replicate (length u.values) None → w.chosen ≡ replicate (length u.chosen) None
    → IsUserFor t u → w ≡ no_values t
all_removed t u w values chosen user =
    ap (λ x. record { values = x; chosen = w.chosen }) (values ∙ ap (λ n. replicate n None) user.values)
    ∙ ap (λ x. record { values = replicate (length t.symbols) None; chosen = x }) (chosen ∙ ap (λ n. replicate n None) user.chosen)

-- ---- a symbol that is not visible
-- what the user gave makes no difference to it
pub unseen_given : (t : TreeValue) (a : Assignment) (s : SymId) (x : SymbolValue) (vis : Tri) (u : Option UserVal)
    → symbol_rule t a s x vis (if is_no vis then None else u) ≡ symbol_rule t a s x vis u
unseen_given t a s x No u = refl
unseen_given t a s x Module u = refl
unseen_given t a s x Yes u = refl
