-- A value that was changed is one that its symbol takes.
use Rattle.std.proofs.Common.{◌≡◌, ◌≢◌, ◌⊎◌, inl, inr, Bool, true, false, true≢false, not, ◌&&◌, ℕ, List, Option, Some, None, is_some, slice_get, unwrap_or, if◌then◌else◌, refl, sym, ap, ◌∙◌, ⊎_elim}
use Rattle.std.specs.Option.{option_map_or}
use Rattle.std.proofs.lemmas.Option.{same_Some}
use Rattle.kc_statement.specs.declared.id.SymId.{SymId}
use Rattle.kc_outline.specs.declared.id.ChoiceId.{ChoiceId}
use Rattle.kc_statement.specs.declared.tri.Tri.{Tri}
use Rattle.kc_statement.specs.declared.tri.Tri.TheVariants.{No, Module, Yes}
use Rattle.kc_statement.specs.declared.symbol_type.SymbolType.{SymbolType}
use Rattle.kc_statement.specs.declared.symbol_type.SymbolType.TheVariants as kind
use Rattle.kc_tree.specs.declared.user_value.UserVal.{UserVal}
use Rattle.kc_tree.specs.declared.user_value.UserVal.TheVariants.{Tri as TriVal, Text}
use Rattle.kc_tree.specs.declared.node.Node.TheVariants.{Vis}
use Rattle.kc_tree.specs.Fits.{fits, fits_type}
use Rattle.kc_statement.specs.SymbolTypes.{is_tri_type}
use Rattle.kc_statement.specs.Tristate.{greatest, is_no}
use Rattle.kc_outline.specs.TreeValue.{same_type}
use Rattle.kc_outline.specs.TreeValue.{TreeValue, SymbolValue, kind_of}
use Rattle.kc_value.specs.declared.value.Value.{Value}
use Rattle.kc_value.specs.declared.value.Value.TheVariants.{Tri as Level, Shown}
use Rattle.kc_value.specs.Assignment.{Assignment, as_tri}
use Rattle.kc_value.specs.UserValues.{UserValues, IsUserFor, user_value}
use Rattle.kc_value.specs.ExprValue.{modules_value}
use Rattle.kc_value.specs.TextRule.{number_or_zero, bounds_of, is_inside, text_rule}
use Rattle.kc_value.specs.ChoiceRule.{member_rule}
use Rattle.kc_value.specs.Rule.{in_type, reverse_values, base_value, tri_rule, symbol_rule}
use Rattle.kc_value.specs.Replay.{shown_in}

-- what a bool or a tristate shows is of its type
tri_fits : (k : SymbolType) (h : Bool) (v : Tri) → is_tri_type k ≡ true → fits_type k (TriVal (in_type (same_type k kind.Tristate && h) v)) ≡ true
tri_fits kind.Bool h No e = refl
tri_fits kind.Bool h Module e = refl
tri_fits kind.Bool h Yes e = refl
tri_fits kind.Tristate h v e = refl
tri_fits kind.String h v e = absurd (true≢false (sym e))
tri_fits kind.Int h v e = absurd (true≢false (sym e))
tri_fits kind.Hex h v e = absurd (true≢false (sym e))

-- a text that a user value changes is that user value
within_shown : (f : Option UserVal → Value) (line : Bool) (other w : List ℕ) (b : Bool)
    → f None ≡ Shown (Text other) line → f (Some (Text w)) ≡ Shown (Text (unwrap_or (if b then Some w else None) other)) line
    → (f (Some (Text w)) ≡ f None) ⊎ (shown_in (f (Some (Text w))) ≡ Some (Text w))
within_shown f line other w true none some = inr (ap shown_in some)
within_shown f line other w false none some = inl (some ∙ sym none)

text_shown : (t : TreeValue) (a : Assignment) (x : SymbolValue) (vis : Tri) (u : Option UserVal)
    → (text_rule t a x vis u ≡ text_rule t a x vis None) ⊎ (shown_in (text_rule t a x vis u) ≡ u)
text_shown t a x No u = inl refl
text_shown t a x Module None = inl refl
text_shown t a x Module (Some (TriVal v)) = inl refl
text_shown t a x Module (Some (Text w)) = within_shown (text_rule t a x Module) _ _ w (is_inside (bounds_of t a x) (number_or_zero (kind_of x) w)) refl refl
text_shown t a x Yes None = inl refl
text_shown t a x Yes (Some (TriVal v)) = inl refl
text_shown t a x Yes (Some (Text w)) = within_shown (text_rule t a x Yes) _ _ w (is_inside (bounds_of t a x) (number_or_zero (kind_of x) w)) refl refl

module _ (t : TreeValue) (u : UserValues) (a : Assignment) (s : SymId) (user : IsUserFor t u) (x : SymbolValue) (found : slice_get t.symbols s.0 ≡ Some x) where
  abbrev vis : Tri
  vis = as_tri (a (Vis s))

  -- of a symbol that is no member, what is of its type fits it
  typed_fits : (v : UserVal) → x.choice ≡ None → fits_type (kind_of x) v ≡ true → fits t s v ≡ true
  typed_fits v alone typed =
      ap (λ (o : Option SymbolValue). option_map_or (λ z. not (is_some z.choice) && fits_type (kind_of z) v) o false) found
      ∙ ap (λ (o : Option ChoiceId). not (is_some o) && fits_type (kind_of x) v) alone
      ∙ typed

  free_fits : (b : Bool) → is_tri_type (kind_of x) ≡ b → (v : UserVal) → x.choice ≡ None
      → shown_in (if b then tri_rule t a x vis (user_value u s) else text_rule t a x vis (user_value u s)) ≡ Some v
      → (if b then tri_rule t a x vis (user_value u s) else text_rule t a x vis (user_value u s)) ≢ (if b then tri_rule t a x vis None else text_rule t a x vis None)
      → fits t s v ≡ true
  free_fits true e v alone is differs =
      let given = greatest (base_value t a x vis (user_value u s)) (reverse_values t a x.selected) in
      let typed = tri_fits (kind_of x) (not (is_no (modules_value t a))) given e in
      typed_fits v alone (ap (fits_type (kind_of x)) (sym (same_Some _ _ is)) ∙ typed)
  free_fits false e v alone is differs =
      ⊎_elim (λ same. absurd (differs same)) (λ shown. user.fitting s v (sym shown ∙ is)) (text_shown t a x vis (user_value u s))

  -- what a symbol shows, other than without a user value, fits it
  pub shown_fits : (o : Option ChoiceId) → x.choice ≡ o → (v : UserVal)
      → shown_in (option_map_or (λ c. member_rule t a c s vis) o (if is_tri_type (kind_of x) then tri_rule t a x vis (user_value u s) else text_rule t a x vis (user_value u s))) ≡ Some v
      → option_map_or (λ c. member_rule t a c s vis) o (if is_tri_type (kind_of x) then tri_rule t a x vis (user_value u s) else text_rule t a x vis (user_value u s))
      ≢ option_map_or (λ c. member_rule t a c s vis) o (if is_tri_type (kind_of x) then tri_rule t a x vis None else text_rule t a x vis None)
      → fits t s v ≡ true
  shown_fits None e v is differs = free_fits (is_tri_type (kind_of x)) refl v e is differs
  shown_fits (Some c) e v is differs = absurd (differs refl)

-- the same of a value by its rule
pub rule_fits : (t : TreeValue) (u : UserValues) (a : Assignment) (s : SymId) → IsUserFor t u → (o : Option SymbolValue) → slice_get t.symbols s.0 ≡ o → (v : UserVal)
    → shown_in (option_map_or (λ x. symbol_rule t a s x (as_tri (a (Vis s))) (user_value u s)) o (Level No)) ≡ Some v
    → option_map_or (λ x. symbol_rule t a s x (as_tri (a (Vis s))) (user_value u s)) o (Level No) ≢ option_map_or (λ x. symbol_rule t a s x (as_tri (a (Vis s))) None) o (Level No)
    → fits t s v ≡ true
rule_fits t u a s user None found v is differs = absurd (differs refl)
rule_fits t u a s user (Some x) found v is differs = shown_fits t u a s user x found x.choice refl v is differs

-- ---- a changed text is the user's own
abbrev is_text : UserVal → Bool
is_text (TriVal v) = false
is_text (Text w) = true

module _ (t : TreeValue) (u : UserValues) (a : Assignment) (s : SymId) (x : SymbolValue) (w : List ℕ) where
  abbrev seen : Tri
  seen = as_tri (a (Vis s))

  free_text : (b : Bool) → shown_in (if b then tri_rule t a x seen (user_value u s) else text_rule t a x seen (user_value u s)) ≡ Some (Text w)
      → (if b then tri_rule t a x seen (user_value u s) else text_rule t a x seen (user_value u s)) ≢ (if b then tri_rule t a x seen None else text_rule t a x seen None)
      → user_value u s ≡ Some (Text w)
  free_text true is differs = absurd (true≢false (sym (ap is_text (same_Some _ _ is))))
  free_text false is differs = ⊎_elim (λ same. absurd (differs same)) (λ shown. sym shown ∙ is) (text_shown t a x seen (user_value u s))

  shown_text : (o : Option ChoiceId)
      → shown_in (option_map_or (λ c. member_rule t a c s seen) o (if is_tri_type (kind_of x) then tri_rule t a x seen (user_value u s) else text_rule t a x seen (user_value u s))) ≡ Some (Text w)
      → option_map_or (λ c. member_rule t a c s seen) o (if is_tri_type (kind_of x) then tri_rule t a x seen (user_value u s) else text_rule t a x seen (user_value u s))
      ≢ option_map_or (λ c. member_rule t a c s seen) o (if is_tri_type (kind_of x) then tri_rule t a x seen None else text_rule t a x seen None)
      → user_value u s ≡ Some (Text w)
  shown_text None is differs = free_text (is_tri_type (kind_of x)) is differs
  shown_text (Some c) is differs = absurd (differs refl)

-- a text by its rule, other than without a user value, is that user value
pub rule_text : (t : TreeValue) (u : UserValues) (a : Assignment) (s : SymId) (o : Option SymbolValue) (w : List ℕ)
    → shown_in (option_map_or (λ x. symbol_rule t a s x (as_tri (a (Vis s))) (user_value u s)) o (Level No)) ≡ Some (Text w)
    → option_map_or (λ x. symbol_rule t a s x (as_tri (a (Vis s))) (user_value u s)) o (Level No) ≢ option_map_or (λ x. symbol_rule t a s x (as_tri (a (Vis s))) None) o (Level No)
    → user_value u s ≡ Some (Text w)
rule_text t u a s None w is differs = absurd (differs refl)
rule_text t u a s (Some x) w is differs = shown_text t u a s x w x.choice is differs
