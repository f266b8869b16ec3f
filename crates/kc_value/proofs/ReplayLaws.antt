-- What a node shows, given back to it as its user value or chosen member, is shown again.
use Rattle.std.proofs.Common.{◌≡◌, ◌⊎◌, inl, inr, Bool, true, false, ◌&&◌, ◌==◌, ℕ, List, [], ◌∷◌, Option, Some, None, find, slice_get, unwrap_or, if◌then◌else◌, refl, sym, ap, ◌∙◌, cond, ⊎_elim}
use Rattle.std.specs.Option.{option_map_or, option_or}
use Rattle.std.specs.List.{filter_map}
use Rattle.std.proofs.lemmas.Bool.{eqb-true}
use Rattle.kc_statement.specs.declared.id.SymId.{SymId}
use Rattle.kc_outline.specs.declared.id.ChoiceId.{ChoiceId}
use Rattle.kc_tree.specs.declared.node.Node.TheVariants.{Vis, Val, Mode, Sel}
use Rattle.kc_statement.specs.declared.tri.Tri.{Tri}
use Rattle.kc_statement.specs.declared.tri.Tri.TheVariants.{No, Module, Yes}
use Rattle.kc_tree.specs.declared.user_value.UserVal.{UserVal}
use Rattle.kc_tree.specs.declared.user_value.UserVal.TheVariants.{Tri as TriVal, Text}
use Rattle.kc_statement.specs.SymbolTypes.{is_tri_type}
use Rattle.kc_outline.specs.TreeValue.{TreeValue, SymbolValue, ChoiceValue, kind_of}
use Rattle.kc_statement.specs.Tristate.{least, greatest, is_no}
use Rattle.kc_value.specs.declared.value.Value.{Value}
use Rattle.kc_value.specs.declared.value.Value.TheVariants.{Tri as Level, Shown, Member}
use Rattle.kc_value.specs.Assignment.{Assignment, as_tri, as_member}
use Rattle.kc_value.specs.UserValues.{UserValues, user_value, chosen_in}
use Rattle.kc_value.specs.TextRule.{number_or_zero, bounds_of, is_inside, clamped, default_text, has_text_line, text_rule}
use Rattle.kc_value.specs.ChoiceRule.{is_visible, is_symbol, default_member, selection, member_rule}
use Rattle.kc_value.specs.Rule.{rule, in_type, has_modules, reverse_values, has_line, tri_rule, free_rule, symbol_rule}
use Rattle.kc_value.specs.Replay.{shown_in}

-- ---- symbols
-- a user value makes no difference, or what is shown with it is shown with itself
abbrev pub IsReplayed : (Option UserVal → Value) → Option UserVal → Type 0
IsReplayed f u = (f u ≡ f None) ⊎ (f (shown_in (f u)) ≡ f u)

shown_again : (has : Bool) (vis v sel : Tri) → in_type has (greatest (least (in_type has (greatest (least v vis) sel)) vis) sel) ≡ in_type has (greatest (least v vis) sel)
shown_again true No No No = refl
shown_again true No No Module = refl
shown_again true No No Yes = refl
shown_again true No Module No = refl
shown_again true No Module Module = refl
shown_again true No Module Yes = refl
shown_again true No Yes No = refl
shown_again true No Yes Module = refl
shown_again true No Yes Yes = refl
shown_again true Module No No = refl
shown_again true Module No Module = refl
shown_again true Module No Yes = refl
shown_again true Module Module No = refl
shown_again true Module Module Module = refl
shown_again true Module Module Yes = refl
shown_again true Module Yes No = refl
shown_again true Module Yes Module = refl
shown_again true Module Yes Yes = refl
shown_again true Yes No No = refl
shown_again true Yes No Module = refl
shown_again true Yes No Yes = refl
shown_again true Yes Module No = refl
shown_again true Yes Module Module = refl
shown_again true Yes Module Yes = refl
shown_again true Yes Yes No = refl
shown_again true Yes Yes Module = refl
shown_again true Yes Yes Yes = refl
shown_again false No No No = refl
shown_again false No No Module = refl
shown_again false No No Yes = refl
shown_again false No Module No = refl
shown_again false No Module Module = refl
shown_again false No Module Yes = refl
shown_again false No Yes No = refl
shown_again false No Yes Module = refl
shown_again false No Yes Yes = refl
shown_again false Module No No = refl
shown_again false Module No Module = refl
shown_again false Module No Yes = refl
shown_again false Module Module No = refl
shown_again false Module Module Module = refl
shown_again false Module Module Yes = refl
shown_again false Module Yes No = refl
shown_again false Module Yes Module = refl
shown_again false Module Yes Yes = refl
shown_again false Yes No No = refl
shown_again false Yes No Module = refl
shown_again false Yes No Yes = refl
shown_again false Yes Module No = refl
shown_again false Yes Module Module = refl
shown_again false Yes Module Yes = refl
shown_again false Yes Yes No = refl
shown_again false Yes Yes Module = refl
shown_again false Yes Yes Yes = refl

module _ (t : TreeValue) (a : Assignment) where
  tri_seen : (x : SymbolValue) (vis v : Tri) → let shown = in_type (has_modules t a x) (greatest (least v vis) (reverse_values t a x.selected)) in
      Shown (TriVal (in_type (has_modules t a x) (greatest (least shown vis) (reverse_values t a x.selected)))) (has_line t a x vis) ≡ Shown (TriVal shown) (has_line t a x vis)
  tri_seen x vis v = ap (λ r. Shown (TriVal r) (has_line t a x vis)) (shown_again (has_modules t a x) vis v (reverse_values t a x.selected))

  tri_replayed : (x : SymbolValue) (vis : Tri) (u : Option UserVal) → IsReplayed (tri_rule t a x vis) u
  tri_replayed x No u = inl refl
  tri_replayed x Module None = inl refl
  tri_replayed x Module (Some (Text w)) = inl refl
  tri_replayed x Module (Some (TriVal v)) = inr (tri_seen x Module v)
  tri_replayed x Yes None = inl refl
  tri_replayed x Yes (Some (Text w)) = inl refl
  tri_replayed x Yes (Some (TriVal v)) = inr (tri_seen x Yes v)

  -- a text that is inside the range, or not
  text_within : (x : SymbolValue) (f : Option UserVal → Value) (line : Bool) (other w : List ℕ) (b : Bool)
      → f None ≡ Shown (Text other) line
      → f (Some (Text w)) ≡ Shown (Text (unwrap_or (if b then Some w else None) other)) line
      → IsReplayed f (Some (Text w))
  text_within x f line other w true none some = inr (ap (λ v. f (shown_in v)) some)
  text_within x f line other w false none some = inl (some ∙ sym none)

  text_replayed : (x : SymbolValue) (vis : Tri) (u : Option UserVal) → IsReplayed (text_rule t a x vis) u
  text_replayed x No u = inl refl
  text_replayed x Module None = inl refl
  text_replayed x Module (Some (TriVal v)) = inl refl
  text_replayed x Module (Some (Text w)) =
      text_within x (text_rule t a x Module) (has_text_line t a x Module) (clamped (kind_of x) (bounds_of t a x) (unwrap_or (default_text t a x) [])) w (is_inside (bounds_of t a x) (number_or_zero (kind_of x) w)) refl refl
  text_replayed x Yes None = inl refl
  text_replayed x Yes (Some (TriVal v)) = inl refl
  text_replayed x Yes (Some (Text w)) =
      text_within x (text_rule t a x Yes) (has_text_line t a x Yes) (clamped (kind_of x) (bounds_of t a x) (unwrap_or (default_text t a x) [])) w (is_inside (bounds_of t a x) (number_or_zero (kind_of x) w)) refl refl

  one_replayed : (b : Bool) (f g : Option UserVal → Value) (u : Option UserVal) → IsReplayed f u → IsReplayed g u → IsReplayed (λ w. if b then f w else g w) u
  one_replayed true f g u p q = p
  one_replayed false f g u p q = q

  free_replayed : (x : SymbolValue) (vis : Tri) (u : Option UserVal) → IsReplayed (free_rule t a x vis) u
  free_replayed x vis u = one_replayed (is_tri_type (kind_of x)) (tri_rule t a x vis) (text_rule t a x vis) u (tri_replayed x vis u) (text_replayed x vis u)

  symbol_in_replayed : (s : SymId) (x : SymbolValue) (vis : Tri) (u : Option UserVal) (o : Option ChoiceId)
      → IsReplayed (λ w. option_map_or (λ c. member_rule t a c s vis) o (free_rule t a x vis w)) u
  symbol_in_replayed s x vis u None = free_replayed x vis u
  symbol_in_replayed s x vis u (Some c) = inl refl

  symbol_replayed : (s : SymId) (x : SymbolValue) (vis : Tri) (u : Option UserVal) → IsReplayed (symbol_rule t a s x vis) u
  symbol_replayed s x vis u = symbol_in_replayed s x vis u x.choice

  found_replayed : (s : SymId) (u : Option UserVal) (o : Option SymbolValue) → IsReplayed (λ w. option_map_or (λ x. symbol_rule t a s x (as_tri (a (Vis s))) w) o (Level No)) u
  found_replayed s u None = inl refl
  found_replayed s u (Some x) = symbol_replayed s x (as_tri (a (Vis s))) u

  -- ---- selections
  abbrev numbered : ℕ → Option SymId
  numbered n = let m : SymId = record { 0 = n } in Some m

  -- the first that a test passes among those that are m is m
  find_is : (p : SymId → Bool) (m : SymId) (ms : List SymId) → (find (λ s. is_symbol (Some m) s && p s) ms ≡ None) ⊎ (find (λ s. is_symbol (Some m) s && p s) ms ≡ Some m)
  find_is p m [] = inl refl
  find_is p m (s ∷ ms) = go (m.0 == s.0) refl (p s) (find_is p m ms)
    where
      rest : Option SymId
      rest = find (λ s. is_symbol (Some m) s && p s) ms

      go : (b : Bool) → (m.0 == s.0) ≡ b → (q : Bool) → (rest ≡ None) ⊎ (rest ≡ Some m) → (cond (b && q) (Some s) rest ≡ None) ⊎ (cond (b && q) (Some s) rest ≡ Some m)
      go false e q more = more
      go true e false more = more
      go true e true more = inr (ap numbered (sym (eqb-true m.0 s.0 e)))

  find_none : (p : SymId → Bool) (ms : List SymId) → find (λ s. is_symbol None s && p s) ms ≡ None
  find_none p [] = refl
  find_none p (s ∷ ms) = find_none p ms

  -- the symbol that is chosen where it passes, else the rest
  abbrev chose : Bool → (SymId → Bool) → List SymId → Option SymId → Option SymId → Option SymId
  chose off p ms rest chosen = option_or (if off then None else find (λ s. is_symbol chosen s && p s) ms) rest

  rest_again : (p : SymId → Bool) (ms : List SymId) (rest : Option SymId) → chose false p ms rest rest ≡ rest
  rest_again p ms None = ap (λ o. option_or o None) (find_none p ms)
  rest_again p ms (Some m) = ⊎_elim (λ none. ap (λ o. option_or o (Some m)) none) (λ some. ap (λ o. option_or o (Some m)) some) (find_is p m ms)

  chose_rest : (p : SymId → Bool) (ms : List SymId) (rest chosen : Option SymId) → chose false p ms rest chosen ≡ rest
      → chose false p ms rest (chose false p ms rest chosen) ≡ chose false p ms rest chosen
  chose_rest p ms rest chosen is = ap (chose false p ms rest) is ∙ rest_again p ms rest ∙ sym is

  chose_again : (off : Bool) (p : SymId → Bool) (ms : List SymId) (rest chosen : Option SymId) → chose off p ms rest (chose off p ms rest chosen) ≡ chose off p ms rest chosen
  chose_again true p ms rest chosen = refl
  chose_again false p ms rest None = chose_rest p ms rest None (ap (λ o. option_or o rest) (find_none p ms))
  chose_again false p ms rest (Some m) = ⊎_elim
      (λ none. chose_rest p ms rest (Some m) (ap (λ o. option_or o rest) none))
      (λ some. ap (chose false p ms rest) (ap (λ o. option_or o rest) some))
      (find_is p m ms)

  selection_again : (c : ChoiceId) (x : ChoiceValue) (chosen : Option SymId) → selection t a c x (selection t a c x chosen) ≡ selection t a c x chosen
  selection_again c x chosen =
      chose_again (is_no (as_tri (a (Mode c)))) (is_visible t a) x.members (option_or (slice_get (filter_map (default_member t a) x.defaults) 0) (find (is_visible t a) x.members)) chosen

  found_selected : (c : ChoiceId) (chosen : Option SymId) (o : Option ChoiceValue)
      → option_map_or (λ x. Member (selection t a c x (as_member (option_map_or (λ y. Member (selection t a c y chosen)) o (Level No))))) o (Level No) ≡ option_map_or (λ x. Member (selection t a c x chosen)) o (Level No)
  found_selected c chosen None = refl
  found_selected c chosen (Some x) = ap Member (selection_again c x chosen)

-- a value that is the rule's is that without a user value, or it comes again with itself as user value
pub value_replayed : (t : TreeValue) (u w none : UserValues) (a : Assignment) (s : SymId) → a (Val s) ≡ rule t u a (Val s)
    → user_value none s ≡ None → user_value w s ≡ shown_in (a (Val s))
    → (a (Val s) ≡ rule t none a (Val s)) ⊎ (rule t w a (Val s) ≡ a (Val s))
unfolding rule
value_replayed t u w none a s is absent given =
    let f : Option UserVal → Value = λ v. option_map_or (λ x. symbol_rule t a s x (as_tri (a (Vis s))) v) (slice_get t.symbols s.0) (Level No) in
    ⊎_elim
    (λ same. inl (is ∙ same ∙ sym (ap f absent)))
    (λ again. inr (ap f (given ∙ ap shown_in is) ∙ again ∙ sym is))
    (found_replayed t a s (user_value u s) (slice_get t.symbols s.0))

-- a selection that is the rule's comes again with itself as chosen member
pub selection_replayed : (t : TreeValue) (u w : UserValues) (a : Assignment) (c : ChoiceId) → a (Sel c) ≡ rule t u a (Sel c)
    → chosen_in w c ≡ as_member (a (Sel c)) → rule t w a (Sel c) ≡ a (Sel c)
unfolding rule
selection_replayed t u w a c is given =
    let f : Option SymId → Value = λ m. option_map_or (λ x. Member (selection t a c x m)) (slice_get t.choices c.0) (Level No) in
    ap f (given ∙ ap as_member is) ∙ found_selected t a c (chosen_in u c) (slice_get t.choices c.0) ∙ sym is
