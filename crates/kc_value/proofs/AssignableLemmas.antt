-- The values that a symbol shows for some user value of its type.
use Rattle.std.proofs.Common.{◌≡◌, ◌<◌, Bool, true, false, true≢false, List, [], ◌∷◌, Option, Some, None, length, if◌then◌else◌, get_or-set_same, refl, sym, ap, ◌∙◌, arith}
use Rattle.std.specs.Prelude.{is_some, option_and_then, unwrap_or}
use Rattle.std.specs.List.{slice_get, filter, list_any}
use Rattle.std.proofs.lemmas.List.Elements.{Contains-append_right}
use Rattle.std.specs.Option.{option_map_or}
use Rattle.kc_statement.specs.declared.id.SymId.{SymId}
use Rattle.kc_outline.specs.declared.id.ChoiceId.{ChoiceId}
use Rattle.kc_tree.specs.declared.node.Node.{Node}
use Rattle.kc_tree.specs.declared.node.Node.TheVariants.{Vis, Val}
use Rattle.kc_statement.specs.declared.symbol_type.SymbolType.{SymbolType}
use Rattle.kc_statement.specs.declared.symbol_type.SymbolType.TheVariants.{Bool as BoolType, Tristate, String as StringType, Int as IntType, Hex as HexType}
use Rattle.kc_statement.specs.declared.tri.Tri.{Tri}
use Rattle.kc_statement.specs.declared.tri.Tri.TheVariants.{No, Module, Yes}
use Rattle.kc_tree.specs.declared.user_value.UserVal.TheVariants.{Tri as TriVal}
use Rattle.kc_statement.specs.SymbolTypes.{is_tri_type}
use Rattle.kc_outline.specs.TreeValue.{TreeValue, SymbolValue, kind_of, choice_of}
use Rattle.kc_tree.specs.Reached.{Reached}
use Rattle.kc_tree.specs.Uses.{Uses}
use Rattle.kc_value.specs.declared.value.Value.TheVariants.{Tri as Level}
use Rattle.kc_statement.specs.Tristate.{greatest, is_no, least}
use Rattle.kc_value.specs.declared.symbol_value.LineValues.{LineValues}
use Rattle.kc_value.specs.Assignment.{Assignment, as_tri}
use Rattle.kc_value.specs.UserValues.{UserValues, IsUserFor, user_value, with_value}
use Rattle.kc_value.specs.ChoiceRule.{member_rule}
use Rattle.kc_value.specs.TextRule.{text_rule}
use Rattle.kc_value.specs.Rule.{rule, tri_rule, free_rule, symbol_rule, base_value, default_value, direct, has_modules, in_type, reverse_values, user_part}
use Rattle.kc_value.specs.Assignable.{same_tri, shown_with, values_of_type, values_of, is_shown_with_some, assignable_in}
use Rattle.kc_value.specs.LineValues.{shown_by}
use Rattle.kc_value.specs.Solution.{solution}
use Rattle.kc_value.proofs.Agreement.{rule_agrees}

none_of : {X : Type 0} (o : Option X) → is_some o ≡ false → o ≡ None
none_of None h = refl
none_of (Some x) h = absurd (true≢false h)

-- what gives the same for a type with values is as good
any_same : (f g : Tri → Tri) (k : SymbolType) (w : Tri) → (is_tri_type k ≡ true → (v : Tri) → f v ≡ g v)
    → list_any (λ v. same_tri (f v) w) (values_of_type k) ≡ list_any (λ v. same_tri (g v) w) (values_of_type k)
any_same f g BoolType w same = ap (λ (h : Tri → Tri). list_any (λ v. same_tri (h v) w) (values_of_type BoolType)) (λ i v. same refl v i)
any_same f g Tristate w same = ap (λ (h : Tri → Tri). list_any (λ v. same_tri (h v) w) (values_of_type Tristate)) (λ i v. same refl v i)
any_same f g StringType w same = refl
any_same f g IntType w same = refl
any_same f g HexType w same = refl

-- what is shown by the values of the lines is what the rule shows
shown_by_lines : (t : TreeValue) (a : Assignment) (x : SymbolValue) (lines : LineValues) (vis value : Tri)
    → lines.default ≡ default_value t a x → lines.implied ≡ reverse_values t a x.implied → lines.selected ≡ reverse_values t a x.selected
    → lines.direct ≡ direct t a x → lines.has_modules ≡ has_modules t a x
    → shown_by lines vis (Some (TriVal value)) ≡ as_tri (tri_rule t a x vis (Some (TriVal value)))
shown_by_lines t a x lines vis value ed ei es er em =
    ap (λ m. in_type m (greatest (unwrap_or (user_part vis (Some (TriVal value))) (least (greatest lines.default lines.implied) lines.direct)) lines.selected)) em
    ∙ ap (λ v. in_type (has_modules t a x) (greatest (unwrap_or (user_part vis (Some (TriVal value))) (least (greatest v lines.implied) lines.direct)) lines.selected)) ed
    ∙ ap (λ v. in_type (has_modules t a x) (greatest (unwrap_or (user_part vis (Some (TriVal value))) (least (greatest (default_value t a x) v) lines.direct)) lines.selected)) ei
    ∙ ap (λ v. in_type (has_modules t a x) (greatest (unwrap_or (user_part vis (Some (TriVal value))) (least (greatest (default_value t a x) (reverse_values t a x.implied)) v)) lines.selected)) er
    ∙ ap (λ v. in_type (has_modules t a x) (greatest (base_value t a x vis (Some (TriVal value))) v)) es

module _ (t : TreeValue) (u : UserValues) (a : Assignment) (s : SymId) (sized : IsUserFor t u) (x : SymbolValue) (within : s.0 < length t.symbols) (found : slice_get t.symbols s.0 ≡ Some x) (alone : is_some (choice_of t s) ≡ false) where
  abbrev vis : Tri
  vis = as_tri (a (Vis s))

  abbrev shown : Tri → Tri
  shown v = as_tri (tri_rule t a x vis (Some (TriVal v)))

  no_choice : x.choice ≡ None
  no_choice = none_of x.choice (sym (ap (λ (o : Option SymbolValue). is_some (option_and_then (λ y. y.choice) o)) found) ∙ alone)

  -- what the symbol shows with a user value is the rule at that value
  shown_at : is_tri_type (kind_of x) ≡ true → (v : Tri) → shown_with t u a s v ≡ shown v
  unfolding rule
  shown_at tri v =
      let room : s.0 < length u.values = omega (arith, within, sized.values) in
      ap (λ o. as_tri (option_map_or (λ y. symbol_rule t a s y vis (user_value (with_value u s (Some (TriVal v))) s)) o (Level No))) found
      ∙ ap (λ w. as_tri (symbol_rule t a s x vis w)) (get_or-set_same u.values s.0 (Some (TriVal v)) None room)
      ∙ ap (λ (o : Option ChoiceId). as_tri (option_map_or (λ c. member_rule t a c s vis) o (free_rule t a x vis (Some (TriVal v))))) no_choice
      ∙ ap (λ b. as_tri (if b then tri_rule t a x vis (Some (TriVal v)) else text_rule t a x vis (Some (TriVal v)))) tri

  some_is : (w : Tri) → list_any (λ v. same_tri (shown v) w) (values_of_type (kind_of x)) ≡ is_shown_with_some t u a s w
  some_is w =
      sym (any_same (shown_with t u a s) shown (kind_of x) w shown_at)
      ∙ ap (λ o. list_any (λ v. same_tri (shown_with t u a s v) w) (option_map_or (λ y. values_of_type (kind_of y)) o [])) (sym found)

  -- the values that it shows by what its lines give, with some value of its type
  pub shown_is : (lines : LineValues) (v : Tri) (given items : List Tri)
      → lines.default ≡ default_value t a x → lines.implied ≡ reverse_values t a x.implied → lines.selected ≡ reverse_values t a x.selected
      → lines.direct ≡ direct t a x → lines.has_modules ≡ has_modules t a x
      → v ≡ vis → given ≡ values_of_type (kind_of x)
      → items ≡ filter (λ w. list_any (λ g. same_tri (shown_by lines v (Some (TriVal g))) w) given) (No ∷ Module ∷ Yes ∷ [])
      → items ≡ filter (is_shown_with_some t u a s) (No ∷ Module ∷ Yes ∷ [])
  shown_is lines v given items ed ei es er em ev eg is =
      let all : List Tri = No ∷ Module ∷ Yes ∷ [] in
      let by : (g : Tri) → shown_by lines v (Some (TriVal g)) ≡ shown g = λ g.
      shown_by_lines t a x lines v g ed ei es er em ∙ ap (λ y. as_tri (tri_rule t a x y (Some (TriVal g)))) ev in
      is
      ∙ ap (λ (h : Tri → Tri). filter (λ w. list_any (λ g. same_tri (h g) w) given) all) (λ i g. by g i)
      ∙ ap (λ gs. filter (λ w. list_any (λ g. same_tri (shown g) w) gs) all) eg
      ∙ ap (λ (p : Tri → Bool). filter p all) (λ i w. some_is w i)

-- assignments that agree on what the value of the symbol is computed from show the same
pub shown_agrees : (t : TreeValue) (u : UserValues) (a b : Assignment) (s : SymId) → ((m : Node) → Uses t (Val s) m → a m ≡ b m)
    → filter (is_shown_with_some t u a s) (No ∷ Module ∷ Yes ∷ []) ≡ filter (is_shown_with_some t u b s) (No ∷ Module ∷ Yes ∷ [])
shown_agrees t u a b s same =
    ap (λ (f : Tri → Tri). filter (λ w. list_any (λ v. same_tri (f v) w) (values_of t s)) (No ∷ Module ∷ Yes ∷ []))
    (λ i v. as_tri (rule_agrees t (with_value u s (Some (TriVal v))) a b (Val s) same i))

-- what was shown over values that are right of the used nodes is what can be given to a visible symbol that is no member
pub used_values : (t : TreeValue) (u : UserValues) (a : Assignment) (s : SymId) (items : List Tri)
    → ((n : Node) → Uses t (Val s) n → a n ≡ solution t u n)
    → items ≡ filter (is_shown_with_some t u a s) (No ∷ Module ∷ Yes ∷ [])
    → is_no (as_tri (solution t u (Vis s))) ≡ false
    → is_some (choice_of t s) ≡ false
    → items ≡ assignable_in t u (solution t u) s
used_values t u a s items right shown seen alone =
    let all = filter (is_shown_with_some t u (solution t u) s) (No ∷ Module ∷ Yes ∷ []) in
    shown
    ∙ shown_agrees t u a (solution t u) s right
    ∙ sym (ap (λ b. if b then [] else (if is_some (choice_of t s) then Yes ∷ [] else all)) seen ∙ ap (λ b. if b then Yes ∷ [] else all) alone)

-- y alone can be given to a visible member
pub member_values : (t : TreeValue) (u : UserValues) (s : SymId) (items : List Tri) → items ≡ Yes ∷ [] → is_no (as_tri (solution t u (Vis s))) ≡ false → is_some (choice_of t s) ≡ true
    → items ≡ assignable_in t u (solution t u) s
member_values t u s items is seen member =
    let all = filter (is_shown_with_some t u (solution t u) s) (No ∷ Module ∷ Yes ∷ []) in
    is ∙ sym (ap (λ b. if b then [] else (if is_some (choice_of t s) then Yes ∷ [] else all)) seen ∙ ap (λ b. if b then Yes ∷ [] else all) member)

-- none can be given to an invisible symbol
pub no_values : (t : TreeValue) (u : UserValues) (s : SymId) (items : List Tri) → items ≡ [] → is_no (as_tri (solution t u (Vis s))) ≡ true
    → items ≡ assignable_in t u (solution t u) s
no_values t u s items is seen =
    let all = filter (is_shown_with_some t u (solution t u) s) (No ∷ Module ∷ Yes ∷ []) in
    is ∙ sym (ap (λ b. if b then [] else (if is_some (choice_of t s) then Yes ∷ [] else all)) seen)

-- ---- a node reaches no more than it and another do
pub second_in_both : (t : TreeValue) (p q : Node) → (n : Node) → Reached t (q ∷ []) n → Reached t (p ∷ q ∷ []) n
second_in_both t p q n (m, asked, leads) = (m, Contains-append_right (p ∷ []) (q ∷ []) m asked, leads)
