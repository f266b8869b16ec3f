-- A rule reads the nodes that its node uses, and no others, and of the user values only what changes its node.
use Rattle.std.proofs.Common.{◌≡◌, ◌<◌, Bool, true, false, cond, not, List, [], ◌∷◌, ◌++◌, map, Option, Some, None, find, slice_get, option_map, unwrap_or, refl, sym, ap, subst, ◌∙◌, arith, length, ◌||◌, ◌&&◌, true≢false, ℕ, ℤ, if◌then◌else◌}
use Rattle.std.specs.Prelude.{option_and_then, is_some}
use Rattle.std.specs.List.{Contains, AllByRecursion, flat_map, filter_map, cons_option}
use Rattle.std.specs.Option.{option_map_or, option_or}
use Rattle.std.specs.Cmp.Lexicographic.{slice_cmp}
use Rattle.std.specs.declared.cmp.Ordering.{Ordering}
use Rattle.std.specs.Ordering.{nat_cmp}
use Rattle.std.proofs.lemmas.List.Elements.{Contains-append_right}
use Rattle.kc_statement.specs.declared.expr.Term.{Term}
use Rattle.kc_statement.specs.declared.expr.Term.TheVariants.{Tri as Constant, Text as TextTerm, Symbol, Undefined}
use Rattle.kc_statement.specs.declared.expr.Expr.{Expr}
use Rattle.kc_statement.specs.declared.attribute.Prompt.{Prompt}
use Rattle.kc_statement.specs.declared.attribute.DefaultValue.{DefaultValue}
use Rattle.kc_statement.specs.declared.attribute.Range.{Range}
use Rattle.kc_outline.specs.declared.choice.ChoiceDefault.{ChoiceDefault}
use Rattle.kc_outline.specs.declared.symbol.Reverse.{Reverse}
use Rattle.kc_statement.specs.declared.symbol_type.SymbolType.{SymbolType}
use Rattle.kc_statement.specs.declared.symbol_type.SymbolType.TheVariants.{Tristate}
use Rattle.kc_statement.specs.declared.id.SymId.{SymId}
use Rattle.kc_outline.specs.declared.id.ChoiceId.{ChoiceId}
use Rattle.kc_tree.specs.declared.node.Node.{Node}
use Rattle.kc_tree.specs.declared.node.Node.TheVariants.{Vis, Val, Mode, Sel}
use Rattle.kc_statement.specs.declared.tri.Tri.{Tri}
use Rattle.kc_statement.specs.declared.tri.Tri.TheVariants.{No, Module, Yes}
use Rattle.kc_tree.specs.declared.user_value.UserVal.{UserVal}
use Rattle.kc_tree.specs.declared.user_value.UserVal.TheVariants.{Tri as TriVal, Text as TextVal}
use Rattle.kc_statement.specs.Formula.{Formula, atom, bare, compare, negation, group, both, either}
use Rattle.kc_statement.specs.SymbolTypes.{is_tri_type}
use Rattle.kc_outline.specs.TreeValue.{same_type}
use Rattle.kc_outline.specs.TreeValue.{TreeValue, SymbolValue, DefinitionValue, BlockValue, ChoiceValue, modules_symbol, kind_of, definitions_of, blocks_around, prompt_of, choice_prompt_of}
use Rattle.kc_statement.specs.Tristate.{least, greatest, least_of, greatest_of, complement, is_no}
use Rattle.kc_tree.specs.Uses.{Uses, used_nodes, symbol_nodes, term_nodes, formula_nodes, value_nodes, modules_nodes, nodes_if, conditions_nodes, own_condition_nodes, depends_nodes, visible_nodes, dependency_nodes, prompt_nodes, default_nodes, range_nodes, definition_nodes, reverse_nodes, mode_nodes, condition_nodes, selection_nodes, visibility_node, choice_prompt_nodes, choice_default_nodes, choice_value_nodes, type_nodes, visibility_nodes, free_value_nodes, symbol_value_nodes}
use Rattle.kc_value.specs.declared.value.Value.{Value}
use Rattle.kc_value.specs.declared.value.Value.TheVariants.{Tri as Level, Shown, Member}
use Rattle.kc_value.specs.declared.bounds.Bounds.{Bounds}
use Rattle.kc_value.specs.Assignment.{Assignment, as_tri, as_text, as_member, tri_letter}
use Rattle.kc_value.specs.UserValues.{UserValues, user_value, chosen_in}
use Rattle.kc_value.specs.ExprValue.{symbol_tri, modules_value, term_tri, term_text, tri_number, number_in_type, term_number, is_string_term, number_or_text_order, text_order, term_order, is_related, yes_if, formula_value, expr_value, conditions_value, own_condition}
use Rattle.kc_tree.specs.ConditionTable.{Condition, own_if, own_lines, depends_around, visible_around, mode_of, dependencies_in, also, of_prompt, of_property, of_reverse, of_choice_prompt, of_choice_default}
use Rattle.kc_value.specs.Conditions.{blocks_depend, blocks_visible, condition_value, dependency, prompt_value, mode_around, choice_prompt_value}
use Rattle.kc_value.specs.ChangedValue.{same_mark, same_member}
use Rattle.kc_value.specs.Dirty.{same_given, is_changed}
use Rattle.kc_value.specs.Defaults.{default_condition, is_active}
use Rattle.kc_value.specs.TextRule.{value_text, definition_text, default_text, number_or_zero, is_range_active, bounds_in, definition_bounds, is_number_type, bounds_of, user_text, clamped, text_rule}
use Rattle.kc_value.specs.ChoiceRule.{mode, is_visible, is_symbol, visible_if, default_member, selection, selected_in, member_rule}
use Rattle.kc_value.specs.Rule.{rule, in_type, has_modules, visibility, definition_default, default_value, reverse_value, reverse_values, direct, user_part, tri_rule, free_rule, symbol_rule}
use Rattle.kc_value.proofs.SameLaws.{mark_is, given_is, member_is}

module _ (a b : Assignment) where
  -- both give each of the nodes the same value
  abbrev pub Agree : List Node → Type 0
  Agree ns = AllByRecursion (λ n. a n ≡ b n) ns

  pub Agree-from_contains : (ns : List Node) → ((m : Node) → Contains ns m → a m ≡ b m) → Agree ns
  Agree-from_contains [] h = tt
  Agree-from_contains (n ∷ ns) h =
      let here : 0 < length (n ∷ ns) = omega arith in
      (h n (0, here, refl), Agree-from_contains ns (λ m k. h m (Contains-append_right (n ∷ []) ns m k)))

  pub Agree-left : (xs ys : List Node) → Agree (xs ++ ys) → Agree xs
  Agree-left [] ys h = tt
  Agree-left (x ∷ xs) ys h = (h.0, Agree-left xs ys h.1)

  pub Agree-right : (xs ys : List Node) → Agree (xs ++ ys) → Agree ys
  Agree-right [] ys h = h
  Agree-right (x ∷ xs) ys h = Agree-right xs ys h.1

  Agree-if : (test : Bool) (ns : List Node) → Agree (nodes_if test ns) → test ≡ true → Agree ns
  Agree-if true ns h e = h
  Agree-if false ns h e = absurd (true≢false (sym e))

  -- ---- lists of anything that reads nodes
  pub map_agrees : {X Y : Type 0} (f g : X → Y) (nodes : X → List Node) → ((x : X) → Agree (nodes x) → f x ≡ g x)
      → (xs : List X) → Agree (flat_map nodes xs) → map f xs ≡ map g xs
  map_agrees f g nodes same [] h = refl
  map_agrees f g nodes same (x ∷ xs) h =
      ap (λ y. y ∷ map f xs) (same x (Agree-left (nodes x) (flat_map nodes xs) h))
      ∙ ap (λ ys. g x ∷ ys) (map_agrees f g nodes same xs (Agree-right (nodes x) (flat_map nodes xs) h))

  pub filter_map_agrees : {X Y : Type 0} (f g : X → Option Y) (nodes : X → List Node) → ((x : X) → Agree (nodes x) → f x ≡ g x)
      → (xs : List X) → Agree (flat_map nodes xs) → filter_map f xs ≡ filter_map g xs
  filter_map_agrees f g nodes same [] h = refl
  filter_map_agrees f g nodes same (x ∷ xs) h =
      ap (λ y. cons_option y (filter_map f xs)) (same x (Agree-left (nodes x) (flat_map nodes xs) h))
      ∙ ap (λ ys. cons_option (g x) ys) (filter_map_agrees f g nodes same xs (Agree-right (nodes x) (flat_map nodes xs) h))

  pub found_agrees : {X Y : Type 0} (p q : X → Bool) (f g : X → Y) (nodes : X → List Node) → ((x : X) → Agree (nodes x) → p x ≡ q x) → ((x : X) → Agree (nodes x) → f x ≡ g x)
      → (xs : List X) → Agree (flat_map nodes xs) → option_map f (find p xs) ≡ option_map g (find q xs)
  found_agrees p q f g nodes test same [] h = refl
  found_agrees p q f g nodes test same (x ∷ xs) h =
      let here = Agree-left (nodes x) (flat_map nodes xs) h in
      ap (λ v. option_map f (cond v (Some x) (find p xs))) (test x here)
      ∙ elim (q x) as (λ v. option_map f (cond v (Some x) (find p xs)) ≡ option_map g (cond v (Some x) (find q xs))) [
        | true ↦ ap Some (same x here)
        | false ↦ found_agrees p q f g nodes test same xs (Agree-right (nodes x) (flat_map nodes xs) h)
      ]

  find_agrees : {X : Type 0} (p q : X → Bool) (nodes : X → List Node) → ((x : X) → Agree (nodes x) → p x ≡ q x)
      → (xs : List X) → Agree (flat_map nodes xs) → find p xs ≡ find q xs
  find_agrees p q nodes test [] h = refl
  find_agrees p q nodes test (x ∷ xs) h =
      ap (λ v. cond v (Some x) (find p xs)) (test x (Agree-left (nodes x) (flat_map nodes xs) h))
      ∙ ap (λ rest. cond (q x) (Some x) rest) (find_agrees p q nodes test xs (Agree-right (nodes x) (flat_map nodes xs) h))

  module _ (t : TreeValue) where
    -- ---- expressions
    found_symbol_agrees : (s : SymId) (o : Option SymbolValue) → Agree (option_map_or (λ x. Val s ∷ []) o [])
        → option_map_or (λ x. as_tri (a (Val s))) o No ≡ option_map_or (λ x. as_tri (b (Val s))) o No
    found_symbol_agrees s None h = refl
    found_symbol_agrees s (Some x) h = ap as_tri h.0

    symbol_tri_agrees : (s : SymId) → Agree (symbol_nodes t s) → symbol_tri t a s ≡ symbol_tri t b s
    symbol_tri_agrees s h = found_symbol_agrees s (slice_get t.symbols s.0) h

    found_modules_agree : (o : Option SymId) → Agree (option_map_or (symbol_nodes t) o []) → option_map_or (symbol_tri t a) o No ≡ option_map_or (symbol_tri t b) o No
    found_modules_agree None h = refl
    found_modules_agree (Some s) h = symbol_tri_agrees s h

    modules_agree : Agree (modules_nodes t) → modules_value t a ≡ modules_value t b
    modules_agree h = found_modules_agree (modules_symbol t) h

    term_agrees : (x : Term) → Agree (term_nodes t x) → term_tri t a x ≡ term_tri t b x
    term_agrees (Constant v) h = refl
    term_agrees (TextTerm w) h = refl
    term_agrees (Symbol s) h = symbol_tri_agrees s h
    term_agrees (Undefined w) h = refl

    found_text_agrees : (s : SymId) (o : Option SymbolValue) → Agree (option_map_or (λ x. Val s ∷ []) o [])
        → option_map_or (λ x. as_text (a (Val s))) o (tri_letter No) ≡ option_map_or (λ x. as_text (b (Val s))) o (tri_letter No)
    found_text_agrees s None h = refl
    found_text_agrees s (Some x) h = ap as_text h.0

    text_agrees : (x : Term) → Agree (term_nodes t x) → term_text t a x ≡ term_text t b x
    text_agrees (Constant v) h = refl
    text_agrees (TextTerm w) h = refl
    text_agrees (Symbol s) h = found_text_agrees s (slice_get t.symbols s.0) h
    text_agrees (Undefined w) h = refl

    found_number_agrees : (s : SymId) (o : Option SymbolValue) → Agree (option_map_or (λ x. Val s ∷ []) o [])
        → option_map_or (λ x. number_in_type (kind_of x) (a (Val s))) o (Some (tri_number No))
        ≡ option_map_or (λ x. number_in_type (kind_of x) (b (Val s))) o (Some (tri_number No))
    found_number_agrees s None h = refl
    found_number_agrees s (Some x) h = ap (number_in_type (kind_of x)) h.0

    number_agrees : (x : Term) → Agree (term_nodes t x) → term_number t a x ≡ term_number t b x
    number_agrees (Constant v) h = refl
    number_agrees (TextTerm w) h = refl
    number_agrees (Symbol s) h = found_number_agrees s (slice_get t.symbols s.0) h
    number_agrees (Undefined w) h = refl

    text_order_agrees : (x y : Term) → Agree (term_nodes t x) → Agree (term_nodes t y) → text_order t a x y ≡ text_order t b x y
    text_order_agrees x y h k =
        ap (λ w. slice_cmp nat_cmp w (term_text t a y)) (text_agrees x h)
        ∙ ap (λ w. slice_cmp nat_cmp (term_text t b x) w) (text_agrees y k)

    order_agrees : (x y : Term) → Agree (term_nodes t x) → Agree (term_nodes t y) → term_order t a x y ≡ term_order t b x y
    order_agrees x y h k =
        let of : Option ℤ → Option ℤ → Ordering → Ordering = λ n m texts. if is_string_term t x && is_string_term t y then texts else number_or_text_order n m texts in
        ap (λ n. of n (term_number t a y) (text_order t a x y)) (number_agrees x h)
        ∙ ap (λ n. of (term_number t b x) n (text_order t a x y)) (number_agrees y k)
        ∙ ap (λ o. of (term_number t b x) (term_number t b y) o) (text_order_agrees x y h k)

    formula_value_agrees : (f : Formula) → Agree (formula_nodes t f) → formula_value t a f ≡ formula_value t b f
    formula_value_agrees (atom x) h = term_agrees x h
    formula_value_agrees (bare x) h = ap (least Module) (modules_agree h)
    formula_value_agrees (compare c x y) h =
        ap (λ o. yes_if (is_related c o)) (order_agrees x y (Agree-left (term_nodes t x) (term_nodes t y) h) (Agree-right (term_nodes t x) (term_nodes t y) h))
    formula_value_agrees (negation f) h = ap complement (formula_value_agrees f h)
    formula_value_agrees (group f) h = formula_value_agrees f h
    formula_value_agrees (both f g) h =
        ap (λ v. least v (formula_value t a g)) (formula_value_agrees f (Agree-left (formula_nodes t f) (formula_nodes t g) h))
        ∙ ap (λ v. least (formula_value t b f) v) (formula_value_agrees g (Agree-right (formula_nodes t f) (formula_nodes t g) h))
    formula_value_agrees (either f g) h =
        ap (λ v. greatest v (formula_value t a g)) (formula_value_agrees f (Agree-left (formula_nodes t f) (formula_nodes t g) h))
        ∙ ap (λ v. greatest (formula_value t b f) v) (formula_value_agrees g (Agree-right (formula_nodes t f) (formula_nodes t g) h))

    pub expr_agrees : (e : Expr) → Agree (value_nodes t e) → expr_value t a e ≡ expr_value t b e
    expr_agrees e h = formula_value_agrees e h

    pub conditions_agree : (es : List Expr) → Agree (conditions_nodes t es) → conditions_value t a es ≡ conditions_value t b es
    conditions_agree es h = ap least_of (map_agrees (expr_value t a) (expr_value t b) (value_nodes t) expr_agrees es h)

    own_condition_agrees : (o : Option Expr) → Agree (own_condition_nodes t o) → own_condition t a o ≡ own_condition t b o
    own_condition_agrees None h = refl
    own_condition_agrees (Some e) h = expr_agrees e h

    -- ---- definitions
    pub blocks_depend_agrees : (blocks : List BlockValue) → Agree (depends_nodes t blocks) → blocks_depend t a blocks ≡ blocks_depend t b blocks
    blocks_depend_agrees blocks h =
        ap least_of (map_agrees (λ x. conditions_value t a x.depends) (λ x. conditions_value t b x.depends) (λ x. conditions_nodes t x.depends) (λ x k. conditions_agree x.depends k) blocks h)

    pub blocks_visible_agrees : (blocks : List BlockValue) → Agree (visible_nodes t blocks) → blocks_visible t a blocks ≡ blocks_visible t b blocks
    blocks_visible_agrees blocks h =
        ap least_of (map_agrees (λ x. conditions_value t a x.visible) (λ x. conditions_value t b x.visible) (λ x. conditions_nodes t x.visible) (λ x k. conditions_agree x.visible k) blocks h)

    dependency_agrees : (d : DefinitionValue) → Agree (dependency_nodes t d) → dependency t a d ≡ dependency t b d
    dependency_agrees d h =
        let around = blocks_around t d.block in
        let own = Agree-left (conditions_nodes t d.depends) (depends_nodes t around) h in
        let above = Agree-right (conditions_nodes t d.depends) (depends_nodes t around) h in
        ap (λ v. least v (blocks_depend t a around)) (conditions_agree d.depends own)
        ∙ ap (λ v. least (conditions_value t b d.depends) v) (blocks_depend_agrees around above)

    found_choice_agrees : {Y : Type 0} (f : Value → Y) (y : Y) (n : Node) (o : Option ChoiceValue) → Agree (option_map_or (λ x. n ∷ []) o [])
        → option_map_or (λ x. f (a n)) o y ≡ option_map_or (λ x. f (b n)) o y
    found_choice_agrees f y n None h = refl
    found_choice_agrees f y n (Some x) h = ap f h.0

    mode_around_agrees : (o : Option ChoiceId) → Agree (option_map_or (mode_nodes t) o []) → mode_around t a o ≡ mode_around t b o
    mode_around_agrees None h = refl
    mode_around_agrees (Some c) h = found_choice_agrees as_tri Yes (Mode c) (slice_get t.choices c.0) h

    found_dependency_agrees : (o : Option DefinitionValue) → Agree (condition_nodes t (dependencies_in o)) → condition_value t a (dependencies_in o) ≡ condition_value t b (dependencies_in o)
    found_dependency_agrees None h = refl
    found_dependency_agrees (Some d) h = dependency_agrees d h

    -- what holds of the table of conditions, whatever a part depends on
    pub condition_agrees : (c : Condition) → Agree (condition_nodes t c) → condition_value t a c ≡ condition_value t b c
    condition_agrees (own_if o) h = own_condition_agrees o h
    condition_agrees (own_lines es) h = conditions_agree es h
    condition_agrees (depends_around bs) h = blocks_depend_agrees bs h
    condition_agrees (visible_around bs) h = blocks_visible_agrees bs h
    condition_agrees (mode_of o) h = mode_around_agrees o h
    condition_agrees (dependencies_in o) h = found_dependency_agrees o h
    condition_agrees (also c d) h =
        ap (λ v. least v (condition_value t a d)) (condition_agrees c (Agree-left (condition_nodes t c) (condition_nodes t d) h))
        ∙ ap (λ v. least (condition_value t b c) v) (condition_agrees d (Agree-right (condition_nodes t c) (condition_nodes t d) h))

    found_prompt_agrees : (c : Prompt → Condition) (o : Option Prompt) → Agree (option_map_or (λ p. condition_nodes t (c p)) o [])
        → option_map_or (λ p. condition_value t a (c p)) o No ≡ option_map_or (λ p. condition_value t b (c p)) o No
    found_prompt_agrees c None h = refl
    found_prompt_agrees c (Some p) h = condition_agrees (c p) h

    pub prompt_agrees : (d : DefinitionValue) → Agree (prompt_nodes t d) → prompt_value t a d ≡ prompt_value t b d
    prompt_agrees d h = found_prompt_agrees (of_prompt t d) (prompt_of d) h

    -- ---- defaults
    pub default_condition_agrees : (d : DefinitionValue) (v : DefaultValue) → Agree (default_nodes t d v) → default_condition t a d v ≡ default_condition t b d v
    default_condition_agrees d v h = condition_agrees (of_property t d v.condition) (Agree-right (value_nodes t v.value) (condition_nodes t (of_property t d v.condition)) h)

    definition_dependency_agrees : (d : DefinitionValue) → Agree (definition_nodes t d) → dependency t a d ≡ dependency t b d
    definition_dependency_agrees d h =
        let defaults = flat_map (default_nodes t d) d.defaults in
        let ranges = flat_map (range_nodes t d) d.ranges in
        dependency_agrees d (Agree-right ranges (dependency_nodes t d) (Agree-right defaults (ranges ++ dependency_nodes t d) h))

    pub active_agrees : (d : DefinitionValue) (v : DefaultValue) → Agree (default_nodes t d v) → is_active t a d v ≡ is_active t b d v
    active_agrees d v h = ap (λ c. not (is_no c)) (default_condition_agrees d v h)

    pub default_value_at : (d : DefinitionValue) (v : DefaultValue) → Agree (default_nodes t d v) → Agree (value_nodes t v.value)
    default_value_at d v h = Agree-left (value_nodes t v.value) (condition_nodes t (of_property t d v.condition)) h

    definition_default_agrees : (d : DefinitionValue) → Agree (definition_nodes t d) → definition_default t a d ≡ definition_default t b d
    definition_default_agrees d h =
        found_agrees (is_active t a d) (is_active t b d)
        (λ v. least (expr_value t a v.value) (default_condition t a d v)) (λ v. least (expr_value t b v.value) (default_condition t b d v))
        (default_nodes t d)
        (active_agrees d)
        (λ v k.
        ap (λ c. least c (default_condition t a d v)) (expr_agrees v.value (default_value_at d v k))
        ∙ ap (λ c. least (expr_value t b v.value) c) (default_condition_agrees d v k))
        d.defaults (Agree-left (flat_map (default_nodes t d) d.defaults) (flat_map (range_nodes t d) d.ranges ++ dependency_nodes t d) h)

    default_value_agrees : (x : SymbolValue) → Agree (flat_map (definition_nodes t) (definitions_of t x)) → default_value t a x ≡ default_value t b x
    default_value_agrees x h =
        ap (λ ds. unwrap_or (slice_get ds 0) No) (filter_map_agrees (definition_default t a) (definition_default t b) (definition_nodes t) definition_default_agrees (definitions_of t x) h)

    pub direct_agrees : (x : SymbolValue) → Agree (flat_map (definition_nodes t) (definitions_of t x)) → direct t a x ≡ direct t b x
    direct_agrees x h =
        ap greatest_of (map_agrees (dependency t a) (dependency t b) (definition_nodes t) definition_dependency_agrees (definitions_of t x) h)

    -- ---- select and imply
    pub reverse_agrees : (r : Reverse) → Agree (reverse_nodes t r) → reverse_value t a r ≡ reverse_value t b r
    reverse_agrees r h =
        let by = symbol_tri_agrees r.by (Agree-left (symbol_nodes t r.by) (condition_nodes t (of_reverse t r)) h) in
        let condition = condition_agrees (of_reverse t r) (Agree-right (symbol_nodes t r.by) (condition_nodes t (of_reverse t r)) h) in
        ap (λ v. least v (condition_value t a (of_reverse t r))) by ∙ ap (λ v. least (symbol_tri t b r.by) v) condition

    reverse_values_agree : (rs : List Reverse) → Agree (flat_map (reverse_nodes t) rs) → reverse_values t a rs ≡ reverse_values t b rs
    reverse_values_agree rs h = ap greatest_of (map_agrees (reverse_value t a) (reverse_value t b) (reverse_nodes t) reverse_agrees rs h)

    -- ---- the type
    has_modules_if : (is_tristate : Bool) → Agree (nodes_if is_tristate (modules_nodes t))
        → (is_tristate && not (is_no (modules_value t a))) ≡ (is_tristate && not (is_no (modules_value t b)))
    has_modules_if true h = ap (λ v. not (is_no v)) (modules_agree h)
    has_modules_if false h = refl

    pub has_modules_agrees : (x : SymbolValue) → Agree (type_nodes t x) → has_modules t a x ≡ has_modules t b x
    has_modules_agrees x h = has_modules_if (same_type (kind_of x) Tristate) h

    -- ---- texts
    pub lone_text_agrees : (e : Formula) → Agree (formula_nodes t e) → value_text t a e ≡ value_text t b e
    lone_text_agrees (atom x) h = text_agrees x h
    lone_text_agrees (bare x) h = refl
    lone_text_agrees (compare c x y) h = refl
    lone_text_agrees (negation f) h = refl
    lone_text_agrees (group f) h = lone_text_agrees f h
    lone_text_agrees (both f g) h = refl
    lone_text_agrees (either f g) h = refl

    definition_text_agrees : (d : DefinitionValue) → Agree (definition_nodes t d) → definition_text t a d ≡ definition_text t b d
    definition_text_agrees d h =
        found_agrees (is_active t a d) (is_active t b d) (λ v. value_text t a v.value) (λ v. value_text t b v.value) (default_nodes t d)
        (active_agrees d)
        (λ v k. lone_text_agrees v.value (default_value_at d v k))
        d.defaults (Agree-left (flat_map (default_nodes t d) d.defaults) (flat_map (range_nodes t d) d.ranges ++ dependency_nodes t d) h)

    default_text_agrees : (x : SymbolValue) → Agree (flat_map (definition_nodes t) (definitions_of t x)) → default_text t a x ≡ default_text t b x
    default_text_agrees x h =
        ap (λ ws. slice_get ws 0) (filter_map_agrees (definition_text t a) (definition_text t b) (definition_nodes t) definition_text_agrees (definitions_of t x) h)

    -- ---- ranges
    pub range_active_agrees : (d : DefinitionValue) (r : Range) → Agree (range_nodes t d r) → is_range_active t a d r ≡ is_range_active t b d r
    range_active_agrees d r h =
        let own = condition_nodes t (of_property t d r.condition) in
        ap (λ c. not (is_no c)) (condition_agrees (of_property t d r.condition) (Agree-right (term_nodes t r.high) own (Agree-right (term_nodes t r.low) (term_nodes t r.high ++ own) h)))

    pub bounds_agree : (k : SymbolType) (d : DefinitionValue) (r : Range) → Agree (range_nodes t d r) → bounds_in t a k r ≡ bounds_in t b k r
    bounds_agree k d r h =
        let own = condition_nodes t (of_property t d r.condition) in
        let low = text_agrees r.low (Agree-left (term_nodes t r.low) (term_nodes t r.high ++ own) h) in
        let high = text_agrees r.high (Agree-left (term_nodes t r.high) own (Agree-right (term_nodes t r.low) (term_nodes t r.high ++ own) h)) in
        let of : List ℕ → List ℕ → Bounds = λ v w. record { low = number_or_zero k v; high = number_or_zero k w } in
        ap (λ w. of w (term_text t a r.high)) low
        ∙ ap (λ w. of (term_text t b r.low) w) high

    definition_bounds_agree : (k : SymbolType) (d : DefinitionValue) → Agree (definition_nodes t d) → definition_bounds t a k d ≡ definition_bounds t b k d
    definition_bounds_agree k d h =
        let defaults = flat_map (default_nodes t d) d.defaults in
        let ranges = flat_map (range_nodes t d) d.ranges in
        found_agrees (is_range_active t a d) (is_range_active t b d) (bounds_in t a k) (bounds_in t b k) (range_nodes t d)
        (range_active_agrees d) (bounds_agree k d)
        d.ranges (Agree-left ranges (dependency_nodes t d) (Agree-right defaults (ranges ++ dependency_nodes t d) h))

    bounds_of_agree : (x : SymbolValue) → Agree (flat_map (definition_nodes t) (definitions_of t x)) → bounds_of t a x ≡ bounds_of t b x
    bounds_of_agree x h =
        ap (λ bs. if is_number_type (kind_of x) then slice_get bs 0 else None)
        (filter_map_agrees (definition_bounds t a (kind_of x)) (definition_bounds t b (kind_of x)) (definition_nodes t) (definition_bounds_agree (kind_of x)) (definitions_of t x) h)

    text_rule_agrees : (x : SymbolValue) (vis : Tri) (u : Option UserVal) → Agree (flat_map (definition_nodes t) (definitions_of t x)) → text_rule t a x vis u ≡ text_rule t b x vis u
    text_rule_agrees x vis u h =
        let of : Option Bounds → Option (List ℕ) → Value = λ bounds w.
        Shown (TextVal (unwrap_or (user_text (kind_of x) bounds vis u) (clamped (kind_of x) bounds (unwrap_or w [])))) (not (is_no vis) || is_some w)
        in
        ap (λ bounds. of bounds (default_text t a x)) (bounds_of_agree x h)
        ∙ ap (λ w. of (bounds_of t b x) w) (default_text_agrees x h)

    -- ---- choices
    found_selection_agrees : (c : ChoiceId) (o : Option ChoiceValue) → Agree (option_map_or (λ x. Sel c ∷ []) o [])
        → option_and_then (λ x. as_member (a (Sel c))) o ≡ option_and_then (λ x. as_member (b (Sel c))) o
    found_selection_agrees c None h = refl
    found_selection_agrees c (Some x) h = ap as_member h.0

    pub selected_agrees : (c : ChoiceId) → Agree (selection_nodes t c) → selected_in t a c ≡ selected_in t b c
    selected_agrees c h = found_selection_agrees c (slice_get t.choices c.0) h

    found_visible_agrees : (s : SymId) (o : Option SymbolValue) → Agree (option_map_or (λ x. Vis s ∷ []) o [])
        → option_map_or (λ x. not (is_no (as_tri (a (Vis s))))) o false ≡ option_map_or (λ x. not (is_no (as_tri (b (Vis s))))) o false
    found_visible_agrees s None h = refl
    found_visible_agrees s (Some x) h = ap (λ v. not (is_no (as_tri v))) h.0

    visible_agrees : (s : SymId) → Agree (visibility_node t s) → is_visible t a s ≡ is_visible t b s
    visible_agrees s h = found_visible_agrees s (slice_get t.symbols s.0) h

    mode_agrees : (x : ChoiceValue) (chosen : Option SymId) → Agree (choice_prompt_nodes t x) → mode t a x chosen ≡ mode t b x chosen
    mode_agrees x chosen h =
        ap (λ v. yes_if (not (is_no v) && (not x.is_optional || is_some chosen))) (found_prompt_agrees (of_choice_prompt t x) (choice_prompt_of x) h)

    visible_if_agrees : (active : Bool) (o : Option SymId) → Agree (option_map_or (visibility_node t) o []) → visible_if t active a o ≡ visible_if t active b o
    visible_if_agrees active None h = refl
    visible_if_agrees active (Some m) h = ap (λ v. if active && v then Some m else None) (visible_agrees m h)

    pub default_member_agrees : (d : ChoiceDefault) → Agree (choice_default_nodes t d) → default_member t a d ≡ default_member t b d
    default_member_agrees d h =
        let member = option_map_or (visibility_node t) d.symbol [] in
        ap (λ v. visible_if t (not (is_no v)) a d.symbol) (condition_agrees (of_choice_default d) (Agree-right member (own_condition_nodes t d.condition) h))
        ∙ visible_if_agrees (not (is_no (own_condition t b d.condition))) d.symbol (Agree-left member (own_condition_nodes t d.condition) h)

    -- the mode is that of a choice of the tree
    selection_agrees : (c : ChoiceId) (x : ChoiceValue) (chosen : Option SymId) → slice_get t.choices c.0 ≡ Some x → Agree (choice_value_nodes t c x)
        → selection t a c x chosen ≡ selection t b c x chosen
    selection_agrees c x chosen found h =
        let members = flat_map (visibility_node t) x.members in
        let defaults = flat_map (choice_default_nodes t) x.defaults in
        let rest = Agree-right (mode_nodes t c) (members ++ defaults) h in
        let of_members = Agree-left members defaults rest in
        let own : Agree (Mode c ∷ []) = subst (λ (o : Option ChoiceValue). Agree (option_map_or (λ y. Mode c ∷ []) o [])) found (Agree-left (mode_nodes t c) (members ++ defaults) h) in
        let chosen_is = find_agrees (λ s. is_symbol chosen s && is_visible t a s) (λ s. is_symbol chosen s && is_visible t b s) (visibility_node t)
        (λ s k. ap (λ v. is_symbol chosen s && v) (visible_agrees s k)) x.members of_members
        in
        let by_default = filter_map_agrees (default_member t a) (default_member t b) (choice_default_nodes t) default_member_agrees x.defaults (Agree-right members defaults rest) in
        let first = find_agrees (is_visible t a) (is_visible t b) (visibility_node t) visible_agrees x.members of_members in
        let of : Value → Option SymId → List SymId → Option SymId → Option SymId = λ m s ds v. option_or (if is_no (as_tri m) then None else s) (option_or (slice_get ds 0) v) in
        ap (λ m. of m (find (λ s. is_symbol chosen s && is_visible t a s) x.members) (filter_map (default_member t a) x.defaults) (find (is_visible t a) x.members)) own.0
        ∙ ap (λ s. of (b (Mode c)) s (filter_map (default_member t a) x.defaults) (find (is_visible t a) x.members)) chosen_is
        ∙ ap (λ ds. of (b (Mode c)) (find (λ s. is_symbol chosen s && is_visible t b s) x.members) ds (find (is_visible t a) x.members)) by_default
        ∙ ap (λ v. of (b (Mode c)) (find (λ s. is_symbol chosen s && is_visible t b s) x.members) (filter_map (default_member t b) x.defaults) v) first

    -- ---- nodes
    visibility_agrees : (x : SymbolValue) → Agree (visibility_nodes t x) → visibility t a x ≡ visibility t b x
    visibility_agrees x h =
        let prompts = flat_map (prompt_nodes t) (definitions_of t x) in
        let around = option_map_or (mode_nodes t) x.choice [] in
        let rest = Agree-right prompts (type_nodes t x ++ around) h in
        let of : Bool → List Tri → Tri → Tri = λ m vs v. in_type m (least (greatest_of vs) v) in
        ap (λ m. of m (map (prompt_value t a) (definitions_of t x)) (mode_around t a x.choice)) (has_modules_agrees x (Agree-left (type_nodes t x) around rest))
        ∙ ap (λ vs. of (has_modules t b x) vs (mode_around t a x.choice)) (map_agrees (prompt_value t a) (prompt_value t b) (prompt_nodes t) prompt_agrees (definitions_of t x) (Agree-left prompts (type_nodes t x ++ around) h))
        ∙ ap (λ v. of (has_modules t b x) (map (prompt_value t b) (definitions_of t x)) v) (mode_around_agrees x.choice (Agree-right (type_nodes t x) around rest))

    tri_rule_agrees : (s : SymId) (x : SymbolValue) (u : Option UserVal) → Agree (free_value_nodes t s x) → tri_rule t a x (as_tri (a (Vis s))) u ≡ tri_rule t b x (as_tri (b (Vis s))) u
    tri_rule_agrees s x u h =
        let ds = flat_map (definition_nodes t) (definitions_of t x) in
        let ss = flat_map (reverse_nodes t) x.selected in
        let is = flat_map (reverse_nodes t) x.implied in
        let ms = type_nodes t x in
        let after = Agree-right ds (ss ++ (is ++ ms)) h.1 in
        let last = Agree-right ss (is ++ ms) after in
        let definitions = Agree-left ds (ss ++ (is ++ ms)) h.1 in
        let selected = reverse_values_agree x.selected (Agree-left ss (is ++ ms) after) in
        let implied = reverse_values_agree x.implied (Agree-left is ms last) in
        let modules = has_modules_agrees x (Agree-right is ms last) in
        let of : Bool → Tri → Tri → Tri → Tri → Tri → _ = λ m vis d i c r. Shown (TriVal (in_type m (greatest (unwrap_or (user_part vis u) (least (greatest d i) c)) r))) (not (is_no vis) || not (is_no d) || (not (is_no i) && not (is_no c)) || not (is_no r)) in
        ap (λ m. of m (as_tri (a (Vis s))) (default_value t a x) (reverse_values t a x.implied) (direct t a x) (reverse_values t a x.selected)) modules
        ∙ ap (λ vis. of (has_modules t b x) (as_tri vis) (default_value t a x) (reverse_values t a x.implied) (direct t a x) (reverse_values t a x.selected)) h.0
        ∙ ap (λ d. of (has_modules t b x) (as_tri (b (Vis s))) d (reverse_values t a x.implied) (direct t a x) (reverse_values t a x.selected)) (default_value_agrees x definitions)
        ∙ ap (λ i. of (has_modules t b x) (as_tri (b (Vis s))) (default_value t b x) i (direct t a x) (reverse_values t a x.selected)) implied
        ∙ ap (λ c. of (has_modules t b x) (as_tri (b (Vis s))) (default_value t b x) (reverse_values t b x.implied) c (reverse_values t a x.selected)) (direct_agrees x definitions)
        ∙ ap (λ r. of (has_modules t b x) (as_tri (b (Vis s))) (default_value t b x) (reverse_values t b x.implied) (direct t b x) r) selected

    free_agrees : (s : SymId) (x : SymbolValue) (u : Option UserVal) → Agree (free_value_nodes t s x) → free_rule t a x (as_tri (a (Vis s))) u ≡ free_rule t b x (as_tri (b (Vis s))) u
    free_agrees s x u h =
        let definitions = flat_map (definition_nodes t) (definitions_of t x) in
        let rest = flat_map (reverse_nodes t) x.selected ++ (flat_map (reverse_nodes t) x.implied ++ type_nodes t x) in
        let texts = ap (λ v. text_rule t a x (as_tri v) u) h.0 ∙ text_rule_agrees x (as_tri (b (Vis s))) u (Agree-left definitions rest h.1) in
        ap (λ v. if is_tri_type (kind_of x) then v else text_rule t a x (as_tri (a (Vis s))) u) (tri_rule_agrees s x u h)
        ∙ ap (λ v. if is_tri_type (kind_of x) then tri_rule t b x (as_tri (b (Vis s))) u else v) texts

    -- a member of a choice, or a symbol that is none
    member_agrees : (s : SymId) (x : SymbolValue) (u : Option UserVal) (o : Option ChoiceId) → Agree (option_map_or (λ c. Vis s ∷ selection_nodes t c) o (free_value_nodes t s x))
        → option_map_or (λ c. member_rule t a c s (as_tri (a (Vis s)))) o (free_rule t a x (as_tri (a (Vis s))) u)
        ≡ option_map_or (λ c. member_rule t b c s (as_tri (b (Vis s)))) o (free_rule t b x (as_tri (b (Vis s))) u)
    member_agrees s x u None h = free_agrees s x u h
    member_agrees s x u (Some c) h =
        ap (λ v. member_rule t a c s (as_tri v)) h.0
        ∙ ap (λ m. Shown (TriVal (yes_if (is_symbol m s))) (not (is_no (as_tri (b (Vis s)))))) (selected_agrees c h.1)

    symbol_agrees : (s : SymId) (x : SymbolValue) (u : Option UserVal) → Agree (symbol_value_nodes t s x) → symbol_rule t a s x (as_tri (a (Vis s))) u ≡ symbol_rule t b s x (as_tri (b (Vis s))) u
    symbol_agrees s x u h = member_agrees s x u x.choice h

    vis_agrees : (o : Option SymbolValue) → Agree (option_map_or (visibility_nodes t) o []) → option_map_or (λ x. Level (visibility t a x)) o (Level No) ≡ option_map_or (λ x. Level (visibility t b x)) o (Level No)
    vis_agrees None h = refl
    vis_agrees (Some x) h = ap Level (visibility_agrees x h)

    pub val_agrees : (s : SymId) (u : Option UserVal) (o : Option SymbolValue) → Agree (option_map_or (symbol_value_nodes t s) o [])
        → option_map_or (λ x. symbol_rule t a s x (as_tri (a (Vis s))) u) o (Level No) ≡ option_map_or (λ x. symbol_rule t b s x (as_tri (b (Vis s))) u) o (Level No)
    val_agrees s u None h = refl
    val_agrees s u (Some x) h = symbol_agrees s x u h

    pub of_mode_agrees : (chosen : Option SymId) (o : Option ChoiceValue) → Agree (option_map_or (choice_prompt_nodes t) o [])
        → option_map_or (λ x. Level (mode t a x chosen)) o (Level No) ≡ option_map_or (λ x. Level (mode t b x chosen)) o (Level No)
    of_mode_agrees chosen None h = refl
    of_mode_agrees chosen (Some x) h = ap Level (mode_agrees x chosen h)

    pub of_selection_agrees : (c : ChoiceId) (chosen : Option SymId) (o : Option ChoiceValue) → slice_get t.choices c.0 ≡ o → Agree (option_map_or (choice_value_nodes t c) o [])
        → option_map_or (λ x. Member (selection t a c x chosen)) o (Level No) ≡ option_map_or (λ x. Member (selection t b c x chosen)) o (Level No)
    of_selection_agrees c chosen None found h = refl
    of_selection_agrees c chosen (Some x) found h = ap Member (selection_agrees c x chosen found h)

-- assignments that agree on the nodes that a node uses give it the same value by its rule
pub rule_agrees : (t : TreeValue) (u : UserValues) (a b : Assignment) (n : Node) → ((m : Node) → Uses t n m → a m ≡ b m) → rule t u a n ≡ rule t u b n
unfolding rule Uses
rule_agrees t u a b (Vis s) h = vis_agrees a b t (slice_get t.symbols s.0) (Agree-from_contains a b (used_nodes t (Vis s)) h)
rule_agrees t u a b (Val s) h = val_agrees a b t s (user_value u s) (slice_get t.symbols s.0) (Agree-from_contains a b (used_nodes t (Val s)) h)
rule_agrees t u a b (Mode c) h = of_mode_agrees a b t (chosen_in u c) (slice_get t.choices c.0) (Agree-from_contains a b (used_nodes t (Mode c)) h)
rule_agrees t u a b (Sel c) h = of_selection_agrees a b t c (chosen_in u c) (slice_get t.choices c.0) refl (Agree-from_contains a b (used_nodes t (Sel c)) h)

-- ---- user values
not_false : (x : Bool) → not x ≡ false → x ≡ true
not_false true e = refl
not_false false e = absurd (true≢false e)

module _ (t : TreeValue) (a : Assignment) where
  -- the user value of a member of a choice is read by nothing
  user_value_in : (s : SymId) (v w : Option UserVal) (x : SymbolValue) (o : Option ChoiceId) → (not (is_some o) && not (same_given v w)) ≡ false
      → option_map_or (λ c. member_rule t a c s (as_tri (a (Vis s)))) o (free_rule t a x (as_tri (a (Vis s))) v)
      ≡ option_map_or (λ c. member_rule t a c s (as_tri (a (Vis s)))) o (free_rule t a x (as_tri (a (Vis s))) w)
  user_value_in s v w x None e = ap (free_rule t a x (as_tri (a (Vis s)))) (given_is v w (not_false (same_given v w) e))
  user_value_in s v w x (Some c) e = refl

  value_in : (s : SymId) (v w : Option UserVal) (o : Option SymbolValue) → (not (is_some (option_and_then (λ x. x.choice) o)) && not (same_given v w)) ≡ false
      → option_map_or (λ x. symbol_rule t a s x (as_tri (a (Vis s))) v) o (Level No) ≡ option_map_or (λ x. symbol_rule t a s x (as_tri (a (Vis s))) w) o (Level No)
  value_in s v w None e = refl
  value_in s v w (Some x) e = user_value_in s v w x x.choice e

  -- the mode of an optional choice reads whether a member is chosen, and that of another nothing
  chosen_read : (optional m n : Bool) → (optional && not (same_mark m n)) ≡ false → (not optional || m) ≡ (not optional || n)
  chosen_read true m n e = mark_is m n (not_false (same_mark m n) e)
  chosen_read false m n e = refl

  mode_in : (m n : Option SymId) (o : Option ChoiceValue) → (option_map_or (λ x. x.is_optional) o false && not (same_mark (is_some m) (is_some n))) ≡ false
      → option_map_or (λ x. Level (mode t a x m)) o (Level No) ≡ option_map_or (λ x. Level (mode t a x n)) o (Level No)
  mode_in m n None e = refl
  mode_in m n (Some x) e =
      ap (λ r. Level (yes_if (not (is_no (choice_prompt_value t a x)) && r))) (chosen_read x.is_optional (is_some m) (is_some n) e)

-- user values enter at the nodes alone that change with them: a symbol's value, if it is no member of a choice, the
-- selection of a choice, and the mode of one that is optional
pub rule_user : (t : TreeValue) (u w : UserValues) (a : Assignment) (n : Node) → is_changed t u w n ≡ false → rule t u a n ≡ rule t w a n
unfolding rule
rule_user t u w a (Vis s) e = refl
rule_user t u w a (Val s) e = value_in t a s (user_value u s) (user_value w s) (slice_get t.symbols s.0) e
rule_user t u w a (Mode c) e = mode_in t a (chosen_in u c) (chosen_in w c) (slice_get t.choices c.0) e
rule_user t u w a (Sel c) e =
    ap (λ m. option_map_or (λ x. Member (selection t a c x m)) (slice_get t.choices c.0) (Level No))
    (member_is (chosen_in u c) (chosen_in w c) (not_false (same_member (chosen_in u c) (chosen_in w c)) e))
