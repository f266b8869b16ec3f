-- A reason reads the nodes that the value of its symbol is computed from, and no others.
use Rattle.std.proofs.Common.{◌≡◌, ℕ, ◌+◌, Bool, cond, List, [], ◌∷◌, ◌++◌, map, Option, Some, None, find, slice_get, option_map, filter_map, refl, sym, ap, ◌∙◌, subst, if◌then◌else◌}
use Rattle.std.specs.Prelude.{option_and_then}
use Rattle.std.specs.List.{flat_map, cons_option, position_or_len}
use Rattle.std.specs.Option.{option_map_or}
use Rattle.kc_statement.specs.declared.tri.Tri.{Tri}
use Rattle.kc_statement.specs.declared.id.SymId.{SymId}
use Rattle.kc_statement.specs.declared.symbol_type.SymbolType.{SymbolType}
use Rattle.kc_statement.specs.declared.attribute.DefaultValue.{DefaultValue}
use Rattle.kc_statement.specs.declared.attribute.Range.{Range}
use Rattle.kc_outline.specs.declared.id.ChoiceId.{ChoiceId}
use Rattle.kc_tree.specs.declared.node.Node.{Node}
use Rattle.kc_tree.specs.declared.node.Node.TheVariants.{Vis, Val}
use Rattle.kc_tree.specs.declared.user_value.UserVal.{UserVal}
use Rattle.kc_statement.specs.SymbolTypes.{is_tri_type}
use Rattle.kc_statement.specs.Tristate.{least}
use Rattle.kc_outline.specs.TreeValue.{TreeValue, SymbolValue, DefinitionValue, kind_of, definitions_of}
use Rattle.kc_tree.specs.Uses.{Uses, used_nodes, definition_nodes, default_nodes, range_nodes, dependency_nodes, reverse_nodes, type_nodes, selection_nodes, free_value_nodes, symbol_value_nodes}
use Rattle.kc_value.specs.declared.bounds.Bounds.{Bounds}
use Rattle.kc_value.specs.declared.places.ActiveRange.{ActiveRange}
use Rattle.kc_value.specs.declared.reason.Reason.{Reason}
use Rattle.kc_value.specs.Assignment.{Assignment, as_tri}
use Rattle.kc_value.specs.Defaults.{default_condition, is_active}
use Rattle.kc_value.specs.ExprValue.{expr_value}
use Rattle.kc_value.specs.Reasons.{ActiveDefault, Parts, default_at, default_of, active_default, range_at, range_of, active_range_of, parts, IsReasonOfType, IsReasonIn, IsReasonAt, IsMemberReason, IsReason}
use Rattle.kc_value.specs.Rule.{has_modules, reverse_value, direct}
use Rattle.kc_value.specs.TextRule.{value_text, is_range_active, is_number_type}
use Rattle.kc_value.specs.UserValues.{UserValues, user_value}
use Rattle.kc_value.proofs.Agreement.{Agree, Agree-from_contains, Agree-left, Agree-right, map_agrees, found_agrees, expr_agrees, default_condition_agrees, active_agrees, default_value_at, direct_agrees, reverse_agrees, has_modules_agrees, lone_text_agrees, range_active_agrees, bounds_agree, selected_agrees}
use Rattle.kc_value.proofs.ReasonParts.{position_step}

module _ (a b : Assignment) where
  -- where the first is that passes a test
  position_agrees : {X : Type 0} (p q : X → Bool) (nodes : X → List Node) → ((x : X) → Agree a b (nodes x) → p x ≡ q x)
      → (xs : List X) → Agree a b (flat_map nodes xs) → position_or_len p xs ≡ position_or_len q xs
  position_agrees p q nodes test [] h = refl
  position_agrees p q nodes test (x ∷ xs) h =
      position_step p x xs
      ∙ ap (λ v. cond v 0 (1 + position_or_len p xs)) (test x (Agree-left a b (nodes x) (flat_map nodes xs) h))
      ∙ ap (λ n. cond (q x) 0 (1 + n)) (position_agrees p q nodes test xs (Agree-right a b (nodes x) (flat_map nodes xs) h))
      ∙ sym (position_step q x xs)

  module _ (t : TreeValue) where
    -- ---- by the number of a definition
    numbered_agree : {Z : Type 0} (f g : ℕ → DefinitionValue → Option Z) → ((n : ℕ) (d : DefinitionValue) → Agree a b (definition_nodes t d) → f n d ≡ g n d)
        → (ns : List ℕ) → Agree a b (flat_map (definition_nodes t) (filter_map (slice_get t.definitions) ns))
        → filter_map (λ n. option_and_then (f n) (slice_get t.definitions n)) ns ≡ filter_map (λ n. option_and_then (g n) (slice_get t.definitions n)) ns
    numbered_agree f g same [] h = refl
    numbered_agree f g same (n ∷ ns) h = go (slice_get t.definitions n) h (λ k. numbered_agree f g same ns k)
      where
        go : (o : Option DefinitionValue) → Agree a b (flat_map (definition_nodes t) (cons_option o (filter_map (slice_get t.definitions) ns)))
            → (Agree a b (flat_map (definition_nodes t) (filter_map (slice_get t.definitions) ns))
            → filter_map (λ n. option_and_then (f n) (slice_get t.definitions n)) ns ≡ filter_map (λ n. option_and_then (g n) (slice_get t.definitions n)) ns)
            → cons_option (option_and_then (f n) o) (filter_map (λ n. option_and_then (f n) (slice_get t.definitions n)) ns)
            ≡ cons_option (option_and_then (g n) o) (filter_map (λ n. option_and_then (g n) (slice_get t.definitions n)) ns)
        go None k later = later k
        go (Some d) k later =
            let rest = flat_map (definition_nodes t) (filter_map (slice_get t.definitions) ns) in
            ap (λ y. cons_option y (filter_map (λ n. option_and_then (f n) (slice_get t.definitions n)) ns)) (same n d (Agree-left a b (definition_nodes t d) rest k))
            ∙ ap (λ ys. cons_option (g n d) ys) (later (Agree-right a b (definition_nodes t d) rest k))

    -- ---- defaults
    default_agrees : (n : ℕ) (d : DefinitionValue) (i : ℕ) (v : DefaultValue) → Agree a b (default_nodes t d v) → default_at t a n d i v ≡ default_at t b n d i v
    default_agrees n d i v h =
        let of : Tri → Tri → List ℕ → ActiveDefault = λ e c w. record { place = record { definition = n; default = i }; level = least e c; text = w } in
        ap (λ e. of e (default_condition t a d v) (value_text t a v.value)) (expr_agrees a b t v.value (default_value_at a b t d v h))
        ∙ ap (λ c. of (expr_value t b v.value) c (value_text t a v.value)) (default_condition_agrees a b t d v h)
        ∙ ap (λ w. of (expr_value t b v.value) (default_condition t b d v) w) (lone_text_agrees a b t v.value (default_value_at a b t d v h))

    default_of_agrees : (n : ℕ) (d : DefinitionValue) → Agree a b (definition_nodes t d) → default_of t a n d ≡ default_of t b n d
    default_of_agrees n d h =
        let defaults = Agree-left a b (flat_map (default_nodes t d) d.defaults) (flat_map (range_nodes t d) d.ranges ++ dependency_nodes t d) h in
        ap (λ i. option_map (default_at t a n d i) (find (is_active t a d) d.defaults)) (position_agrees (is_active t a d) (is_active t b d) (default_nodes t d) (active_agrees a b t d) d.defaults defaults)
        ∙ found_agrees a b (is_active t a d) (is_active t b d)
        (default_at t a n d (position_or_len (is_active t b d) d.defaults)) (default_at t b n d (position_or_len (is_active t b d) d.defaults))
        (default_nodes t d) (active_agrees a b t d) (default_agrees n d (position_or_len (is_active t b d) d.defaults)) d.defaults defaults

    active_default_agrees : (x : SymbolValue) → Agree a b (flat_map (definition_nodes t) (definitions_of t x)) → active_default t a x ≡ active_default t b x
    active_default_agrees x h = ap (λ fs. slice_get fs 0) (numbered_agree (default_of t a) (default_of t b) default_of_agrees x.definitions h)

    -- ---- ranges
    range_agrees : (k : SymbolType) (n : ℕ) (d : DefinitionValue) (i : ℕ) (r : Range) → Agree a b (range_nodes t d r) → range_at t a k n i r ≡ range_at t b k n i r
    range_agrees k n d i r h =
        let of : Bounds → ActiveRange = λ e. record { place = record { definition = n; range = i }; low = e.low; high = e.high } in
        ap of (bounds_agree a b t k d r h)

    range_of_agrees : (k : SymbolType) (n : ℕ) (d : DefinitionValue) → Agree a b (definition_nodes t d) → range_of t a k n d ≡ range_of t b k n d
    range_of_agrees k n d h =
        let defaults = flat_map (default_nodes t d) d.defaults in
        let all = flat_map (range_nodes t d) d.ranges in
        let ranges = Agree-left a b all (dependency_nodes t d) (Agree-right a b defaults (all ++ dependency_nodes t d) h) in
        ap (λ i. option_map (range_at t a k n i) (find (is_range_active t a d) d.ranges)) (position_agrees (is_range_active t a d) (is_range_active t b d) (range_nodes t d) (range_active_agrees a b t d) d.ranges ranges)
        ∙ found_agrees a b (is_range_active t a d) (is_range_active t b d)
        (range_at t a k n (position_or_len (is_range_active t b d) d.ranges)) (range_at t b k n (position_or_len (is_range_active t b d) d.ranges))
        (range_nodes t d) (range_active_agrees a b t d) (range_agrees k n d (position_or_len (is_range_active t b d) d.ranges)) d.ranges ranges

    active_range_agrees : (x : SymbolValue) → Agree a b (flat_map (definition_nodes t) (definitions_of t x)) → active_range_of t a x ≡ active_range_of t b x
    active_range_agrees x h =
        ap (λ fs. if is_number_type (kind_of x) then slice_get fs 0 else None) (numbered_agree (range_of t a (kind_of x)) (range_of t b (kind_of x)) (range_of_agrees (kind_of x)) x.definitions h)

    -- ---- all parts
    parts_agree : (s : SymId) (x : SymbolValue) (u : Option UserVal) → Agree a b (free_value_nodes t s x) → parts t a x (as_tri (a (Vis s))) u ≡ parts t b x (as_tri (b (Vis s))) u
    parts_agree s x u h =
        let ds = flat_map (definition_nodes t) (definitions_of t x) in
        let ss = flat_map (reverse_nodes t) x.selected in
        let is = flat_map (reverse_nodes t) x.implied in
        let ms = type_nodes t x in
        let after = Agree-right a b ds (ss ++ (is ++ ms)) h.1 in
        let last = Agree-right a b ss (is ++ ms) after in
        let definitions = Agree-left a b ds (ss ++ (is ++ ms)) h.1 in
        let of : Bool → Tri → Option ActiveDefault → List Tri → List Tri → Tri → Option ActiveRange → Parts = λ m vis d i r c range.
        record { kind = kind_of x; takes_module = m; visibility = vis; user = u; default = d; implied = i; selected = r; direct = c; range = range }
        in
        let implied : Assignment → List Tri = λ e. map (reverse_value t e) x.implied in
        let selected : Assignment → List Tri = λ e. map (reverse_value t e) x.selected in
        ap (λ m. of m (as_tri (a (Vis s))) (active_default t a x) (implied a) (selected a) (direct t a x) (active_range_of t a x)) (has_modules_agrees a b t x (Agree-right a b is ms last))
        ∙ ap (λ v. of (has_modules t b x) (as_tri v) (active_default t a x) (implied a) (selected a) (direct t a x) (active_range_of t a x)) h.0
        ∙ ap (λ d. of (has_modules t b x) (as_tri (b (Vis s))) d (implied a) (selected a) (direct t a x) (active_range_of t a x)) (active_default_agrees x definitions)
        ∙ ap (λ i. of (has_modules t b x) (as_tri (b (Vis s))) (active_default t b x) i (selected a) (direct t a x) (active_range_of t a x)) (map_agrees a b (reverse_value t a) (reverse_value t b) (reverse_nodes t) (reverse_agrees a b t) x.implied (Agree-left a b is ms last))
        ∙ ap (λ r. of (has_modules t b x) (as_tri (b (Vis s))) (active_default t b x) (implied b) r (direct t a x) (active_range_of t a x)) (map_agrees a b (reverse_value t a) (reverse_value t b) (reverse_nodes t) (reverse_agrees a b t) x.selected (Agree-left a b ss (is ++ ms) after))
        ∙ ap (λ c. of (has_modules t b x) (as_tri (b (Vis s))) (active_default t b x) (implied b) (selected b) c (active_range_of t a x)) (direct_agrees a b t x definitions)
        ∙ ap (λ range. of (has_modules t b x) (as_tri (b (Vis s))) (active_default t b x) (implied b) (selected b) (direct t b x) range) (active_range_agrees x definitions)

    -- ---- reasons
    reason_in : (s : SymId) (x : SymbolValue) (u : Option UserVal) (o : Option ChoiceId) (r : Reason) → Agree a b (option_map_or (λ c. Vis s ∷ selection_nodes t c) o (free_value_nodes t s x))
        → IsReasonIn t a s x (parts t a x (as_tri (a (Vis s))) u) o r → IsReasonIn t b s x (parts t b x (as_tri (b (Vis s))) u) o r
    reason_in s x u None r h is =
        let P : Parts → Type 0 = λ p. IsReasonOfType (is_tri_type (kind_of x)) p r in subst P (parts_agree s x u h) is
    reason_in s x u (Some c) r h is =
        let P : Option SymId → Type 0 = λ m. IsMemberReason m s r in subst P (selected_agrees a b t c h.1) is

    reason_at : (u : UserValues) (s : SymId) (r : Reason) (o : Option SymbolValue) → Agree a b (option_map_or (symbol_value_nodes t s) o []) → IsReasonAt t u a s o r → IsReasonAt t u b s o r
    reason_at u s r None h is = is
    reason_at u s r (Some x) h is = reason_in s x (user_value u s) x.choice r h is

-- assignments that agree on the nodes that the value of a symbol uses have the same reason for it
pub reason_agrees : (t : TreeValue) (u : UserValues) (a b : Assignment) (s : SymId) (r : Reason) → ((m : Node) → Uses t (Val s) m → a m ≡ b m) → IsReason t u a s r → IsReason t u b s r
unfolding IsReason Uses
reason_agrees t u a b s r h is = reason_at a b t u s r (slice_get t.symbols s.0) (Agree-from_contains a b (used_nodes t (Val s)) h) is
