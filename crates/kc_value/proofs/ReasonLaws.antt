-- Exactly one reason holds, and it gives the value that the rule gives.
use Rattle.std.proofs.Common.{◌≡◌, ℕ, ◌+◌, ◌<◌, arith, Bool, true, false, cond, not, ◌&&◌, List, [], ◌∷◌, Option, Some, None, slice_get, option_map, unwrap_or, get_or, length, refl, sym, ap, ◌∙◌, subst, true≢false, ℤ, if◌then◌else◌}
use Rattle.std.specs.Prelude.{is_some, slice_index_or, int_lt}
use Rattle.std.specs.List.{position_or_len}
use Rattle.std.specs.Option.{option_map_or}
use Rattle.std.proofs.lemmas.List.Sums.{passes_at_first}
use Rattle.std.proofs.lemmas.Option.{none-some, slice_get-get_or}
use Rattle.kc_statement.specs.declared.tri.Tri.{Tri}
use Rattle.kc_statement.specs.declared.tri.Tri.TheVariants.{No, Module, Yes}
use Rattle.kc_statement.specs.declared.id.SymId.{SymId}
use Rattle.kc_statement.specs.declared.symbol_type.SymbolType.{SymbolType}
use Rattle.kc_outline.specs.declared.id.ChoiceId.{ChoiceId}
use Rattle.kc_tree.specs.declared.node.Node.{Node}
use Rattle.kc_tree.specs.declared.node.Node.TheVariants.{Vis, Val}
use Rattle.kc_tree.specs.declared.user_value.UserVal.{UserVal}
use Rattle.kc_tree.specs.declared.user_value.UserVal.TheVariants.{Tri as TriVal, Text as TextVal}
use Rattle.kc_tree.specs.Nodes.{IsNodeOf}
use Rattle.kc_tree.specs.Uses.{Uses}
use Rattle.kc_statement.specs.SymbolTypes.{is_tri_type}
use Rattle.kc_statement.specs.Tristate.{least, greatest, greatest_of, is_no}
use Rattle.kc_outline.specs.TreeValue.{TreeValue, SymbolValue, kind_of}
use Rattle.kc_value.specs.declared.bounds.Bounds.{Bounds}
use Rattle.kc_value.specs.declared.places.DefaultPlace.{DefaultPlace}
use Rattle.kc_value.specs.declared.places.RangePlace.{RangePlace}
use Rattle.kc_value.specs.declared.reason.Reason.{Reason}
use Rattle.kc_value.specs.declared.reason.Reason.TheVariants as because
use Rattle.kc_value.specs.declared.value.Value.{Value}
use Rattle.kc_value.specs.Assignable.{same_tri}
use Rattle.kc_value.specs.Assignment.{Assignment, as_tri, assignment_of}
use Rattle.kc_value.specs.ChoiceRule.{is_symbol, selected_in, member_rule}
use Rattle.kc_value.specs.ExprValue.{yes_if}
use Rattle.kc_value.specs.Reasons.{Parts, ActiveDefault, active_default, parts, is_more, default_place_in, first_greatest, default_level, given_level, by_default, by_imply, base_level, unselected, shown_level, is_selected, is_implied, is_verbatim, IsTriReason, bounds_of_parts, default_text_in, given_text, given_inside, is_past, range_place_in, IsTextReason, IsMemberReason, IsReasonOfType, IsReasonIn, IsReasonAt, IsReason, level_in, level_given, text_in, spelled_bound, text_given, is_chosen, value_given, given_by}
use Rattle.kc_value.specs.Replay.{shown_in}
use Rattle.kc_value.specs.Rule.{rule, in_type, has_modules, reverse_values, direct, user_part, shown_value, tri_rule, free_rule}
use Rattle.kc_value.specs.TextRule.{number_or_zero, is_inside, spelled, clamped, user_text, text_value, text_rule, default_text}
use Rattle.kc_value.specs.Solution.{IsSolution, solution}
use Rattle.kc_value.specs.UserValues.{UserValues, user_value}
use Rattle.kc_value.proofs.ReasonAgreement.{reason_agrees}
use Rattle.kc_value.proofs.ReasonParts.{position_step, default_level_is, default_text_is, bounds_are}

-- ---- tristate values
-- what a second value adds to a first is that value, and else nothing
grown : (m : Bool) (b s : Tri) → is_more (in_type m (greatest b s)) (in_type m b) ≡ true → in_type m (greatest b s) ≡ in_type m s
grown true No No h = absurd (true≢false (sym h))
grown true No Module h = refl
grown true No Yes h = refl
grown true Module No h = absurd (true≢false (sym h))
grown true Module Module h = absurd (true≢false (sym h))
grown true Module Yes h = refl
grown true Yes No h = absurd (true≢false (sym h))
grown true Yes Module h = absurd (true≢false (sym h))
grown true Yes Yes h = absurd (true≢false (sym h))
grown false No No h = absurd (true≢false (sym h))
grown false No Module h = refl
grown false No Yes h = refl
grown false Module No h = absurd (true≢false (sym h))
grown false Module Module h = absurd (true≢false (sym h))
grown false Module Yes h = absurd (true≢false (sym h))
grown false Yes No h = absurd (true≢false (sym h))
grown false Yes Module h = absurd (true≢false (sym h))
grown false Yes Yes h = absurd (true≢false (sym h))

not_grown : (m : Bool) (b s : Tri) → is_more (in_type m (greatest b s)) (in_type m b) ≡ false → in_type m (greatest b s) ≡ in_type m b
not_grown true No No h = refl
not_grown true No Module h = absurd (true≢false h)
not_grown true No Yes h = absurd (true≢false h)
not_grown true Module No h = refl
not_grown true Module Module h = refl
not_grown true Module Yes h = absurd (true≢false h)
not_grown true Yes No h = refl
not_grown true Yes Module h = refl
not_grown true Yes Yes h = refl
not_grown false No No h = refl
not_grown false No Module h = absurd (true≢false h)
not_grown false No Yes h = absurd (true≢false h)
not_grown false Module No h = refl
not_grown false Module Module h = refl
not_grown false Module Yes h = refl
not_grown false Yes No h = refl
not_grown false Yes Module h = refl
not_grown false Yes Yes h = refl

grown_some : (m : Bool) (b s : Tri) → is_more (in_type m (greatest b s)) (in_type m b) ≡ true → is_no s ≡ false
grown_some true No No h = absurd (true≢false (sym h))
grown_some true No Module h = refl
grown_some true No Yes h = refl
grown_some true Module No h = absurd (true≢false (sym h))
grown_some true Module Module h = absurd (true≢false (sym h))
grown_some true Module Yes h = refl
grown_some true Yes No h = absurd (true≢false (sym h))
grown_some true Yes Module h = absurd (true≢false (sym h))
grown_some true Yes Yes h = absurd (true≢false (sym h))
grown_some false No No h = absurd (true≢false (sym h))
grown_some false No Module h = refl
grown_some false No Yes h = refl
grown_some false Module No h = absurd (true≢false (sym h))
grown_some false Module Module h = absurd (true≢false (sym h))
grown_some false Module Yes h = absurd (true≢false (sym h))
grown_some false Yes No h = absurd (true≢false (sym h))
grown_some false Yes Module h = absurd (true≢false (sym h))
grown_some false Yes Yes h = absurd (true≢false (sym h))

spread : (d i c : Tri) → least (greatest d i) c ≡ greatest (least d c) (least i c)
spread No No No = refl
spread No No Module = refl
spread No No Yes = refl
spread No Module No = refl
spread No Module Module = refl
spread No Module Yes = refl
spread No Yes No = refl
spread No Yes Module = refl
spread No Yes Yes = refl
spread Module No No = refl
spread Module No Module = refl
spread Module No Yes = refl
spread Module Module No = refl
spread Module Module Module = refl
spread Module Module Yes = refl
spread Module Yes No = refl
spread Module Yes Module = refl
spread Module Yes Yes = refl
spread Yes No No = refl
spread Yes No Module = refl
spread Yes No Yes = refl
spread Yes Module No = refl
spread Yes Module Module = refl
spread Yes Module Yes = refl
spread Yes Yes No = refl
spread Yes Yes Module = refl
spread Yes Yes Yes = refl

some_least : (i c : Tri) → is_no (least i c) ≡ false → is_no i ≡ false
some_least No c h = h
some_least Module c h = refl
some_least Yes c h = refl

least_none : (v c : Tri) → is_no c ≡ true → least v c ≡ No
least_none No No h = refl
least_none No Module h = absurd (true≢false (sym h))
least_none No Yes h = absurd (true≢false (sym h))
least_none Module No h = refl
least_none Module Module h = absurd (true≢false (sym h))
least_none Module Yes h = absurd (true≢false (sym h))
least_none Yes No h = refl
least_none Yes Module h = absurd (true≢false (sym h))
least_none Yes Yes h = absurd (true≢false (sym h))

pub same_is : (v w : Tri) → same_tri v w ≡ true → v ≡ w
same_is No No h = refl
same_is No Module h = absurd (true≢false (sym h))
same_is No Yes h = absurd (true≢false (sym h))
same_is Module No h = absurd (true≢false (sym h))
same_is Module Module h = refl
same_is Module Yes h = absurd (true≢false (sym h))
same_is Yes No h = absurd (true≢false (sym h))
same_is Yes Module h = absurd (true≢false (sym h))
same_is Yes Yes h = refl

-- what is more than the first of two is the second
second_is : (v g : Tri) → same_tri (greatest v g) v ≡ false → g ≡ greatest v g
second_is No No h = absurd (true≢false h)
second_is No Module h = refl
second_is No Yes h = refl
second_is Module No h = absurd (true≢false h)
second_is Module Module h = absurd (true≢false h)
second_is Module Yes h = refl
second_is Yes No h = absurd (true≢false h)
second_is Yes Module h = absurd (true≢false h)
second_is Yes Yes h = absurd (true≢false h)

-- the first of the greatest has the greatest value
at_first : (w : Tri) → is_no w ≡ false → (vs : List Tri) → greatest_of vs ≡ w → position_or_len (same_tri w) vs < length vs
at_first w n [] e = absurd (true≢false (ap is_no e ∙ n))
at_first w n (v ∷ vs) e = go (same_tri w v) refl (λ k. at_first w n vs (second_is v (greatest_of vs) (ap (λ g. same_tri g v) e ∙ k) ∙ e))
  where
    go : (b : Bool) → same_tri w v ≡ b → (same_tri w v ≡ false → position_or_len (same_tri w) vs < length vs) → position_or_len (same_tri w) (v ∷ vs) < length (v ∷ vs)
    go true k later =
        let is : position_or_len (same_tri w) (v ∷ vs) ≡ 0 = position_step (same_tri w) v vs ∙ ap (λ b. cond b 0 (1 + position_or_len (same_tri w) vs)) k in
        omega (arith, is)
    go false k later =
        let is : position_or_len (same_tri w) (v ∷ vs) ≡ 1 + position_or_len (same_tri w) vs = position_step (same_tri w) v vs ∙ ap (λ b. cond b 0 (1 + position_or_len (same_tri w) vs)) k in
        omega (arith, is, later k)

pub first_is : (vs : List Tri) → is_no (greatest_of vs) ≡ false → slice_index_or vs (first_greatest vs) No ≡ greatest_of vs
first_is vs n =
    sym (same_is (greatest_of vs) (get_or vs (first_greatest vs) No) (passes_at_first (same_tri (greatest_of vs)) vs No (at_first (greatest_of vs) n vs refl)))

-- ---- bool and tristate
module _ (m : Bool) (d i c : Tri) where
  implied_by : is_more (in_type m (least (greatest d i) c)) (in_type m (least d c)) ≡ true → in_type m (least (greatest d i) c) ≡ in_type m (least i c)
  implied_by h = ap (in_type m) (spread d i c) ∙ grown m (least d c) (least i c) (ap (λ v. is_more (in_type m v) (in_type m (least d c))) (sym (spread d i c)) ∙ h)

  implied_some : is_more (in_type m (least (greatest d i) c)) (in_type m (least d c)) ≡ true → is_no i ≡ false
  implied_some h = some_least i c (grown_some m (least d c) (least i c) (ap (λ v. is_more (in_type m v) (in_type m (least d c))) (sym (spread d i c)) ∙ h))

  not_implied : is_more (in_type m (least (greatest d i) c)) (in_type m (least d c)) ≡ false → in_type m (least (greatest d i) c) ≡ in_type m (least d c)
  not_implied h = ap (in_type m) (spread d i c) ∙ not_grown m (least d c) (least i c) (ap (λ v. is_more (in_type m v) (in_type m (least d c))) (sym (spread d i c)) ∙ h)

given_is : (vis : Tri) (u : Option UserVal) (x : Tri) → is_some (user_part vis u) ≡ true → unwrap_or (user_part vis u) x ≡ least (level_in u) vis
given_is No u x h = absurd (true≢false (sym h))
given_is Module None x h = absurd (true≢false (sym h))
given_is Module (Some (TriVal v)) x h = refl
given_is Module (Some (TextVal w)) x h = absurd (true≢false (sym h))
given_is Yes None x h = absurd (true≢false (sym h))
given_is Yes (Some (TriVal v)) x h = refl
given_is Yes (Some (TextVal w)) x h = absurd (true≢false (sym h))

verbatim_is : (u : Option UserVal) (w : Tri) → is_verbatim u w ≡ true → w ≡ level_in u
verbatim_is None w h = absurd (true≢false (sym h))
verbatim_is (Some (TriVal v)) w h = sym (same_is v w h)
verbatim_is (Some (TextVal v)) w h = absurd (true≢false (sym h))

module _ (p : Parts) where
  abbrev m : Bool
  m = p.takes_module

  abbrev implied_level : Tri
  implied_level = greatest_of p.implied

  unselected_is : is_selected p ≡ false → shown_level p ≡ unselected p
  unselected_is h = not_grown m (base_level p) (greatest_of p.selected) h

  by_lines : given_level p ≡ None → unselected p ≡ by_imply p
  by_lines h = ap (λ g. in_type m (unwrap_or g (least (greatest (default_level p) implied_level) p.direct))) h

  by_default_alone : is_selected p ≡ false → given_level p ≡ None → is_implied p ≡ false → shown_level p ≡ by_default p
  by_default_alone s g i = unselected_is s ∙ by_lines g ∙ not_implied m (default_level p) implied_level p.direct i

  none_by_default : default_place_in p ≡ None → default_level p ≡ No
  none_by_default h = go p.default h
    where
      go : (o : Option ActiveDefault) → option_map (λ f. f.place) o ≡ None → option_map_or (λ f. f.level) o No ≡ No
      go None e = refl
      go (Some f) e = absurd (none-some _ (sym e))

  pub level_is : (r : Reason) → IsTriReason p r → shown_level p ≡ level_given p r
  level_is because.User h = unselected_is h.0 ∙ verbatim_is p.user (unselected p) h.2
  level_is because.UserWithin h =
      unselected_is h.0 ∙ ap (in_type m) (given_is p.visibility p.user (least (greatest (default_level p) implied_level) p.direct) h.1)
  level_is (because.OutsideRange r d) h = absurd h
  level_is (because.Default d) h = by_default_alone h.0 h.1 h.2
  level_is (because.Bound r d) h = absurd h
  level_is (because.Implied k) h =
      unselected_is h.0 ∙ by_lines h.1 ∙ implied_by m (default_level p) implied_level p.direct h.2
      ∙ ap (λ v. in_type m (least v p.direct)) (sym (first_is p.implied (implied_some m (default_level p) implied_level p.direct h.2)))
      ∙ ap (λ k. in_type m (least (slice_index_or p.implied k No) p.direct)) (sym h.3)
  level_is (because.Selected k) h =
      grown m (base_level p) (greatest_of p.selected) h.0
      ∙ ap (in_type m) (sym (first_is p.selected (grown_some m (base_level p) (greatest_of p.selected) h.0)))
      ∙ ap (λ k. in_type m (slice_index_or p.selected k No)) (sym h.1)
  level_is because.Chosen h = absurd h
  level_is (because.OtherChosen s) h = absurd h
  level_is because.NoneChosen h = absurd h
  level_is because.NoDependencies h =
      by_default_alone h.0 h.1 h.2 ∙ ap (in_type m) (least_none (default_level p) p.direct h.4) ∙ no_in m
    where
      no_in : (b : Bool) → in_type b No ≡ No
      no_in true = refl
      no_in false = refl
  level_is because.Nothing h =
      by_default_alone h.0 h.1 h.2 ∙ ap (λ v. in_type m (least v p.direct)) (none_by_default h.3) ∙ no_in m
    where
      no_in : (b : Bool) → in_type b No ≡ No
      no_in true = refl
      no_in false = refl

-- the branch in the order in which a value is looked for
abbrev tri_chain : Bool → Bool → Bool → Bool → Option DefaultPlace → Bool → ℕ → ℕ → Reason
tri_chain s g v i d n k l =
    if s then because.Selected k
    else (if g then (if v then because.User else because.UserWithin)
    else (if i then because.Implied l
    else option_map_or because.Default d (if n then because.NoDependencies else because.Nothing)))

module _ (v i : Bool) (d : Option DefaultPlace) (n : Bool) (k l : ℕ) where
  chain_selected : (s g : Bool) → s ≡ true → tri_chain s g v i d n k l ≡ because.Selected k
  chain_selected true g e = refl
  chain_selected false g e = absurd (true≢false (sym e))

  chain_given : (s g : Bool) → s ≡ false → g ≡ true → tri_chain s g v i d n k l ≡ (if v then because.User else because.UserWithin)
  chain_given true g e f = absurd (true≢false e)
  chain_given false true e f = refl
  chain_given false false e f = absurd (true≢false (sym f))

  chain_lines : (s g : Bool) → s ≡ false → g ≡ false
      → tri_chain s g v i d n k l ≡ (if i then because.Implied l else option_map_or because.Default d (if n then because.NoDependencies else because.Nothing))
  chain_lines true g e f = absurd (true≢false e)
  chain_lines false true e f = absurd (true≢false f)
  chain_lines false false e f = refl

module _ (p : Parts) where
  abbrev tri_branch : Reason
  tri_branch = tri_chain (is_selected p) (is_some (given_level p)) (is_verbatim p.user (unselected p)) (is_implied p) (default_place_in p) (is_no p.direct) (first_greatest p.selected) (first_greatest p.implied)

  lines_branch : is_selected p ≡ false → given_level p ≡ None
      → tri_branch ≡ (if is_implied p then because.Implied (first_greatest p.implied) else option_map_or because.Default (default_place_in p) (if is_no p.direct then because.NoDependencies else because.Nothing))
  lines_branch s g =
      chain_lines (is_verbatim p.user (unselected p)) (is_implied p) (default_place_in p) (is_no p.direct) (first_greatest p.selected) (first_greatest p.implied)
      (is_selected p) (is_some (given_level p)) s (ap is_some g)

  user_branch : is_selected p ≡ false → is_some (given_level p) ≡ true
      → tri_branch ≡ (if is_verbatim p.user (unselected p) then because.User else because.UserWithin)
  user_branch s g =
      chain_given (is_verbatim p.user (unselected p)) (is_implied p) (default_place_in p) (is_no p.direct) (first_greatest p.selected) (first_greatest p.implied)
      (is_selected p) (is_some (given_level p)) s g

  default_branch : is_selected p ≡ false → given_level p ≡ None → is_implied p ≡ false
      → tri_branch ≡ option_map_or because.Default (default_place_in p) (if is_no p.direct then because.NoDependencies else because.Nothing)
  default_branch s g i =
      lines_branch s g
      ∙ ap (λ b. if b then because.Implied (first_greatest p.implied) else option_map_or because.Default (default_place_in p) (if is_no p.direct then because.NoDependencies else because.Nothing)) i

  tri_only : (r : Reason) → IsTriReason p r → tri_branch ≡ r
  tri_only because.User h = user_branch h.0 h.1 ∙ ap (λ b. if b then because.User else because.UserWithin) h.2
  tri_only because.UserWithin h = user_branch h.0 h.1 ∙ ap (λ b. if b then because.User else because.UserWithin) h.2
  tri_only (because.OutsideRange r d) h = absurd h
  tri_only (because.Default d) h =
      default_branch h.0 h.1 h.2 ∙ ap (λ o. option_map_or because.Default o (if is_no p.direct then because.NoDependencies else because.Nothing)) h.3
  tri_only (because.Bound r d) h = absurd h
  tri_only (because.Implied k) h =
      lines_branch h.0 h.1
      ∙ ap (λ b. if b then because.Implied (first_greatest p.implied) else option_map_or because.Default (default_place_in p) (if is_no p.direct then because.NoDependencies else because.Nothing)) h.2
      ∙ ap because.Implied (sym h.3)
  tri_only (because.Selected k) h =
      chain_selected (is_verbatim p.user (unselected p)) (is_implied p) (default_place_in p) (is_no p.direct) (first_greatest p.selected) (first_greatest p.implied)
      (is_selected p) (is_some (given_level p)) h.0
      ∙ ap because.Selected (sym h.1)
  tri_only because.Chosen h = absurd h
  tri_only (because.OtherChosen s) h = absurd h
  tri_only because.NoneChosen h = absurd h
  tri_only because.NoDependencies h =
      default_branch h.0 h.1 h.2 ∙ ap (λ o. option_map_or because.Default o (if is_no p.direct then because.NoDependencies else because.Nothing)) h.3
      ∙ ap (λ b. if b then because.NoDependencies else because.Nothing) h.4
  tri_only because.Nothing h =
      default_branch h.0 h.1 h.2 ∙ ap (λ o. option_map_or because.Default o (if is_no p.direct then because.NoDependencies else because.Nothing)) h.3
      ∙ ap (λ b. if b then because.NoDependencies else because.Nothing) h.4

-- ---- string, int and hex
-- what counts within a range counts without one
none_inside : (k : SymbolType) (b : Option Bounds) (vis : Tri) (u : Option UserVal) → user_text k None vis u ≡ None → user_text k b vis u ≡ None
none_inside k b No u h = refl
none_inside k b Module None h = refl
none_inside k b Module (Some (TriVal v)) h = refl
none_inside k b Module (Some (TextVal w)) h = absurd (none-some _ (sym h))
none_inside k b Yes None h = refl
none_inside k b Yes (Some (TriVal v)) h = refl
none_inside k b Yes (Some (TextVal w)) h = absurd (none-some _ (sym h))

if_some : (b : Bool) (w x : List ℕ) → is_some (if b then Some w else None) ≡ true → unwrap_or (if b then Some w else None) x ≡ w
if_some true w x h = refl
if_some false w x h = absurd (true≢false (sym h))

text_is : (k : SymbolType) (b : Option Bounds) (vis : Tri) (u : Option UserVal) (x : List ℕ) → is_some (user_text k b vis u) ≡ true → unwrap_or (user_text k b vis u) x ≡ text_in u
text_is k b No u x h = absurd (true≢false (sym h))
text_is k b Module None x h = absurd (true≢false (sym h))
text_is k b Module (Some (TriVal v)) x h = absurd (true≢false (sym h))
text_is k b Module (Some (TextVal w)) x h = if_some (is_inside b (number_or_zero k w)) w x h
text_is k b Yes None x h = absurd (true≢false (sym h))
text_is k b Yes (Some (TriVal v)) x h = absurd (true≢false (sym h))
text_is k b Yes (Some (TextVal w)) x h = if_some (is_inside b (number_or_zero k w)) w x h

-- below, above or inside
clamped_inside : (low high : Bool) (v w x : List ℕ) → not (not low && not high) ≡ false → (if low then v else (if high then w else x)) ≡ x
clamped_inside true high v w x h = absurd (true≢false h)
clamped_inside false true v w x h = absurd (true≢false h)
clamped_inside false false v w x h = refl

clamped_past : (k : SymbolType) (low high : Bool) (l u : ℤ) (x : List ℕ) → not (not low && not high) ≡ true → (if low then spelled k l else (if high then spelled k u else x)) ≡ spelled k (if low then l else u)
clamped_past k true high l u x h = refl
clamped_past k false true l u x h = refl
clamped_past k false false l u x h = absurd (true≢false (sym h))

inside_is : (k : SymbolType) (b : Option Bounds) (w : List ℕ) → not (is_inside b (number_or_zero k w)) ≡ false → clamped k b w ≡ w
inside_is k None w h = refl
inside_is k (Some b) w h =
    clamped_inside (int_lt (number_or_zero k w) b.low) (int_lt b.high (number_or_zero k w)) (spelled k b.low) (spelled k b.high) w h

module _ (p : Parts) where
  abbrev pub shown_text : List ℕ
  shown_text = unwrap_or (given_inside p) (clamped p.kind (bounds_of_parts p) (default_text_in p))

  clamped_text : given_text p ≡ None → shown_text ≡ clamped p.kind (bounds_of_parts p) (default_text_in p)
  clamped_text h =
      ap (λ o. unwrap_or o (clamped p.kind (bounds_of_parts p) (default_text_in p))) (none_inside p.kind (bounds_of_parts p) p.visibility p.user h)

  past_is : (b : Option Bounds) → not (is_inside b (number_or_zero p.kind (default_text_in p))) ≡ true → clamped p.kind b (default_text_in p) ≡ spelled_bound p b
  past_is None h = absurd (true≢false (sym h))
  past_is (Some b) h =
      clamped_past p.kind (int_lt (number_or_zero p.kind (default_text_in p)) b.low) (int_lt b.high (number_or_zero p.kind (default_text_in p))) b.low b.high (default_text_in p) h

  none_text : default_place_in p ≡ None → default_text_in p ≡ []
  none_text h = go p.default h
    where
      go : (o : Option ActiveDefault) → option_map (λ f. f.place) o ≡ None → option_map_or (λ f. f.text) o [] ≡ []
      go None e = refl
      go (Some f) e = absurd (none-some _ (sym e))

  pub text_reason_is : (r : Reason) → IsTextReason p r → shown_text ≡ text_given p r
  text_reason_is because.User h = text_is p.kind (bounds_of_parts p) p.visibility p.user (clamped p.kind (bounds_of_parts p) (default_text_in p)) h
  text_reason_is because.UserWithin h = absurd h
  text_reason_is (because.OutsideRange r d) h = ap (λ o. unwrap_or o (clamped p.kind (bounds_of_parts p) (default_text_in p))) h.0
  text_reason_is (because.Default d) h = clamped_text h.0 ∙ inside_is p.kind (bounds_of_parts p) (default_text_in p) h.1
  text_reason_is (because.Bound r d) h = clamped_text h.0 ∙ past_is (bounds_of_parts p) h.1
  text_reason_is (because.Implied k) h = absurd h
  text_reason_is (because.Selected k) h = absurd h
  text_reason_is because.Chosen h = absurd h
  text_reason_is (because.OtherChosen s) h = absurd h
  text_reason_is because.NoneChosen h = absurd h
  text_reason_is because.NoDependencies h = absurd h
  text_reason_is because.Nothing h = clamped_text h.0 ∙ inside_is p.kind (bounds_of_parts p) (default_text_in p) h.1 ∙ none_text h.2

abbrev text_chain : Bool → Bool → Bool → Option RangePlace → Option DefaultPlace → Reason
text_chain inside given past r d =
    if inside then because.User
    else (if given then option_map_or (λ x. because.OutsideRange x d) r because.Nothing
    else (if past then option_map_or (λ x. because.Bound x d) r because.Nothing
    else option_map_or because.Default d because.Nothing))

module _ (r : Option RangePlace) (d : Option DefaultPlace) where
  chain_user : (i g q : Bool) → i ≡ true → text_chain i g q r d ≡ because.User
  chain_user true g q e = refl
  chain_user false g q e = absurd (true≢false (sym e))

  chain_outside : (i g q : Bool) → i ≡ false → g ≡ true → text_chain i g q r d ≡ option_map_or (λ x. because.OutsideRange x d) r because.Nothing
  chain_outside true g q e f = absurd (true≢false e)
  chain_outside false true q e f = refl
  chain_outside false false q e f = absurd (true≢false (sym f))

  chain_past : (i g q : Bool) → i ≡ false → g ≡ false → q ≡ true → text_chain i g q r d ≡ option_map_or (λ x. because.Bound x d) r because.Nothing
  chain_past true g q e f h = absurd (true≢false e)
  chain_past false true q e f h = absurd (true≢false f)
  chain_past false false true e f h = refl
  chain_past false false false e f h = absurd (true≢false (sym h))

  chain_default : (i g q : Bool) → i ≡ false → g ≡ false → q ≡ false → text_chain i g q r d ≡ option_map_or because.Default d because.Nothing
  chain_default true g q e f h = absurd (true≢false e)
  chain_default false true q e f h = absurd (true≢false f)
  chain_default false false true e f h = absurd (true≢false h)
  chain_default false false false e f h = refl

module _ (p : Parts) where
  abbrev text_branch : Reason
  text_branch = text_chain (is_some (given_inside p)) (is_some (given_text p)) (is_past p) (range_place_in p) (default_place_in p)

  not_inside : given_text p ≡ None → is_some (given_inside p) ≡ false
  not_inside h = ap is_some (none_inside p.kind (bounds_of_parts p) p.visibility p.user h)

  unset_branch : given_text p ≡ None → is_past p ≡ false → text_branch ≡ option_map_or because.Default (default_place_in p) because.Nothing
  unset_branch g q =
      chain_default (range_place_in p) (default_place_in p) (is_some (given_inside p)) (is_some (given_text p)) (is_past p) (not_inside g) (ap is_some g) q

  text_only : (r : Reason) → IsTextReason p r → text_branch ≡ r
  text_only because.User h = chain_user (range_place_in p) (default_place_in p) (is_some (given_inside p)) (is_some (given_text p)) (is_past p) h
  text_only because.UserWithin h = absurd h
  text_only (because.OutsideRange r d) h =
      chain_outside (range_place_in p) (default_place_in p) (is_some (given_inside p)) (is_some (given_text p)) (is_past p) (ap is_some h.0) h.1
      ∙ ap (λ o. option_map_or (λ x. because.OutsideRange x (default_place_in p)) o because.Nothing) h.2
      ∙ ap (because.OutsideRange r) (sym h.3)
  text_only (because.Default d) h = unset_branch h.0 h.1 ∙ ap (λ o. option_map_or because.Default o because.Nothing) h.2
  text_only (because.Bound r d) h =
      chain_past (range_place_in p) (default_place_in p) (is_some (given_inside p)) (is_some (given_text p)) (is_past p) (not_inside h.0) (ap is_some h.0) h.1
      ∙ ap (λ o. option_map_or (λ x. because.Bound x (default_place_in p)) o because.Nothing) h.2
      ∙ ap (because.Bound r) (sym h.3)
  text_only (because.Implied k) h = absurd h
  text_only (because.Selected k) h = absurd h
  text_only because.Chosen h = absurd h
  text_only (because.OtherChosen s) h = absurd h
  text_only because.NoneChosen h = absurd h
  text_only because.NoDependencies h = absurd h
  text_only because.Nothing h = unset_branch h.0 h.1 ∙ ap (λ o. option_map_or because.Default o because.Nothing) h.2

-- ---- members of choices
module _ (s : SymId) where
  member_chain : Bool → Option SymId → Reason
  member_chain is o = if is then because.Chosen else option_map_or because.OtherChosen o because.NoneChosen

  member_only : (o : Option SymId) (r : Reason) → IsMemberReason o s r → member_chain (is_symbol o s) o ≡ r
  unfolding member_chain
  member_only o because.Chosen h = ap (λ b. if b then because.Chosen else option_map_or because.OtherChosen o because.NoneChosen) h
  member_only o (because.OtherChosen m) h =
      ap (λ b. if b then because.Chosen else option_map_or because.OtherChosen o because.NoneChosen) h.0
      ∙ ap (λ x. option_map_or because.OtherChosen x because.NoneChosen) h.1
  member_only o because.NoneChosen h =
      ap (λ x. if is_symbol x s then because.Chosen else option_map_or because.OtherChosen x because.NoneChosen) h
  member_only o because.User h = absurd h
  member_only o because.UserWithin h = absurd h
  member_only o (because.OutsideRange r d) h = absurd h
  member_only o (because.Default d) h = absurd h
  member_only o (because.Bound r d) h = absurd h
  member_only o (because.Implied k) h = absurd h
  member_only o (because.Selected k) h = absurd h
  member_only o because.NoDependencies h = absurd h
  member_only o because.Nothing h = absurd h

  member_is : (o : Option SymId) (r : Reason) → IsMemberReason o s r → is_symbol o s ≡ is_chosen r
  member_is o because.Chosen h = h
  member_is o (because.OtherChosen m) h = h.0
  member_is o because.NoneChosen h = ap (λ x. is_symbol x s) h
  member_is o because.User h = absurd h
  member_is o because.UserWithin h = absurd h
  member_is o (because.OutsideRange r d) h = absurd h
  member_is o (because.Default d) h = absurd h
  member_is o (because.Bound r d) h = absurd h
  member_is o (because.Implied k) h = absurd h
  member_is o (because.Selected k) h = absurd h
  member_is o because.NoDependencies h = absurd h
  member_is o because.Nothing h = absurd h

-- ---- all symbols
module _ (t : TreeValue) (u : UserValues) (a : Assignment) (s : SymId) where
  only_of_type : (b : Bool) (p : Parts) (q r : Reason) → IsReasonOfType b p q → IsReasonOfType b p r → q ≡ r
  only_of_type true p q r h k = sym (tri_only p q h) ∙ tri_only p r k
  only_of_type false p q r h k = sym (text_only p q h) ∙ text_only p r k

  only_in : (x : SymbolValue) (p : Parts) (o : Option ChoiceId) (q r : Reason) → IsReasonIn t a s x p o q → IsReasonIn t a s x p o r → q ≡ r
  only_in x p None q r h k = only_of_type (is_tri_type (kind_of x)) p q r h k
  only_in x p (Some c) q r h k = sym (member_only s (selected_in t a c) q h) ∙ member_only s (selected_in t a c) r k

  only_at : (o : Option SymbolValue) (q r : Reason) → IsReasonAt t u a s o q → IsReasonAt t u a s o r → q ≡ r
  only_at None q r h k = h ∙ sym k
  only_at (Some x) q r h k = only_in x (parts t a x (as_tri (a (Vis s))) (user_value u s)) x.choice q r h k

  pub only_reason : (q r : Reason) → IsReason t u a s q → IsReason t u a s r → q ≡ r
  unfolding IsReason
  only_reason q r h k = only_at (slice_get t.symbols s.0) q r h k

  -- ---- the value
  module _ (x : SymbolValue) (vis : Tri) (v : Option UserVal) where
    abbrev here : Parts
    here = parts t a x vis v

    shown_tri_is : shown_value t a x vis v ≡ shown_level here
    shown_tri_is =
        ap (λ d. in_type (has_modules t a x) (greatest (unwrap_or (user_part vis v) (least (greatest d (reverse_values t a x.implied)) (direct t a x))) (reverse_values t a x.selected))) (default_level_is t a x)

    or_empty : (o : Option ActiveDefault) → unwrap_or (option_map (λ f. f.text) o) [] ≡ option_map_or (λ f. f.text) o []
    or_empty None = refl
    or_empty (Some f) = refl

    shown_text_is : text_value t a x vis v ≡ shown_text here
    shown_text_is =
        ap (λ b. unwrap_or (user_text (kind_of x) b vis v) (clamped (kind_of x) b (unwrap_or (default_text t a x) []))) (bounds_are t a x)
        ∙ ap (λ w. unwrap_or (given_inside here) (clamped (kind_of x) (bounds_of_parts here) w)) (ap (λ o. unwrap_or o []) (default_text_is t a x) ∙ or_empty (active_default t a x))

    of_type : (b : Bool) (r : Reason) → IsReasonOfType b here r
        → shown_in (if b then tri_rule t a x vis v else text_rule t a x vis v) ≡ Some (if b then TriVal (level_given here r) else TextVal (text_given here r))
    of_type true r h = ap (λ w. Some (TriVal w)) (shown_tri_is ∙ level_is here r h)
    of_type false r h = ap (λ w. Some (TextVal w)) (shown_text_is ∙ text_reason_is here r h)

    gives_in : (o : Option ChoiceId) (r : Reason) → IsReasonIn t a s x here o r
        → shown_in (option_map_or (λ c. member_rule t a c s vis) o (free_rule t a x vis v)) ≡ Some (value_given x here r o)
    gives_in None r h = of_type (is_tri_type (kind_of x)) r h
    gives_in (Some c) r h = ap (λ b. Some (TriVal (yes_if b))) (member_is s (selected_in t a c) r h)

  pub gives : (r : Reason) (x : SymbolValue) → slice_get t.symbols s.0 ≡ Some x → IsReason t u a s r → shown_in (rule t u a (Val s)) ≡ Some (given_by t u a s r)
  unfolding IsReason given_by rule
  gives r x found h = rw found (gives_in x (as_tri (a (Vis s))) (user_value u s) x.choice r (rw found at h))

  empty : SymbolValue
  empty = record { types = []; choice = None; definitions = []; selected = []; implied = []; has_selections = false; has_modules = false; is_yes_in_allnoconfig = false }

  found_in : (o : Option SymbolValue) → slice_get t.symbols s.0 ≡ o → s.0 < length t.symbols → (x : SymbolValue) × (slice_get t.symbols s.0 ≡ Some x)
  found_in None e lies = absurd (none-some _ (sym e ∙ slice_get-get_or t.symbols s.0 empty lies))
  found_in (Some x) e lies = (x, e)

  -- in a solution that is the value of the symbol
  pub gives_solved : (r : Reason) → IsSolution t u a → IsNodeOf t (Val s) → IsReason t u a s r → shown_in (a (Val s)) ≡ Some (given_by t u a s r)
  gives_solved r solves node is =
      let x = found_in (slice_get t.symbols s.0) refl node in
      ap shown_in (solves (Val s) node) ∙ gives r x.0 x.1 is

-- what holds over a copy of the values that are read holds in the solution
pub used_reason : (t t₁ : TreeValue) (u u₁ : UserValues) (s : SymId) (env : List (Option Value)) (r : Reason)
    → t₁ ≡ t → u₁ ≡ u → ((n : Node) → Uses t (Val s) n → assignment_of t env n ≡ solution t u n)
    → IsReason t₁ u₁ (assignment_of t₁ env) s r → IsReason t u (solution t u) s r
used_reason t t₁ u u₁ s env r e f same is =
    let P : TreeValue → Type 0 = λ x. IsReason x u₁ (assignment_of x env) s r in
    let Q : UserValues → Type 0 = λ w. IsReason t w (assignment_of t env) s r in
    reason_agrees t u (assignment_of t env) (solution t u) s r same (subst Q f (subst P e is))
