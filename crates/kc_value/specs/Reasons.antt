-- Why a symbol has its value: this project's own names for the branches of the rule (Rule, TextRule and ChoiceRule).
-- Each reason says when it holds, by what the parts of the rule are, and which value it gives.
use Rattle.std.specs.Prelude.{◌≡◌, ℕ, Bool, true, false, not, List, [], Option, Some, None, if◌then◌else◌, option_and_then, option_map, unwrap_or, slice_get, slice_index_or, map, find, filter_map, is_some, int_lt, ℤ}
use Rattle.std.specs.List.{position_or_len}
use Rattle.std.specs.Option.{option_map_or}
use Rattle.kc_statement.specs.declared.tri.Tri.{Tri}
use Rattle.kc_statement.specs.declared.tri.Tri.TheVariants.{No}
use Rattle.kc_statement.specs.declared.id.SymId.{SymId}
use Rattle.kc_statement.specs.declared.attribute.DefaultValue.{DefaultValue}
use Rattle.kc_statement.specs.declared.attribute.Range.{Range}
use Rattle.kc_statement.specs.declared.symbol_type.SymbolType.{SymbolType}
use Rattle.kc_statement.specs.declared.symbol_type.SymbolType.TheVariants.{Bool as BoolType}
use Rattle.kc_outline.specs.declared.id.ChoiceId.{ChoiceId}
use Rattle.kc_tree.specs.declared.node.Node.TheVariants.{Vis}
use Rattle.kc_tree.specs.declared.user_value.UserVal.{UserVal}
use Rattle.kc_tree.specs.declared.user_value.UserVal.TheVariants.{Tri as TriVal, Text as TextVal}
use Rattle.kc_statement.specs.SymbolTypes.{is_tri_type}
use Rattle.kc_statement.specs.Tristate.{least, greatest, greatest_of, is_no}
use Rattle.kc_outline.specs.TreeValue.{TreeValue, SymbolValue, DefinitionValue, kind_of}
use Rattle.kc_value.specs.declared.bounds.Bounds.{Bounds}
use Rattle.kc_value.specs.declared.places.ActiveRange.{ActiveRange}
use Rattle.kc_value.specs.declared.places.DefaultPlace.{DefaultPlace}
use Rattle.kc_value.specs.declared.places.RangePlace.{RangePlace}
use Rattle.kc_value.specs.declared.reason.Reason.{Reason}
use Rattle.kc_value.specs.declared.reason.Reason.TheVariants as because
use Rattle.kc_value.specs.Assignable.{same_tri}
use Rattle.kc_value.specs.Assignment.{Assignment, as_tri}
use Rattle.kc_value.specs.BoundsRange.{IsSmall}
use Rattle.kc_value.specs.ChoiceRule.{is_symbol, selected_in}
use Rattle.kc_value.specs.Defaults.{default_condition, is_active}
use Rattle.kc_value.specs.ExprValue.{expr_value, yes_if}
use Rattle.kc_value.specs.Rule.{in_type, has_modules, reverse_value, direct, user_part}
use Rattle.kc_value.specs.TextRule.{value_text, number_or_zero, is_range_active, bounds_in, is_number_type, is_inside, spelled, clamped, user_text}
use Rattle.kc_value.specs.UserValues.{UserValues, user_value}

-- ---- the default and the range that count
-- a default: where it is, and what it gives a bool or a tristate, and another type
pub record ActiveDefault : Type 0 where
  pub place : DefaultPlace
  pub level : Tri
  pub text : List ℕ

-- one of a definition, by the number of that and its place there
abbrev pub default_at : TreeValue → Assignment → ℕ → DefinitionValue → ℕ → DefaultValue → ActiveDefault
default_at t a n d i v = record {
  place = record { definition = n; default = i };
  level = least (expr_value t a v.value) (default_condition t a d v);
  text = value_text t a v.value;
}

-- the first active default of a definition
abbrev pub default_of : TreeValue → Assignment → ℕ → DefinitionValue → Option ActiveDefault
default_of t a n d =
    option_map (default_at t a n d (position_or_len (is_active t a d) d.defaults)) (find (is_active t a d) d.defaults)

abbrev pub default_in : TreeValue → Assignment → ℕ → Option ActiveDefault
default_in t a n = option_and_then (default_of t a n) (slice_get t.definitions n)

-- that of the first definition with one
abbrev pub active_default : TreeValue → Assignment → SymbolValue → Option ActiveDefault
active_default t a x = slice_get (filter_map (default_in t a) x.definitions) 0

-- a range of a definition, in the same way
abbrev pub range_at : TreeValue → Assignment → SymbolType → ℕ → ℕ → Range → ActiveRange
range_at t a k n i r = record {
  place = record { definition = n; range = i };
  low = (bounds_in t a k r).low;
  high = (bounds_in t a k r).high;
}

-- the first active range of a definition
abbrev pub range_of : TreeValue → Assignment → SymbolType → ℕ → DefinitionValue → Option ActiveRange
range_of t a k n d =
    option_map (range_at t a k n (position_or_len (is_range_active t a d) d.ranges)) (find (is_range_active t a d) d.ranges)

abbrev pub range_in : TreeValue → Assignment → SymbolType → ℕ → Option ActiveRange
range_in t a k n = option_and_then (range_of t a k n) (slice_get t.definitions n)

-- that of the first definition with one, of an int or a hex
abbrev pub active_range_of : TreeValue → Assignment → SymbolValue → Option ActiveRange
active_range_of t a x =
    if is_number_type (kind_of x) then slice_get (filter_map (range_in t a (kind_of x)) x.definitions) 0 else None

abbrev pub active_range : TreeValue → Assignment → SymId → Option ActiveRange
active_range t a s = option_and_then (active_range_of t a) (slice_get t.symbols s.0)

abbrev pub type_of : TreeValue → SymId → SymbolType
type_of t s = option_map_or kind_of (slice_get t.symbols s.0) BoolType

abbrev pub bounds_in_range : ActiveRange → Bounds
bounds_in_range r = record { low = r.low; high = r.high }

-- its bounds can be spelt
abbrev pub IsSmallRange : SymbolType → Option ActiveRange → Type 0
IsSmallRange k None = Unit {0}
IsSmallRange k (Some r) = IsSmall k r.low × IsSmall k r.high

-- ---- the parts of the rule
-- what the rule of a symbol that is no member of a choice computes its value from; of the `imply` and the `select` lines
-- what each gives
pub record Parts : Type 0 where
  pub kind : SymbolType
  pub takes_module : Bool
  pub visibility : Tri
  pub user : Option UserVal
  pub default : Option ActiveDefault
  pub implied : List Tri
  pub selected : List Tri
  pub direct : Tri
  pub range : Option ActiveRange

abbrev pub parts : TreeValue → Assignment → SymbolValue → Tri → Option UserVal → Parts
parts t a x vis u = record {
  kind = kind_of x;
  takes_module = has_modules t a x;
  visibility = vis;
  user = u;
  default = active_default t a x;
  implied = map (reverse_value t a) x.implied;
  selected = map (reverse_value t a) x.selected;
  direct = direct t a x;
  range = active_range_of t a x;
}

-- more in the order n, m, y
abbrev pub is_more : Tri → Tri → Bool
is_more v w = not (same_tri (greatest v w) w)

abbrev pub default_place_in : Parts → Option DefaultPlace
default_place_in p = option_map (λ f. f.place) p.default

-- the place of the first line that gives the most
abbrev pub first_greatest : List Tri → ℕ
first_greatest vs = position_or_len (same_tri (greatest_of vs)) vs

-- ---- bool and tristate
abbrev pub default_level : Parts → Tri
default_level p = option_map_or (λ f. f.level) p.default No

-- what counts of the user value
abbrev pub given_level : Parts → Option Tri
given_level p = user_part p.visibility p.user

-- as the type lets it be shown: the default, the default or an `imply`, all but the `select` lines, and all
abbrev pub by_default : Parts → Tri
by_default p = in_type p.takes_module (least (default_level p) p.direct)

abbrev pub by_imply : Parts → Tri
by_imply p = in_type p.takes_module (least (greatest (default_level p) (greatest_of p.implied)) p.direct)

abbrev pub base_level : Parts → Tri
base_level p = unwrap_or (given_level p) (least (greatest (default_level p) (greatest_of p.implied)) p.direct)

abbrev pub unselected : Parts → Tri
unselected p = in_type p.takes_module (base_level p)

abbrev pub shown_level : Parts → Tri
shown_level p = in_type p.takes_module (greatest (base_level p) (greatest_of p.selected))

abbrev pub is_selected : Parts → Bool
is_selected p = is_more (shown_level p) (unselected p)

abbrev pub is_implied : Parts → Bool
is_implied p = is_more (by_imply p) (by_default p)

abbrev pub is_verbatim : Option UserVal → Tri → Bool
is_verbatim None w = false
is_verbatim (Some (TriVal v)) w = same_tri v w
is_verbatim (Some (TextVal v)) w = false

-- A `select` counts only where it gives more than is shown without it, the user value only where it is visible, and an
-- `imply` only where it gives more than the default.
abbrev pub IsTriReason : Parts → Reason → Type 0
IsTriReason p because.User =
    (is_selected p ≡ false) × (is_some (given_level p) ≡ true) × (is_verbatim p.user (unselected p) ≡ true)
IsTriReason p because.UserWithin =
    (is_selected p ≡ false) × (is_some (given_level p) ≡ true) × (is_verbatim p.user (unselected p) ≡ false)
IsTriReason p (because.OutsideRange r d) = ⊥
IsTriReason p (because.Default d) =
    (is_selected p ≡ false) × (given_level p ≡ None) × (is_implied p ≡ false) × (default_place_in p ≡ Some d)
IsTriReason p (because.Bound r d) = ⊥
IsTriReason p (because.Implied k) =
    (is_selected p ≡ false) × (given_level p ≡ None) × (is_implied p ≡ true) × (k ≡ first_greatest p.implied)
IsTriReason p (because.Selected k) = (is_selected p ≡ true) × (k ≡ first_greatest p.selected)
IsTriReason p because.Chosen = ⊥
IsTriReason p (because.OtherChosen m) = ⊥
IsTriReason p because.NoneChosen = ⊥
IsTriReason p because.NoDependencies =
    (is_selected p ≡ false) × (given_level p ≡ None) × (is_implied p ≡ false) × (default_place_in p ≡ None)
    × (is_no p.direct ≡ true)
IsTriReason p because.Nothing =
    (is_selected p ≡ false) × (given_level p ≡ None) × (is_implied p ≡ false) × (default_place_in p ≡ None)
    × (is_no p.direct ≡ false)

-- ---- string, int and hex
abbrev pub bounds_of_parts : Parts → Option Bounds
bounds_of_parts p = option_map bounds_in_range p.range

abbrev pub default_text_in : Parts → List ℕ
default_text_in p = option_map_or (λ f. f.text) p.default []

-- what counts of the user value: whatever the range is, and within it
abbrev pub given_text : Parts → Option (List ℕ)
given_text p = user_text p.kind None p.visibility p.user

abbrev pub given_inside : Parts → Option (List ℕ)
given_inside p = user_text p.kind (bounds_of_parts p) p.visibility p.user

-- whether the default, or the empty text, is past a bound
abbrev pub is_past : Parts → Bool
is_past p = not (is_inside (bounds_of_parts p) (number_or_zero p.kind (default_text_in p)))

abbrev pub range_place_in : Parts → Option RangePlace
range_place_in p = option_map (λ r. r.place) p.range

abbrev pub IsTextReason : Parts → Reason → Type 0
IsTextReason p because.User = is_some (given_inside p) ≡ true
IsTextReason p because.UserWithin = ⊥
IsTextReason p (because.OutsideRange r d) =
    (given_inside p ≡ None) × (is_some (given_text p) ≡ true) × (range_place_in p ≡ Some r) × (d ≡ default_place_in p)
IsTextReason p (because.Default d) =
    (given_text p ≡ None) × (is_past p ≡ false) × (default_place_in p ≡ Some d)
IsTextReason p (because.Bound r d) =
    (given_text p ≡ None) × (is_past p ≡ true) × (range_place_in p ≡ Some r) × (d ≡ default_place_in p)
IsTextReason p (because.Implied k) = ⊥
IsTextReason p (because.Selected k) = ⊥
IsTextReason p because.Chosen = ⊥
IsTextReason p (because.OtherChosen m) = ⊥
IsTextReason p because.NoneChosen = ⊥
IsTextReason p because.NoDependencies = ⊥
IsTextReason p because.Nothing = (given_text p ≡ None) × (is_past p ≡ false) × (default_place_in p ≡ None)

-- ---- members of choices
abbrev pub IsMemberReason : Option SymId → SymId → Reason → Type 0
IsMemberReason selected s because.Chosen = is_symbol selected s ≡ true
IsMemberReason selected s (because.OtherChosen m) = (is_symbol selected s ≡ false) × (selected ≡ Some m)
IsMemberReason selected s because.NoneChosen = selected ≡ None
IsMemberReason selected s because.User = ⊥
IsMemberReason selected s because.UserWithin = ⊥
IsMemberReason selected s (because.OutsideRange r d) = ⊥
IsMemberReason selected s (because.Default d) = ⊥
IsMemberReason selected s (because.Bound r d) = ⊥
IsMemberReason selected s (because.Implied k) = ⊥
IsMemberReason selected s (because.Selected k) = ⊥
IsMemberReason selected s because.NoDependencies = ⊥
IsMemberReason selected s because.Nothing = ⊥

-- ---- all symbols
abbrev pub IsReasonOfType : Bool → Parts → Reason → Type 0
IsReasonOfType true p r = IsTriReason p r
IsReasonOfType false p r = IsTextReason p r

abbrev pub IsReasonIn : TreeValue → Assignment → SymId → SymbolValue → Parts → Option ChoiceId → Reason → Type 0
IsReasonIn t a s x p None r = IsReasonOfType (is_tri_type (kind_of x)) p r
IsReasonIn t a s x p (Some c) r = IsMemberReason (selected_in t a c) s r

-- nothing gives a value to a number that the tree doesn't have
abbrev pub IsReasonAt : TreeValue → UserValues → Assignment → SymId → Option SymbolValue → Reason → Type 0
IsReasonAt t u a s None r = r ≡ because.Nothing
IsReasonAt t u a s (Some x) r = IsReasonIn t a s x (parts t a x (as_tri (a (Vis s))) (user_value u s)) x.choice r

unfoldable pub IsReason : TreeValue → UserValues → Assignment → SymId → Reason → Type 0
IsReason t u a s r = IsReasonAt t u a s (slice_get t.symbols s.0) r

-- ---- what each gives
abbrev pub level_in : Option UserVal → Tri
level_in None = No
level_in (Some (TriVal v)) = v
level_in (Some (TextVal w)) = No

-- the user value, as far as the visibility and the type allow; the default; what the line gives, of an `imply` within the
-- dependencies; else n
abbrev pub level_given : Parts → Reason → Tri
level_given p because.User = level_in p.user
level_given p because.UserWithin = in_type p.takes_module (least (level_in p.user) p.visibility)
level_given p (because.OutsideRange r d) = No
level_given p (because.Default d) = by_default p
level_given p (because.Bound r d) = No
level_given p (because.Implied k) = in_type p.takes_module (least (slice_index_or p.implied k No) p.direct)
level_given p (because.Selected k) = in_type p.takes_module (slice_index_or p.selected k No)
level_given p because.Chosen = No
level_given p (because.OtherChosen m) = No
level_given p because.NoneChosen = No
level_given p because.NoDependencies = No
level_given p because.Nothing = No

abbrev pub text_in : Option UserVal → List ℕ
text_in None = []
text_in (Some (TriVal v)) = []
text_in (Some (TextVal w)) = w

-- the bound that a number is past
abbrev pub bound_past : Bounds → ℤ → ℤ
bound_past b n = if int_lt n b.low then b.low else b.high

abbrev pub spelled_bound : Parts → Option Bounds → List ℕ
spelled_bound p None = []
spelled_bound p (Some b) = spelled p.kind (bound_past b (number_or_zero p.kind (default_text_in p)))

abbrev pub text_given : Parts → Reason → List ℕ
text_given p because.User = text_in p.user
text_given p because.UserWithin = []
text_given p (because.OutsideRange r d) = clamped p.kind (bounds_of_parts p) (default_text_in p)
text_given p (because.Default d) = default_text_in p
text_given p (because.Bound r d) = spelled_bound p (bounds_of_parts p)
text_given p (because.Implied k) = []
text_given p (because.Selected k) = []
text_given p because.Chosen = []
text_given p (because.OtherChosen m) = []
text_given p because.NoneChosen = []
text_given p because.NoDependencies = []
text_given p because.Nothing = []

-- y for the member that is selected
abbrev pub is_chosen : Reason → Bool
is_chosen because.Chosen = true
is_chosen because.User = false
is_chosen because.UserWithin = false
is_chosen (because.OutsideRange r d) = false
is_chosen (because.Default d) = false
is_chosen (because.Bound r d) = false
is_chosen (because.Implied k) = false
is_chosen (because.Selected k) = false
is_chosen (because.OtherChosen m) = false
is_chosen because.NoneChosen = false
is_chosen because.NoDependencies = false
is_chosen because.Nothing = false

abbrev pub value_given : SymbolValue → Parts → Reason → Option ChoiceId → UserVal
value_given x p r None = if is_tri_type (kind_of x) then TriVal (level_given p r) else TextVal (text_given p r)
value_given x p r (Some c) = TriVal (yes_if (is_chosen r))

abbrev pub given_at : TreeValue → UserValues → Assignment → SymId → Reason → Option SymbolValue → UserVal
given_at t u a s r None = TriVal No
given_at t u a s r (Some x) = value_given x (parts t a x (as_tri (a (Vis s))) (user_value u s)) r x.choice

-- the value that a reason gives a symbol
unfoldable pub given_by : TreeValue → UserValues → Assignment → SymId → Reason → UserVal
given_by t u a s r = given_at t u a s r (slice_get t.symbols s.0)
