-- What the definitions give for small texts and trees.
use Rattle.std.proofs.Common.{◌≡◌, ℕ, Bool, true, false, List, [], ◌∷◌, Option, Some, None, ◌==◌, if◌then◌else◌, codes, pos, negsuc, refl}
use Rattle.std.specs.Fmt.{digits}
use Rattle.kc_statement.specs.declared.id.SymId.{SymId}
use Rattle.kc_outline.specs.declared.block.BlockKind.TheVariants.{Choice}
use Rattle.kc_outline.specs.declared.choice.ChoiceDefault.{ChoiceDefault}
use Rattle.kc_tree.specs.declared.node.Node.{Node}
use Rattle.kc_tree.specs.declared.node.Node.TheVariants.{Vis, Val, Mode, Sel}
use Rattle.kc_statement.specs.declared.expr.Term.TheVariants.{Tri as Constant, Text, Undefined}
use Rattle.kc_statement.specs.declared.expr.Comparison.TheVariants as comparison
use Rattle.kc_statement.specs.declared.symbol_type.SymbolType.{SymbolType}
use Rattle.kc_statement.specs.declared.symbol_type.SymbolType.TheVariants.{Bool as BoolType, Tristate, Int, Hex}
use Rattle.kc_outline.specs.declared.symbol.Reverse.{Reverse}
use Rattle.kc_statement.specs.declared.tri.Tri.TheVariants.{No, Yes}
use Rattle.kc_tree.specs.declared.user_value.UserVal.{UserVal}
use Rattle.kc_tree.specs.declared.user_value.UserVal.TheVariants.{Tri as TriVal, Text as TextVal}
use Rattle.kc_statement.specs.Formula.{atom, compare}
use Rattle.kc_outline.specs.TreeValue.{TreeValue, SymbolValue, DefinitionValue, ChoiceValue}
use Rattle.kc_value.specs.declared.value.Value.TheVariants.{Tri as Level, Shown, Member}
use Rattle.kc_value.specs.Assignment.{Assignment}
use Rattle.kc_value.specs.ExprValue.{formula_value}
use Rattle.kc_value.specs.Numerals.{number_of_text}
use Rattle.kc_value.specs.Rule.{rule}
use Rattle.kc_value.specs.UserValues.{UserValues}

-- ---- which texts count as numbers
zero_counts : number_of_text (codes "0") ≡ Some (pos 0)
zero_counts = refl

minus_zero_counts : number_of_text (codes "-0") ≡ Some (pos 0)
minus_zero_counts = refl

below_zero : number_of_text (codes "-12") ≡ Some (negsuc 11)
below_zero = refl

hex_counts : number_of_text (codes "0x1F") ≡ Some (pos 31)
hex_counts = refl

leading_zero : number_of_text (codes "007") ≡ None
leading_zero = refl

plus : number_of_text (codes "+1") ≡ None
plus = refl

no_digits : number_of_text (codes "0x") ≡ None
no_digits = refl

large_x : number_of_text (codes "0X1f") ≡ None
large_x = refl

-- ---- comparisons: as numbers where both count, else as texts
abbrev empty_tree : TreeValue
empty_tree = record { names = []; symbols = []; definitions = []; blocks = []; choices = []; comments = []; entries = [] }

abbrev nothing : Assignment
nothing n = Level No

by_number : formula_value empty_tree nothing (compare comparison.Less (Text (codes "9")) (Undefined (codes "10"))) ≡ Yes
by_number = refl

by_text : formula_value empty_tree nothing (compare comparison.Less (Text (codes "9a")) (Undefined (codes "10"))) ≡ No
by_text = refl

two_is_y : formula_value empty_tree nothing (compare comparison.Equal (Text (codes "2")) (Constant Yes)) ≡ Yes
two_is_y = refl

-- ---- a tristate with a prompt that another one selects; MODULES is not defined
abbrev definition : ℕ → DefinitionValue
definition s = record {
  symbol = record { 0 = s };
  block = None;
  depends = [];
  prompts = record { text = codes "p"; condition = None } ∷ [];
  defaults = [];
  ranges = [];
  select_count = 0;
  imply_count = 0;
}

abbrev symbol : SymbolType → ℕ → List Reverse → SymbolValue
symbol kind number selected = record {
  types = kind ∷ [];
  choice = None;
  definitions = number ∷ [];
  selected = selected;
  implied = [];
  has_selections = false;
  has_modules = false;
  is_yes_in_allnoconfig = false;
}

abbrev by_first : Reverse
by_first = record { by = record { 0 = 0 }; definition = 0; number = 0; condition = None }

abbrev two : TreeValue
two = record {
  names = codes "S" ∷ codes "T" ∷ [];
  symbols = symbol BoolType 0 [] ∷ symbol Tristate 1 (by_first ∷ []) ∷ [];
  definitions = definition 0 ∷ definition 1 ∷ [];
  blocks = [];
  choices = [];
  comments = [];
  entries = [];
}

-- S has y, T is visible
abbrev selecting : Assignment
selecting (Vis s) = Level Yes
selecting (Val s) = Shown (TriVal Yes) true
selecting (Mode c) = Level No
selecting (Sel c) = Level No

abbrev user_says_n : UserValues
user_says_n = record { values = None ∷ Some (TriVal No) ∷ []; chosen = [] }

-- the user's n does not go below what is selected
selected_over_user : rule two user_says_n selecting (Val (record { 0 = 1 })) ≡ Shown (TriVal Yes) true
unfolding rule
selected_over_user = refl

-- a prompt without condition shows
prompt_shows : rule two user_says_n selecting (Vis (record { 0 = 1 })) ≡ Level Yes
unfolding rule
prompt_shows = refl

-- ---- an int or a hex with a default and a range
abbrev with_range : List ℕ → List ℕ → List ℕ → DefinitionValue
with_range value low high = record {
  symbol = record { 0 = 0 };
  block = None;
  depends = [];
  prompts = record { text = codes "p"; condition = None } ∷ [];
  defaults = record { value = atom (Text value); condition = None } ∷ [];
  ranges = record { low = Text low; high = Text high; condition = None } ∷ [];
  select_count = 0;
  imply_count = 0;
}

abbrev number : SymbolType → DefinitionValue → TreeValue
number kind d = record {
  names = codes "N" ∷ [];
  symbols = symbol kind 0 [] ∷ [];
  definitions = d ∷ [];
  blocks = [];
  choices = [];
  comments = [];
  entries = [];
}

abbrev user_says : Option UserVal → UserValues
user_says v = record { values = v ∷ []; chosen = [] }

abbrev visible : Assignment
visible n = Level Yes

abbrev first : Node
first = Val (record { 0 = 0 })

abbrev one_to_five : List ℕ → TreeValue
one_to_five value = number Int (with_range value (codes "1") (codes "5"))

-- a default past the range
above : rule (one_to_five (codes "9")) (user_says None) visible first ≡ Shown (TextVal (codes "5")) true
unfolding rule digits
above = refl

-- a bound of a hex has its sign and lower-case digits
above_hex : rule (number Hex (with_range (codes "0x20") (codes "0x0") (codes "0X1F"))) (user_says None) visible first ≡ Shown (TextVal (codes "0x1f")) true
unfolding rule digits
above_hex = refl

-- the user's value inside the range shows
inside : rule (one_to_five (codes "3")) (user_says (Some (TextVal (codes "04")))) visible first ≡ Shown (TextVal (codes "04")) true
unfolding rule
inside = refl

-- one outside of it does not, and is not clamped: the default shows
outside : rule (one_to_five (codes "3")) (user_says (Some (TextVal (codes "7")))) visible first ≡ Shown (TextVal (codes "3")) true
unfolding rule
outside = refl

-- where the bounds are the wrong way round the low one counts first
wrong_way_round : rule (number Int (with_range (codes "3") (codes "5") (codes "1"))) (user_says None) visible first ≡ Shown (TextVal (codes "5")) true
unfolding rule digits
wrong_way_round = refl

-- ---- a choice of A, B and C
abbrev letter : ℕ → SymbolValue
letter number = record {
  types = BoolType ∷ [];
  choice = Some (record { 0 = 0 });
  definitions = number ∷ [];
  selected = [];
  implied = [];
  has_selections = false;
  has_modules = false;
  is_yes_in_allnoconfig = false;
}

abbrev choosing : List ChoiceDefault → Bool → ChoiceValue
choosing defaults optional = record {
  block = record { 0 = 0 };
  prompts = record { text = codes "p"; condition = None } ∷ [];
  defaults = defaults;
  members = record { 0 = 0 } ∷ record { 0 = 1 } ∷ record { 0 = 2 } ∷ [];
  is_optional = optional;
}

abbrev three : ChoiceValue → TreeValue
three c = record {
  names = codes "A" ∷ codes "B" ∷ codes "C" ∷ [];
  symbols = letter 0 ∷ letter 1 ∷ letter 2 ∷ [];
  definitions = definition 0 ∷ definition 1 ∷ definition 2 ∷ [];
  blocks = record { kind = Choice; parent = None; depends = []; visible = [] } ∷ [];
  choices = c ∷ [];
  comments = [];
  entries = [];
}

abbrev chose : Option SymId → UserValues
chose m = record { values = None ∷ None ∷ None ∷ []; chosen = m ∷ [] }

abbrev to_b : ChoiceDefault
to_b = record { symbol = Some (record { 0 = 1 }); condition = None }

abbrev to_c : ChoiceDefault
to_c = record { symbol = Some (record { 0 = 2 }); condition = None }

-- all but C are visible, and B is selected
abbrev without_c : Assignment
without_c (Vis s) = if s.0 == 2 then Level No else Level Yes
without_c (Val s) = Level No
without_c (Mode c) = Level Yes
without_c (Sel c) = Member (Some (record { 0 = 1 }))

-- a chosen member that is invisible gives way to the default
chosen_invisible : rule (three (choosing (to_b ∷ []) false)) (chose (Some (record { 0 = 2 }))) without_c (Sel (record { 0 = 0 })) ≡ Member (Some (record { 0 = 1 }))
unfolding rule
chosen_invisible = refl

-- one that is visible is selected
chosen_visible : rule (three (choosing (to_b ∷ []) false)) (chose (Some (record { 0 = 2 }))) visible (Sel (record { 0 = 0 })) ≡ Member (Some (record { 0 = 2 }))
unfolding rule
chosen_visible = refl

-- a default whose member is invisible gives way to the next default
next_default : rule (three (choosing (to_c ∷ to_b ∷ []) false)) (chose None) without_c (Sel (record { 0 = 0 })) ≡ Member (Some (record { 0 = 1 }))
unfolding rule
next_default = refl

-- without a default the first member that is visible is selected
first_member : rule (three (choosing [] false)) (chose None) without_c (Sel (record { 0 = 0 })) ≡ Member (Some (record { 0 = 0 }))
unfolding rule
first_member = refl

-- the member that is selected is y, and the others are n
selected_is_y : rule (three (choosing [] false)) (chose None) without_c (Val (record { 0 = 1 })) ≡ Shown (TriVal Yes) true
unfolding rule
selected_is_y = refl

other_is_n : rule (three (choosing [] false)) (chose None) without_c first ≡ Shown (TriVal No) true
unfolding rule
other_is_n = refl

-- an optional choice is off until the user chooses a member
optional_off : rule (three (choosing [] true)) (chose None) visible (Mode (record { 0 = 0 })) ≡ Level No
unfolding rule
optional_off = refl

optional_on : rule (three (choosing [] true)) (chose (Some (record { 0 = 2 }))) visible (Mode (record { 0 = 0 })) ≡ Level Yes
unfolding rule
optional_on = refl

-- another one is on
not_optional : rule (three (choosing [] false)) (chose None) visible (Mode (record { 0 = 0 })) ≡ Level Yes
unfolding rule
not_optional = refl
