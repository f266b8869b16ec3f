-- What a line of a `.config` says, a step at a time: this project's own.
use Rattle.std.specs.Prelude.{ℕ, ◌==◌, Bool, true, false, List, [], ◌∷◌, Option, Some, None, is_some, option_map, option_and_then, if◌then◌else◌, codes}
use Rattle.std.specs.Option.{option_map_or}
use Rattle.std.specs.Str.{bytes_eq, is_utf8}
use Rattle.kc_statement.specs.declared.tri.Tri.{Tri}
use Rattle.kc_statement.specs.declared.tri.Tri.TheVariants.{No, Module, Yes}
use Rattle.kc_statement.specs.declared.symbol_type.SymbolType.{SymbolType}
use Rattle.kc_statement.specs.declared.symbol_type.SymbolType.TheVariants as kind
use Rattle.kc_statement.specs.Numerals.{numeral_in}
use Rattle.kc_tree.specs.declared.user_value.UserVal.{UserVal}
use Rattle.kc_tree.specs.declared.user_value.UserVal.TheVariants.{Tri as TriVal, Text}
use Rattle.kc_files.specs.declared.line_form.LineForm.{LineForm}
use Rattle.kc_files.specs.declared.line_form.LineForm.TheVariants.{Assigned, Unset, Nothing, Malformed}
use Rattle.kc_files.specs.LineForm.{is_word}

-- ---- the form
-- what follows a beginning, if the text begins so
abbrev pub after : List ℕ → List ℕ → Option (List ℕ)
after [] bs = Some bs
after (p ∷ ps) [] = None
after (p ∷ ps) (b ∷ bs) = if p == b then after ps bs else None

-- what stands before a byte, and what behind it
pub record Parts : Type 0 where
  pub front : List ℕ
  pub back : List ℕ

abbrev pub parts_of : List ℕ → List ℕ → Parts
parts_of front back = record { front = front; back = back }

abbrev pub with_first : ℕ → Parts → Parts
with_first b p = parts_of (b ∷ p.front) p.back

-- round the first such byte
abbrev pub parted : ℕ → List ℕ → Option Parts
parted c [] = None
parted c (b ∷ bs) = if b == c then Some (parts_of [] bs) else option_map (with_first b) (parted c bs)

-- where a name stands before that byte
abbrev pub if_named : Parts → Option Parts
if_named p = if is_word p.front then Some p else None

abbrev pub named : ℕ → List ℕ → Option Parts
named c bs = option_and_then if_named (parted c bs)

abbrev pub if_not_set : Parts → Option (List ℕ)
if_not_set p = if bytes_eq p.back (codes "is not set") then Some p.front else None

-- the name that a line says is not set
abbrev pub unset_name : List ℕ → List ℕ → Option (List ℕ)
unset_name prefix line =
    option_and_then if_not_set (option_and_then (named 32) (option_and_then (after prefix) (after (codes "# ") line)))

-- the name and the value of a line that gives one
abbrev pub assignment : List ℕ → List ℕ → Option Parts
assignment prefix line = option_and_then (named 61) (after prefix line)

abbrev pub text_form : List ℕ → List ℕ → LineForm
text_form prefix [] = Nothing
text_form prefix (b ∷ bs) =
    if b == 35 then option_map_or Unset (unset_name prefix (b ∷ bs)) Nothing
    else option_map_or (λ (p : Parts). Assigned p.front p.back) (assignment prefix (b ∷ bs)) Malformed

abbrev pub line_form : List ℕ → List ℕ → LineForm
line_form prefix line = if is_utf8 line then text_form prefix line else Malformed

-- ---- the value
-- behind an opening quote: whether a backslash stands before, and the bytes that are left; none where no quote closes
abbrev pub text_from : Bool → List ℕ → Option (List ℕ)
text_from escape [] = None
text_from true (b ∷ bs) = option_map (λ w. b ∷ w) (text_from false bs)
text_from false (b ∷ bs) =
    if b == 34 then Some [] else (if b == 92 then text_from true bs else option_map (λ w. b ∷ w) (text_from false bs))

abbrev pub unquoted : List ℕ → Option (List ℕ)
unquoted [] = None
unquoted (b ∷ bs) = if b == 34 then text_from false bs else None

abbrev pub bool_given : List ℕ → Option Tri
bool_given w = if bytes_eq w (codes "n") then Some No else (if bytes_eq w (codes "y") then Some Yes else None)

abbrev pub tristate_given : List ℕ → Option Tri
tristate_given w = if bytes_eq w (codes "m") then Some Module else bool_given w

abbrev pub numeral_given : SymbolType → List ℕ → Option UserVal
numeral_given k w = if is_some (numeral_in k w) then Some (Text w) else None

abbrev pub value_given : List ℕ → SymbolType → Option UserVal
value_given w kind.Bool = option_map TriVal (bool_given w)
value_given w kind.Tristate = option_map TriVal (tristate_given w)
value_given w kind.String = option_map Text (unquoted w)
value_given w kind.Int = numeral_given kind.Int w
value_given w kind.Hex = numeral_given kind.Hex w

-- that of a symbol that is not set
abbrev pub no_given : SymbolType → Option UserVal
no_given kind.Bool = Some (TriVal No)
no_given kind.Tristate = Some (TriVal No)
no_given kind.String = None
no_given kind.Int = None
no_given kind.Hex = None
