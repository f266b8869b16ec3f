-- The variables that are passed in, as pairs of a name and a text: this project's own rules.
use Rattle.std.specs.Prelude.{ℕ, Bool, List, length, Option, Some, None, Result, Ok, Err, if◌then◌else◌, nat_lt, ◌==◌, ◌||◌, reverse, filter_map, slice_get, option_map}
use Rattle.std.specs.List.{list_any}
use Rattle.kc_text.specs.declared.fault.TextProblem.{TextProblem}
use Rattle.kc_text.specs.declared.fault.TextProblem.TheVariants.{Limit, BadCharacter}
use Rattle.kc_text.specs.declared.fault.TextFault.{TextFault}
use Rattle.kc_text.specs.declared.fault.TextFault.TheVariants.{At}
use Rattle.kc_text.specs.Names.{Environment, texts_in}

-- a name and its text
abbrev pub Pair : Type 0
Pair = List ℕ × List ℕ

-- a byte that no variable's text may have: LF, CR or NUL
abbrev pub is_forbidden : ℕ → Bool
is_forbidden b = b == 10 || (b == 13 || b == 0)

-- what is wrong with a text, which has at most 65536 bytes
abbrev pub text_problem : List ℕ → Option TextProblem
text_problem text = if list_any is_forbidden text then Some BadCharacter else (if nat_lt 65536 (length text) then Some Limit else None)

-- the fault of a pair, told with its name
abbrev pub pair_fault : Pair → Option TextFault
pair_fault p = option_map (λ problem. At problem p.0 0) (text_problem p.1)

-- the text of a name: that of its last pair
abbrev pub last_text : List Pair → Environment
last_text pairs = texts_in (reverse pairs)

-- what the pairs give: the first fault, or else the texts of the names
abbrev pub vars_of : List Pair → Result Environment TextFault
vars_of pairs = elim (slice_get (filter_map pair_fault pairs) 0) [ Some fault ↦ Err fault | None ↦ Ok (last_text pairs) ]
