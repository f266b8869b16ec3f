-- Steps: what names mean after one definition more: kconfig-macro-language.rst, "Variables".
use Rattle.std.specs.Prelude.{ℕ, Bool, false, List, [], ◌∷◌, ◌++◌, Option, Some, None, Result, Ok, if◌then◌else◌, ◌==◌, ◌||◌}
use Rattle.std.specs.Str.{bytes_eq}
use Rattle.kc_text.specs.declared.fault.TextProblem.{TextProblem}
use Rattle.kc_text.specs.declared.variables.Assignment.{Assignment}
use Rattle.kc_text.specs.declared.variables.Assignment.TheVariants.{Later, AtOnce, Append}
use Rattle.kc_text.specs.declared.variables.Definition.{Definition}
use Rattle.kc_text.specs.declared.variables.Value.{Value}
use Rattle.kc_text.specs.declared.variables.Value.TheVariants.{Recursive, Simple}
use Rattle.kc_text.specs.References.{value_pieces}
use Rattle.kc_text.specs.Expansion.{Names, Environment, Progress, then_on, put, expansion, start}
pub use Rattle.kc_text.specs.Defining.{assignment_in, definition_after_blanks, definition_of}

-- whether the bytes after a name and its blanks may begin what the name is given
abbrev pub may_assign : List ℕ → Bool
may_assign [] = false
may_assign (b ∷ bs) = b == 61 || (b == 58 || b == 43)

-- the names with a value for one of them
abbrev pub with : List ℕ → Value → Names → Names
with name value names = λ q. if bytes_eq name q then Some value else names q

-- the names with an expanded text for one of them
abbrev pub with_text : List ℕ → Names → Result Progress TextProblem → Result Names TextProblem
with_text name names r = then_on r (λ p. Ok (with name (Simple p.text) names))

-- a text with one space and the expanded value behind it
abbrev pub text_behind : Environment → Names → List ℕ → List ℕ → Result Progress TextProblem
text_behind outside names text value = then_on (put (32 ∷ []) (record { text = text; followed = 0 })) (λ p. expansion names outside (value_pieces value) p)

-- the names with a text for one of them: one space and the expanded value behind the text so far
abbrev pub appended_at_once : Environment → Names → List ℕ → List ℕ → List ℕ → Result Names TextProblem
appended_at_once outside names name text value = with_text name names (text_behind outside names text value)

-- the text that a name stands for so far
abbrev pub text_meant : Option Value → List ℕ
text_meant None = []
text_meant (Some (Recursive text)) = text
text_meant (Some (Simple text)) = text

-- a value of another text: each use expands it, but where the value before was a text as it is
abbrev pub value_with : Option Value → List ℕ → Value
value_with (Some (Simple _)) text = Simple text
value_with _ text = Recursive text

-- the text that a name stands for, with one space and a value behind it; else the value alone
abbrev pub text_with : Environment → Names → Option Value → List ℕ → Result (List ℕ) TextProblem
text_with outside names None value = Ok value
text_with outside names (Some (Recursive text)) value = Ok (text ++ 32 ∷ value)
text_with outside names (Some (Simple text)) value = then_on (text_behind outside names text value) (λ p. Ok p.text)

-- `+=`: one space and the value behind the text so far, expanded at once where that text was; on a name without
-- definition it acts as `=`
abbrev pub appended : Environment → Names → List ℕ → List ℕ → Result Names TextProblem
appended outside names name value = elim (names name) [
  | None ↦ Ok (with name (Recursive value) names)
  | Some (Recursive text) ↦ Ok (with name (Recursive (text ++ 32 ∷ value)) names)
  | Some (Simple text) ↦ appended_at_once outside names name text value
]

-- the names after a definition, or its fault
abbrev pub assigned : Environment → Names → Assignment → List ℕ → List ℕ → Result Names TextProblem
assigned outside names Later name value = Ok (with name (Recursive value) names)
assigned outside names AtOnce name value = with_text name names (expansion names outside (value_pieces value) start)
assigned outside names Append name value = appended outside names name value

abbrev pub defined : Environment → Names → Definition → Result Names TextProblem
defined outside names d = assigned outside names d.assignment d.name d.value
