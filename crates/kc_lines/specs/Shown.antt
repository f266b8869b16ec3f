-- Which lines show a fault, by their first words: this project's own.
use Rattle.std.specs.Prelude.{Bool, true, false, ◌||◌}
use Rattle.std.specs.Option.{option_map_or}
use Rattle.kc_text.specs.LineValue.{LineValue}
use Rattle.kc_statement.specs.declared.keyword.Keyword.{Keyword}
use Rattle.kc_statement.specs.declared.keyword.Keyword.TheVariants as keyword
use Rattle.kc_statement.specs.Keywords.{keyword_of}
use Rattle.kc_tree.specs.declared.problem.SymbolProblem.{SymbolProblem}
use Rattle.kc_tree.specs.declared.problem.SymbolProblem.TheVariants.{NoType, TypeConflict, SecondPrompt as SymbolPrompts, UnfitDefault, UnfitSelect, BadModules}
use Rattle.kc_tree.specs.declared.problem.ChoiceProblem.{ChoiceProblem}
use Rattle.kc_tree.specs.declared.problem.ChoiceProblem.TheVariants.{NoPrompt, SecondPrompt as ChoicePrompts, ForeignDefault, MemberType, MemberWithoutPrompt, MemberDefinedAgain}
use Rattle.kc_lines.specs.declared.shown.Fault.{Fault}
use Rattle.kc_lines.specs.declared.shown.Fault.TheVariants.{Line, Symbol, Choice, Loop}
use Rattle.kc_lines.specs.declared.parts.Family.TheVariants as family
use Rattle.kc_lines.specs.declared.parts.Attribute.TheVariants as attribute
use Rattle.kc_lines.specs.Attributes.{is_of}
use Rattle.kc_lines.specs.LineIndex.{begins_word}

-- the line has a default or a range
abbrev pub is_value_word : Keyword → Bool
is_value_word k = is_of attribute.Default k || is_of attribute.Range k

abbrev pub is_selecting_word : Keyword → Bool
is_selecting_word k = is_of attribute.Select k || is_of attribute.Imply k

-- the line is a default, and no type
abbrev pub is_plain_default : Keyword → Bool
is_plain_default keyword.Default = true
is_plain_default _ = false

-- the line has a condition of all that it is about
abbrev pub is_condition_word : Keyword → Bool
is_condition_word keyword.Depends = true
is_condition_word keyword.Visible = true
is_condition_word keyword.If = true
is_condition_word _ = false

-- a fault of a symbol
abbrev pub symbol_shown_by : SymbolProblem → Keyword → Bool
symbol_shown_by NoType k = begins_word family.Definition k
symbol_shown_by TypeConflict k = is_of attribute.Type k
symbol_shown_by SymbolPrompts k = is_of attribute.Prompt k
symbol_shown_by UnfitDefault k = is_value_word k || is_of attribute.Type k
symbol_shown_by UnfitSelect k = is_selecting_word k || is_of attribute.Type k
symbol_shown_by BadModules k = is_of attribute.Modules k || is_of attribute.Type k

-- a fault of a choice
abbrev pub choice_shown_by : ChoiceProblem → Keyword → Bool
choice_shown_by NoPrompt k = begins_word family.Choice k
choice_shown_by ChoicePrompts k = is_of attribute.Prompt k
choice_shown_by ForeignDefault k = is_plain_default k
choice_shown_by MemberType k = is_of attribute.Type k
choice_shown_by MemberWithoutPrompt k = begins_word family.Definition k
choice_shown_by MemberDefinedAgain k = begins_word family.Definition k

-- a loop: its lines are those by which a node uses another
abbrev pub loop_shown_by : Keyword → Bool
loop_shown_by k = is_condition_word k || (is_value_word k || (is_selecting_word k || (is_of attribute.Type k || (is_of attribute.Prompt k || (begins_word family.Definition k || begins_word family.Choice k)))))

-- a line shows a fault: that of a line each line, the others those of the right first words
abbrev pub shows : Fault → LineValue → Bool
shows Line line = true
shows (Symbol problem) line = option_map_or (symbol_shown_by problem) (keyword_of line) false
shows (Choice problem) line = option_map_or (choice_shown_by problem) (keyword_of line) false
shows Loop line = option_map_or loop_shown_by (keyword_of line) false
