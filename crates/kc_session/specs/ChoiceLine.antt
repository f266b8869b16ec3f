-- This project's own command `choices`: its line about a choice.
use Rattle.std.specs.Prelude.{ℕ, List, length, ◌++◌, Option, Some, None, codes, decimal}
use Rattle.std.specs.List.{flat_map, range_with_len}
use Rattle.kc_statement.specs.declared.id.SymId.{SymId}
use Rattle.kc_outline.specs.declared.id.ChoiceId.{ChoiceId}
use Rattle.kc_tree.specs.declared.node.Node.TheVariants.{Mode, Sel}
use Rattle.kc_outline.specs.TreeValue.{TreeValue, name_of, choice_title}
use Rattle.kc_value.specs.Assignment.{as_tri, as_member}
use Rattle.kc_value.specs.UserValues.{UserValues, chosen_in}
use Rattle.kc_value.specs.Solution.{solution}
use Rattle.kc_files.specs.Quoting.{quoted}
use Rattle.kc_session.specs.ShowLine.{tri_text}

-- the name of a member, a dash where there is none
abbrev pub member_text : TreeValue → Option SymId → List ℕ
member_text t None = codes "-"
member_text t (Some s) = name_of t s

-- the number of the choice, its prompt, its mode, the member that it selects, and the one that the user chose
unfoldable pub choice_line_of : TreeValue → UserValues → ChoiceId → List ℕ
choice_line_of t u c =
    codes "choice " ++ decimal c.0 ++ codes " " ++ quoted (choice_title t c) ++ codes " mode=" ++ tri_text (as_tri (solution t u (Mode c)))
    ++ codes " sel=" ++ member_text t (as_member (solution t u (Sel c))) ++ codes " user=" ++ member_text t (chosen_in u c) ++ codes "\n"

-- the lines about all choices, by number
unfoldable pub choices_text_of : TreeValue → UserValues → List ℕ
choices_text_of t u = flat_map (λ k. choice_line_of t u (record { 0 = k })) (range_with_len 0 (length t.choices))
