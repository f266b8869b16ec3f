-- The values of conditions: kconfig-language.rst, "Menu dependencies" and "Menu structure". What each part depends on is in
-- kc_tree's ConditionTable; here is what that is worth.
use Rattle.std.specs.Prelude.{List, Option, Some, None, map, slice_get}
use Rattle.std.specs.Option.{option_map_or}
use Rattle.kc_outline.specs.declared.id.BlockId.{BlockId}
use Rattle.kc_outline.specs.declared.id.CommentId.{CommentId}
use Rattle.kc_outline.specs.declared.id.ChoiceId.{ChoiceId}
use Rattle.kc_tree.specs.declared.node.Node.TheVariants.{Mode}
use Rattle.kc_statement.specs.declared.tri.Tri.{Tri}
use Rattle.kc_statement.specs.declared.tri.Tri.TheVariants.{No, Yes}
use Rattle.kc_statement.specs.Tristate.{least, least_of}
use Rattle.kc_outline.specs.TreeValue.{TreeValue, DefinitionValue, BlockValue, ChoiceValue, CommentValue, blocks_around, prompt_of, choice_prompt_of}
use Rattle.kc_value.specs.Assignment.{Assignment, as_tri}
use Rattle.kc_tree.specs.ConditionTable.{Condition, own_if, own_lines, depends_around, visible_around, mode_of, dependencies_in, also, Factor, expression, mode, missing, dependencies, of_prompt, of_choice_prompt, of_menu, of_comment}
use Rattle.kc_value.specs.ExprValue.{expr_value, conditions_value, own_condition}

-- what all inside some blocks depends on: the `if` expressions, and the `depends on` lines of menus and choices
abbrev pub blocks_depend : TreeValue → Assignment → List BlockValue → Tri
blocks_depend t a blocks = least_of (map (λ b. conditions_value t a b.depends) blocks)

-- what the prompts inside depend on besides: the `visible if` lines of menus
abbrev pub blocks_visible : TreeValue → Assignment → List BlockValue → Tri
blocks_visible t a blocks = least_of (map (λ b. conditions_value t a b.visible) blocks)

-- the mode of the choice in which something is, y outside of choices
abbrev pub mode_around : TreeValue → Assignment → Option ChoiceId → Tri
mode_around t a None = Yes
mode_around t a (Some c) = option_map_or (λ x. as_tri (a (Mode c))) (slice_get t.choices c.0) Yes

-- one factor
abbrev pub factor_value : TreeValue → Assignment → Factor → Tri
factor_value t a (expression e) = expr_value t a e
factor_value t a (mode c) = mode_around t a (Some c)
factor_value t a missing = No

-- the least of the values of its factors
abbrev pub condition_value : TreeValue → Assignment → Condition → Tri
condition_value t a (own_if o) = own_condition t a o
condition_value t a (own_lines es) = conditions_value t a es
condition_value t a (depends_around bs) = blocks_depend t a bs
condition_value t a (visible_around bs) = blocks_visible t a bs
condition_value t a (mode_of o) = mode_around t a o
condition_value t a (dependencies_in o) =
    option_map_or (λ d. least (conditions_value t a d.depends) (blocks_depend t a (blocks_around t d.block))) o No
condition_value t a (also c d) = least (condition_value t a c) (condition_value t a d)

-- the dependencies of a definition
abbrev pub dependency : TreeValue → Assignment → DefinitionValue → Tri
dependency t a d = condition_value t a (dependencies t d)

-- the condition of its prompt, n without one
abbrev pub prompt_value : TreeValue → Assignment → DefinitionValue → Tri
prompt_value t a d = option_map_or (λ p. condition_value t a (of_prompt t d p)) (prompt_of d) No

-- the condition of a menu, of a comment, and of a choice's prompt, which is n without one
abbrev pub menu_value : TreeValue → Assignment → BlockValue → Tri
menu_value t a b = condition_value t a (of_menu t b)

abbrev pub comment_value : TreeValue → Assignment → CommentValue → Tri
comment_value t a c = condition_value t a (of_comment t c)

abbrev pub choice_prompt_value : TreeValue → Assignment → ChoiceValue → Tri
choice_prompt_value t a x = option_map_or (λ p. condition_value t a (of_choice_prompt t x p)) (choice_prompt_of x) No

-- n for a number that the tree doesn't have
abbrev pub menu_condition : TreeValue → Assignment → BlockId → Tri
menu_condition t a id = option_map_or (menu_value t a) (slice_get t.blocks id.0) No

abbrev pub comment_condition : TreeValue → Assignment → CommentId → Tri
comment_condition t a id = option_map_or (comment_value t a) (slice_get t.comments id.0) No
