-- What each part of a tree depends on: kconfig-language.rst, "Menu dependencies" and "Menu structure". Each row is one of
-- docs/VALUES.md, "Conditions". What a condition is worth (kc_value) and which nodes it reads (Uses) both follow from its
-- factors: of the nodes `Tree::uses` says so.
use Rattle.std.specs.Prelude.{List, [], ◌∷◌, ◌++◌, Option, Some, None, map, flat_map, slice_get}
use Rattle.kc_statement.specs.declared.expr.Expr.{Expr}
use Rattle.kc_statement.specs.declared.attribute.Prompt.{Prompt}
use Rattle.kc_outline.specs.declared.id.ChoiceId.{ChoiceId}
use Rattle.kc_outline.specs.declared.choice.ChoiceDefault.{ChoiceDefault}
use Rattle.kc_outline.specs.declared.symbol.Reverse.{Reverse}
use Rattle.kc_outline.specs.TreeValue.{TreeValue, SymbolValue, DefinitionValue, BlockValue, ChoiceValue, CommentValue, blocks_around}

-- ---- conditions
-- A condition holds as far as all of its factors do.
pub data Condition : Type 0 where
  -- the expression after its own `if`, where it has one
  own_if : Option Expr → Condition
  -- its own `depends on` or `visible if` lines
  own_lines : List Expr → Condition
  -- the `if` expressions and the `depends on` lines of the blocks around it
  depends_around : List BlockValue → Condition
  -- the `visible if` lines of the blocks around it
  visible_around : List BlockValue → Condition
  -- the mode of the choice that it is in, where it is in one
  mode_of : Option ChoiceId → Condition
  -- the dependencies of a definition; n where there is none
  dependencies_in : Option DefinitionValue → Condition
  also : Condition → Condition → Condition

-- ---- the table
-- the dependencies of a definition
abbrev pub dependencies : TreeValue → DefinitionValue → Condition
dependencies t d = also (own_lines d.depends) (depends_around (blocks_around t d.block))

-- a prompt
abbrev pub of_prompt : TreeValue → DefinitionValue → Prompt → Condition
of_prompt t d p = also (own_if p.condition) (also (dependencies t d) (visible_around (blocks_around t d.block)))

-- and for a member of a choice the mode of the choice
abbrev pub of_member : SymbolValue → Condition
of_member x = mode_of x.choice

-- a default or a range, by its `if`
abbrev pub of_property : TreeValue → DefinitionValue → Option Expr → Condition
of_property t d c = also (own_if c) (dependencies t d)

-- a `select` or an `imply`
abbrev pub of_reverse : TreeValue → Reverse → Condition
of_reverse t r = also (own_if r.condition) (dependencies_in (slice_get t.definitions r.definition))

-- the prompt of a choice: its own `depends on` lines are those of its block
abbrev pub of_choice_prompt : TreeValue → ChoiceValue → Prompt → Condition
of_choice_prompt t x p =
    also (own_if p.condition) (also (depends_around (blocks_around t (Some x.block))) (visible_around (blocks_around t (Some x.block))))

-- a default of a choice
abbrev pub of_choice_default : ChoiceDefault → Condition
of_choice_default d = own_if d.condition

-- a menu
abbrev pub of_menu : TreeValue → BlockValue → Condition
of_menu t b = also (own_lines b.depends) (also (depends_around (blocks_around t b.parent)) (own_lines b.visible))

-- a comment
abbrev pub of_comment : TreeValue → CommentValue → Condition
of_comment t c = also (own_lines c.depends) (also (depends_around (blocks_around t c.block)) (mode_of c.choice))

-- ---- factors
-- one factor: an expression, the mode of a choice, or that there is no such definition
pub data Factor : Type 0 where
  expression : Expr → Factor
  mode : ChoiceId → Factor
  missing : Factor

-- all factors of a condition. Its value is the least of theirs, and it reads what they read
abbrev pub factors : TreeValue → Condition → List Factor
factors t (own_if None) = []
factors t (own_if (Some e)) = expression e ∷ []
factors t (own_lines es) = map expression es
factors t (depends_around bs) = flat_map (λ b. map expression b.depends) bs
factors t (visible_around bs) = flat_map (λ b. map expression b.visible) bs
factors t (mode_of None) = []
factors t (mode_of (Some c)) = mode c ∷ []
factors t (dependencies_in None) = missing ∷ []
factors t (dependencies_in (Some d)) = map expression d.depends ++ flat_map (λ b. map expression b.depends) (blocks_around t d.block)
factors t (also c d) = factors t c ++ factors t d
