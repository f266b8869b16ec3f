-- A tree as contracts see it: this project's own record of what its lines say.
use Rattle.std.specs.Prelude.{ℕ, zero, suc, Bool, true, false, List, [], ◌∷◌, Option, Some, None, option_and_then, unwrap_or, filter_map, slice_get, slice_index_or, codes}
use Rattle.std.specs.Option.{option_map_or}
use Rattle.kc_statement.specs.declared.id.SymId.{SymId}
use Rattle.kc_statement.specs.Names.{symbol_among}
use Rattle.kc_outline.specs.declared.id.BlockId.{BlockId}
use Rattle.kc_outline.specs.declared.id.ChoiceId.{ChoiceId}
use Rattle.kc_statement.specs.declared.expr.Expr.{Expr}
use Rattle.kc_statement.specs.declared.attribute.Prompt.{Prompt}
use Rattle.kc_statement.specs.declared.attribute.DefaultValue.{DefaultValue}
use Rattle.kc_statement.specs.declared.attribute.Range.{Range}
use Rattle.kc_outline.specs.declared.choice.ChoiceDefault.{ChoiceDefault}
use Rattle.kc_statement.specs.declared.symbol_type.SymbolType.{SymbolType}
use Rattle.kc_statement.specs.declared.symbol_type.SymbolType.TheVariants as kind
use Rattle.kc_outline.specs.declared.symbol.Reverse.{Reverse}
use Rattle.kc_outline.specs.declared.block.BlockKind.{BlockKind}
use Rattle.kc_outline.specs.declared.entry.Entry.{Entry}
use Rattle.kc_outline.specs.declared.limits.TheConstants.{MOST_OPEN_BLOCKS}

-- one definition of a symbol: the innermost block around it, its own `depends on` lines, prompts, defaults and ranges,
-- each in the order of the lines, and how many `select` and how many `imply` lines it has
pub record DefinitionValue : Type 0 where
  pub symbol : SymId
  pub block : Option BlockId
  pub depends : List Expr
  pub prompts : List Prompt
  pub defaults : List DefaultValue
  pub ranges : List Range
  pub select_count : ℕ
  pub imply_count : ℕ

-- a symbol: the types that lines give it, in their order, the choice that it is a member of, the numbers of its
-- definitions, the `select` and `imply` lines that name it, whether it has such lines of its own, and whether it has a
-- `modules` and an `option allnoconfig_y` line
pub record SymbolValue : Type 0 where
  pub types : List SymbolType
  pub choice : Option ChoiceId
  pub definitions : List ℕ
  pub selected : List Reverse
  pub implied : List Reverse
  pub has_selections : Bool
  pub has_modules : Bool
  pub is_yes_in_allnoconfig : Bool

-- a menu, an `if` or a choice: the innermost block around it, what all inside depends on, and the `visible if` lines
pub record BlockValue : Type 0 where
  pub kind : BlockKind
  pub parent : Option BlockId
  pub depends : List Expr
  pub visible : List Expr

-- a choice: its block, whose `depends on` lines are its own, its prompts, defaults and members, each in the order of the
-- lines, and whether it has an `optional` line
pub record ChoiceValue : Type 0 where
  pub block : BlockId
  pub prompts : List Prompt
  pub defaults : List ChoiceDefault
  pub members : List SymId
  pub is_optional : Bool

-- a comment: its text, the innermost block around it and the choice that it is in, and its `depends on` lines
pub record CommentValue : Type 0 where
  pub title : List ℕ
  pub block : Option BlockId
  pub choice : Option ChoiceId
  pub depends : List Expr

-- the names and the symbols by number; definitions, blocks, choices and comments by number, which is the order of their
-- lines; and the entries in the order of their lines
pub record TreeValue : Type 0 where
  pub names : List (List ℕ)
  pub symbols : List SymbolValue
  pub definitions : List DefinitionValue
  pub blocks : List BlockValue
  pub choices : List ChoiceValue
  pub comments : List CommentValue
  pub entries : List Entry

-- the symbol of a name
abbrev pub symbol_named : TreeValue → List ℕ → Option SymId
symbol_named t name = symbol_among t.names name

-- the name of a symbol, empty for a number that the tree doesn't have
abbrev pub name_of : TreeValue → SymId → List ℕ
name_of t s = slice_index_or t.names s.0 []

-- the type of a symbol: the first that a line gives it, bool where none does
abbrev pub kind_of : SymbolValue → SymbolType
kind_of x = unwrap_or (slice_get x.types 0) kind.Bool

abbrev pub same_type : SymbolType → SymbolType → Bool
same_type kind.Bool kind.Bool = true
same_type kind.Tristate kind.Tristate = true
same_type kind.String kind.String = true
same_type kind.Int kind.Int = true
same_type kind.Hex kind.Hex = true
same_type _ _ = false

-- the prompt of a definition, the first
abbrev pub prompt_of : DefinitionValue → Option Prompt
prompt_of d = slice_get d.prompts 0

-- the prompt of a choice, the first
abbrev pub choice_prompt_of : ChoiceValue → Option Prompt
choice_prompt_of c = slice_get c.prompts 0

-- the symbol that says whether modules are built
abbrev pub modules_symbol : TreeValue → Option SymId
modules_symbol t = symbol_named t (codes "MODULES")

-- the definitions of a symbol, in the order of their lines
abbrev pub definitions_of : TreeValue → SymbolValue → List DefinitionValue
definitions_of t x = filter_map (slice_get t.definitions) x.definitions

-- the blocks around, from the innermost outwards, as many as may be nested
abbrev pub blocks_from : List BlockValue → ℕ → Option BlockId → List BlockValue
blocks_from blocks zero id = []
blocks_from blocks (suc n) None = []
blocks_from blocks (suc n) (Some id) =
    option_map_or (λ b. b ∷ blocks_from blocks n b.parent) (slice_get blocks id.0) []

abbrev pub blocks_around : TreeValue → Option BlockId → List BlockValue
blocks_around t id = blocks_from t.blocks MOST_OPEN_BLOCKS id

-- the choice that a symbol is a member of
abbrev pub choice_of : TreeValue → SymId → Option ChoiceId
choice_of t s = option_and_then (λ x. x.choice) (slice_get t.symbols s.0)

-- the text of a choice's prompt, empty for one that has none
abbrev pub choice_title : TreeValue → ChoiceId → List ℕ
choice_title t c = option_map_or (λ x. x.text) (option_and_then choice_prompt_of (slice_get t.choices c.0)) []
