-- The tree of logical lines: kconfig-language.rst, "Menu entries", "Menu attributes", "Menu dependencies" and "Menu
-- structure". Each part of the tree is found from the whole list of what the lines say and where they stand.
use Rattle.std.specs.Prelude.{◌≡◌, ℕ, ◌+◌, ◌==◌, Bool, true, false, ◌&&◌, List, [], ◌∷◌, ◌++◌, Option, Some, None, option_map, if◌then◌else◌, option_and_then, length, map, filter_map, count_by, slice_get, take}
use Rattle.std.specs.List.{cons_option, list_any, range_with_len}
use Rattle.kc_text.specs.LineValue.{LineValue}
use Rattle.kc_statement.specs.declared.id.SymId.{SymId}
use Rattle.kc_outline.specs.declared.id.BlockId.{BlockId}
use Rattle.kc_outline.specs.declared.id.ChoiceId.{ChoiceId}
use Rattle.kc_statement.specs.declared.expr.Expr.{Expr}
use Rattle.kc_statement.specs.declared.expr.Term.{Term}
use Rattle.kc_statement.specs.declared.expr.Term.TheVariants.{Symbol}
use Rattle.kc_statement.specs.declared.attribute.Prompt.{Prompt}
use Rattle.kc_statement.specs.declared.attribute.DefaultValue.{DefaultValue}
use Rattle.kc_statement.specs.declared.attribute.Range.{Range}
use Rattle.kc_outline.specs.declared.choice.ChoiceDefault.{ChoiceDefault}
use Rattle.kc_statement.specs.Grammar.{term_alone}
use Rattle.kc_statement.specs.declared.symbol_type.SymbolType.{SymbolType}
use Rattle.kc_outline.specs.declared.symbol.Reverse.{Reverse}
use Rattle.kc_outline.specs.declared.block.BlockKind.{BlockKind}
use Rattle.kc_outline.specs.declared.block.BlockKind.TheVariants as block_kind
use Rattle.kc_outline.specs.declared.context.Owner.{Owner}
use Rattle.kc_outline.specs.declared.context.Owner.TheVariants as owner
use Rattle.kc_statement.specs.declared.statement.Statement.{Statement}
use Rattle.kc_statement.specs.declared.statement.Statement.TheVariants as statement
use Rattle.kc_outline.specs.declared.entry.Entry.{Entry}
use Rattle.kc_outline.specs.declared.entry.Entry.TheVariants as entry
use Rattle.kc_statement.specs.Names.{names_of}
use Rattle.kc_outline.specs.Enclosing.{before, open_blocks, innermost, choice_among, owner_at}
use Rattle.kc_outline.specs.LineFaults.{IsSound}
use Rattle.kc_outline.specs.TreeValue.{TreeValue, SymbolValue, DefinitionValue, BlockValue, ChoiceValue, CommentValue}

-- ---- what a line says and where it is: the innermost block and the choice that are open before it, and what
-- owns it
pub record Reading : Type 0 where
  pub statement : Statement
  pub block : Option BlockId
  pub choice : Option ChoiceId
  pub owner : Option Owner

-- a line after those before it, which are in reverse, is read as this
pub record IsReading (names : List (List ℕ)) (earlier : List LineValue) (is_last : Bool) (l : LineValue) (r : Reading) : Type 0 where
  pub sound : IsSound names earlier is_last l r.statement
  pub block : r.block ≡ innermost (open_blocks earlier)
  pub choice : r.choice ≡ choice_among (open_blocks earlier)
  pub owner : r.owner ≡ owner_at names (l ∷ earlier)

-- the line at this place is read as this
pub record IsReadingAt (lines : List LineValue) (i : ℕ) (r : Reading) : Type 0 where
  pub line : LineValue
  pub is : slice_get lines i ≡ Some line
  pub reads : IsReading (names_of lines) (before lines i) (i + 1 == length lines) line r

-- the first `count` lines have no problem, and these are their readings in their order
pub record AreFirstReadings (lines : List LineValue) (count : ℕ) (rs : List Reading) : Type 0 where
  pub many : length rs ≡ count
  pub each : (i : ℕ) (r : Reading) → slice_get rs i ≡ Some r → IsReadingAt lines i r

-- the readings of lines
abbrev pub AreReadings : List LineValue → List Reading → Type 0
AreReadings lines rs = AreFirstReadings lines (length lines) rs

-- ---- what a statement has
abbrev pub type_in : Statement → Option SymbolType
type_in (statement.Type k) = Some k
type_in (statement.TypeAndPrompt k p) = Some k
type_in (statement.TypeAndDefault k d) = Some k
type_in _ = None

abbrev pub prompt_in : Statement → Option Prompt
prompt_in (statement.TypeAndPrompt k p) = Some p
prompt_in (statement.Prompt p) = Some p
prompt_in _ = None

abbrev pub default_in : Statement → Option DefaultValue
default_in (statement.TypeAndDefault k d) = Some d
default_in (statement.Default d) = Some d
default_in _ = None

abbrev pub range_in : Statement → Option Range
range_in (statement.Range r) = Some r
range_in _ = None

abbrev pub depends_in : Statement → Option Expr
depends_in (statement.DependsOn e) = Some e
depends_in _ = None

abbrev pub visible_in : Statement → Option Expr
visible_in (statement.VisibleIf e) = Some e
visible_in _ = None

-- a `select`, of whatever
abbrev pub says_select : Statement → Bool
says_select (statement.Select s c) = true
says_select _ = false

-- an `imply`, of whatever
abbrev pub says_imply : Statement → Bool
says_imply (statement.Imply s c) = true
says_imply _ = false

-- a `select` or an `imply`, of whatever
abbrev pub says_selection : Statement → Bool
says_selection (statement.Select s c) = true
says_selection (statement.Imply s c) = true
says_selection _ = false

abbrev pub says_optional : Statement → Bool
says_optional statement.Optional = true
says_optional _ = false

abbrev pub says_modules : Statement → Bool
says_modules statement.Modules = true
says_modules _ = false

abbrev pub says_yes_in_allnoconfig : Statement → Bool
says_yes_in_allnoconfig statement.AllNoConfigYes = true
says_yes_in_allnoconfig _ = false

-- ---- owners
abbrev pub is_of_definition : ℕ → Option Owner → Bool
is_of_definition j (Some (owner.Definition s i)) = i == j
is_of_definition j _ = false

abbrev pub is_of_symbol : SymId → Option Owner → Bool
is_of_symbol s (Some (owner.Definition r i)) = r.0 == s.0
is_of_symbol s _ = false

-- of a menu, or of a choice, by its block
abbrev pub is_of_block : ℕ → Option Owner → Bool
is_of_block b (Some (owner.Menu m)) = m.0 == b
is_of_block b (Some (owner.Choice c m)) = m.0 == b
is_of_block b _ = false

abbrev pub is_of_choice : ℕ → Option Owner → Bool
is_of_choice c (Some (owner.Choice d m)) = d.0 == c
is_of_choice c _ = false

abbrev pub is_of_comment : ℕ → Option Owner → Bool
is_of_comment c (Some (owner.Comment m)) = m.0 == c
is_of_comment c _ = false

-- what the statements say of those that an owner has
abbrev pub said : {A : Type 0} → (Option Owner → Bool) → (Statement → Option A) → List Reading → List A
said is_owner say rs = filter_map (λ r. if is_owner r.owner then say r.statement else None) rs

-- whether a statement of an owner says so
abbrev pub is_said : (Option Owner → Bool) → (Statement → Bool) → List Reading → Bool
is_said is_owner says rs = list_any (λ r. is_owner r.owner && says r.statement) rs

-- how many statements of an owner say so
abbrev pub times_said : (Option Owner → Bool) → (Statement → Bool) → List Reading → ℕ
times_said is_owner says rs = count_by (λ r. is_owner r.owner && says r.statement) rs

-- ---- definitions
abbrev pub defined_in : Statement → Option SymId
defined_in (statement.Config s) = s
defined_in _ = None

-- what a line that makes a definition says of it, and the block that the line is in
pub record DefinitionLine : Type 0 where
  pub symbol : SymId
  pub block : Option BlockId

abbrev pub definition_line : Option BlockId → Statement → Option DefinitionLine
definition_line block s = option_map (λ d. record { symbol = d; block = block }) (defined_in s)

-- in the order of the lines
abbrev pub definition_lines : List Reading → List DefinitionLine
definition_lines rs = filter_map (λ r. definition_line r.block r.statement) rs

-- the j-th, by its line
abbrev pub definition_at : List Reading → ℕ → DefinitionLine → DefinitionValue
definition_at rs j line = record {
  symbol = line.symbol;
  block = line.block;
  depends = said (is_of_definition j) depends_in rs;
  prompts = said (is_of_definition j) prompt_in rs;
  defaults = said (is_of_definition j) default_in rs;
  ranges = said (is_of_definition j) range_in rs;
  select_count = times_said (is_of_definition j) says_select rs;
  imply_count = times_said (is_of_definition j) says_imply rs;
}

-- what a function makes of each element and its place, counted from a number
abbrev pub map_placed : {A B : Type 0} → (ℕ → A → B) → ℕ → List A → List B
map_placed f k [] = []
map_placed f k (x ∷ xs) = f k x ∷ map_placed f (k + 1) xs

abbrev pub definitions_in : List Reading → List DefinitionValue
definitions_in rs = map_placed (definition_at rs) 0 (definition_lines rs)

-- ---- symbols
-- the number of the definition that a line makes of a symbol
abbrev pub defines : SymId → Statement → Bool
defines s (statement.Config (Some d)) = d.0 == s.0
defines s _ = false

abbrev pub definition_number : SymId → Reading → Option ℕ
definition_number s r = if defines s r.statement then number_in r.owner else None where
  number_in : Option Owner → Option ℕ
  number_in (Some (owner.Definition d j)) = Some j
  number_in _ = None

-- the choice in which a line defines a symbol
abbrev pub choice_at_definition : SymId → Reading → Option ChoiceId
choice_at_definition s r = if defines s r.statement then r.choice else None

-- what a function finds in each element by those before it, which `earlier` begins
abbrev pub found_after : {A B : Type 0} → (List A → A → Option B) → List A → List A → List B
found_after f earlier [] = []
found_after f earlier (x ∷ xs) = cons_option (f earlier x) (found_after f (earlier ++ x ∷ []) xs)

-- a `select` or an `imply` of a symbol, and where it is: its definition, and its number among the lines of that which say
-- the same, as many as there are before it
abbrev pub reverse_at : (Statement → Bool) → SymId → Option SymId → Option Expr → List Reading → Option Owner → Option Reverse
reverse_at says s (Some target) c earlier (Some (owner.Definition by j)) =
    if target.0 == s.0 then Some (record { by = by; definition = j; number = times_said (is_of_definition j) says earlier; condition = c }) else None
reverse_at says s _ c earlier _ = None

abbrev pub selection_of : SymId → List Reading → Reading → Option Reverse
selection_of s earlier r = in_statement r.statement where
  in_statement : Statement → Option Reverse
  in_statement (statement.Select target c) = reverse_at says_select s target c earlier r.owner
  in_statement _ = None

abbrev pub implication_of : SymId → List Reading → Reading → Option Reverse
implication_of s earlier r = in_statement r.statement where
  in_statement : Statement → Option Reverse
  in_statement (statement.Imply target c) = reverse_at says_imply s target c earlier r.owner
  in_statement _ = None

abbrev pub symbol_at : List Reading → SymId → SymbolValue
symbol_at rs s = record {
  types = said (is_of_symbol s) type_in rs;
  choice = slice_get (filter_map (choice_at_definition s) rs) 0;
  definitions = filter_map (definition_number s) rs;
  selected = found_after (selection_of s) [] rs;
  implied = found_after (implication_of s) [] rs;
  has_selections = is_said (is_of_symbol s) says_selection rs;
  has_modules = is_said (is_of_symbol s) says_modules rs;
  is_yes_in_allnoconfig = is_said (is_of_symbol s) says_yes_in_allnoconfig rs;
}

-- the first `count` symbols, by number
abbrev pub symbols_in : ℕ → List Reading → List SymbolValue
symbols_in count rs = map (λ k. symbol_at rs (record { 0 = k })) (range_with_len 0 count)

-- ---- blocks
-- what a line that opens a block says of it, and the block that the line is in
pub record BlockLine : Type 0 where
  pub kind : BlockKind
  pub depends : List Expr
  pub parent : Option BlockId

abbrev pub block_line : Option BlockId → Statement → Option BlockLine
block_line parent (statement.Menu title) = Some (record { kind = block_kind.Menu title; depends = []; parent = parent })
block_line parent (statement.If e) = Some (record { kind = block_kind.If; depends = e ∷ []; parent = parent })
block_line parent statement.Choice = Some (record { kind = block_kind.Choice; depends = []; parent = parent })
block_line parent _ = None

abbrev pub block_lines : List Reading → List BlockLine
block_lines rs = filter_map (λ r. block_line r.block r.statement) rs

-- the b-th, by its line
abbrev pub block_at : List Reading → ℕ → BlockLine → BlockValue
block_at rs b line = record {
  kind = line.kind;
  parent = line.parent;
  depends = line.depends ++ said (is_of_block b) depends_in rs;
  visible = said (is_of_block b) visible_in rs;
}

abbrev pub blocks_in : List Reading → List BlockValue
blocks_in rs = map_placed (block_at rs) 0 (block_lines rs)

-- ---- choices
-- the block of the choice that a line makes
abbrev pub choice_block : Statement → Option Owner → Option BlockId
choice_block statement.Choice (Some (owner.Choice c b)) = Some b
choice_block _ o = None

abbrev pub choice_blocks : List Reading → List BlockId
choice_blocks rs = filter_map (λ r. choice_block r.statement r.owner) rs

-- what a default says: the symbol of its name, where there is one, and its condition
abbrev pub named_symbol : Option Term → Option SymId
named_symbol (Some (Symbol s)) = Some s
named_symbol _ = None

abbrev pub choice_default : DefaultValue → ChoiceDefault
choice_default d = record { symbol = named_symbol (term_alone d.value); condition = d.condition }

abbrev pub choice_default_in : Statement → Option ChoiceDefault
choice_default_in (statement.Default d) = Some (choice_default d)
choice_default_in _ = None

-- the symbol that a line defines in the choice
abbrev pub member_of : ℕ → Reading → Option SymId
member_of c r = if is_in c r.choice then defined_in r.statement else None where
  is_in : ℕ → Option ChoiceId → Bool
  is_in c (Some d) = d.0 == c
  is_in c None = false

-- the c-th, with its block
abbrev pub choice_at : List Reading → ℕ → BlockId → ChoiceValue
choice_at rs c block = record {
  block = block;
  prompts = said (is_of_choice c) prompt_in rs;
  defaults = said (is_of_choice c) choice_default_in rs;
  members = filter_map (member_of c) rs;
  is_optional = is_said (is_of_choice c) says_optional rs;
}

abbrev pub choices_in : List Reading → List ChoiceValue
choices_in rs = map_placed (choice_at rs) 0 (choice_blocks rs)

-- ---- comments
abbrev pub title_in : Statement → Option (List ℕ)
title_in (statement.Comment title) = Some title
title_in _ = None

-- what a comment's line says, and where it is
pub record CommentLine : Type 0 where
  pub title : List ℕ
  pub block : Option BlockId
  pub choice : Option ChoiceId

abbrev pub comment_line : Option BlockId → Option ChoiceId → Statement → Option CommentLine
comment_line block choice s = option_map (λ title. record { title = title; block = block; choice = choice }) (title_in s)

abbrev pub comment_lines : List Reading → List CommentLine
comment_lines rs = filter_map (λ r. comment_line r.block r.choice r.statement) rs

-- the c-th, by its line
abbrev pub comment_at : List Reading → ℕ → CommentLine → CommentValue
comment_at rs c line = record {
  title = line.title;
  block = line.block;
  choice = line.choice;
  depends = said (is_of_comment c) depends_in rs;
}

abbrev pub comments_in : List Reading → List CommentValue
comments_in rs = map_placed (comment_at rs) 0 (comment_lines rs)

-- ---- entries
-- a symbol at its first definition, and again at the others
abbrev pub symbol_entry : List Reading → SymId → Entry
symbol_entry earlier s = first_or_again (filter_map (definition_number s) earlier) where
  first_or_again : List ℕ → Entry
  first_or_again [] = entry.Symbol s
  first_or_again (j ∷ js) = entry.Again s

abbrev pub menu_entry : Option Owner → Option Entry
menu_entry (Some (owner.Menu b)) = Some (entry.Menu b)
menu_entry _ = None

abbrev pub choice_entry : Option Owner → Option Entry
choice_entry (Some (owner.Choice c b)) = Some (entry.Choice c)
choice_entry _ = None

abbrev pub comment_entry : Option Owner → Option Entry
comment_entry (Some (owner.Comment c)) = Some (entry.Comment c)
comment_entry _ = None

-- the entry of a line after those before it; an `if` has none
abbrev pub entry_at : List Reading → Reading → Option Entry
entry_at earlier r = in_statement r.statement where
  in_statement : Statement → Option Entry
  in_statement (statement.Config s) = option_map (symbol_entry earlier) s
  in_statement (statement.Menu title) = menu_entry r.owner
  in_statement statement.EndMenu = option_map entry.EndMenu r.block
  in_statement statement.Choice = choice_entry r.owner
  in_statement (statement.Comment title) = comment_entry r.owner
  in_statement _ = None

-- the entry of the line at a place
abbrev pub entry_in : List Reading → ℕ → Option Entry
entry_in rs i = option_and_then (entry_at (take i rs)) (slice_get rs i)

abbrev pub entries_in : List Reading → List Entry
entries_in rs = filter_map (entry_in rs) (range_with_len 0 (length rs))

-- ---- the tree
abbrev pub tree_of : List (List ℕ) → List Reading → TreeValue
tree_of names rs = record {
  names = names;
  symbols = symbols_in (length names) rs;
  definitions = definitions_in rs;
  blocks = blocks_in rs;
  choices = choices_in rs;
  comments = comments_in rs;
  entries = entries_in rs;
}

-- no line has a problem, and this is the tree of what they say
pub record IsOutlineOf (lines : List LineValue) (t : TreeValue) : Type 0 where
  pub readings : List Reading
  pub read : AreReadings lines readings
  pub tree : t ≡ tree_of (names_of lines) readings
