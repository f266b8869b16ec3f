-- Steps: what one more reading changes of a tree. No public contract reaches it.
use Rattle.std.specs.Prelude.{ℕ, zero, suc, ◌+◌, true, false, List, [], ◌∷◌, ◌++◌, Option, Some, None, option_map, slice_get}
use Rattle.std.specs.Option.{option_map_or, option_or}
use Rattle.kc_statement.specs.declared.id.SymId.{SymId}
use Rattle.kc_outline.specs.declared.id.BlockId.{BlockId}
use Rattle.kc_outline.specs.declared.id.ChoiceId.{ChoiceId}
use Rattle.kc_statement.specs.declared.expr.Expr.{Expr}
use Rattle.kc_statement.specs.declared.attribute.Prompt.{Prompt}
use Rattle.kc_statement.specs.declared.attribute.DefaultValue.{DefaultValue}
use Rattle.kc_statement.specs.declared.attribute.Range.{Range}
use Rattle.kc_outline.specs.declared.choice.ChoiceDefault.{ChoiceDefault}
use Rattle.kc_statement.specs.declared.symbol_type.SymbolType.{SymbolType}
use Rattle.kc_outline.specs.declared.symbol.Reverse.{Reverse}
use Rattle.kc_outline.specs.declared.block.BlockKind.{BlockKind}
use Rattle.kc_outline.specs.declared.block.BlockKind.TheVariants as block_kind
use Rattle.kc_outline.specs.declared.context.Owner.{Owner}
use Rattle.kc_outline.specs.declared.context.Owner.TheVariants as owner
use Rattle.kc_statement.specs.declared.statement.Statement.{Statement}
use Rattle.kc_statement.specs.declared.statement.Statement.TheVariants as statement
use Rattle.kc_outline.specs.declared.entry.Entry.{Entry}
use Rattle.kc_outline.specs.declared.entry.Entry.TheVariants as entry
use Rattle.kc_outline.specs.TreeValue.{TreeValue, SymbolValue, DefinitionValue, BlockValue, ChoiceValue, CommentValue}
use Rattle.kc_outline.specs.TreeOf.{Reading, choice_default, menu_entry, choice_entry, comment_entry}

-- ---- lists
-- the element at a place changed; past the end nothing
abbrev pub change_at : {A : Type 0} → List A → ℕ → (A → A) → List A
change_at [] j f = []
change_at (x ∷ xs) zero f = f x ∷ xs
change_at (x ∷ xs) (suc j) f = x ∷ change_at xs j f

-- what there is at the end
abbrev pub with_some : {A : Type 0} → List A → Option A → List A
with_some xs None = xs
with_some xs (Some x) = xs ++ x ∷ []

-- ---- definitions
abbrev pub new_definition : SymId → Option BlockId → DefinitionValue
new_definition s b = record {
  symbol = s;
  block = b;
  depends = [];
  prompts = [];
  defaults = [];
  ranges = [];
  select_count = 0;
  imply_count = 0;
}

abbrev pub definition_with_depends : Expr → DefinitionValue → DefinitionValue
definition_with_depends e d = record d { depends = d.depends ++ e ∷ [] }

abbrev pub definition_with_prompt : Prompt → DefinitionValue → DefinitionValue
definition_with_prompt p d = record d { prompts = d.prompts ++ p ∷ [] }

abbrev pub definition_with_default : DefaultValue → DefinitionValue → DefinitionValue
definition_with_default v d = record d { defaults = d.defaults ++ v ∷ [] }

abbrev pub definition_with_range : Range → DefinitionValue → DefinitionValue
definition_with_range r d = record d { ranges = d.ranges ++ r ∷ [] }

abbrev pub definition_with_select : DefinitionValue → DefinitionValue
definition_with_select d = record d { select_count = d.select_count + 1 }

abbrev pub definition_with_imply : DefinitionValue → DefinitionValue
definition_with_imply d = record d { imply_count = d.imply_count + 1 }

-- the definition that owns a line
abbrev pub change_definition : Option Owner → (DefinitionValue → DefinitionValue) → List DefinitionValue → List DefinitionValue
change_definition (Some (owner.Definition s j)) f ds = change_at ds j f
change_definition _ f ds = ds

abbrev pub definitions_with : Statement → Option BlockId → Option Owner → List DefinitionValue → List DefinitionValue
definitions_with (statement.Config (Some s)) b o ds = ds ++ new_definition s b ∷ []
definitions_with (statement.TypeAndPrompt k p) b o ds = change_definition o (definition_with_prompt p) ds
definitions_with (statement.TypeAndDefault k v) b o ds = change_definition o (definition_with_default v) ds
definitions_with (statement.Prompt p) b o ds = change_definition o (definition_with_prompt p) ds
definitions_with (statement.Default v) b o ds = change_definition o (definition_with_default v) ds
definitions_with (statement.Range v) b o ds = change_definition o (definition_with_range v) ds
definitions_with (statement.DependsOn e) b o ds = change_definition o (definition_with_depends e) ds
definitions_with (statement.Select s e) b o ds = change_definition o definition_with_select ds
definitions_with (statement.Imply s e) b o ds = change_definition o definition_with_imply ds
definitions_with _ b o ds = ds

-- ---- symbols
abbrev pub new_symbol : SymbolValue
new_symbol = record {
  types = [];
  choice = None;
  definitions = [];
  selected = [];
  implied = [];
  has_selections = false;
  has_modules = false;
  is_yes_in_allnoconfig = false;
}

abbrev pub symbol_with_type : SymbolType → SymbolValue → SymbolValue
symbol_with_type k x = record x { types = x.types ++ k ∷ [] }

-- with a `select` or an `imply` of its own
abbrev pub symbol_that_selects : SymbolValue → SymbolValue
symbol_that_selects x = record x { has_selections = true }

abbrev pub symbol_with_modules : SymbolValue → SymbolValue
symbol_with_modules x = record x { has_modules = true }

abbrev pub symbol_yes_in_allnoconfig : SymbolValue → SymbolValue
symbol_yes_in_allnoconfig x = record x { is_yes_in_allnoconfig = true }

abbrev pub standing_in : Option ChoiceId → SymbolValue → SymbolValue
standing_in c x = record x { choice = option_or x.choice c }

abbrev pub with_definition : ℕ → SymbolValue → SymbolValue
with_definition j x = record x { definitions = x.definitions ++ j ∷ [] }

abbrev pub with_selection : Reverse → SymbolValue → SymbolValue
with_selection r x = record x { selected = x.selected ++ r ∷ [] }

abbrev pub with_implication : Reverse → SymbolValue → SymbolValue
with_implication r x = record x { implied = x.implied ++ r ∷ [] }

-- the symbol whose definition has the line
abbrev pub change_symbol : Option Owner → (SymbolValue → SymbolValue) → List SymbolValue → List SymbolValue
change_symbol (Some (owner.Definition s j)) f xs = change_at xs s.0 f
change_symbol _ f xs = xs

-- the choice that a definition of a symbol is in
abbrev pub placed : SymId → Option ChoiceId → List SymbolValue → List SymbolValue
placed s c xs = change_at xs s.0 (standing_in c)

-- the number of a definition at its symbol
abbrev pub numbered : SymId → Option Owner → List SymbolValue → List SymbolValue
numbered s (Some (owner.Definition d j)) xs = change_at xs s.0 (with_definition j)
numbered s _ xs = xs

-- how many `select` lines the definition of a number has, and how many `imply` lines
abbrev pub selects_of : List DefinitionValue → ℕ → ℕ
selects_of ds j = option_map_or (λ d. d.select_count) (slice_get ds j) 0

abbrev pub implies_of : List DefinitionValue → ℕ → ℕ
implies_of ds j = option_map_or (λ d. d.imply_count) (slice_get ds j) 0

-- the number of a line is how many its definition has before it
abbrev pub selected : SymId → Option Expr → Option Owner → List DefinitionValue → List SymbolValue → List SymbolValue
selected s c (Some (owner.Definition by j)) ds xs =
    change_at xs s.0 (with_selection (record { by = by; definition = j; number = selects_of ds j; condition = c }))
selected s c _ ds xs = xs

abbrev pub implied : SymId → Option Expr → Option Owner → List DefinitionValue → List SymbolValue → List SymbolValue
implied s c (Some (owner.Definition by j)) ds xs =
    change_at xs s.0 (with_implication (record { by = by; definition = j; number = implies_of ds j; condition = c }))
implied s c _ ds xs = xs

-- a `select` or an `imply` of its own
abbrev pub selecting : Option Owner → List SymbolValue → List SymbolValue
selecting o xs = change_symbol o symbol_that_selects xs

-- by the definitions before the line
abbrev pub symbols_with : Statement → Option ChoiceId → Option Owner → List DefinitionValue → List SymbolValue → List SymbolValue
symbols_with (statement.Config (Some s)) c o ds xs = numbered s o (placed s c xs)
symbols_with (statement.Type k) c o ds xs = change_symbol o (symbol_with_type k) xs
symbols_with (statement.TypeAndPrompt k p) c o ds xs = change_symbol o (symbol_with_type k) xs
symbols_with (statement.TypeAndDefault k v) c o ds xs = change_symbol o (symbol_with_type k) xs
symbols_with (statement.Select (Some s) e) c o ds xs = selected s e o ds (selecting o xs)
symbols_with (statement.Select None e) c o ds xs = selecting o xs
symbols_with (statement.Imply (Some s) e) c o ds xs = implied s e o ds (selecting o xs)
symbols_with (statement.Imply None e) c o ds xs = selecting o xs
symbols_with statement.Modules c o ds xs = change_symbol o symbol_with_modules xs
symbols_with statement.AllNoConfigYes c o ds xs = change_symbol o symbol_yes_in_allnoconfig xs
symbols_with _ c o ds xs = xs

-- ---- blocks
abbrev pub new_block : BlockKind → Option BlockId → List Expr → BlockValue
new_block k b depends = record { kind = k; parent = b; depends = depends; visible = [] }

abbrev pub block_with_depends : Expr → BlockValue → BlockValue
block_with_depends e x = record x { depends = x.depends ++ e ∷ [] }

abbrev pub block_with_visible : Expr → BlockValue → BlockValue
block_with_visible e x = record x { visible = x.visible ++ e ∷ [] }

-- the menu that owns a line, or the block of the choice that does
abbrev pub change_block : Option Owner → (BlockValue → BlockValue) → List BlockValue → List BlockValue
change_block (Some (owner.Menu m)) f xs = change_at xs m.0 f
change_block (Some (owner.Choice c m)) f xs = change_at xs m.0 f
change_block _ f xs = xs

abbrev pub blocks_with : Statement → Option BlockId → Option Owner → List BlockValue → List BlockValue
blocks_with (statement.Menu title) b o xs = xs ++ new_block (block_kind.Menu title) b [] ∷ []
blocks_with (statement.If e) b o xs = xs ++ new_block block_kind.If b (e ∷ []) ∷ []
blocks_with statement.Choice b o xs = xs ++ new_block block_kind.Choice b [] ∷ []
blocks_with (statement.DependsOn e) b o xs = change_block o (block_with_depends e) xs
blocks_with (statement.VisibleIf e) b o xs = change_block o (block_with_visible e) xs
blocks_with _ b o xs = xs

-- ---- choices
abbrev pub new_choice : BlockId → ChoiceValue
new_choice b = record {
  block = b;
  prompts = [];
  defaults = [];
  members = [];
  is_optional = false;
}

abbrev pub choice_with_prompt : Prompt → ChoiceValue → ChoiceValue
choice_with_prompt p x = record x { prompts = x.prompts ++ p ∷ [] }

abbrev pub choice_with_default : ChoiceDefault → ChoiceValue → ChoiceValue
choice_with_default v x = record x { defaults = x.defaults ++ v ∷ [] }

abbrev pub choice_with_member : SymId → ChoiceValue → ChoiceValue
choice_with_member s x = record x { members = x.members ++ s ∷ [] }

abbrev pub optional_choice : ChoiceValue → ChoiceValue
optional_choice x = record x { is_optional = true }

-- the choice that owns a line
abbrev pub change_choice : Option Owner → (ChoiceValue → ChoiceValue) → List ChoiceValue → List ChoiceValue
change_choice (Some (owner.Choice c m)) f xs = change_at xs c.0 f
change_choice _ f xs = xs

-- the choice that a line is in gets a member
abbrev pub with_member : Option ChoiceId → SymId → List ChoiceValue → List ChoiceValue
with_member None s xs = xs
with_member (Some c) s xs = change_at xs c.0 (choice_with_member s)

-- a new choice, where a line makes one
abbrev pub with_choice : Option Owner → List ChoiceValue → List ChoiceValue
with_choice (Some (owner.Choice c b)) xs = xs ++ new_choice b ∷ []
with_choice _ xs = xs

abbrev pub choices_with : Statement → Option ChoiceId → Option Owner → List ChoiceValue → List ChoiceValue
choices_with statement.Choice c o xs = with_choice o xs
choices_with (statement.Config (Some s)) c o xs = with_member c s xs
choices_with (statement.TypeAndPrompt k p) c o xs = change_choice o (choice_with_prompt p) xs
choices_with (statement.Prompt p) c o xs = change_choice o (choice_with_prompt p) xs
choices_with (statement.Default v) c o xs = change_choice o (choice_with_default (choice_default v)) xs
choices_with statement.Optional c o xs = change_choice o optional_choice xs
choices_with _ c o xs = xs

-- ---- comments
abbrev pub new_comment : List ℕ → Option BlockId → Option ChoiceId → CommentValue
new_comment title b c = record { title = title; block = b; choice = c; depends = [] }

abbrev pub comment_with_depends : Expr → CommentValue → CommentValue
comment_with_depends e x = record x { depends = x.depends ++ e ∷ [] }

-- the comment that owns a line
abbrev pub change_comment : Option Owner → (CommentValue → CommentValue) → List CommentValue → List CommentValue
change_comment (Some (owner.Comment c)) f xs = change_at xs c.0 f
change_comment _ f xs = xs

abbrev pub comments_with : Statement → Option BlockId → Option ChoiceId → Option Owner → List CommentValue → List CommentValue
comments_with (statement.Comment title) b c o xs = xs ++ new_comment title b c ∷ []
comments_with (statement.DependsOn e) b c o xs = change_comment o (comment_with_depends e) xs
comments_with _ b c o xs = xs

-- ---- entries
-- of a symbol with these definitions before
abbrev pub entry_after : SymId → List ℕ → Entry
entry_after s [] = entry.Symbol s
entry_after s (j ∷ js) = entry.Again s

abbrev pub definition_entry : List SymbolValue → SymId → Entry
definition_entry xs s = entry_after s (option_map_or (λ x. x.definitions) (slice_get xs s.0) [])

abbrev pub entry_with : List SymbolValue → Statement → Option BlockId → Option Owner → Option Entry
entry_with xs (statement.Config (Some s)) b o = Some (definition_entry xs s)
entry_with xs (statement.Menu title) b o = menu_entry o
entry_with xs statement.EndMenu b o = option_map entry.EndMenu b
entry_with xs statement.Choice b o = choice_entry o
entry_with xs (statement.Comment title) b o = comment_entry o
entry_with xs _ b o = None

-- ---- the tree
abbrev pub with_reading : TreeValue → Reading → TreeValue
with_reading t r = record {
  names = t.names;
  symbols = symbols_with r.statement r.choice r.owner t.definitions t.symbols;
  definitions = definitions_with r.statement r.block r.owner t.definitions;
  blocks = blocks_with r.statement r.block r.owner t.blocks;
  choices = choices_with r.statement r.choice r.owner t.choices;
  comments = comments_with r.statement r.block r.choice r.owner t.comments;
  entries = with_some t.entries (entry_with t.symbols r.statement r.block r.owner);
}
