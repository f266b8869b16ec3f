-- What the definitions give for small lists of lines.
use Rattle.std.proofs.Common.{◌≡◌, inl, ℕ, false, List, [], ◌∷◌, replicate, Option, Some, None, codes, refl}
use Rattle.std.proofs.lemmas.Option.{none-some}
use Rattle.kc_text.specs.LineValue.{LineValue}
use Rattle.kc_text.specs.declared.line.LineKind.TheVariants.{Statement, EndOfFile}
use Rattle.kc_text.specs.declared.line.Token.{Token}
use Rattle.kc_text.specs.declared.line.Operator.TheVariants as sign
use Rattle.kc_text.specs.declared.line.Token.TheVariants.{Word, Quoted, Operator}
use Rattle.kc_statement.specs.declared.attribute.Prompt.{Prompt}
use Rattle.kc_statement.specs.declared.expr.Expr.{Expr}
use Rattle.kc_statement.specs.declared.expr.Term.TheVariants.{Tri, Text, Symbol}
use Rattle.kc_statement.specs.declared.statement.Statement.{Statement as What}
use Rattle.kc_statement.specs.declared.statement.Statement.TheVariants as says
use Rattle.kc_statement.specs.declared.symbol_type.SymbolType.TheVariants as kind
use Rattle.kc_statement.specs.declared.tri.Tri.TheVariants.{Yes}
use Rattle.kc_statement.specs.Grammar.{atom}
use Rattle.kc_statement.specs.Names.{names_of}
use Rattle.kc_outline.specs.declared.block.BlockKind.TheVariants as block_kind
use Rattle.kc_outline.specs.declared.context.Owner.TheVariants.{Definition, Menu}
use Rattle.kc_outline.specs.declared.fault.LineProblem.TheVariants.{Limit, Malformed, Unsupported, StrayAttribute, UnbalancedBlock, UnknownStatement}
use Rattle.kc_outline.specs.declared.fault.LineFault.TheVariants.{At}
use Rattle.kc_outline.specs.declared.id.ChoiceId.{ChoiceId}
use Rattle.kc_outline.specs.declared.entry.Entry.TheVariants as entry
use Rattle.kc_outline.specs.FirstProblem.{IsReadFault}
use Rattle.kc_outline.specs.LineFaults.{early_problem, late_problem}
use Rattle.kc_outline.specs.Enclosing.{open_blocks, choice_among, innermost, owner_at}
use Rattle.kc_outline.specs.TreeOf.{Reading, tree_of}
use Rattle.kc_outline.specs.TreeValue.{TreeValue, SymbolValue, DefinitionValue}

-- ---- lines
abbrev line : ℕ → List Token → LineValue
line run tokens = record { path = codes "Kconfig"; number = 1; run = run; kind = Statement; tokens = tokens; help = None }

abbrev end_of_file : ℕ → LineValue
end_of_file run = record { path = codes "Kconfig"; number = 9; run = run; kind = EndOfFile; tokens = []; help = None }

abbrev word : List ℕ → Token
word w = Word w

abbrev config : List ℕ → LineValue
config name = line 0 (word (codes "config") ∷ word name ∷ [])

abbrev if_y : ℕ → LineValue
if_y run = line run (word (codes "if") ∷ word (codes "y") ∷ [])

abbrev menu_m : LineValue
menu_m = line 0 (word (codes "menu") ∷ Quoted (codes "m") ∷ [])

abbrev end_menu : LineValue
end_menu = line 0 (word (codes "endmenu") ∷ [])

abbrev end_if : ℕ → LineValue
end_if run = line run (word (codes "endif") ∷ [])

abbrev depends_on_y : LineValue
depends_on_y = line 0 (word (codes "depends") ∷ word (codes "on") ∷ word (codes "y") ∷ [])

-- ---- blocks: a closed menu is not open any more, the `if` around it is
closed_menu : innermost (open_blocks (end_menu ∷ menu_m ∷ if_y 0 ∷ [])) ≡ Some (record { 0 = 0 })
closed_menu = refl

open_menu : innermost (open_blocks (menu_m ∷ if_y 0 ∷ [])) ≡ Some (record { 0 = 1 })
open_menu = refl

-- ---- owners: an attribute belongs to the nearest statement, an end of file ends it
attribute_of_config : owner_at (codes "A" ∷ []) (depends_on_y ∷ config (codes "A") ∷ []) ≡ Some (Definition (record { 0 = 0 }) 0)
attribute_of_config = refl

attribute_of_menu : owner_at [] (depends_on_y ∷ menu_m ∷ if_y 0 ∷ []) ≡ Some (Menu (record { 0 = 1 }))
attribute_of_menu = refl

attribute_past_end : owner_at (codes "A" ∷ []) (depends_on_y ∷ end_of_file 1 ∷ config (codes "A") ∷ []) ≡ None
attribute_past_end = refl

-- ---- trees
-- the readings of lines that say this, after the lines before, and their tree
abbrev readings_of : List (List ℕ) → List LineValue → List LineValue → List What → List Reading
readings_of names earlier [] what = []
readings_of names earlier (l ∷ ls) [] = []
readings_of names earlier (l ∷ ls) (s ∷ what) =
    record {
      statement = s;
      block = innermost (open_blocks earlier);
      choice = choice_among (open_blocks earlier);
      owner = owner_at names (l ∷ earlier);
    } ∷ readings_of names (l ∷ earlier) ls what

abbrev tree_said : List LineValue → List What → TreeValue
tree_said lines what = tree_of (names_of lines) (readings_of (names_of lines) [] lines what)

abbrev yes : Expr
yes = atom (Tri Yes)

abbrev text : List ℕ → Prompt
text bytes = record { text = bytes; condition = None }

abbrev bool_line : List ℕ → LineValue
bool_line bytes = line 0 (word (codes "bool") ∷ Quoted bytes ∷ [])

abbrev choice_line : LineValue
choice_line = line 0 (word (codes "choice") ∷ [])

abbrev end_choice : LineValue
end_choice = line 0 (word (codes "endchoice") ∷ [])

abbrev comment_line : LineValue
comment_line = line 0 (word (codes "comment") ∷ Quoted (codes "c") ∷ [])

abbrev default_b : LineValue
default_b = line 0 (word (codes "default") ∷ word (codes "B") ∷ [])

-- a bool of one definition, a member of a choice or of none
abbrev bool_symbol : Option ChoiceId → ℕ → SymbolValue
bool_symbol c j = record {
  types = kind.Bool ∷ [];
  choice = c;
  definitions = j ∷ [];
  selected = [];
  implied = [];
  has_selections = false;
  has_modules = false;
  is_yes_in_allnoconfig = false;
}

abbrev definition : ℕ → List Expr → List ℕ → DefinitionValue
definition s depends bytes = record {
  symbol = record { 0 = s };
  block = Some (record { 0 = 0 });
  depends = depends;
  prompts = text bytes ∷ [];
  defaults = [];
  ranges = [];
  select_count = 0;
  imply_count = 0;
}

-- `menu "m"`, `config A`, `bool "a"`, `depends on y`, `endmenu`
definition_in_a_menu :
    tree_said (menu_m ∷ config (codes "A") ∷ bool_line (codes "a") ∷ depends_on_y ∷ end_menu ∷ [])
    (says.Menu (codes "m") ∷ says.Config (Some (record { 0 = 0 })) ∷ says.TypeAndPrompt kind.Bool (text (codes "a")) ∷ says.DependsOn yes ∷ says.EndMenu ∷ [])
    ≡ record {
      names = codes "A" ∷ [];
      symbols = bool_symbol None 0 ∷ [];
      definitions = definition 0 (yes ∷ []) (codes "a") ∷ [];
      blocks = record { kind = block_kind.Menu (codes "m"); parent = None; depends = []; visible = [] } ∷ [];
      choices = [];
      comments = [];
      entries = entry.Menu (record { 0 = 0 }) ∷ entry.Symbol (record { 0 = 0 }) ∷ entry.EndMenu (record { 0 = 0 }) ∷ [];
    }
definition_in_a_menu = refl

-- `choice`, `default B`, `config A`, `bool "a"`, `config B`, `bool "b"`, `endchoice`
choice_of_two :
    tree_said (choice_line ∷ default_b ∷ config (codes "A") ∷ bool_line (codes "a") ∷ config (codes "B") ∷ bool_line (codes "b") ∷ end_choice ∷ [])
    (says.Choice ∷ says.Default (record { value = atom (Symbol (record { 0 = 1 })); condition = None })
    ∷ says.Config (Some (record { 0 = 0 })) ∷ says.TypeAndPrompt kind.Bool (text (codes "a"))
    ∷ says.Config (Some (record { 0 = 1 })) ∷ says.TypeAndPrompt kind.Bool (text (codes "b")) ∷ says.EndChoice ∷ [])
    ≡ record {
      names = codes "A" ∷ codes "B" ∷ [];
      symbols = bool_symbol (Some (record { 0 = 0 })) 0 ∷ bool_symbol (Some (record { 0 = 0 })) 1 ∷ [];
      definitions = definition 0 [] (codes "a") ∷ definition 1 [] (codes "b") ∷ [];
      blocks = record { kind = block_kind.Choice; parent = None; depends = []; visible = [] } ∷ [];
      choices = record {
        block = record { 0 = 0 };
        prompts = [];
        defaults = record { symbol = Some (record { 0 = 1 }); condition = None } ∷ [];
        members = record { 0 = 0 } ∷ record { 0 = 1 } ∷ [];
        is_optional = false;
      } ∷ [];
      comments = [];
      entries = entry.Choice (record { 0 = 0 }) ∷ entry.Symbol (record { 0 = 0 }) ∷ entry.Symbol (record { 0 = 1 }) ∷ [];
    }
choice_of_two = refl

-- `if y`, `comment "c"`, `depends on y`, `endif`
comment_in_an_if :
    tree_said (if_y 0 ∷ comment_line ∷ depends_on_y ∷ end_if 0 ∷ []) (says.If yes ∷ says.Comment (codes "c") ∷ says.DependsOn yes ∷ says.EndIf ∷ [])
    ≡ record {
      names = [];
      symbols = [];
      definitions = [];
      blocks = record { kind = block_kind.If; parent = None; depends = yes ∷ []; visible = [] } ∷ [];
      choices = [];
      comments = record { title = codes "c"; block = Some (record { 0 = 0 }); choice = None; depends = yes ∷ [] } ∷ [];
      entries = entry.Comment (record { 0 = 0 }) ∷ [];
    }
comment_in_an_if = refl

-- ---- problems of lines
unknown : early_problem [] false (line 0 (word (codes "frob") ∷ [])) ≡ Some UnknownStatement
unknown = refl

stray : early_problem [] false depends_on_y ≡ Some StrayAttribute
stray = refl

stray_past_end : early_problem (end_of_file 1 ∷ config (codes "A") ∷ []) false depends_on_y ≡ Some StrayAttribute
stray_past_end = refl

closed_nothing : early_problem [] false end_menu ≡ Some UnbalancedBlock
closed_nothing = refl

closed_by_other_word : early_problem (menu_m ∷ []) false (end_if 0) ≡ Some UnbalancedBlock
closed_by_other_word = refl

closed_in_other_file : early_problem (if_y 0 ∷ []) false (end_if 1) ≡ Some UnbalancedBlock
closed_in_other_file = refl

left_open : early_problem (menu_m ∷ []) false (end_of_file 0) ≡ Some UnbalancedBlock
left_open = refl

left_open_in_the_file_around : early_problem (menu_m ∷ []) false (end_of_file 1) ≡ None
left_open_in_the_file_around = refl

prompt_without_quotes : early_problem (config (codes "A") ∷ []) false (line 0 (word (codes "bool") ∷ word (codes "a") ∷ [])) ≡ Some Unsupported
prompt_without_quotes = refl

-- one `(` more than may be open
nested_too_deep : early_problem (config (codes "A") ∷ []) false (line 0 (word (codes "depends") ∷ word (codes "on") ∷ replicate 65 (Operator sign.Open))) ≡ Some Limit
nested_too_deep = refl

-- `default "x"` in a choice, which is right in a definition
choice_default_of_a_text : late_problem (choice_line ∷ []) default_b (says.Default (record { value = atom (Text (codes "x")); condition = None })) ≡ Some Malformed
choice_default_of_a_text = refl

default_of_a_text : late_problem (config (codes "A") ∷ []) default_b (says.Default (record { value = atom (Text (codes "x")); condition = None })) ≡ None
default_of_a_text = refl

-- a symbol more than a tree may have
symbol_too_many : late_problem [] (config (codes "A")) (says.Config None) ≡ Some Limit
symbol_too_many = refl

-- a menu more than may be open
menu_too_deep : late_problem (replicate 64 menu_m) menu_m (says.Menu (codes "m")) ≡ Some Limit
menu_too_deep = refl

menu_as_deep_as_may_be : late_problem (replicate 63 menu_m) menu_m (says.Menu (codes "m")) ≡ None
menu_as_deep_as_may_be = refl

-- ---- the first fault of lines
first_line_is_stray : IsReadFault (depends_on_y ∷ menu_m ∷ []) (At StrayAttribute (codes "Kconfig") 1)
first_line_is_stray = (
  0,
  record {
    line = depends_on_y;
    is = refl;
    path_is = refl;
    number_is = refl;
    here = inl refl;
    readings = [];
    earlier = record { many = refl; each = λ i r there. absurd (none-some r there) };
  },
)
