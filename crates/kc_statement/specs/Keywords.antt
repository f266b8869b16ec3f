-- What a line is by its first word: kconfig-language.rst, "Menu entries" and "Menu attributes".
use Rattle.std.specs.Prelude.{ℕ, Bool, true, false, not, ◌&&◌, ◌||◌, List, [], ◌∷◌, ◌++◌, Option, Some, None, if◌then◌else◌, codes}
use Rattle.std.specs.Option.{option_map_or}
use Rattle.std.specs.Str.{bytes_eq}
use Rattle.kc_text.specs.LineValue.{LineValue}
use Rattle.kc_text.specs.declared.line.LineKind.{LineKind}
use Rattle.kc_text.specs.declared.line.LineKind.TheVariants.{Statement, EndOfFile}
use Rattle.kc_text.specs.declared.line.Token.{Token}
use Rattle.kc_text.specs.declared.line.Token.TheVariants.{Word}
use Rattle.kc_statement.specs.declared.keyword.Keyword.{Keyword}
use Rattle.kc_statement.specs.declared.keyword.Keyword.TheVariants as keyword

-- ---- the words
-- the words of statements, each with its keyword
abbrev pub statement_words : List (List ℕ × Keyword)
statement_words =
    (codes "config", keyword.Config)
    ∷ (codes "menuconfig", keyword.Config)
    ∷ (codes "menu", keyword.Menu)
    ∷ (codes "endmenu", keyword.EndMenu)
    ∷ (codes "if", keyword.If)
    ∷ (codes "endif", keyword.EndIf)
    ∷ (codes "choice", keyword.Choice)
    ∷ (codes "endchoice", keyword.EndChoice)
    ∷ (codes "comment", keyword.Comment)
    ∷ (codes "mainmenu", keyword.MainMenu)
    ∷ (codes "source", keyword.Source)
    ∷ []

-- the words of attributes
abbrev pub attribute_words : List (List ℕ × Keyword)
attribute_words =
    (codes "bool", keyword.Bool)
    ∷ (codes "tristate", keyword.Tristate)
    ∷ (codes "string", keyword.String)
    ∷ (codes "int", keyword.Int)
    ∷ (codes "hex", keyword.Hex)
    ∷ (codes "def_bool", keyword.DefBool)
    ∷ (codes "def_tristate", keyword.DefTristate)
    ∷ (codes "prompt", keyword.Prompt)
    ∷ (codes "default", keyword.Default)
    ∷ (codes "range", keyword.Range)
    ∷ (codes "select", keyword.Select)
    ∷ (codes "imply", keyword.Imply)
    ∷ (codes "depends", keyword.Depends)
    ∷ (codes "visible", keyword.Visible)
    ∷ (codes "optional", keyword.Optional)
    ∷ (codes "modules", keyword.Modules)
    ∷ (codes "option", keyword.Option)
    ∷ (codes "help", keyword.Help)
    ∷ (codes "---help---", keyword.Help)
    ∷ []

-- the words of Kconfig that are unsupported
abbrev pub unsupported_words : List (List ℕ × Keyword)
unsupported_words =
    (codes "rsource", keyword.Unsupported)
    ∷ (codes "osource", keyword.Unsupported)
    ∷ (codes "orsource", keyword.Unsupported)
    ∷ (codes "def_int", keyword.Unsupported)
    ∷ (codes "def_hex", keyword.Unsupported)
    ∷ (codes "def_string", keyword.Unsupported)
    ∷ []

abbrev pub keyword_words : List (List ℕ × Keyword)
keyword_words = statement_words ++ attribute_words ++ unsupported_words

-- the keyword in the row of a word
abbrev pub keyword_among : List (List ℕ × Keyword) → List ℕ → Option Keyword
keyword_among [] w = None
keyword_among (row ∷ rows) w = if bytes_eq w row.0 then Some row.1 else keyword_among rows w

abbrev pub keyword_named : List ℕ → Option Keyword
keyword_named w = keyword_among keyword_words w

-- an unquoted word without reference
abbrev pub first_keyword : List Token → Option Keyword
first_keyword (Word w ∷ rest) = keyword_named w
first_keyword _ = None

abbrev pub keyword_at : LineKind → List Token → Option Keyword
keyword_at Statement tokens = first_keyword tokens
keyword_at EndOfFile tokens = None

-- an end of file is nothing
abbrev pub keyword_of : LineValue → Option Keyword
keyword_of l = keyword_at l.kind l.tokens

-- ---- kinds of words
abbrev pub is_attribute_word : Keyword → Bool
is_attribute_word keyword.Bool = true
is_attribute_word keyword.Tristate = true
is_attribute_word keyword.String = true
is_attribute_word keyword.Int = true
is_attribute_word keyword.Hex = true
is_attribute_word keyword.DefBool = true
is_attribute_word keyword.DefTristate = true
is_attribute_word keyword.Prompt = true
is_attribute_word keyword.Default = true
is_attribute_word keyword.Range = true
is_attribute_word keyword.Depends = true
is_attribute_word keyword.Visible = true
is_attribute_word keyword.Select = true
is_attribute_word keyword.Imply = true
is_attribute_word keyword.Modules = true
is_attribute_word keyword.Option = true
is_attribute_word keyword.Optional = true
is_attribute_word keyword.Help = true
is_attribute_word _ = false

abbrev pub is_opener_word : Keyword → Bool
is_opener_word keyword.Menu = true
is_opener_word keyword.If = true
is_opener_word keyword.Choice = true
is_opener_word _ = false

abbrev pub is_closer_word : Keyword → Bool
is_closer_word keyword.EndMenu = true
is_closer_word keyword.EndIf = true
is_closer_word keyword.EndChoice = true
is_closer_word _ = false

-- whether a closer is that of an opener
abbrev pub is_end_of : Keyword → Keyword → Bool
is_end_of keyword.EndMenu keyword.Menu = true
is_end_of keyword.EndIf keyword.If = true
is_end_of keyword.EndChoice keyword.Choice = true
is_end_of _ _ = false

abbrev pub is_visible_word : Keyword → Bool
is_visible_word keyword.Visible = true
is_visible_word _ = false

abbrev pub is_depends_word : Keyword → Bool
is_depends_word keyword.Depends = true
is_depends_word _ = false

abbrev pub is_optional_word : Keyword → Bool
is_optional_word keyword.Optional = true
is_optional_word _ = false

-- of a choice; `tristate` is one too, which is unsupported
abbrev pub is_choice_attribute : Keyword → Bool
is_choice_attribute keyword.Bool = true
is_choice_attribute keyword.Prompt = true
is_choice_attribute keyword.Default = true
is_choice_attribute keyword.Depends = true
is_choice_attribute keyword.Optional = true
is_choice_attribute keyword.Help = true
is_choice_attribute _ = false

-- a definition takes all attributes but `visible if` and `optional`, a menu `depends on` and `visible if`, a comment
-- `depends on`
abbrev pub takes : Keyword → Keyword → Bool
takes keyword.Config k = is_attribute_word k && not (is_visible_word k) && not (is_optional_word k)
takes keyword.Choice k = is_choice_attribute k
takes keyword.Menu k = is_depends_word k || is_visible_word k
takes keyword.Comment k = is_depends_word k
takes _ k = false

-- where a prompt, a title or a path stands, and no word without quotes may
abbrev pub wants_quotes : Keyword → Bool
wants_quotes keyword.Bool = true
wants_quotes keyword.Tristate = true
wants_quotes keyword.String = true
wants_quotes keyword.Int = true
wants_quotes keyword.Hex = true
wants_quotes keyword.Prompt = true
wants_quotes keyword.Menu = true
wants_quotes keyword.Comment = true
wants_quotes keyword.MainMenu = true
wants_quotes keyword.Source = true
wants_quotes _ = false

-- ---- kinds of lines, by their first words alone
abbrev pub is_attribute : LineValue → Bool
is_attribute l = option_map_or is_attribute_word (keyword_of l) false

abbrev pub is_opener : LineValue → Bool
is_opener l = option_map_or is_opener_word (keyword_of l) false

abbrev pub is_closer : LineValue → Bool
is_closer l = option_map_or is_closer_word (keyword_of l) false

abbrev pub is_config_word : Keyword → Bool
is_config_word keyword.Config = true
is_config_word _ = false

abbrev pub is_comment_word : Keyword → Bool
is_comment_word keyword.Comment = true
is_comment_word _ = false

abbrev pub is_choice_word : Keyword → Bool
is_choice_word keyword.Choice = true
is_choice_word _ = false

abbrev pub is_config : LineValue → Bool
is_config l = option_map_or is_config_word (keyword_of l) false

abbrev pub is_comment : LineValue → Bool
is_comment l = option_map_or is_comment_word (keyword_of l) false

abbrev pub is_choice : LineValue → Bool
is_choice l = option_map_or is_choice_word (keyword_of l) false
