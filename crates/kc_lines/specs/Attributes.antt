-- What a line of attributes says, by its words: kconfig-language.rst, "Menu attributes".
use Rattle.std.specs.Prelude.{ℕ, Bool, true, false, ◌&&◌, List, [], ◌∷◌, Option, None, codes}
use Rattle.std.specs.Option.{option_map_or, option_or}
use Rattle.kc_text.specs.LineValue.{LineValue}
use Rattle.kc_text.specs.declared.line.Token.{Token}
use Rattle.kc_text.specs.declared.line.Token.TheVariants.{Quoted}
use Rattle.kc_statement.specs.Forms.{is_word}
use Rattle.kc_statement.specs.declared.keyword.Keyword.{Keyword}
use Rattle.kc_statement.specs.declared.keyword.Keyword.TheVariants as keyword
use Rattle.kc_statement.specs.Keywords.{keyword_of, is_depends_word, is_visible_word}
use Rattle.kc_lines.specs.declared.parts.Attribute.{Attribute}
use Rattle.kc_lines.specs.declared.parts.Attribute.TheVariants as attribute

-- ---- the words of each attribute
-- it gives a symbol its type
abbrev pub is_type_word : Keyword → Bool
is_type_word keyword.Bool = true
is_type_word keyword.Tristate = true
is_type_word keyword.String = true
is_type_word keyword.Int = true
is_type_word keyword.Hex = true
is_type_word keyword.DefBool = true
is_type_word keyword.DefTristate = true
is_type_word _ = false

-- a prompt can come after the word of a type, and after `prompt`
abbrev pub takes_prompt : Keyword → Bool
takes_prompt keyword.Bool = true
takes_prompt keyword.Tristate = true
takes_prompt keyword.String = true
takes_prompt keyword.Int = true
takes_prompt keyword.Hex = true
takes_prompt keyword.Prompt = true
takes_prompt _ = false

abbrev pub is_default_word : Keyword → Bool
is_default_word keyword.Default = true
is_default_word keyword.DefBool = true
is_default_word keyword.DefTristate = true
is_default_word _ = false

abbrev pub is_range_word : Keyword → Bool
is_range_word keyword.Range = true
is_range_word _ = false

abbrev pub is_select_word : Keyword → Bool
is_select_word keyword.Select = true
is_select_word _ = false

abbrev pub is_imply_word : Keyword → Bool
is_imply_word keyword.Imply = true
is_imply_word _ = false

-- it can say that its symbol switches modules
abbrev pub is_modules_word : Keyword → Bool
is_modules_word keyword.Modules = true
is_modules_word keyword.Option = true
is_modules_word _ = false

abbrev pub is_of : Attribute → Keyword → Bool
is_of attribute.Type word = is_type_word word
is_of attribute.Prompt word = takes_prompt word
is_of attribute.Depends word = is_depends_word word
is_of attribute.Visible word = is_visible_word word
is_of attribute.Default word = is_default_word word
is_of attribute.Range word = is_range_word word
is_of attribute.Select word = is_select_word word
is_of attribute.Imply word = is_imply_word word
is_of attribute.Modules word = is_modules_word word

-- ---- lines
abbrev pub is_quoted : Token → Bool
is_quoted (Quoted w) = true
is_quoted _ = false

abbrev pub is_quoted_second : List Token → Bool
is_quoted_second (first ∷ second ∷ rest) = is_quoted second
is_quoted_second _ = false

abbrev pub is_second_modules : List Token → Bool
is_second_modules (first ∷ second ∷ rest) = is_word (codes "modules") second
is_second_modules _ = false

-- `modules` is enough, and `option` has it as another word
abbrev pub is_whole_modules : Keyword → List Token → Bool
is_whole_modules keyword.Option tokens = is_second_modules tokens
is_whole_modules _ tokens = true

-- a prompt has a text in quotes after its word; the word of most others is enough
abbrev pub is_whole : Attribute → Keyword → List Token → Bool
is_whole attribute.Type word tokens = true
is_whole attribute.Prompt word tokens = is_quoted_second tokens
is_whole attribute.Depends word tokens = true
is_whole attribute.Visible word tokens = true
is_whole attribute.Default word tokens = true
is_whole attribute.Range word tokens = true
is_whole attribute.Select word tokens = true
is_whole attribute.Imply word tokens = true
is_whole attribute.Modules word tokens = is_whole_modules word tokens

-- a line says an attribute
abbrev pub says : Attribute → LineValue → Bool
says a line = option_map_or (λ word. is_of a word && is_whole a word line.tokens) (keyword_of line) false

-- the help text of the last line that has one
abbrev pub last_help : List LineValue → Option (List ℕ)
last_help [] = None
last_help (line ∷ lines) = option_or (last_help lines) line.help
