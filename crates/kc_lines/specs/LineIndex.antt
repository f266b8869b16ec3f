-- Which line each part of a tree comes from: this project's own. The lines of attributes are those after the line of
-- their owner, up to the first line that is no attribute (kconfig-language.rst, "Menu attributes").
use Rattle.std.specs.Prelude.{◌≡◌, ℕ, ◌+◌, Bool, false, Option, None, Some, List, [], ◌∷◌, ◌++◌, drop, filter, length, nat_lt, option_and_then, slice_get, if◌then◌else◌}
use Rattle.std.specs.List.{take_while}
use Rattle.std.specs.Option.{option_map_or}
use Rattle.kc_text.specs.LineValue.{LineValue}
use Rattle.kc_statement.specs.declared.keyword.Keyword.{Keyword}
use Rattle.kc_statement.specs.Keywords.{keyword_of, is_attribute, is_config_word, is_choice_word, is_opener_word, is_comment_word}
use Rattle.kc_lines.specs.declared.parts.Family.{Family}
use Rattle.kc_lines.specs.declared.parts.Family.TheVariants.{Definition, Choice, Block, Comment}
use Rattle.kc_lines.specs.declared.parts.Attribute.{Attribute}
use Rattle.kc_lines.specs.declared.parts.Part.{Part}
use Rattle.kc_lines.specs.declared.parts.Part.TheVariants.{Owner, Said}
use Rattle.kc_lines.specs.Attributes.{says}

-- a first word begins one of a family
abbrev pub begins_word : Family → Keyword → Bool
begins_word Definition word = is_config_word word
begins_word Choice word = is_choice_word word
begins_word Block word = is_opener_word word
begins_word Comment word = is_comment_word word

abbrev pub begins : Family → LineValue → Bool
begins f line = option_map_or (begins_word f) (keyword_of line) false

-- for each line that passes a test, the lines from it on
abbrev pub from_each : (LineValue → Bool) → List LineValue → List (List LineValue)
from_each test [] = []
from_each test (line ∷ lines) = if test line then (line ∷ lines) ∷ from_each test lines else from_each test lines

-- the attributes of the line of a number among those that pass a test; none where there is no such line
abbrev pub attributes_of : (LineValue → Bool) → List LineValue → ℕ → List LineValue
attributes_of test lines number = option_map_or (λ from. take_while is_attribute (drop 1 from)) (slice_get (from_each test lines) number) []

-- the line of a part: the one of its number among those that begin its family; of an attribute, among the attributes of
-- its owner that say it
abbrev pub line_of : List LineValue → Part → Option LineValue
line_of lines (Owner f number) = slice_get (filter (begins f) lines) number
line_of lines (Said f number a nth) = slice_get (filter (says a) (attributes_of (begins f) lines number)) nth

-- the numbers of the lines that pass a test, where the first line has this number
abbrev pub numbers_from : (LineValue → Bool) → ℕ → List LineValue → List ℕ
numbers_from test n [] = []
numbers_from test n (line ∷ lines) = if test line then n ∷ numbers_from test (n + 1) lines else numbers_from test (n + 1) lines

-- numbers of lines, from 0, are those of the lines that pass a test, in their order
abbrev pub AreStarts : (LineValue → Bool) → List LineValue → List ℕ → Type 0
AreStarts test lines starts = starts ≡ numbers_from test 0 lines

-- they are those of the lines before a number
abbrev pub AreStartsBefore : (LineValue → Bool) → List LineValue → ℕ → List ℕ → Type 0
AreStartsBefore test lines number starts = starts ++ numbers_from test number (drop number lines) ≡ numbers_from test 0 lines

-- ---- the numbers of the lines of parts, among all lines from 0
-- the lines that say an attribute of the one of a number of a family
abbrev pub numbers_saying : List LineValue → Family → ℕ → Attribute → List ℕ
numbers_saying lines f number a =
    option_map_or (λ start. numbers_from (says a) (start + 1) (attributes_of (begins f) lines number)) (slice_get (numbers_from (begins f) 0 lines) number) []

-- lines, and an attribute that is looked for in them
pub record LinesSaying : Type 0 where
  pub lines : List LineValue
  pub attribute : Attribute

-- the line of a part
abbrev pub number_of : List LineValue → Part → Option ℕ
number_of lines (Owner f number) = slice_get (numbers_from (begins f) 0 lines) number
number_of lines (Said f number a nth) = slice_get (numbers_saying lines f number a) nth

-- the attribute line of a number among those of the one of a number of a family
abbrev pub attribute_number : List LineValue → Family → ℕ → ℕ → Option ℕ
attribute_number lines f number nth =
    option_and_then (λ start. if nat_lt nth (length (attributes_of (begins f) lines number)) then Some (start + 1 + nth) else None)
    (slice_get (numbers_from (begins f) 0 lines) number)
