-- The items of a file, as one list: this project's own rules, by which a line that ends in a backslash is joined with the
-- next one, and a line `help` takes the lines of its text.
use Rattle.std.specs.Prelude.{◌≡◌, ℕ, suc, ◌+◌, ◌-◌, ◌<◌, Bool, true, List, [], ◌++◌, length, take, drop, slice_get, slice_index, flat_map, if◌then◌else◌, ◌==◌, Option, Some, None}
use Rattle.kc_text.specs.Help.{is_help, help_len, help_text}

-- whether a line is joined with the next one
abbrev pub ends_in_backslash : List ℕ → Bool
ends_in_backslash line = slice_index line (length line - 1) == 92

-- a line without the backslash at its end
abbrev pub before_backslash : List ℕ → List ℕ
before_backslash line = if ends_in_backslash line then take (length line - 1) line else line

-- the lines of an item: those that are joined, and those of its help text, with the blank ones before it
pub record ItemLines : Type 0 where
  pub run : List (List ℕ)
  pub help : List (List ℕ)

-- all lines of an item
abbrev pub lines_in : ItemLines → List (List ℕ)
lines_in i = i.run ++ i.help

-- the text of an item: its joined lines, each without its backslash
abbrev pub text_in : ItemLines → List ℕ
text_in i = flat_map before_backslash i.run

-- All of these lines but the last end in a backslash. The last ends in none, or no line is after it.
pub record IsShortestRun (run after : List (List ℕ)) : Type 0 where
  pub some : 0 < length run
  pub joins : (i : ℕ) (l : List ℕ) → i + 1 < length run → slice_get run i ≡ Some l → ends_in_backslash l ≡ true
  pub ends : (i : ℕ) (l : List ℕ) → i + 1 ≡ length run → slice_get run i ≡ Some l → ends_in_backslash l ≡ true → after ≡ []

-- the item with these lines after it: its run is as short as it can be, and only a `help` has lines of a help text
pub record IsItem (i : ItemLines) (after : List (List ℕ)) : Type 0 where
  pub run : IsShortestRun i.run (i.help ++ after)
  pub help : i.help ≡ (if is_help (text_in i) then take (help_len (i.help ++ after)) (i.help ++ after) else [])

-- the lines of a file are those of its items, one item after another
pub record AreItems (lines : List (List ℕ)) (items : List ItemLines) : Type 0 where
  pub whole : lines ≡ flat_map lines_in items
  pub each : (k : ℕ) (i : ItemLines) → slice_get items k ≡ Some i → IsItem i (flat_map lines_in (drop (suc k) items))

-- what an item says: its text, the text of its help, and how many lines it has beside the first
pub record ItemValue : Type 0 where
  pub text : List ℕ
  pub help : Option (List ℕ)
  pub more : ℕ

abbrev pub value_of : ItemLines → ItemValue
value_of i = record { text = text_in i; help = if is_help (text_in i) then Some (help_text i.help) else None; more = length i.run - 1 + length i.help }
