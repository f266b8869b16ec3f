-- Files that are included twice, where the first time is enough: this project's own, by docs/ERRORS.md, "Findings of
-- check". The lines of a file count already where the blocks around it the first time, as far as they have a condition,
-- are around it the second time, too.
use Rattle.std.specs.Prelude.{ℕ, Bool, true, false, not, ◌&&◌, ◌||◌, ◌==◌, List, ◌∷◌, Option, Some, None, if◌then◌else◌, drop, filter, flat_map, length, map, nat_lt, option_and_then, option_map, option_to_list, slice_get, slice_set}
use denote.Ref.{Bor}
use Rattle.std.specs.List.{find, list_any, prefix_len, range_with_len}
use Rattle.std.specs.Option.{option_map_or}
use Rattle.std.specs.Str.{bytes_eq}
use Rattle.kc_text.specs.LineValue.{LineValue}
use Rattle.kc_statement.specs.declared.keyword.Keyword.{Keyword}
use Rattle.kc_statement.specs.Keywords.{is_attribute_word, is_closer_word, is_opener_word, keyword_of}
use Rattle.kc_outline.specs.declared.block.BlockKind.{BlockKind}
use Rattle.kc_outline.specs.declared.block.BlockKind.TheVariants as block
use Rattle.kc_outline.specs.Enclosing.{before, open_blocks}
use Rattle.kc_outline.specs.TreeValue.{TreeValue, BlockValue}
use Rattle.kc_line_facts.specs.declared.sourced_twice.RepeatedFile.{RepeatedFile}
use Rattle.kc_lines.specs.Culprits.{first_with}
use Rattle.kc_line_facts.specs.UnusedDefaults.{is_end}

-- ---- the blocks around a file
-- where an inclusion of a number begins: after the lines of those before it
abbrev pub start_of : List LineValue → ℕ → ℕ
start_of lines r = prefix_len (λ line. nat_lt line.run r) lines

-- the numbers of the blocks that are open before line i, the innermost first
abbrev pub open_numbers : List LineValue → ℕ → List ℕ
open_numbers lines i = map (λ b. b.id.0) (open_blocks (before lines i))

abbrev pub is_choice_kind : BlockKind → Bool
is_choice_kind (block.Menu title) = false
is_choice_kind block.If = false
is_choice_kind block.Choice = true

-- what is in a block depends on something, or is in a choice
abbrev pub has_condition : BlockValue → Bool
has_condition b = is_choice_kind b.kind || (not (length b.depends == 0) || not (length b.visible == 0))

abbrev pub is_conditional : TreeValue → ℕ → Bool
is_conditional t b = option_map_or has_condition (slice_get t.blocks b) false

-- the innermost block with a condition around an inclusion
abbrev pub condition_around : List LineValue → TreeValue → ℕ → Option ℕ
condition_around lines t r = find (is_conditional t) (open_numbers lines (start_of lines r))

-- it is around another one, and so are those around it
abbrev pub is_around : List LineValue → ℕ → Option ℕ → Bool
is_around lines r b = option_map_or (λ n. list_any (λ k. k == n) (open_numbers lines (start_of lines r))) b true

-- ---- files
abbrev pub is_statement : LineValue → Bool
is_statement line = option_map_or (λ word. not (is_attribute_word word)) (keyword_of line) false

-- an inclusion has a statement, and no attributes alone, which may be meant for one statement after the other
abbrev pub has_statement : List LineValue → ℕ → Bool
has_statement lines r = list_any (λ line. (line.run == r) && is_statement line) lines

abbrev pub end_of_run : List LineValue → ℕ → Option LineValue
end_of_run lines r = first_with (λ end. end.run == r) (filter is_end lines)

-- the number of the first inclusion of a file
abbrev pub first_run_of : List LineValue → List ℕ → Option ℕ
first_run_of lines path = option_map (λ end. end.run) (first_with (λ end. bytes_eq end.path path) (filter is_end lines))

abbrev pub if_earlier : ℕ → ℕ → Option ℕ
if_earlier r f = if nat_lt f r then Some f else None

-- the first inclusion of the file that is included, where that is an earlier one
abbrev pub first_before : List LineValue → ℕ → Option ℕ
first_before lines r =
    option_and_then (λ end. option_and_then (if_earlier r) (first_run_of lines end.path)) (end_of_run lines r)

abbrev pub is_repeated : List LineValue → TreeValue → ℕ → ℕ → Bool
is_repeated lines t r f = has_statement lines f && is_around lines r (condition_around lines t f)

abbrev pub repeated_with : ℕ → (ℕ → Bool) → ℕ → Option RepeatedFile
repeated_with r is f = if is f then Some (record { run = r; first = f }) else None

abbrev pub repeated_at : List LineValue → TreeValue → ℕ → List RepeatedFile
repeated_at lines t r = option_to_list (option_and_then (repeated_with r (is_repeated lines t r)) (first_before lines r))

-- these, in their order
abbrev pub repeated_files : List LineValue → TreeValue → List RepeatedFile
repeated_files lines t = flat_map (repeated_at lines t) (range_with_len 0 (length (filter is_end lines)))

-- ---- a walk over lines
-- the first inclusion, by the ends of files that are lent
abbrev pub lent_first : ℕ → List (Bor LineValue) → List ℕ → Option ℕ
lent_first r ends path = option_and_then (if_earlier r) (option_map (λ e. e.now.run) (first_with (λ e. bytes_eq e.now.path path) ends))

abbrev pub lent_first_before : List (Bor LineValue) → ℕ → Option ℕ
lent_first_before ends r = option_and_then (λ e. lent_first r ends e.now.path) (first_with (λ e. e.now.run == r) ends)

-- the open blocks after a line of a keyword, which may open the block of a number
abbrev pub numbers_after : Option Keyword → ℕ → List ℕ → List ℕ
numbers_after None n around = around
numbers_after (Some word) n around =
    if is_opener_word word then n ∷ around else (if is_closer_word word then drop 1 around else around)

-- a run is noted as one with a statement
abbrev pub noted_run : List Bool → ℕ → Bool → List Bool
noted_run noted r is = if is && nat_lt r (length noted) then slice_set noted r true else noted
