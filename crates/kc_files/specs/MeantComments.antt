-- Comments of a `.config` that are likely meant as lines which set a bool or a tristate to n: this project's own, by
-- docs/ERRORS.md, "Findings of `check`".
use Rattle.std.specs.Prelude.{ℕ, List, Option, Some, None, if◌then◌else◌, filter_map, length, option_and_then, option_map, slice_get}
use Rattle.std.specs.List.{range_with_len, slice_split}
use Rattle.std.specs.Str.{is_utf8}
use Rattle.kc_statement.specs.SymbolTypes.{is_tri_type}
use Rattle.kc_statement.specs.declared.id.SymId.{SymId}
use Rattle.kc_outline.specs.TreeValue.{TreeValue, symbol_named}
use Rattle.kc_tree.specs.Fits.{type_of}
use Rattle.kc_files.specs.ConfigLines.{is_feed}
use Rattle.kc_files.specs.declared.unset_comments.MeantComment.{MeantComment}
use Rattle.kc_files.specs.CommentWords.{name_meant}

-- a symbol that a line can set to n
abbrev pub if_tri : TreeValue → SymId → Option SymId
if_tri t s = if is_tri_type (type_of t s) then Some s else None

abbrev pub tri_named : TreeValue → List ℕ → Option SymId
tri_named t name = if is_utf8 name then option_and_then (if_tri t) (symbol_named t name) else None

-- the symbol that a comment is likely meant to set to n
abbrev pub meant_in : TreeValue → List ℕ → List ℕ → Option SymId
meant_in t prefix line = option_and_then (tri_named t) (name_meant prefix line)

abbrev pub comment_in : ℕ → SymId → MeantComment
comment_in i s = record { line = i; symbol = s }

-- the line of an index is such a comment
abbrev pub comment_at : TreeValue → List ℕ → List (List ℕ) → ℕ → Option MeantComment
comment_at t prefix lines i = option_map (comment_in i) (option_and_then (meant_in t prefix) (slice_get lines i))

-- those of some lines, in their order, and those of a text
abbrev pub comments_among : TreeValue → List ℕ → List (List ℕ) → List MeantComment
comments_among t prefix lines = filter_map (comment_at t prefix lines) (range_with_len 0 (length lines))

abbrev pub meant_comments : TreeValue → List ℕ → List ℕ → List MeantComment
meant_comments t prefix text = comments_among t prefix (slice_split is_feed text)
