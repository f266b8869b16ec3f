-- The lines of the report of `check`: this project's own, by docs/ERRORS.md, "Findings of `check`".
use Rattle.std.specs.Prelude.{ℕ, List, [], ◌++◌, Option, None, Some, codes, decimal, filter_map, flat_map, if◌then◌else◌, map, slice_get}
use Rattle.std.specs.Str.{bytes_eq}
use Rattle.std.specs.String.{string_bytes}
use Rattle.kc_line_facts.specs.FreshNames.{fresh_places}
use Rattle.kc_check.specs.declared.finding.Finding.{Finding}
use Rattle.kc_check.specs.declared.finding.FoundAt.{FoundAt}

-- ---- a line `PATH:LINE: NAME: WORDS`, without what a finding does not have
abbrev pub at_text : FoundAt → List ℕ
at_text at = at.path ++ codes ":" ++ decimal at.line ++ codes ": "

abbrev pub place_text : Option FoundAt → List ℕ
place_text None = []
place_text (Some at) = at_text at

abbrev pub name_text : List ℕ → List ℕ
name_text name = if bytes_eq name [] then [] else name ++ codes ": "

abbrev pub line_text : Finding → List ℕ
line_text f = place_text f.at ++ name_text f.name ++ string_bytes f.words ++ codes "\n"

abbrev pub lines_text : List Finding → List ℕ
lines_text findings = flat_map line_text findings

-- ---- what is said once
-- the places of the findings whose lines no earlier one of them has
abbrev pub once_places : List Finding → List ℕ
once_places findings = fresh_places (map line_text findings) []

-- these findings, in their order
abbrev pub said_once : List Finding → List Finding
said_once findings = filter_map (slice_get findings) (once_places findings)
