-- Defaults that are never used, since one before them always counts: kconfig-language.rst, "default value", and this
-- project's own. A file that is included twice has each of its lines twice, and a default is used if it is the first
-- time.
use Rattle.std.specs.Prelude.{ℕ, Bool, true, false, ◌&&◌, ◌==◌, List, [], Option, Some, None, if◌then◌else◌, filter, flat_map, is_none, is_some, length, nat_lt, option_and_then, option_map, option_to_list, position, slice_get, slice_index_or, slice_set}
use Rattle.std.specs.List.{list_any, range_with_len}
use Rattle.std.specs.Option.{option_map_or}
use Rattle.std.specs.Str.{bytes_eq}
use Rattle.kc_text.specs.LineValue.{LineValue}
use Rattle.kc_text.specs.declared.line.LineKind.{LineKind}
use Rattle.kc_text.specs.declared.line.LineKind.TheVariants.{Statement, EndOfFile}
use Rattle.kc_outline.specs.TreeValue.{TreeValue, DefinitionValue}
use Rattle.kc_lines.specs.declared.parts.Family.TheVariants as family
use Rattle.kc_lines.specs.declared.parts.Part.TheVariants.{Owner}
use Rattle.kc_line_facts.specs.declared.defaults_after.DefaultPlace.{DefaultPlace}
use Rattle.kc_line_facts.specs.declared.defaults_after.UnusedDefault.{UnusedDefault}
use Rattle.kc_lines.specs.Defaults.{is_free}
use Rattle.kc_lines.specs.LineIndex.{line_of}
use Rattle.kc_line_facts.specs.Numbers.{first_below}
use Rattle.kc_line_facts.specs.Ranges as ranges

-- ---- lines that were read before
abbrev pub is_end_kind : LineKind → Bool
is_end_kind Statement = false
is_end_kind EndOfFile = true

abbrev pub is_end : LineValue → Bool
is_end line = is_end_kind line.kind

-- the end of a file is that of an earlier inclusion of the file of a line
abbrev pub ends_before : LineValue → LineValue → Bool
ends_before line end = nat_lt end.run line.run && bytes_eq end.path line.path

-- the file of a line was included before
abbrev pub is_read_again : List LineValue → LineValue → Bool
is_read_again lines line = list_any (ends_before line) (filter is_end lines)

abbrev pub is_defined_again : List LineValue → ℕ → Bool
is_defined_again lines n = option_map_or (is_read_again lines) (line_of lines (Owner family.Definition n)) false

-- ---- the default that always counts
-- the first default without a condition in the definition of a number
abbrev pub free_place : ℕ → DefinitionValue → Option DefaultPlace
free_place n d = option_map (λ p. record { definition = n; place = p }) (position is_free d.defaults)

-- the definition has one, and neither it nor a block around it depends on anything
abbrev pub is_always_given : TreeValue → ℕ → DefinitionValue → Bool
is_always_given t n d = is_some (free_place n d) && ranges.is_free t n

-- the definition of a number is one of a symbol, which always gives it a value
abbrev pub always_gives : TreeValue → ℕ → ℕ → Bool
always_gives t s n = option_map_or (λ d. (d.symbol.0 == s) && is_always_given t n d) (slice_get t.definitions n) false

abbrev pub free_place_at : TreeValue → ℕ → Option DefaultPlace
free_place_at t n = option_and_then (free_place n) (slice_get t.definitions n)

-- of an earlier definition of a symbol the default that always counts, of several the first
abbrev pub given_before : TreeValue → ℕ → ℕ → Option DefaultPlace
given_before t n s = if nat_lt s (length t.symbols) then option_and_then (free_place_at t) (first_below (always_gives t s) n) else None

abbrev pub earlier_place : List LineValue → TreeValue → ℕ → DefinitionValue → Option DefaultPlace
earlier_place lines t n d = if is_defined_again lines n then None else given_before t n d.symbol.0

-- a default before the one at a place of its definition
abbrev pub if_before : ℕ → Option DefaultPlace → Option DefaultPlace
if_before p own = option_and_then (λ f. if nat_lt f.place p then Some f else None) own

-- that of an earlier definition, and else one before it in its own
abbrev pub counts_before : Option DefaultPlace → Option DefaultPlace → ℕ → Option DefaultPlace
counts_before (Some e) own p = Some e
counts_before None own p = if_before p own

-- ---- the defaults after it, in their order
abbrev pub unused_at : ℕ → ℕ → Option DefaultPlace → List UnusedDefault
unused_at n p before = option_to_list (option_map (λ b. record { definition = n; place = p; before = b }) before)

abbrev pub unused_after : ℕ → DefinitionValue → Option DefaultPlace → List UnusedDefault
unused_after n d earlier =
    flat_map (λ p. unused_at n p (counts_before earlier (free_place n d) p)) (range_with_len 0 (length d.defaults))

-- those of the definition of a number
abbrev pub unused_by_number : List LineValue → TreeValue → ℕ → List UnusedDefault
unused_by_number lines t n = option_map_or (λ d. unused_after n d (earlier_place lines t n d)) (slice_get t.definitions n) []

abbrev pub unused_defaults : List LineValue → TreeValue → List UnusedDefault
unused_defaults lines t = flat_map (unused_by_number lines t) (range_with_len 0 (length t.definitions))

-- ---- a walk over definitions
-- the first of a symbol so far
abbrev pub noted_first : List (Option ℕ) → ℕ → ℕ → Bool → List (Option ℕ)
noted_first given s n is =
    if is && (nat_lt s (length given) && is_none (slice_index_or given s None)) then slice_set given s (Some n) else given
