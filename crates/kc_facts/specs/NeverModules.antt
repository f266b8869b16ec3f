-- Tristates that are never m, since no line defines MODULES: docs/VALUES.md, "The type and MODULES", and this
-- project's own.
use Rattle.std.specs.Prelude.{ℕ, Bool, true, false, ◌&&◌, List, [], if◌then◌else◌, filter, is_some, length, slice_get}
use Rattle.std.specs.List.{range_with_len}
use Rattle.std.specs.Option.{option_map_or}
use Rattle.kc_text.specs.LineValue.{LineValue}
use Rattle.kc_statement.specs.declared.symbol_type.SymbolType.{SymbolType}
use Rattle.kc_statement.specs.declared.symbol_type.SymbolType.TheVariants as kind
use Rattle.kc_outline.specs.TreeValue.{TreeValue, modules_symbol}
use Rattle.kc_tree.specs.Fits.{type_of}
use Rattle.kc_lines.specs.declared.parts.Attribute.TheVariants as attribute
use Rattle.kc_lines.specs.declared.parts.Family.TheVariants as family
use Rattle.kc_lines.specs.declared.parts.Part.TheVariants.{Said}
use Rattle.kc_lines.specs.LineIndex.{line_of}

abbrev pub is_tristate : SymbolType → Bool
is_tristate kind.Bool = false
is_tristate kind.Tristate = true
is_tristate kind.String = false
is_tristate kind.Int = false
is_tristate kind.Hex = false

-- the definition of a number is that of a tristate
abbrev pub is_of_tristate : TreeValue → ℕ → Bool
is_of_tristate t n = option_map_or (λ d. is_tristate (type_of t d.symbol)) (slice_get t.definitions n) false

-- and one of its lines says the type
abbrev pub says_tristate : List LineValue → TreeValue → ℕ → Bool
says_tristate lines t n = is_of_tristate t n && is_some (line_of lines (Said family.Definition n attribute.Type 0))

-- these definitions, in their order, where no line defines MODULES
abbrev pub never_modules : List LineValue → TreeValue → List ℕ
never_modules lines t =
    if is_some (modules_symbol t) then [] else filter (says_tristate lines t) (range_with_len 0 (length t.definitions))
