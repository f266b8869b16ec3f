-- The ranges whose low bound is above their high one, in the order of their lines: kconfig-language.rst, "numerical
-- ranges".
use Rattle.std.specs.Prelude.{ℕ, Bool, false, List, [], ◌∷◌, if◌then◌else◌, flat_map, length, slice_get}
use Rattle.std.specs.List.{range_with_len}
use Rattle.std.specs.Option.{option_map_or}
use Rattle.kc_outline.specs.TreeValue.{TreeValue, DefinitionValue}
use Rattle.kc_tree.specs.Fits.{type_of}
use Rattle.kc_value.specs.declared.places.RangePlace.{RangePlace}
use Rattle.kc_line_facts.specs.Ranges.{has_exchanged_sides}

abbrev pub exchanged_at : ℕ → ℕ → Bool → List RangePlace
exchanged_at n p is = if is then record { definition = n; range = p } ∷ [] else []

abbrev pub exchanged_in : TreeValue → ℕ → DefinitionValue → ℕ → List RangePlace
exchanged_in t n d p = exchanged_at n p (option_map_or (has_exchanged_sides (type_of t d.symbol)) (slice_get d.ranges p) false)

abbrev pub exchanged_of : TreeValue → ℕ → DefinitionValue → List RangePlace
exchanged_of t n d = flat_map (exchanged_in t n d) (range_with_len 0 (length d.ranges))

-- those of the definition of a number
abbrev pub exchanged_by_number : TreeValue → ℕ → List RangePlace
exchanged_by_number t n = option_map_or (exchanged_of t n) (slice_get t.definitions n) []

abbrev pub exchanged_ranges : TreeValue → List RangePlace
exchanged_ranges t = flat_map (exchanged_by_number t) (range_with_len 0 (length t.definitions))
