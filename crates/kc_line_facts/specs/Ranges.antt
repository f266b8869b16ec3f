-- Ranges and defaults that can't be meant as they are written: kconfig-language.rst, "numerical ranges", and this
-- project's own.
use Rattle.std.specs.Prelude.{ℕ, ◌==◌, Bool, false, ◌||◌, ◌&&◌, List, [], ◌∷◌, Option, Some, None, is_none, is_some, if◌then◌else◌, flat_map, length, option_and_then, position, slice_get, ℤ, int_lt}
use Rattle.std.specs.List.{list_all, range_with_len}
use Rattle.std.specs.Option.{option_map_or}
use Rattle.kc_outline.specs.TreeValue.{TreeValue, BlockValue, DefinitionValue, blocks_around}
use Rattle.kc_statement.specs.declared.attribute.Range.{Range}
use Rattle.kc_statement.specs.declared.expr.Term.{Term}
use Rattle.kc_statement.specs.declared.expr.Term.TheVariants.{Tri, Text, Symbol, Undefined}
use Rattle.kc_statement.specs.declared.symbol_type.SymbolType.{SymbolType}
use Rattle.kc_statement.specs.Numerals.{numeral_in}

-- the number of a term that is a numeral of a type, whatever the values of symbols are
abbrev pub constant_number : SymbolType → Term → Option ℤ
constant_number k (Tri v) = None
constant_number k (Text w) = numeral_in k w
constant_number k (Symbol s) = None
constant_number k (Undefined w) = numeral_in k w

-- both are numbers, and the first is the greater
abbrev pub is_above : Option ℤ → Option ℤ → Bool
is_above (Some x) (Some y) = int_lt y x
is_above (Some x) None = false
is_above None y = false

-- the low bound is above the high bound: no value is inside
abbrev pub has_exchanged_sides : SymbolType → Range → Bool
has_exchanged_sides k r = is_above (constant_number k r.low) (constant_number k r.high)

-- a term is below the low bound or above the high one
abbrev pub is_outside : SymbolType → Range → Term → Bool
is_outside k r x =
    is_above (constant_number k r.low) (constant_number k x) || is_above (constant_number k x) (constant_number k r.high)

-- ---- the range of a symbol that counts for sure
-- Of a symbol the first active range counts, in the order of its definitions and of the lines in each: a range is active
-- where its condition and what its definition depends on are not n. So where a definition gives a value, its own
-- dependencies are not n, and those of another one are known only where there are none.

-- the first range of a definition, by number
abbrev pub first_range : TreeValue → ℕ → Option Range
first_range t n = option_and_then (λ d. slice_get d.ranges 0) (slice_get t.definitions n)

abbrev pub has_range : TreeValue → ℕ → Bool
has_range t n = is_some (first_range t n)

-- the first of some definitions that has one
abbrev pub first_with_range : TreeValue → List ℕ → Option ℕ
first_with_range t numbers = option_and_then (slice_get numbers) (position (has_range t) numbers)

-- neither a definition nor a block around it has dependencies
abbrev pub is_free_block : BlockValue → Bool
is_free_block b = length b.depends == 0

abbrev pub is_free : TreeValue → ℕ → Bool
is_free t n =
    option_map_or (λ d. (length d.depends == 0) && list_all is_free_block (blocks_around t d.block)) (slice_get t.definitions n) false

-- the first range of definition n is active wherever a definition gives a value
abbrev pub is_certain : TreeValue → ℕ → ℕ → Range → Bool
is_certain t giving n r = is_none r.condition && (n == giving || is_free t n)

-- the range that bounds the values that a definition gives whenever it gives one: the first range of the symbol, which has
-- these definitions, where it is known to be active
abbrev pub if_certain : TreeValue → ℕ → ℕ → Option Range
if_certain t giving n = option_and_then (λ r. if is_certain t giving n r then Some r else None) (first_range t n)

abbrev pub certain_range : TreeValue → List ℕ → ℕ → Option Range
certain_range t numbers giving = option_and_then (if_certain t giving) (first_with_range t numbers)
