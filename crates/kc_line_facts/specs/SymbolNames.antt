-- The names of the symbols of a tree: this project's own.
use Rattle.std.specs.Prelude.{ℕ, List, length, map}
use Rattle.std.specs.List.{range_with_len}
use Rattle.kc_outline.specs.TreeValue.{TreeValue, name_of}

-- in the order of their numbers
abbrev pub symbol_names : TreeValue → List (List ℕ)
symbol_names t = map (λ k. name_of t (record { 0 = k })) (range_with_len 0 (length t.symbols))
