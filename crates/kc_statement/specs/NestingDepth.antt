-- How deep the parentheses and the `!` of a line nest: this project's own limit, after kconfig-language.rst, "Menu
-- dependencies".
use Rattle.std.specs.Prelude.{ℕ, ◌+◌, Bool, true, false, ◌&&◌, ◌||◌, List, nat_le, length, take, drop, count_by}
use Rattle.std.specs.List.{list_all, list_any, range_with_len}
use Rattle.kc_text.specs.declared.line.Operator.TheVariants.{Open, Close, Not}
use Rattle.kc_text.specs.declared.line.Token.{Token}
use Rattle.kc_text.specs.declared.line.Token.TheVariants.{Operator}
use Rattle.kc_statement.specs.declared.limits.TheConstants.{MOST_NESTED}

abbrev pub is_opening : Token → Bool
is_opening (Operator Open) = true
is_opening _ = false

abbrev pub is_closing : Token → Bool
is_closing (Operator Close) = true
is_closing _ = false

abbrev pub is_not : Token → Bool
is_not (Operator Not) = true
is_not _ = false

-- in some beginning more `(` are open than may be
abbrev pub is_deep_at : List Token → ℕ → Bool
is_deep_at tokens k = nat_le (count_by is_closing (take k tokens) + (MOST_NESTED + 1)) (count_by is_opening (take k tokens))

-- from a position on, more `!` stand in a row than may
abbrev pub has_many_nots_at : List Token → ℕ → Bool
has_many_nots_at tokens k = list_all is_not (take (MOST_NESTED + 1) (drop k tokens)) && nat_le (k + (MOST_NESTED + 1)) (length tokens)

abbrev pub positions_in : List Token → List ℕ
positions_in tokens = range_with_len 0 (length tokens + 1)

abbrev pub nests_too_deep : List Token → Bool
nests_too_deep tokens = list_any (is_deep_at tokens) (positions_in tokens) || list_any (has_many_nots_at tokens) (positions_in tokens)
