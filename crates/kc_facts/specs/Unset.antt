-- Symbols to which no line gives a value: this project's own, by docs/COMMANDS.md, "check".
use Rattle.std.specs.Prelude.{ℕ, Bool, true, false, not, ◌&&◌, ◌||◌, ◌==◌, List, [], ◌∷◌, if◌then◌else◌, filter, is_none, is_some, length, slice_get}
use Rattle.std.specs.List.{list_all, list_any, range_with_len}
use Rattle.std.specs.Option.{option_map_or}
use Rattle.kc_statement.specs.SymbolTypes.{is_tri_type}
use Rattle.kc_statement.specs.declared.id.SymId.{SymId}
use Rattle.kc_outline.specs.TreeValue.{TreeValue, SymbolValue, DefinitionValue, kind_of, prompt_of}
use Rattle.kc_tree.specs.Nodes.{all_nodes}
use Rattle.kc_tree.specs.Uses.{used_nodes}
use Rattle.kc_tree.specs.declared.node.Node.{Node}
use Rattle.kc_tree.specs.declared.node.Node.TheVariants.{Mode, Sel, Val, Vis}
use Rattle.kc_facts.specs.Forced.{is_first, symbol_at}

-- a user can give its symbol a value, or it has one
abbrev pub has_value : DefinitionValue → Bool
has_value d = is_some (prompt_of d) || not (length d.defaults == 0)

abbrev pub has_value_at : TreeValue → ℕ → Bool
has_value_at t n = option_map_or has_value (slice_get t.definitions n) false

-- A bool or a tristate in no choice, which no definition gives a value, and which no line selects or implies: it is
-- always n.
abbrev pub is_never_set : TreeValue → SymbolValue → Bool
is_never_set t x =
    is_tri_type (kind_of x)
    && (is_none x.choice
    && ((length x.selected == 0)
    && ((length x.implied == 0) && list_all (λ n. not (has_value_at t n)) x.definitions)))

-- ---- what is computed from it
-- a node that is neither its visibility nor its value
abbrev pub is_other : SymId → Node → Bool
is_other s (Vis u) = not (u.0 == s.0)
is_other s (Val u) = not (u.0 == s.0)
is_other s (Mode c) = true
is_other s (Sel c) = true

abbrev pub is_value_of : SymId → Node → Bool
is_value_of s (Vis u) = false
is_value_of s (Val u) = u.0 == s.0
is_value_of s (Mode c) = false
is_value_of s (Sel c) = false

-- a node is computed from the value of a symbol
abbrev pub uses_value : TreeValue → SymId → Node → Bool
uses_value t s m = list_any (is_value_of s) (used_nodes t m)

-- another node of the tree is
abbrev pub has_users : TreeValue → SymId → Bool
has_users t s = list_any (λ m. is_other s m && uses_value t s m) (all_nodes t)

abbrev pub is_used : TreeValue → SymId → Bool
is_used t s = option_map_or (λ x. has_users t s) (slice_get t.symbols s.0) false

abbrev pub is_used_at : TreeValue → ℕ → Bool
is_used_at t n = option_map_or (λ d. is_used t d.symbol) (slice_get t.definitions n) false

-- ---- all
-- the definition of a number is the first one of a symbol that is always n, from which another node is computed
abbrev pub is_unset_at : TreeValue → ℕ → Bool
is_unset_at t n = option_map_or (λ x. is_first n x && (is_never_set t x && is_used_at t n)) (symbol_at t n) false

abbrev pub number_if : Bool → ℕ → List ℕ
number_if is n = if is then n ∷ [] else []

-- the first definitions of these symbols, in their order
abbrev pub unset_definitions : TreeValue → List ℕ
unset_definitions t = filter (is_unset_at t) (range_with_len 0 (length t.definitions))
