-- What the entries of a tree name: this project's own.
use Rattle.std.specs.Prelude.{◌≡◌, ◌<◌, ◌==◌, Bool, false, List, ◌∷◌, ◌++◌, Option, Some, None, Contains, filter_map, length, map}
use Rattle.std.specs.List.{list_any, range_with_len}
use Rattle.kc_statement.specs.declared.id.SymId.{SymId}
use Rattle.kc_outline.specs.declared.id.BlockId.{BlockId}
use Rattle.kc_outline.specs.declared.entry.Entry.{Entry}
use Rattle.kc_outline.specs.declared.entry.Entry.TheVariants.{Symbol, Again, Menu, EndMenu, Choice, Comment}
use Rattle.kc_outline.specs.TreeValue.{TreeValue}

-- an entry of a symbol names one of the tree
abbrev pub IsEntryOf : TreeValue → Entry → Type 0
IsEntryOf t (Symbol s) = s.0 < length t.symbols
IsEntryOf t (Again s) = s.0 < length t.symbols
IsEntryOf t (Menu b) = Unit {0}
IsEntryOf t (EndMenu b) = Unit {0}
IsEntryOf t (Choice c) = Unit {0}
IsEntryOf t (Comment c) = Unit {0}

-- the symbol of a first definition
abbrev pub first_symbol : Entry → Option SymId
first_symbol (Symbol s) = Some s
first_symbol (Again s) = None
first_symbol (Menu b) = None
first_symbol (EndMenu b) = None
first_symbol (Choice c) = None
first_symbol (Comment c) = None

-- the symbols in the order of their first definitions
abbrev pub first_symbols : List Entry → List SymId
first_symbols es = filter_map first_symbol es

-- all symbols by number
abbrev pub symbol_ids : TreeValue → List SymId
symbol_ids t = map (λ k. record { 0 = k }) (range_with_len 0 (length t.symbols))

-- whether an entry begins or ends the menu of this block
abbrev pub is_of_menu : BlockId → Entry → Bool
is_of_menu b (Symbol s) = false
is_of_menu b (Again s) = false
is_of_menu b (Menu d) = d.0 == b.0
is_of_menu b (EndMenu d) = d.0 == b.0
is_of_menu b (Choice c) = false
is_of_menu b (Comment c) = false

-- the menu begins once, and later ends once
pub record IsClosedIn (es : List Entry) (b : BlockId) : Type 0 where
  pub front : List Entry
  pub inside : List Entry
  pub back : List Entry
  pub is : es ≡ front ++ Menu b ∷ (inside ++ EndMenu b ∷ back)
  pub front_other : list_any (is_of_menu b) front ≡ false
  pub inside_other : list_any (is_of_menu b) inside ≡ false
  pub back_other : list_any (is_of_menu b) back ≡ false

-- each menu that ends began before
pub record AreMenusClosed (t : TreeValue) : Type 0 where
  pub closed : (b : BlockId) → Contains t.entries (EndMenu b) → IsClosedIn t.entries b
