-- How choices and their members belong together in a tree without faults: kconfig-language.rst, "choices".
use Rattle.std.specs.Prelude.{◌≡◌, ◌==◌, true, Some, option_and_then, slice_get}
use Rattle.std.specs.List.{AllByRecursion, list_any}
use Rattle.kc_statement.specs.declared.id.SymId.{SymId}
use Rattle.kc_statement.specs.declared.symbol_type.SymbolType.TheVariants.{Bool}
use Rattle.kc_outline.specs.declared.id.ChoiceId.{ChoiceId}
use Rattle.kc_outline.specs.TreeValue.{TreeValue, SymbolValue, ChoiceValue, choice_of, kind_of}

-- the members of a choice, and the symbols that its defaults name, are in that choice; each member is a bool; and a
-- choice lists all symbols that are in it
pub record IsGrouped (t : TreeValue) : Type 0 where
  pub members : (c : ChoiceId) (y : ChoiceValue) → slice_get t.choices c.0 ≡ Some y
      → AllByRecursion (λ s. choice_of t s ≡ Some c) y.members
  pub defaults : (c : ChoiceId) (y : ChoiceValue) → slice_get t.choices c.0 ≡ Some y
      → AllByRecursion (λ d. option_and_then (choice_of t) d.symbol ≡ Some c) y.defaults
  pub kinds : (s : SymId) (c : ChoiceId) (x : SymbolValue) → x.choice ≡ Some c → slice_get t.symbols s.0 ≡ Some x
      → kind_of x ≡ Bool
  pub listed : (s : SymId) (c : ChoiceId) (y : ChoiceValue) → choice_of t s ≡ Some c → slice_get t.choices c.0 ≡ Some y
      → list_any (λ m. m.0 == s.0) y.members ≡ true
