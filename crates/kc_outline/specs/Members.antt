-- What the lines say of choices and their members, before faults are sought: kconfig-language.rst, "choices".
use Rattle.std.specs.Prelude.{◌≡◌, ◌==◌, true, Some, length, slice_get}
use Rattle.std.specs.List.{list_any}
use Rattle.kc_statement.specs.declared.id.SymId.{SymId}
use Rattle.kc_outline.specs.declared.id.ChoiceId.{ChoiceId}
use Rattle.kc_outline.specs.TreeValue.{TreeValue, SymbolValue, ChoiceValue, choice_of}

-- a member of a choice is a symbol, and is in that choice where it has one definition alone; and a symbol that is in a
-- choice is in one of the tree, which lists it
pub record AreMembersListed (t : TreeValue) : Type 0 where
  pub members : (s : SymId) (c : ChoiceId) (y : ChoiceValue) → slice_get t.choices c.0 ≡ Some y → list_any (λ m. m.0 == s.0) y.members ≡ true
      → (x : SymbolValue) × (slice_get t.symbols s.0 ≡ Some x) × (length x.definitions ≡ 1 → x.choice ≡ Some c)
  pub listed : (s : SymId) (c : ChoiceId) → choice_of t s ≡ Some c
      → (y : ChoiceValue) × (slice_get t.choices c.0 ≡ Some y) × (list_any (λ m. m.0 == s.0) y.members ≡ true)
