-- What the names of a tree are like: kconfig-language.rst, "Menu entries".
use Rattle.std.specs.Prelude.{◌≡◌, ℕ, true, List, Some, All, slice_get}
use Rattle.kc_statement.specs.Names.{is_name}

-- no name is there twice, and each is one that a line can define
pub record AreNames (names : List (List ℕ)) : Type 0 where
  pub distinct : (i j : ℕ) (name : List ℕ) → slice_get names i ≡ Some name → slice_get names j ≡ Some name → i ≡ j
  pub formed : All (λ name. is_name name ≡ true) names
