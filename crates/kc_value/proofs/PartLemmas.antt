-- What stands in a part of a list stands in the list.
use Rattle.std.proofs.Common.{ℕ, ◌<◌, ◌≤◌, List, length, take, sym, ◌∙◌, arith}
use Rattle.std.specs.List.{Contains}
use Rattle.std.proofs.lemmas.List.{get_or-take, length-take-le}

module _ {X : Type 0} where
  pub Contains-from_take : (i : ℕ) (xs : List X) → i ≤ length xs → (x : X) → Contains (take i xs) x → Contains xs x
  Contains-from_take i xs within x c =
      let first : c.0 < i = omega (arith, length-take-le i xs within, c.1) in
      let inside : c.0 < length xs = omega (arith, first, within) in
      (c.0, inside, sym (get_or-take i xs c.0 x first) ∙ c.2)
