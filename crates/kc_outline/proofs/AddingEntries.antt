-- What one more reading adds to the entries, and the whole tree after it.
use Rattle.std.proofs.Common.{◌≡◌, ℕ, zero, suc, ◌+◌, ◌<◌, List, [], ◌∷◌, ◌++◌, Option, Some, length, map, refl, ap, ◌∙◌, arith}
use Rattle.std.specs.Prelude.{slice_get, filter_map}
use Rattle.std.specs.List.{range_with_len}
use Rattle.kc_statement.specs.declared.id.SymId.{SymId}
use Rattle.kc_outline.specs.declared.id.BlockId.{BlockId}
use Rattle.kc_outline.specs.declared.id.ChoiceId.{ChoiceId}
use Rattle.kc_outline.specs.declared.context.Owner.{Owner}
use Rattle.kc_statement.specs.declared.statement.Statement.{Statement}
use Rattle.kc_statement.specs.declared.statement.Statement.TheVariants as statement
use Rattle.kc_outline.specs.TreeOf.{Reading, definition_number, symbol_at, symbols_in, symbol_entry, entry_at, tree_of}
use Rattle.kc_outline.specs.Outline.{AreMade, IsNamedIn}
use Rattle.kc_outline.specs.Adding.{entry_after, definition_entry, entry_with, with_reading}
use Rattle.kc_outline.proofs.AddingParts.{reading, definitions_push, blocks_push, comments_push}
use Rattle.kc_outline.proofs.AddingChoices.{choices_push}
use Rattle.kc_outline.proofs.AddingSymbols.{symbols_push}
use Rattle.kc_outline.proofs.EntryLaws.{entries_more}

map_range_get : {A : Type 0} → (f : ℕ → A) (k n i : ℕ) → i < n → slice_get (map f (range_with_len k n)) i ≡ Some (f (k + i))
map_range_get f k zero i inside = absurd (omega arith)
map_range_get f k (suc n) zero inside = ap (λ j. Some (f j)) (omega arith)
map_range_get f k (suc n) (suc i) inside = map_range_get f (k + 1) n i (omega arith) ∙ ap (λ j. Some (f j)) (omega arith)

entry_after_these : (rs : List Reading) (s : SymId) (js : List ℕ) → filter_map (definition_number s) rs ≡ js → symbol_entry rs s ≡ entry_after s js
entry_after_these rs s [] e = rw e refl
entry_after_these rs s (j ∷ js) e = rw e refl

definition_entry_is : (n : ℕ) (rs : List Reading) (s : SymId) → s.0 < n → symbol_entry rs s ≡ definition_entry (symbols_in n rs) s
definition_entry_is n rs s inside =
    let got : slice_get (symbols_in n rs) s.0 ≡ Some (symbol_at rs s) =
    map_range_get (λ k. symbol_at rs (record { 0 = k })) 0 n s.0 inside ∙ ap (λ k. Some (symbol_at rs (record { 0 = k }))) (omega arith) in
    rw got (entry_after_these rs s (filter_map (definition_number s) rs) refl)

entry_is : (names : List (List ℕ)) (rs : List Reading) (st : Statement) (b : Option BlockId) (ch : Option ChoiceId) (o : Option Owner) → IsNamedIn names st → entry_at rs (reading st b ch o) ≡ entry_with (symbols_in (length names) rs) st b o
entry_is names rs (statement.Config (Some s)) b ch o named = ap Some (definition_entry_is (length names) rs s named)
entry_is names rs st b ch o named = refl

pub tree_push : (names : List (List ℕ)) (rs : List Reading) (st : Statement) (b : Option BlockId) (ch : Option ChoiceId) (o : Option Owner) → AreMade rs → IsNamedIn names st → with_reading (tree_of names rs) (reading st b ch o) ≡ tree_of names (rs ++ reading st b ch o ∷ [])
tree_push names rs st b ch o made named =
    rw (symbols_push (length names) rs st b ch o made, definitions_push rs st b ch o made, blocks_push rs st b ch o made, choices_push rs st b ch o made, comments_push rs st b ch o made, entries_more rs (reading st b ch o), entry_is names rs st b ch o named) refl
