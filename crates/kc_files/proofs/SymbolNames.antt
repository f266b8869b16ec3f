-- The name of a symbol is a word, and names that symbol.
use Rattle.std.proofs.Common.{◌≡◌, ℕ, ◌<◌, ◌==◌, true, not, ◌&&◌, List, [], ◌∷◌, length, get_or, slice_get, Some, None, if◌then◌else◌, refl, sym, ap, ◌∙◌, arith}
use Rattle.std.specs.Prelude.{nat_lt, option_map}
use Rattle.std.specs.List.{list_all, position_or_len}
use Rattle.std.specs.Str.{bytes_eq}
use Rattle.std.proofs.lemmas.Bool.{true≢false, and_parts, and_from, false_from_ne_true, ne_eqb, lt-ltb}
use Rattle.std.proofs.lemmas.List.Sums.{position_or_len_is}
use Rattle.std.proofs.lemmas.Option.{slice_get-get_or}
use Rattle.std.proofs.lemmas.Slice.Eq.{bytes_eq-Decides}
use Rattle.kc_statement.specs.Names.{is_name_byte, is_reserved, is_name, symbol_among}
use Rattle.kc_statement.specs.declared.id.SymId.{SymId}
use Rattle.kc_outline.specs.NameList.{AreNames}
use Rattle.kc_outline.specs.TreeValue.{TreeValue, name_of, symbol_named}
use Rattle.kc_tree.specs.Accepted.{IsAccepted}
use Rattle.kc_files.specs.LineForm.{is_word}

-- a name is a word
pub name_word : (w : List ℕ) → is_name w ≡ true → is_word w ≡ true
name_word [] h = absurd (true≢false (sym h))
name_word (b ∷ bs) h =
    let w : List ℕ = b ∷ bs in
    let formed = and_parts (not (bytes_eq w []) && list_all is_name_byte w) (not (is_reserved w)) h in
    and_from (not (length w == 0)) (list_all is_name_byte w) (ap not (ne_eqb (length w) 0 (λ e. absurd (omega (arith, e)))))
    (and_parts (not (bytes_eq w [])) (list_all is_name_byte w) formed.0).1

-- the place of a name, where no name stands twice
place_of : (names : List (List ℕ)) → AreNames names → (k : ℕ) → k < length names → position_or_len (bytes_eq (get_or names k [])) names ≡ k
place_of names h k inside =
    let name : List ℕ = get_or names k [] in
    let other : (j : ℕ) → j < k → bytes_eq name (get_or names j []) ≡ true → ⊥ = λ j l e.
    let same : name ≡ get_or names j [] = (bytes_eq-Decides name (get_or names j [])).0 e in
    let here : slice_get names k ≡ Some name = slice_get-get_or names k [] inside in
    let there : slice_get names j ≡ Some name = slice_get-get_or names j [] (omega (arith, l, inside)) ∙ ap Some (sym same) in
    absurd (omega (arith, l, h.distinct k j name here there)) in
    position_or_len_is (bytes_eq name) names k [] (omega (arith, inside)) (λ j l. false_from_ne_true (bytes_eq name (get_or names j [])) (other j l))
    (λ l. (bytes_eq-Decides name name).1 refl)

pub named_back : (names : List (List ℕ)) → AreNames names → (s : SymId) → s.0 < length names → symbol_among names (get_or names s.0 []) ≡ Some s
named_back names h s inside =
    let name : List ℕ = get_or names s.0 [] in
    let at : position_or_len (bytes_eq name) names ≡ s.0 = place_of names h s.0 inside in
    let low : nat_lt s.0 (length names) ≡ true = lt-ltb s.0 (length names) inside in
    ap (λ (n : ℕ). option_map (λ (k : ℕ). record { 0 = k }) (if nat_lt n (length names) then Some n else None)) at
    ∙ ap (λ b. option_map (λ (k : ℕ). record { 0 = k }) (if b then Some s.0 else None)) low

pub name_formed : (names : List (List ℕ)) → AreNames names → (k : ℕ) → k < length names → is_word (get_or names k []) ≡ true
name_formed names h k inside = name_word (get_or names k []) (h.formed k [] inside)

-- the symbol that has this name
pub named_so : (t : TreeValue) → IsAccepted t → (s : SymId) (name : List ℕ) → s.0 < length t.symbols → name_of t s ≡ name → symbol_named t name ≡ Some s
named_so t accepted s name inside same =
    ap (symbol_named t) (sym same) ∙ named_back t.names accepted.names s (omega (arith, inside, accepted.named))
