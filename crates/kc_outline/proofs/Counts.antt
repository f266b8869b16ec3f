-- How many choices lines define, and that what is counted of few lines has a small number.
use Rattle.std.proofs.Common.{◌≡◌, ℕ, ◌+◌, ◌<◌, ◌^◌, Bool, cond, List, [], ◌∷◌, ◌++◌, length, reverse, count_by, refl, sym, ap, ◌∙◌, arith}
use Rattle.std.proofs.lemmas.List.{reverse-append}
use Rattle.std.proofs.lemmas.List.Sums.{sum_by-cons, sum_by_push, count_by-le-length}
use Rattle.kc_text.specs.LineValue.{LineValue}
use Rattle.kc_statement.specs.Keywords.{is_choice, is_comment, is_config, is_opener}
use Rattle.kc_outline.specs.declared.context.Context.{Context}
use Rattle.kc_outline.specs.ContextAfter.{HasRoom, IsContextAfter}
use Rattle.kc_outline.specs.Reader.{IsOutlineAfter}
use Rattle.kc_outline.specs.TreeOf.{map_placed, choice_at, choice_blocks}
use Rattle.kc_outline.specs.TreeValue.{TreeValue}
use Rattle.kc_outline.proofs.OwnerLaws.{counted}

pub length-map_placed : {A B : Type 0} (f : ℕ → A → B) (k : ℕ) (xs : List A) → length (map_placed f k xs) ≡ length xs
length-map_placed f k [] = refl
length-map_placed f k (x ∷ xs) = let rest = length-map_placed f (k + 1) xs in omega arith

reverse_push : {X : Type 0} (x : X) (xs : List X) → reverse (x ∷ xs) ≡ reverse xs ++ x ∷ []
reverse_push x xs = reverse-append (x ∷ []) xs

pub count_reverse : {X : Type 0} (p : X → Bool) (xs : List X) → count_by p (reverse xs) ≡ count_by p xs
count_reverse p [] = refl
count_reverse {X} p (x ∷ xs) =
    let one : X → ℕ = λ y. cond (p y) 1 0 in
    let rest = count_reverse p xs in
    ap (count_by p) (reverse_push x xs)
    ∙ sum_by_push one (reverse xs) x
    ∙ ap (λ n. n + one x) rest
    ∙ omega (arith, sum_by-cons one x xs)

reverse_twice : {X : Type 0} (xs : List X) → reverse (reverse xs) ≡ xs
reverse_twice [] = refl
reverse_twice (x ∷ xs) = ap reverse (reverse_push x xs) ∙ reverse-append (reverse xs) (x ∷ []) ∙ ap (λ ys. x ∷ ys) (reverse_twice xs)

pub choices_of_outline : (names : List (List ℕ)) (following : ℕ) (earlier : List LineValue) (t : TreeValue) → IsOutlineAfter names following earlier t → length t.choices ≡ count_by is_choice earlier
choices_of_outline names following earlier t after =
    let rs = after.readings in
    ap (λ x. length x.choices) after.tree
    ∙ length-map_placed (choice_at rs) 0 (choice_blocks rs)
    ∙ ap (λ qs. length (choice_blocks qs)) (sym (reverse_twice rs))
    ∙ (counted names following earlier (reverse rs) after.read).choices

-- what is counted of few lines has a number
pub has_room : (names : List (List ℕ)) (earlier : List LineValue) (c : Context) → IsContextAfter names earlier c → length earlier < 2 ^ 30 → HasRoom c
has_room names earlier c known few = record {
  definitions = omega (arith, known.definitions, count_by-le-length is_config earlier);
  blocks = omega (arith, known.blocks, count_by-le-length is_opener earlier);
  choices = omega (arith, known.choices, count_by-le-length is_choice earlier);
  comments = omega (arith, known.comments, count_by-le-length is_comment earlier);
}
