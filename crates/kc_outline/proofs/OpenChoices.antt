-- The choices that are open were opened by lines before.
use Rattle.std.proofs.Common.{ℕ, ◌+◌, ◌<◌, Bool, true, false, cond, List, [], ◌∷◌, drop, Option, Some, None, count_by, ◌≡◌, refl, sym, subst, arith}
use Rattle.std.specs.List.{AllByRecursion}
use Rattle.std.specs.Option.{option_or}
use Rattle.std.proofs.lemmas.List.Sums.{sum_by-cons}
use Rattle.kc_text.specs.LineValue.{LineValue}
use Rattle.kc_outline.specs.declared.id.ChoiceId.{ChoiceId}
use Rattle.kc_outline.specs.declared.context.OpenBlock.{OpenBlock}
use Rattle.kc_statement.specs.Keywords.{is_opener, is_closer, is_choice}
use Rattle.kc_outline.specs.Enclosing.{block_opened, open_blocks, choice_among}

-- a choice that is one of the first so many
unfoldable pub IsBelow : ℕ → Option ChoiceId → Type 0
IsBelow n None = Unit {0}
IsBelow n (Some c) = c.0 < n

below_more : (h : Bool) (n : ℕ) (o : Option ChoiceId) → IsBelow n o → IsBelow (cond h 1 0 + n) o
unfolding IsBelow
below_more h n None below = tt
below_more h n (Some c) below = omega (arith, below)

abbrev AreBelow : ℕ → List OpenBlock → Type 0
AreBelow n bs = AllByRecursion (λ b. IsBelow n b.choice) bs

are_below_more : (h : Bool) (n : ℕ) (bs : List OpenBlock) → AreBelow n bs → AreBelow (cond h 1 0 + n) bs
are_below_more h n [] all = tt
are_below_more h n (b ∷ bs) all = (below_more h n b.choice all.0, are_below_more h n bs all.1)

-- of the next block, which may be that of the next choice
below_opened : (h : Bool) (b : OpenBlock) (n : ℕ) → b.choice ≡ cond h (Some (record { 0 = n })) None → IsBelow (cond h 1 0 + n) b.choice
unfolding IsBelow
below_opened true b n is = rw is (omega arith)
below_opened false b n is = rw is tt

below_drop : (n : ℕ) (bs : List OpenBlock) → AreBelow n bs → AreBelow n (drop 1 bs)
below_drop n [] h = tt
below_drop n (b ∷ bs) h = h.1

below_step : (o c h : Bool) (b : OpenBlock) (n : ℕ) (bs : List OpenBlock) → b.choice ≡ cond h (Some (record { 0 = n })) None → AreBelow n bs → AreBelow (cond h 1 0 + n) (cond o (b ∷ bs) (cond c (drop 1 bs) bs))
below_step true c h b n bs is all = (below_opened h b n is, are_below_more h n bs all)
below_step false true h b n bs is all = are_below_more h n (drop 1 bs) (below_drop n bs all)
below_step false false h b n bs is all = are_below_more h n bs all

count_next : (l : LineValue) (earlier : List LineValue) → count_by is_choice (l ∷ earlier) ≡ cond (is_choice l) 1 0 + count_by is_choice earlier
count_next l earlier = sum_by-cons (λ x. cond (is_choice x) 1 0) l earlier

below_none : (n : ℕ) → IsBelow n None
unfolding IsBelow
below_none n = tt

are_below : (earlier : List LineValue) → AreBelow (count_by is_choice earlier) (open_blocks earlier)
are_below [] = tt
are_below (l ∷ earlier) =
    subst (λ n. AreBelow n (open_blocks (l ∷ earlier))) (sym (count_next l earlier))
    (below_step (is_opener l) (is_closer l) (is_choice l) (block_opened l earlier) (count_by is_choice earlier) (open_blocks earlier) refl (are_below earlier))

below_either : (n : ℕ) (o p : Option ChoiceId) → IsBelow n o → IsBelow n p → IsBelow n (option_or o p)
below_either n None p first second = second
below_either n (Some c) p first second = first

below_among : (n : ℕ) (bs : List OpenBlock) → AreBelow n bs → IsBelow n (choice_among bs)
below_among n [] all = below_none n
below_among n (b ∷ bs) all = below_either n b.choice (choice_among bs) all.0 (below_among n bs all.1)

pub choice_below : (earlier : List LineValue) → IsBelow (count_by is_choice earlier) (choice_among (open_blocks earlier))
choice_below earlier = below_among (count_by is_choice earlier) (open_blocks earlier) (are_below earlier)
