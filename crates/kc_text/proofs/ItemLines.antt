-- An item takes no more lines than there are.
use Rattle.std.proofs.Common.{ℕ, suc, ◌+◌, ◌<◌, ◌≤◌, Bool, true, false, Some, None, if◌then◌else◌, List, [], ◌∷◌, length, arith, length-drop}
use Rattle.std.proofs.lemmas.List.Sums.{prefix_len-le-length}
use Rattle.kc_text.specs.Help.{is_blank_line, is_help, help_len, help_text, passed_lines, behind_passed, first_indentation}
use Rattle.kc_text.specs.Items.{ItemValue, ends_in_backslash, joined, joined_more, behind_joined, first_item}
use Rattle.kc_text.proofs.HelpLines.{len_inside-le}

joined_more-within : (l : List ℕ) (ls : List (List ℕ)) → joined_more (l ∷ ls) ≤ length ls
joined_more-within l [] = omega arith
joined_more-within l (k ∷ ls) =
    elim (ends_in_backslash l) as (λ b. (if b then suc (joined_more (k ∷ ls)) else 0) ≤ suc (length ls)) [ true ↦ omega (arith, joined_more-within k ls) | false ↦ omega arith ]

pub help_len-within : (ls : List (List ℕ)) → help_len ls ≤ length ls
help_len-within ls =
    let behind = behind_passed ls in
    omega (arith, prefix_len-le-length is_blank_line ls, len_inside-le (first_indentation behind) behind, length-drop (passed_lines ls) ls)

pub first_item-within : (lines : List (List ℕ)) → 0 < length lines → (first_item lines).more < length lines
first_item-within [] some = absurd (omega (arith, some))
first_item-within (l ∷ ls) some =
    let more : ℕ = joined_more (l ∷ ls) in
    let behind = behind_joined (l ∷ ls) in
    let fits : more ≤ length ls = joined_more-within l ls in
    let item : Bool → ItemValue = λ b. if b then record { text = joined (l ∷ ls); help = Some (help_text behind); more = more + help_len behind } else record { text = joined (l ∷ ls); help = None; more = more } in
    elim (is_help (joined (l ∷ ls))) as (λ b. (item b).more < suc (length ls)) [
      | true ↦ omega (arith, fits, help_len-within behind, length-drop (more + 1) (l ∷ ls))
      | false ↦ omega (arith, fits)
    ]
