-- Which conditions never hold, by their factors.
use Rattle.std.proofs.Common.{◌≡◌, Bool, false, ◌||◌, List, [], ◌∷◌, Option, Some, None, map, refl, sym, ap, ◌∙◌}
use Rattle.std.specs.List.{list_any}
use Rattle.std.specs.Option.{option_map_or}
use Rattle.kc_outline.specs.TreeValue.{TreeValue}
use Rattle.kc_tree.specs.ConditionTable.{Condition, factors}
use Rattle.kc_value.specs.declared.factors.Factor.{Factor}
use Rattle.kc_value.specs.Assignment.{Assignment}
use Rattle.kc_value.specs.Factors.{judged, judged_of, judged_part, part_of, Judged}
use Rattle.kc_facts.specs.HiddenChoices.{is_never_met, never_holds}

any_mapped : {X Y : Type 0} (p : Y → Bool) (f : X → Y) (xs : List X) → list_any p (map f xs) ≡ list_any (λ x. p (f x)) xs
any_mapped p f [] = refl
any_mapped p f (x ∷ xs) = ap (λ b. p (f x) || b) (any_mapped p f xs)

abbrev is_never_judged : Judged → Bool
is_never_judged j = is_never_met j.part

pub hidden_by : (t : TreeValue) (a : Assignment) (c : Option Condition) (fs : List Factor) → map judged fs ≡ judged_of t a c
    → list_any (λ f. is_never_met (part_of f.part)) fs ≡ option_map_or (never_holds t) c false
hidden_by t a None fs is = sym (any_mapped is_never_judged judged fs) ∙ ap (list_any is_never_judged) is
hidden_by t a (Some c) fs is =
    sym (any_mapped is_never_judged judged fs)
    ∙ ap (list_any is_never_judged) is
    ∙ any_mapped is_never_judged (judged_part t a) (factors t c)
