use Rattle.std.proofs.Common.{◌≡◌, ◌||◌, ℕ, List, true, false, take}
use Rattle.std.specs.BTreeMap.{get_by}
use Rattle.std.specs.Cmp.Lexicographic.{slice_cmp}
use Rattle.std.specs.Option.{option_map_or}
use Rattle.std.specs.Ordering.{nat_cmp}
use Rattle.kc_text.specs.LineReferences.{lent_names}
use Rattle.kc_line_facts.specs.FreshNames.{is_among}
use Rattle.kc_line_facts.proofs.unknown_names.note_all.Given as goal

-- those so far are noted
abbrev pub invariant-loop-place : goal.invariant-loop-place
invariant-loop-place l = (q : List ℕ) → option_map_or (λ _. true) (get_by (λ k. slice_cmp nat_cmp q k.now) l.noted) false
    ≡ (is_among (take l.place (lent_names l.names)) q || option_map_or (λ _. true) (get_by (λ k. slice_cmp nat_cmp q k.now) l.initial.noted) false)
