use Rattle.std.proofs.Common.{◌≡◌, ◌||◌, ℕ, List, true, false, map, take}
use Rattle.std.specs.BTreeMap.{get_by}
use Rattle.std.specs.Cmp.Lexicographic.{slice_cmp}
use Rattle.std.specs.List.{range_with_len}
use Rattle.std.specs.Option.{option_map_or}
use Rattle.std.specs.Ordering.{nat_cmp}
use Rattle.kc_text.specs.LineReferences.{lent_names}
use Rattle.kc_line_facts.specs.FreshNames.{is_among, is_fresh}
use Rattle.kc_line_facts.proofs.unknown_names.fresh_flags.Given as goal

-- the names so far are noted, and those that are known
abbrev pub invariant-loop-place : goal.invariant-loop-place
invariant-loop-place l = record {
  noted_is : (q : List ℕ) → option_map_or (λ _. true) (get_by (λ k. slice_cmp nat_cmp q k.now) l.noted) false
      ≡ (is_among (lent_names l.fn.known) q || is_among (take l.place (lent_names l.names)) q);
  flags_are : l.flags.items ≡ map (is_fresh (lent_names l.names) (lent_names l.fn.known)) (range_with_len 0 l.place);
}
