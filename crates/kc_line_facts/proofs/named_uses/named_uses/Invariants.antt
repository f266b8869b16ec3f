use Rattle.std.proofs.Common.{◌≡◌, ℕ, List}
use Rattle.std.specs.Prelude.{option_map}
use Rattle.std.specs.BTreeMap.{get_by}
use Rattle.std.specs.Cmp.Lexicographic.{slice_cmp}
use Rattle.std.specs.List.{flat_map, range_with_len}
use Rattle.std.specs.Ordering.{nat_cmp}
use Rattle.kc_line_facts.specs.DoubtfulNames.{is_named, named_at}
use Rattle.kc_line_facts.specs.Numbers.{first_below, last_below}
use Rattle.kc_line_facts.proofs.named_uses.named_uses.Given as goal

-- the first and the last use of each name so far, and the uses so far
abbrev pub invariant-loop-place : goal.invariant-loop-place
invariant-loop-place l = record {
  first_is : (q : List ℕ) → option_map (λ p. p.first) (get_by (λ k. slice_cmp nat_cmp q k.now) l.names) ≡ first_below (is_named l.lines l.uses q) l.place;
  last_is : (q : List ℕ) → option_map (λ p. p.last) (get_by (λ k. slice_cmp nat_cmp q k.now) l.names) ≡ last_below (is_named l.lines l.uses q) l.place;
  found_is : l.found.items ≡ flat_map (named_at l.lines l.uses) (range_with_len 0 l.place);
}
