use Rattle.std.proofs.Common.{◌≡◌, ◌++◌}
use Rattle.std.specs.List.{flat_map, range_with_len}
use Rattle.kc_line_facts.specs.DoubtfulUses.{use_in}
use Rattle.kc_line_facts.proofs.doubtful_uses.add_uses.Given as goal

-- those of the tokens so far
abbrev pub invariant-loop-place : goal.invariant-loop-place
invariant-loop-place l = l.found.items ≡ l.initial.found.items ++ flat_map (use_in l.tree l.index l.line l.tokens) (range_with_len 0 l.place)
