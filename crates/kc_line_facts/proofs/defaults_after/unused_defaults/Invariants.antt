use Rattle.std.proofs.Common.{◌≡◌, ◌<◌, ℕ, None, length, get_or}
use Rattle.std.specs.List.{flat_map, range_with_len}
use Rattle.kc_line_facts.specs.Numbers.{first_below}
use Rattle.kc_line_facts.specs.UnusedDefaults.{always_gives, unused_by_number}
use Rattle.kc_line_facts.proofs.defaults_after.unused_defaults.Given as goal

-- those of the definitions so far, and which of these always give a symbol its value
abbrev pub invariant-loop-number : goal.invariant-loop-number
invariant-loop-number l = record {
  sized : length l.given.items ≡ length l.tree.symbols;
  each : (k : ℕ) → k < length l.tree.symbols → get_or l.given.items k None ≡ first_below (always_gives l.tree k) l.number;
  found_is : l.found.items ≡ flat_map (unused_by_number l.index l.tree) (range_with_len 0 l.number);
}
