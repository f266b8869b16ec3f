use Rattle.std.proofs.Common.{◌≡◌, ◌<◌, ℕ, None, Some, get_or, length, slice_get}
use Rattle.kc_line_facts.specs.MeantSymbols.{IsMeantAs}
use Rattle.kc_line_facts.specs.declared.undefined_names.DoubtfulName.{DoubtfulName}
use Rattle.kc_line_facts.proofs.meant_symbols.meant_among.Given as goal

-- what each name so far is meant as
abbrev pub invariant-loop-place : goal.invariant-loop-place
invariant-loop-place l = record {
  sized : length l.meant.items ≡ l.place;
  each : (k : ℕ) (d : DoubtfulName) → k < l.place → slice_get l.doubtful k ≡ Some d
      → IsMeantAs l.near l.lines l.tree l.prefix d (get_or l.meant.items k None);
}
