use Rattle.std.proofs.Common.{◌≡◌}
use Rattle.std.specs.List.{filter, range_with_len}
use Rattle.kc_facts.specs.NeverModules.{says_tristate}
use Rattle.kc_facts.proofs.tristates_without_modules.tristate_definitions.Given as goal

-- those of the definitions so far
abbrev pub invariant-loop-number : goal.invariant-loop-number
invariant-loop-number l = l.found.items ≡ filter (says_tristate l.index l.tree) (range_with_len 0 l.number)
