use Rattle.std.proofs.Common.{◌≡◌, ◌+◌, drop, map}
use Rattle.std.specs.List.{position_or_len}
use Rattle.kc_value.specs.Assignable.{same_tri}
use Rattle.kc_value.specs.Known.{given}
use Rattle.kc_value.specs.Rule.{reverse_value}
use Rattle.kc_value.proofs.reason_branches.first_that_gives.Given as goal

abbrev pub invariant-loop-place : goal.invariant-loop-place
invariant-loop-place l =
    let gives = reverse_value l.known.tree (given l.known) in
    position_or_len (same_tri l.value) (map gives l.reverses)
    ≡ l.place + position_or_len (same_tri l.value) (map gives (drop l.place l.reverses))
