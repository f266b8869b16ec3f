use Rattle.std.proofs.Common.{◌≡◌, ◌++◌, drop, map, slice_get}
use Rattle.std.specs.Prelude.{option_map}
use Rattle.std.specs.List.{filter_map}
use Rattle.kc_check.specs.UnusedVariables.{about, about_lent}
use Rattle.kc_check.proofs.variables.add_given.Given as goal

-- with those that are left they are all
abbrev pub invariant-loop-place : goal.invariant-loop-place
invariant-loop-place l =
    map about l.found.items ++ filter_map (λ k. option_map about_lent (slice_get l.given k)) (drop l.place-index l.places)
    ≡ map about l.initial.found.items ++ filter_map (λ k. option_map about_lent (slice_get l.given k)) l.places
