use Rattle.std.proofs.Common.{◌≡◌, ◌++◌, drop, map, slice_get}
use Rattle.std.specs.Prelude.{option_map}
use Rattle.std.specs.List.{filter_map}
use Rattle.kc_check.specs.UnusedVariables.{about, about_definition}
use Rattle.kc_check.proofs.variables.add_defined.Given as goal

-- with those that are left they are all
abbrev pub invariant-loop-place : goal.invariant-loop-place
invariant-loop-place l =
    map about l.found.items ++ filter_map (λ k. option_map about_definition (slice_get l.definitions k)) (drop l.place-index l.places)
    ≡ map about l.initial.found.items ++ filter_map (λ k. option_map about_definition (slice_get l.definitions k)) l.places
