use Rattle.std.proofs.Common.{◌≡◌, drop, slice_get}
use Rattle.std.specs.Prelude.{flat_map}
use Rattle.kc_lines.specs.Culprits.{parts_in, parts_of}
use Rattle.kc_lines.proofs.culprits.nth_part.Given as goal

-- the part of the number is the one of the count that is left among those of the definitions that are left
abbrev pub invariant-loop-definition : goal.invariant-loop-definition
invariant-loop-definition l =
    slice_get (flat_map (parts_in l.index l.attribute) (drop l.definition-index l.definition-items)) l.left
    ≡ slice_get (parts_of l.index l.attribute l.symbol) l.number
