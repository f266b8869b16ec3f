use Rattle.std.proofs.Common.{◌≡◌, ◌++◌, drop, map}
use Rattle.kc_lines.specs.declared.parts.Family.TheVariants.{Definition}
use Rattle.kc_lines.specs.declared.parts.Part.TheVariants.{Owner}
use Rattle.kc_lines.proofs.culprits.definitions.Given as goal

-- the parts so far are those of the numbers before
abbrev pub invariant-loop-number : goal.invariant-loop-number
invariant-loop-number l =
    l.parts.items ++ map (Owner Definition) (drop l.number-index l.numbers) ≡ map (Owner Definition) l.numbers
