use Rattle.std.proofs.Common.{◌≡◌, ◌++◌, drop, map}
use Rattle.kc_check.specs.FindingPlaces.{place_of}
use Rattle.kc_check.proofs.tree_findings.findings_of.Given as goal

-- the places of the findings so far, and of the facts that are left
abbrev pub invariant-loop-fact : goal.invariant-loop-fact
invariant-loop-fact l =
    map (λ f. f.at) l.findings.items ++ map (place_of l.places.lines.now l.places.files.now l.places.earlier.now) (drop l.fact-index l.facts)
    ≡ map (place_of l.places.lines.now l.places.files.now l.places.earlier.now) l.facts
