use Rattle.std.proofs.Common.{◌≡◌, ◌++◌, map, take}
use Rattle.std.specs.List.{range_with_len}
use Rattle.kc_value.specs.declared.factors.Factor.{Factor}
use Rattle.kc_value.specs.Known.{given}
use Rattle.kc_value.specs.Factors.{judged, judged_expression, origin_in}
use Rattle.kc_value.proofs.factors.add_lines.Given as goal

abbrev pub invariant-loop-place : goal.invariant-loop-place
invariant-loop-place l = record {
  judged : map judged l.factors.items ≡ map judged l.initial.factors.items ++ map (judged_expression l.known.tree (given l.known)) (take l.place l.lines);
  origins : map (λ (f : Factor). f.origin) l.factors.items ≡ map (λ (f : Factor). f.origin) l.initial.factors.items ++ map (origin_in l.from) (range_with_len 0 l.place);
}
