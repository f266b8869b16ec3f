use Rattle.std.proofs.Common.{◌≡◌, ◌-◌, List, ◌++◌, map}
use Rattle.kc_outline.specs.TreeValue.{BlockValue, blocks_from, blocks_around}
use Rattle.kc_outline.specs.declared.limits.TheConstants.{MOST_OPEN_BLOCKS}
use Rattle.kc_value.specs.declared.factors.Factor.{Factor}
use Rattle.kc_value.specs.Known.{given}
use Rattle.kc_value.specs.Factors.{Judged, judged, judged_factors, of_blocks, ids_from, blocks_at, around_at}
use Rattle.kc_value.proofs.factors.add_around.Given as goal

abbrev pub invariant-loop : goal.invariant-loop
invariant-loop l =
    let all : List BlockValue → List Judged = λ blocks. judged_factors l.known.tree (given l.known) (of_blocks l.fn.lines blocks) in
    record {
      judged : map judged l.factors.items ++ all (blocks_from l.known.tree.blocks (MOST_OPEN_BLOCKS - l.counter) l.next)
          ≡ map judged l.initial.factors.items ++ all (blocks_around l.known.tree l.fn.innermost);
      origins : map (λ (f : Factor). f.origin) l.factors.items ++ blocks_at l.known.tree.blocks l.fn.lines (ids_from l.known.tree.blocks (MOST_OPEN_BLOCKS - l.counter) l.next)
          ≡ map (λ (f : Factor). f.origin) l.initial.factors.items ++ around_at l.known.tree l.fn.lines l.fn.innermost;
    }
