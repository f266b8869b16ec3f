use Rattle.std.proofs.Common.{◌-◌, length, take, subst, sym, refl, arith}
use Rattle.std.proofs.lemmas.List.Elements.{All-take}
use Rattle.kc_value.specs.Assignment.{assignment_of}
use Rattle.kc_files.specs.Outcomes.{IsPlacedFor}
use Rattle.kc_files.proofs.OutcomeSearch.{IsSearch, last_line, line_inside, search_step}
use Rattle.kc_files.proofs.outcomes.outcomes_back.Goals as goal

pub loop-left-preserved : goal.loop-left-preserved
loop-left-preserved c =
    let t = c.args.tree.now in
    let a = assignment_of t c.args.values.now in
    let left = c.loop-left.left.now in
    let fewer = take (length left - 1) left in
    let line = c.line-item.result in
    let before = c.loop-left.invariant in
    let some = c.in-len1-up.len_at_least in
    let fits : IsPlacedFor t line = subst (IsPlacedFor t) (sym c.line-item.is) (before.fitting (length left - 1) _ (omega (arith, some))) in
    let inside = line_inside t line (length t.symbols) refl fits in
    let step = search_step t a c.args.lines.now left c.loop-left.search before.searched fewer line (last_line left line _ some c.line-item.is) inside in
    record {
      searched = subst (IsSearch t a c.args.lines.now fewer) (sym c.in_ok-take.ensures) step;
      fitting = All-take (IsPlacedFor t) (length left - 1) left before.fitting;
    }
