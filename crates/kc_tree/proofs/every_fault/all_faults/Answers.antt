use Rattle.std.proofs.Common.{◌≡◌, ◌<◌, inl, filter_map, length, sym, ap, ◌∙◌, subst}
use Rattle.std.proofs.lemmas.Result.{IfOk-weaker}
use Rattle.kc_tree.specs.AllFaults.{line_fault_at, AreFaultsOf, AreFaultsOfTree, AreRefusedForFirst}
use Rattle.kc_tree.proofs.RefusalLaws.{refused_lines, refused_tree, some_refused}
use Rattle.kc_tree.proofs.every_fault.all_faults.Goals as goal

pub returns-in-Ok-clause-first : goal.returns-in-Ok-clause-first
returns-in-Ok-clause-first c =
    let lines = c.args.lines.now in
    let o = c.in-Ok.outline in
    let known = c.in-Ok.ensures in
    IfOk-weaker c.tree_faults.result (λ v. AreFaultsOfTree lines o v.items) (λ v. AreRefusedForFirst lines v.items)
    (λ v are. refused_tree lines o known.outline known.only known.exact v.items are) c.tree_faults.ensures

pub returns-in-Err-At-clause-faults : goal.returns-in-Err-At-clause-faults
returns-in-Err-At-clause-faults c =
    let lines = c.args.lines.now in
    let places = c.in_ok-places-in-Err-At.places.items in
    let found = c.in_ok-places-in-Err-At.ensures in
    let refused = rw c.in-Err-At.field-0-is at c.in-Err-At.ensures.refused in
    let some : 0 < length places = some_refused lines places found.first refused.treeless in
    IfOk-weaker c.reported_lines.result (λ v. v.items ≡ filter_map (line_fault_at lines) c.as_slice.result.now) (λ v. AreFaultsOf lines v.items)
    (λ v is. inl (record { places = places; are = found.faults; some = some; is = is ∙ ap (filter_map (line_fault_at lines)) c.as_slice.ensures.value })) c.reported_lines.ensures

pub returns-in-Err-At-clause-first : goal.returns-in-Err-At-clause-first
returns-in-Err-At-clause-first c =
    let lines = c.args.lines.now in
    let places = c.in_ok-places-in-Err-At.places.items in
    let found = c.in_ok-places-in-Err-At.ensures in
    let refused = rw c.in-Err-At.field-0-is at c.in-Err-At.ensures.refused in
    let some : 0 < length places = some_refused lines places found.first refused.treeless in
    IfOk-weaker c.reported_lines.result (λ v. v.items ≡ filter_map (line_fault_at lines) c.as_slice.result.now) (λ v. AreRefusedForFirst lines v.items)
    (λ v is. subst (AreRefusedForFirst lines) (sym (is ∙ ap (filter_map (line_fault_at lines)) c.as_slice.ensures.value)) (refused_lines lines places some found.first)) c.reported_lines.ensures
