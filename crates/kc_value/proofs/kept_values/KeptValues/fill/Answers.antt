use Rattle.std.proofs.Common.{◌≡◌, ◌+◌, ◌<◌, ◌≤◌, ℕ, [], ◌∷◌, ◌++◌, List, false, length, map, None, Some, is_some, get_or, slice_set, length-append, refl, sym, ap, ◌∙◌, subst, arith}
use Rattle.std.specs.List.{Contains}
use Rattle.kc_graph.specs.Graph.{row}
use Rattle.kc_tree.specs.Cells.{cell_at}
use Rattle.kc_tree.specs.Nodes.{number_of}
use Rattle.kc_value.specs.declared.filling.Step.{Step}
use Rattle.kc_value.specs.declared.value.Value.{Value}
use Rattle.kc_value.specs.Assignment.{assignment_of}
use Rattle.kc_value.specs.FillWalk.{HaveValues, cell_rule}
use Rattle.kc_value.specs.Kept.{AreKept, KeptValue}
use Rattle.kc_value.specs.Summaries.{summary_of}
use Rattle.kc_value.proofs.FillSteps.{is_none, nothing_added, one_more_filled, one_more_right, wanted_reached}
use Rattle.kc_value.proofs.PathLemmas.{IsPath, work_left, path_begun, path_longer, path_shorter, longer_less, shorter_less, last_step, one_inside, passed_to, row_held, still_missing}
use Rattle.kc_value.proofs.SolutionLaws.{one_solution}
use Rattle.kc_value.proofs.SolvedLaws.{kept_right}
use Rattle.kc_value.proofs.kept_values.KeptValues.fill.Goals as goal

pub loop-step-init : goal.loop-step-init
loop-step-init c =
    let t = c.args.tree.now in
    let g = c.use_table-table.result.now in
    let values = c.args.self.now.values in
    let missing : is_some (get_or values (number_of t c.args.node) None) ≡ false = sym c.is_kept.ensures.kept ∙ c.if-is_kept.false in
    let own : Step = record { number = number_of t c.args.node; passed = 0 } in
    let first : c.push.new.self.items ≡ own ∷ [] =
    c.in_ok-push.ensures.items ∙ ap (λ xs. xs ++ record { number = c.number.result; passed = 0 } ∷ []) c.new-path.ensures.items ∙ ap (λ k. record { number = k; passed = 0 } ∷ []) c.number.ensures.number in
    record {
      kept = c.requires.kept;
      fills = nothing_added t (c.args.node ∷ []) c.args.self.now;
      path = subst (IsPath t g c.args.node values) (sym first)
          (path_begun t g c.args.node values c.use_table-table.ensures.laws c.requires.inside (is_none (get_or values (number_of t c.args.node) None) missing));
    }

pub loop-step-smaller-in-Continue-branch-3 : goal.loop-step-smaller-in-Continue-branch-3
loop-step-smaller-in-Continue-branch-3 c =
    let t = c.args.tree.now in
    let g = c.use_table-table.result.now in
    let laws = c.use_table-table.ensures.laws in
    let asked = c.args.node in
    let values = c.loop-step.self.values in
    let front = c.pop.new.self.items in
    let step = c.in-Some.step in
    let path : IsPath t g asked values (front ++ step ∷ []) = subst (IsPath t g asked values) c.in-Some.ensures.items c.loop-step.invariant.path in
    let last = last_step t g asked values laws front step path in
    let said : c.summaries.result.now ≡ map summary_of values = c.summaries.ensures ∙ ap (λ (k : KeptValue). map summary_of k.values) c.self-in-Some.view_is in
    let numbers = c.row-numbers.result.now in
    let place = c.first_missing.result in
    let there : numbers ≡ row g step.number = c.row-numbers.ensures.row in
    let before : HaveValues values numbers step.passed = subst (λ ks. HaveValues values ks step.passed) (sym there) last.passed in
    let have : HaveValues values (row g step.number) place = subst (λ ks. HaveValues values ks place) there (passed_to values c.summaries.result.now numbers step.passed place said before c.first_missing.ensures.passed) in
    let number = c.in-Some-get.number.now in
    let lookup = c.in-Some-get.ensures.lookup in
    let within : place < length numbers = lookup.3.0 in
    let at : (d : ℕ) → get_or numbers place d ≡ number = λ d. sym (lookup.3.1 d) in
    let missing : get_or values number None ≡ None = still_missing values c.summaries.result.now numbers place number said (at 0) (c.first_missing.ensures.missing within) in
    let listed : Contains (row g step.number) number = subst (λ ks. Contains ks number) there (place, within, at number) in
    let again : Step = record { number = step.number; passed = place } in
    let below : Step = record { number = number; passed = 0 } in
    let items : c.push-in-Some-get-2.new.self.items ≡ (front ++ again ∷ []) ++ below ∷ [] =
    c.in_ok-push-in-Some-get-2.ensures.items ∙ ap (λ xs. xs ++ below ∷ []) c.in_ok-push-in-Some-get.ensures.items in
    let longer : IsPath t g asked values ((front ++ again ∷ []) ++ below ∷ []) =
    path_longer t g asked values laws front step path c.use_table-table.ensures.table again below refl refl have listed missing in
    let short : List Step = front ++ step ∷ [] in
    let long : List Step = (front ++ again ∷ []) ++ below ∷ [] in
    let one : length long ≡ length short + 1 = omega (arith, length-append (front ++ again ∷ []) (below ∷ []), length-append front (again ∷ []), length-append front (step ∷ [])) in
    subst (λ xs. work_left t values xs < work_left t values c.loop-step.path.items) (sym items)
    (subst (λ xs. work_left t values long < work_left t values xs) (sym c.in-Some.ensures.items)
    (longer_less t laws g asked values c.loop-step.invariant.kept.closed.whole short long one longer))

pub loop-step-preserved-in-Continue-branch-3 : goal.loop-step-preserved-in-Continue-branch-3
loop-step-preserved-in-Continue-branch-3 c =
    let t = c.args.tree.now in
    let g = c.use_table-table.result.now in
    let laws = c.use_table-table.ensures.laws in
    let asked = c.args.node in
    let values = c.loop-step.self.values in
    let front = c.pop.new.self.items in
    let step = c.in-Some.step in
    let path : IsPath t g asked values (front ++ step ∷ []) = subst (IsPath t g asked values) c.in-Some.ensures.items c.loop-step.invariant.path in
    let last = last_step t g asked values laws front step path in
    let said : c.summaries.result.now ≡ map summary_of values = c.summaries.ensures ∙ ap (λ (k : KeptValue). map summary_of k.values) c.self-in-Some.view_is in
    let numbers = c.row-numbers.result.now in
    let place = c.first_missing.result in
    let there : numbers ≡ row g step.number = c.row-numbers.ensures.row in
    let before : HaveValues values numbers step.passed = subst (λ ks. HaveValues values ks step.passed) (sym there) last.passed in
    let have : HaveValues values (row g step.number) place = subst (λ ks. HaveValues values ks place) there (passed_to values c.summaries.result.now numbers step.passed place said before c.first_missing.ensures.passed) in
    let number = c.in-Some-get.number.now in
    let lookup = c.in-Some-get.ensures.lookup in
    let within : place < length numbers = lookup.3.0 in
    let at : (d : ℕ) → get_or numbers place d ≡ number = λ d. sym (lookup.3.1 d) in
    let missing : get_or values number None ≡ None = still_missing values c.summaries.result.now numbers place number said (at 0) (c.first_missing.ensures.missing within) in
    let listed : Contains (row g step.number) number = subst (λ ks. Contains ks number) there (place, within, at number) in
    let again : Step = record { number = step.number; passed = place } in
    let below : Step = record { number = number; passed = 0 } in
    let items : c.push-in-Some-get-2.new.self.items ≡ (front ++ again ∷ []) ++ below ∷ [] =
    c.in_ok-push-in-Some-get-2.ensures.items ∙ ap (λ xs. xs ++ below ∷ []) c.in_ok-push-in-Some-get.ensures.items in
    let longer : IsPath t g asked values ((front ++ again ∷ []) ++ below ∷ []) =
    path_longer t g asked values laws front step path c.use_table-table.ensures.table again below refl refl have listed missing in
    record {
      kept = c.loop-step.invariant.kept;
      fills = c.loop-step.invariant.fills;
      path = subst (IsPath t g asked values) (sym items) longer;
    }

pub evaluate-requires-clause-inside : goal.evaluate-requires-clause-inside
evaluate-requires-clause-inside c =
    let t = c.args.tree.now in
    let g = c.use_table-table.result.now in
    let laws = c.use_table-table.ensures.laws in
    let asked = c.args.node in
    let values = c.loop-step.self.values in
    let front = c.pop.new.self.items in
    let step = c.in-Some.step in
    let path : IsPath t g asked values (front ++ step ∷ []) = subst (IsPath t g asked values) c.in-Some.ensures.items c.loop-step.invariant.path in
    (last_step t g asked values laws front step path).below

pub evaluate-requires-clause-right : goal.evaluate-requires-clause-right
evaluate-requires-clause-right c =
    kept_right c.args.tree.now c.use_table-table.ensures.laws c.args.user.now c.loop-step.self.values c.loop-step.invariant.kept

pub loop-step-smaller : goal.loop-step-smaller
loop-step-smaller c =
    let t = c.args.tree.now in
    let g = c.use_table-table.result.now in
    let laws = c.use_table-table.ensures.laws in
    let asked = c.args.node in
    let values = c.loop-step.self.values in
    let front = c.pop.new.self.items in
    let step = c.in-Some.step in
    let path : IsPath t g asked values (front ++ step ∷ []) = subst (IsPath t g asked values) c.in-Some.ensures.items c.loop-step.invariant.path in
    let u = c.args.user.now in
    let k = step.number in
    let v : Value = cell_rule t u (assignment_of t values) (cell_at t k) in
    let value : c.evaluate.new.self.values ≡ slice_set values k (Some v) = c.in_ok-evaluate-in-None.ensures.value in
    subst (λ xs. work_left t c.evaluate.new.self.values front < work_left t values xs) (sym c.in-Some.ensures.items)
    (subst (λ vs. work_left t vs front < work_left t values (front ++ step ∷ [])) (sym value)
    (shorter_less t laws g asked values c.loop-step.invariant.kept.closed.whole front step v path))

pub loop-step-preserved : goal.loop-step-preserved
loop-step-preserved c =
    let t = c.args.tree.now in
    let g = c.use_table-table.result.now in
    let laws = c.use_table-table.ensures.laws in
    let asked = c.args.node in
    let values = c.loop-step.self.values in
    let front = c.pop.new.self.items in
    let step = c.in-Some.step in
    let path : IsPath t g asked values (front ++ step ∷ []) = subst (IsPath t g asked values) c.in-Some.ensures.items c.loop-step.invariant.path in
    let last = last_step t g asked values laws front step path in
    let said : c.summaries.result.now ≡ map summary_of values = c.summaries.ensures ∙ ap (λ (k : KeptValue). map summary_of k.values) c.self-in-Some.view_is in
    let numbers = c.row-numbers.result.now in
    let place = c.first_missing.result in
    let there : numbers ≡ row g step.number = c.row-numbers.ensures.row in
    let before : HaveValues values numbers step.passed = subst (λ ks. HaveValues values ks step.passed) (sym there) last.passed in
    let have : HaveValues values (row g step.number) place = subst (λ ks. HaveValues values ks place) there (passed_to values c.summaries.result.now numbers step.passed place said before c.first_missing.ensures.passed) in
    let u = c.args.user.now in
    let k = step.number in
    let v : Value = cell_rule t u (assignment_of t values) (cell_at t k) in
    let value : c.evaluate.new.self.values ≡ slice_set values k (Some v) = c.in_ok-evaluate-in-None.ensures.value in
    let past : length (row g k) ≤ place = omega (arith, c.in-None.ensures.lookup, ap length there) in
    let ready = row_held t laws g c.use_table-table.ensures.table k last.below values place past have in
    let kept = c.loop-step.invariant.kept in
    record {
      kept = subst (AreKept t u) (sym value) (one_more_right t laws u values c.use_table-table.ensures.accepted kept k last.below ready);
      fills = one_more_filled t laws (asked ∷ []) c.args.self.now c.loop-step.self c.evaluate.new.self k v last.below kept.closed.whole
          (wanted_reached t laws (asked ∷ []) (one_inside t asked c.requires.inside) (cell_at t k) last.wanted) last.missing c.loop-step.invariant.fills value c.in_ok-evaluate-in-None.ensures.counted;
      path = subst (λ vs. IsPath t g asked vs front) (sym value) (path_shorter t g asked values laws front step path kept.closed.whole v);
    }

pub returns-then-is_kept-clause-solved : goal.returns-then-is_kept-clause-solved
returns-then-is_kept-clause-solved c = one_solution c.args.tree.now c.args.user.now c.is_kept.ensures.accepted

pub returns-in_err-push-clause-solved : goal.returns-in_err-push-clause-solved
returns-in_err-push-clause-solved c = one_solution c.args.tree.now c.args.user.now c.is_kept.ensures.accepted

pub returns-in_err-push-in-Some-get-clause-solved : goal.returns-in_err-push-in-Some-get-clause-solved
returns-in_err-push-in-Some-get-clause-solved c = one_solution c.args.tree.now c.args.user.now c.is_kept.ensures.accepted

pub returns-in_err-push-in-Some-get-2-clause-solved : goal.returns-in_err-push-in-Some-get-2-clause-solved
returns-in_err-push-in-Some-get-2-clause-solved c = one_solution c.args.tree.now c.args.user.now c.is_kept.ensures.accepted

pub returns-in_err-evaluate-in-None-clause-solved : goal.returns-in_err-evaluate-in-None-clause-solved
returns-in_err-evaluate-in-None-clause-solved c = one_solution c.args.tree.now c.args.user.now c.is_kept.ensures.accepted

pub returns-clause-solved : goal.returns-clause-solved
returns-clause-solved c = one_solution c.args.tree.now c.args.user.now c.is_kept.ensures.accepted
