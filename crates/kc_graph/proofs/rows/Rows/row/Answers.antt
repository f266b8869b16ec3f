use Rattle.std.proofs.Common.{◌≡◌, ◌<◌, ◌≤◌, ◌-◌, [], ◌∷◌, length, slice_index, slice_index_or, take, drop, sym, ap, ◌∙◌, arith}
use Rattle.std.proofs.lemmas.Bool.Decides.{nat_tests}
use Rattle.std.proofs.lemmas.Grind.{common_steps}
use Rattle.std.proofs.lemmas.List.{get_or_default, get_or_past}
use Rattle.kc_graph.specs.Graph.{row}
use Rattle.kc_graph.specs.Rows.{rows_in}
use Rattle.kc_graph.proofs.RowLaws.{end-within, get_or-rows_from, length-rows_from, start-later}
use Rattle.kc_graph.proofs.rows.Rows.row.Goals as goal
use Rattle.kc_graph.proofs.rows.Rows.row.Goals.{After-deref-2, then-number-eq0, else-number-eq0}

-- there is a row of the number
inside : (c : After-deref-2) → c.args.number < length c.self.inside.ends.items
inside c = omega (arith, c.in-Some.ensures.lookup.3.0, ap length c.deref.ensures.value)

end_is : (c : After-deref-2) → c.in-Some.end.now ≡ slice_index c.self.inside.ends.items c.args.number
end_is c =
    c.in-Some.ensures.lookup.1
    ∙ ap (λ ends. slice_index_or ends c.args.number c.in-Some.end.now) c.deref.ensures.value
    ∙ get_or_default c.self.inside.ends.items c.args.number c.in-Some.end.now 0 (inside c)

start_is : (c : After-deref-2) → c.if-number-eq0.start ≡ slice_index (0 ∷ c.self.inside.ends.items) c.args.number
start_is c =
    let ends = c.self.inside.ends.items in
    let h = inside c in
    elim c.if-number-eq0.branch [
      | then-number-eq0 w ↦
          let first : c.args.number ≡ 0 = omega (arith, w.if-number-eq0.true) in
          w.start-is ∙ sym (ap (slice_index (0 ∷ ends)) first)
      | else-number-eq0 w ↦
          w.start-is ∙ w.index.ensures ∙ sym (start-later 0 ends c.args.number w.index.result.now (omega (arith, w.if-number-eq0.false)) h)
    ]

ordered : (c : After-deref-2) → c.if-number-eq0.start ≤ c.in-Some.end.now
ordered c = omega (arith, start_is c, end_is c, c.self.invariant.ordered c.args.number (inside c))

within : (c : After-deref-2) → c.in-Some.end.now ≤ length c.deref-2.result.now
within c =
    let ends = c.self.inside.ends.items in
    omega (arith, end_is c, end-within 0 ends (length c.self.inside.numbers.items) c.args.number c.self.invariant (inside c), ap length c.deref-2.ensures.value)

pub returns-in_default : goal.returns-in_default
returns-in_default c =
    let numbers = c.self.inside.numbers.items in
    let ends = c.self.inside.ends.items in
    let past : length ends ≤ c.args.number = grind (arith, nat_tests, common_steps, c.in_default.ensures.lookup.0, ap length c.deref.ensures.value) in
    record { row = sym (ap (λ rows. row rows c.args.number) (sym c.self.view_is) ∙ get_or_past (rows_in numbers ends) c.args.number [] (omega (arith, past, length-rows_from numbers 0 ends))) }

pub offset_bounds-deref-start : goal.offset_bounds-deref-start
offset_bounds-deref-start c =
    let h = (goal.at.offset_bounds-deref-start c).After-deref-2 in
    omega (arith, ordered h, within h, c.deref-2.type_inv.1)

pub slice_bounds-result-count : goal.slice_bounds-result-count
slice_bounds-result-count c = ordered (goal.at.slice_bounds-result-count c).After-deref-2

pub slice_bounds-result-start : goal.slice_bounds-result-start
slice_bounds-result-start c = ordered (goal.at.slice_bounds-result-start c).After-deref-2

pub slice_bounds-result-end-2 : goal.slice_bounds-result-end-2
slice_bounds-result-end-2 c = within (goal.at.slice_bounds-result-end-2 c).After-deref-2

pub returns : goal.returns
returns c =
    let h = (goal.at.returns c).After-deref-2 in
    let numbers = c.self.inside.numbers.items in
    let ends = c.self.inside.ends.items in
    let start = c.if-number-eq0.start in
    let end = c.in-Some.end.now in
    record {
      row =
          ap (λ ns. take (end - start) (drop start ns)) c.deref-2.ensures.value
          ∙ ap (λ s. take (end - s) (drop s numbers)) (start_is h)
          ∙ ap (λ e. take (e - slice_index (0 ∷ ends) c.args.number) (drop (slice_index (0 ∷ ends) c.args.number) numbers)) (end_is h)
          ∙ sym (get_or-rows_from numbers 0 ends c.args.number (inside h))
          ∙ ap (λ rows. row rows c.args.number) c.self.view_is;
    }
