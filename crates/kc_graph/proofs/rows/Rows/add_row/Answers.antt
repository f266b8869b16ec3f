use Rattle.std.proofs.Common.{◌≡◌, ◌++◌, ◌∷◌, [], ◌∙◌, ap, length, arith}
use Rattle.kc_graph.proofs.RowLaws.{rows_in-added}
use Rattle.kc_graph.proofs.rows.Rows.add_row.Goals as goal

pub returns-clause-added : goal.returns-clause-added
returns-clause-added c =
    let ends = c.self.inside.ends.items in
    let numbers = c.self.inside.numbers.items in
    let more = c.args.numbers.now in
    let end : c.len.result ≡ length c.extend_from_slice.new.self.items = omega (arith, c.len.ensures, c.extend_from_slice.new.self.ok.0) in
    let pushed : c.push.new.self.items ≡ ends ++ length c.extend_from_slice.new.self.items ∷ [] =
    c.in_ok-push.ensures.items
    ∙ ap (λ es. es ++ c.len.result ∷ []) c.in_ok-reserve.ensures.items
    ∙ ap (λ n. ends ++ n ∷ []) end
    in
    rows_in-added ends c.push.new.self.items numbers c.extend_from_slice.new.self.items more c.self.invariant c.in_ok-extend_from_slice.ensures.items pushed
    ∙ ap (λ rows. rows ++ more ∷ []) c.self.view_is
