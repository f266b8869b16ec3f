use Rattle.std.proofs.Common.{rules, ◌≡◌, ◌+◌, List, [], ◌∷◌, ◌++◌, map, length, take, ◌≤◌, sym, ap, ◌∙◌}
use Rattle.std.specs.List.{range_with_len}
use Rattle.std.proofs.lemmas.List.{append_assoc, map_push, take_all, take_more}
use Rattle.kc_statement.specs.declared.expr.Expr.{Expr}
use Rattle.kc_value.specs.declared.factors.Factor.{Factor}
use Rattle.kc_value.specs.declared.factors.Origin.{Origin}
use Rattle.kc_value.specs.Known.{given}
use Rattle.kc_value.specs.Factors.{Judged, judged, judged_expression, origin_in}
use Rattle.kc_value.proofs.FactorLists.{judged_lines}
use Rattle.kc_value.proofs.OriginLists.{lines_at_more}
use Rattle.kc_value.proofs.factors.add_lines.Goals as goal

pub loop-place-preserved : goal.loop-place-preserved
loop-place-preserved c =
    let each : Expr → Judged = judged_expression c.args.known.now.tree (given c.args.known.now) in
    let origin : Factor → Origin = λ f. f.origin in
    let lines = c.args.lines.now in
    let i = c.loop-place.place in
    let line = c.index-lines-place.result in
    let new = c.line_factor.result in
    let items = c.loop-place.factors.items in
    let old : List Judged = map judged c.args.factors.now.items in
    let was : List Origin = map origin c.args.factors.now.items in
    let longer : map each (take (i + 1) lines) ≡ map each (take i lines) ++ each line ∷ [] =
    ap (map each) (take_more lines i line c.loop-place-test.true ∙ ap (λ x. take i lines ++ x ∷ []) (sym c.index-lines-place.is)) ∙ map_push each (take i lines) line in
    record {
      judged = ap (map judged) c.in_ok-push.ensures.items
          ∙ map_push judged items new
          ∙ ap (λ j. map judged items ++ j ∷ []) c.line_factor.ensures.judged
          ∙ ap (λ js. js ++ each line ∷ []) c.loop-place.invariant.judged
          ∙ append_assoc old (map each (take i lines)) (each line ∷ [])
          ∙ ap (λ js. old ++ js) (sym longer);
      origins = ap (map origin) c.in_ok-push.ensures.items
          ∙ map_push origin items new
          ∙ ap (λ o. map origin items ++ o ∷ []) (c.line_factor.ensures.origin ∙ c.origin.ensures)
          ∙ ap (λ os. os ++ origin_in c.args.from i ∷ []) c.loop-place.invariant.origins
          ∙ append_assoc was (map (origin_in c.args.from) (range_with_len 0 i)) (origin_in c.args.from i ∷ [])
          ∙ ap (λ os. was ++ os) (sym (lines_at_more c.args.from i));
    }

pub returns-clause-judged : goal.returns-clause-judged
returns-clause-judged c =
    let t = c.args.known.now.tree in
    let a = given c.args.known.now in
    let old : List Judged = map judged c.args.factors.now.items in
    let whole : length c.args.lines.now ≤ c.loop-place.place = search rules in
    c.loop-place.invariant.judged
    ∙ ap (λ ls. old ++ map (judged_expression t a) ls) (take_all c.loop-place.place c.args.lines.now whole)
    ∙ ap (λ js. old ++ js) (sym (judged_lines t a c.args.lines.now))
