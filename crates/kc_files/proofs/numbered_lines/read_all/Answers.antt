use Rattle.std.proofs.Common.{◌≡◌, ◌∙◌, ◌+◌, ◌∷◌, subst, sym, ap, arith}
use Rattle.std.specs.Prelude.{map}
use Rattle.kc_files.specs.LineSteps.{reading_of, readings_in}
use Rattle.kc_files.proofs.NumberedLaws.{IsRead, read_step}
use Rattle.kc_files.proofs.ReadingLaws.{reading_fits}
use Rattle.kc_files.proofs.numbered_lines.read_all.Goals as goal

pub loop-rest-preserved : goal.loop-rest-preserved
loop-rest-preserved c =
    let t = c.args.tree.now in
    let prefix = c.args.prefix.now in
    let all = readings_in t prefix c.args.bytes.now in
    let behind = readings_in t prefix c.first_line.result.1.now in
    let line = c.first_line.result.0.now in
    let r = c.in_ok-reading.reading in
    let n = c.loop-rest.number + 1 in
    let is = c.in_ok-reading.ensures.reading in
    let cut : readings_in t prefix c.loop-rest.rest.now ≡ r ∷ behind = ap (map (reading_of t prefix)) c.first_line.ensures.lines ∙ ap (λ x. x ∷ behind) (sym is) in
    let before = subst (λ rs. IsRead t all n rs c.loop-rest.read) cut c.loop-rest.invariant.read in
    record {
      read = subst (IsRead t all (n + 1) behind) (sym c.in_ok-take.ensures) (read_step t all n behind c.loop-rest.read r before (reading_fits t prefix line r is c.in_ok-reading.ensures.inside));
      count = omega (arith, c.first_line.ensures.shorter, c.loop-rest.invariant.count);
    }
