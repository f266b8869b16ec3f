use Rattle.std.proofs.Common.{rules, ◌≡◌, Some, refl}
use Rattle.kc_statement.specs.Forms.{quoted_text}
use Rattle.kc_statement.proofs.MistakeLaws.{placed_at}
use Rattle.kc_statement.proofs.PlacedLaws.{title_after}
use Rattle.kc_statement.proofs.parser.Parser.title.Goals as goal

pub returns-then-not-is_empty-clause-place : goal.returns-then-not-is_empty-clause-place
returns-then-not-is_empty-clause-place c =
    let is : quoted_text c.in-Some.first.now ≡ Some c.in-Some-quoted_text.text = (search rules) in
    placed_at _ _ _ c.wants-then-not-is_empty.ensures (title_after _ _ _ _ _ c.in-Some.ensures.cases.0 is refl)
