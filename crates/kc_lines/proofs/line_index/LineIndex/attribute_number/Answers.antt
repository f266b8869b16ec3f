use Rattle.std.proofs.Common.{◌∙◌, false, sym, true}
use Rattle.std.proofs.lemmas.Bool.{le-ltb, lt-ltb}
use Rattle.kc_lines.proofs.StartLaws.{attribute_there}
use Rattle.kc_lines.proofs.line_index.LineIndex.attribute_number.Goals as goal

pub returns-then-nth-attributes : goal.returns-then-nth-attributes
returns-then-nth-attributes c =
    attribute_there true c.args.family c.args.self.now c.self.inside.lines.now c.attributes_at-attributes.result.now c.starts-starts.result.now c.args.number c.in_ok-start.start
    c.args.nth c.self.view_is c.starts-starts.ensures c.attributes_at-attributes.ensures (sym c.start.ensures ∙ c.in_ok-start.was) (lt-ltb _ _ c.if-nth-attributes.true)

pub returns : goal.returns
returns c =
    attribute_there false c.args.family c.args.self.now c.self.inside.lines.now c.attributes_at-attributes.result.now c.starts-starts.result.now c.args.number c.in_ok-start.start
    c.args.nth c.self.view_is c.starts-starts.ensures c.attributes_at-attributes.ensures (sym c.start.ensures ∙ c.in_ok-start.was) (le-ltb _ _ c.if-nth-attributes.false)
