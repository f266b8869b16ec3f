use Rattle.std.proofs.Common.{◌∙◌, [], List, ap, drop, slice_get}
use Rattle.std.specs.List.{take_while}
use Rattle.std.specs.Option.{option_map_or}
use Rattle.kc_text.specs.LineValue.{LineValue}
use Rattle.kc_statement.specs.Keywords.{is_attribute}
use Rattle.kc_lines.specs.LineIndex.{begins}
use Rattle.kc_lines.proofs.StartLaws.{started_attributes}
use Rattle.kc_lines.proofs.line_index.LineIndex.attributes.Goals as goal

pub returns : goal.returns
returns c =
    c.attributes_at.ensures
    ∙ ap (λ (ls : List LineValue). option_map_or (λ s. take_while is_attribute (drop 1 (drop s ls))) (slice_get c.starts.result.now c.args.number) []) c.self.view_is
    ∙ started_attributes (begins c.args.family) c.args.self.now c.starts.result.now c.args.number c.starts.ensures
