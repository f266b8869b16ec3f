use Rattle.std.proofs.Common.{◌++◌, None, false, ap, ◌∙◌}
use Rattle.std.proofs.lemmas.Result.{IfOk-weaker}
use Rattle.kc_outline.specs.TreeValue.{TreeValue}
use Rattle.kc_files.specs.DraftValue.{bytes_of_pieces, pieces_after}
use Rattle.kc_files.proofs.DraftLaws.{text_of_pieces}
use Rattle.kc_files.proofs.config_file.config_text_over.Goals as goal

pub returns : goal.returns
returns c =
    let t = c.args.known.now.tree in
    let p = c.args.prefix.now in
    let h = c.args.header.now in
    IfOk-weaker c.text_of.result _ _
    (λ text is. λ a agrees.
    is a agrees
    ∙ ap (λ (x : TreeValue). h ++ bytes_of_pieces false (pieces_after t p a None x.entries)) c.tree.ensures.tree
    ∙ text_of_pieces t p h a c.tree.ensures.accepted.menus)
    c.text_of.ensures
