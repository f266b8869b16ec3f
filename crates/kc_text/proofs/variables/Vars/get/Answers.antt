use Rattle.std.proofs.Common.{Some, option_map, string_bytes, ap, sym, ◌∙◌}
use Rattle.kc_text.specs.Expansion.{texts_in}
use Rattle.kc_text.proofs.FileLists.{text_of-file_list}
use Rattle.kc_text.proofs.variables.Vars.get.Goals as goal

pub returns-in_err-text : goal.returns-in_err-text
returns-in_err-text c =
    let name = c.args.name.now in
    rw c.from_residual.ensures (ap (λ ts. texts_in ts name) (sym c.self.view_is) ∙ text_of-file_list name c.self.inside.texts ∙ ap (option_map string_bytes) (sym c.in_err-text.ensures.value))

pub returns : goal.returns
returns c =
    let name = c.args.name.now in
    ap (λ ts. texts_in ts name) (sym c.self.view_is) ∙ text_of-file_list name c.self.inside.texts
    ∙ ap (option_map string_bytes) (sym c.in_ok-text.ensures.value) ∙ ap Some (sym c.as_str.ensures.value)
