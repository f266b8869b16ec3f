use Rattle.std.proofs.Common.{◌≡◌, ◌++◌, Ok, Result, string_bytes, refl, ap, sym, ◌∙◌}
use Rattle.kc_text.specs.declared.fault.TextProblem.{TextProblem}
use Rattle.kc_text.specs.Definitions.{appended, text_meant, value_with, with}
use Rattle.kc_text.specs.Expansion.{Names, names_in, texts_in, then_on}
use Rattle.kc_text.proofs.MeaningLaws.{appended-text}
use Rattle.kc_text.proofs.variables.append.Goals as goal

pub returns : goal.returns
returns c =
    let outside = texts_in c.args.outside.now in
    let names = names_in c.args.variables.now in
    let name = c.args.name.now in
    let value = c.args.value.now in
    let addition = string_bytes c.in_ok-addition.addition in
    appended-text outside names name value (names name) refl
    ∙ ap (λ r. then_on r (λ text. Ok (with name (value_with (names name) text) names))) c.in_ok-addition.ensures
    ∙ ap {B = Result Names TextProblem} (λ meant. Ok (with name (value_with meant (text_meant meant ++ addition)) names)) (sym c.take-meant.ensures.value)
    ∙ ap {B = Result Names TextProblem} (λ v. Ok (with name v names)) (sym c.in_ok-value.ensures)
    ∙ ap {B = Result Names TextProblem} Ok (sym (c.in_ok-define.ensures ∙ c.take-meant.ensures.others c.in_ok-value.value))
