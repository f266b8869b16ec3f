use Rattle.kc_text.proofs.StopLaws.{sign_passes}
use Rattle.kc_text.proofs.stops.past_sign.Goals as goal

pub returns-in-Some : goal.returns-in-Some
returns-in-Some c =
    let found = c.in-Some in
    sign_passes c.args.text.now c.requires.some c.requires.no_blank c.requires.no_word found.field-0-0 found.last c.text_after.result.now found.ensures.within found.ensures.reads c.text_after.ensures
