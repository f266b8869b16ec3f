use Rattle.std.proofs.Common.{sym, subst, rules}
use Rattle.kc_text.specs.Names.{texts_in}
use Rattle.kc_text.specs.Entries.{AreLines}
use Rattle.kc_session.proofs.OneOpening.{enclosed_of, first_of, only_of}
use Rattle.kc_session.proofs.opening.open_seeded.Goals as goal

pub returns-clause-only : goal.returns-clause-only
returns-clause-only c =
    let are : AreLines c.args.texts.now.sources.now (texts_in c.args.texts.now.vars.now) c.args.texts.now.top.now c.as_slice.result.now =
    subst (AreLines c.args.texts.now.sources.now (texts_in c.args.texts.now.vars.now) c.args.texts.now.top.now) (sym c.as_slice.ensures.value) c.in_ok-lines.ensures.lines
    in
    only_of c.args.texts.now.sources.now c.args.texts.now.vars.now c.args.texts.now.top.now c.args.prefix.now c.args.config.now c.in_ok-lines.ensures.one c.as_slice.result.now are _ c.in_ok-opened.ensures.only

pub returns-clause-enclosed : goal.returns-clause-enclosed
returns-clause-enclosed c =
    let are : AreLines c.args.texts.now.sources.now (texts_in c.args.texts.now.vars.now) c.args.texts.now.top.now c.as_slice.result.now =
    subst (AreLines c.args.texts.now.sources.now (texts_in c.args.texts.now.vars.now) c.args.texts.now.top.now) (sym c.as_slice.ensures.value) c.in_ok-lines.ensures.lines
    in
    enclosed_of c.args.texts.now.sources.now c.args.texts.now.vars.now c.args.texts.now.top.now c.args.prefix.now c.args.config.now c.in_ok-lines.ensures.one c.as_slice.result.now are _ c.in_ok-opened.ensures.enclosed

pub returns-in_err-opened-clause-first : goal.returns-in_err-opened-clause-first
returns-in_err-opened-clause-first c =
    let are : AreLines c.args.texts.now.sources.now (texts_in c.args.texts.now.vars.now) c.args.texts.now.top.now c.as_slice.result.now =
    subst (AreLines c.args.texts.now.sources.now (texts_in c.args.texts.now.vars.now) c.args.texts.now.top.now) (sym c.as_slice.ensures.value) c.in_ok-lines.ensures.lines
    in
    let first = first_of c.args.texts.now.sources.now c.args.texts.now.vars.now c.args.texts.now.top.now c.args.prefix.now c.args.config.now c.in_ok-lines.ensures.one c.as_slice.result.now are _ c.in_err-opened.ensures.first in
    search (rules, first)
