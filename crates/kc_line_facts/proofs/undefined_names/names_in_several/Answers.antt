use Rattle.kc_line_facts.proofs.DoubtfulLaws.{several_all}
use Rattle.kc_line_facts.proofs.undefined_names.names_in_several.Goals as goal

pub returns : goal.returns
returns c =
    let known = c.loop-place.invariant in
    several_all c.args.lines.now c.args.uses.now c.loop-place.noted.items c.loop-place.place known.sized c.loop-place-test.false known.each
