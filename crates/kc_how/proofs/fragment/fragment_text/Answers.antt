use Rattle.kc_how.proofs.FragmentLaws.{are_apart, are_unfed}
use Rattle.kc_how.proofs.fragment.fragment_text.Goals as goal

pub returns : goal.returns
returns c =
    let t = c.args.tree.now in
    let lines = c.args.lines.now in
    c.assigns_text.ensures.read (are_unfed t lines c.requires.lines) (are_apart t lines c.requires.apart)
