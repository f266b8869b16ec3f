use Rattle.std.proofs.Common.{◌∙◌, ap, map, sym}
use Rattle.std.specs.List.{filter_map}
use Rattle.std.proofs.lemmas.List.{map-id}
use Rattle.std.proofs.lemmas.Iterator.{YieldsList-from_slice}
use Rattle.std.proofs.lemmas.Iterator.Consumers.{YieldsList-end, YieldsList-from_copied}
use Rattle.kc_command_line.specs.Variables.{variable_of}
use Rattle.kc_command_line.proofs.FilteredPairs.{kept, passed}
use Rattle.kc_command_line.proofs.variables.variables_of.Goals as goal

pub loop-word-preserved-in-Continue-1 : goal.loop-word-preserved-in-Continue-1
loop-word-preserved-in-Continue-1 c =
    kept variable_of (λ word. word.now) c.loop-word.yielded c.in-Some.word (λ v. (v.0.now, v.1.now)) _ _ _ c.loop-word.invariant c.in_ok-push.ensures.items c.in-Some-variable.ensures

pub loop-word-preserved : goal.loop-word-preserved
loop-word-preserved c =
    passed variable_of (λ word. word.now) c.loop-word.yielded c.in-Some.word (λ v. (v.0.now, v.1.now)) _ c.loop-word.invariant c.in_default.ensures

pub returns : goal.returns
returns c =
    let end = YieldsList-end (YieldsList-from_copied (YieldsList-from_slice c.args.words.now cc)) c.loop-word.yielded _ c.loop-word.yielded_by _ _ c.in-None.is c.next.ensures.steps in
    c.loop-word.invariant ∙ ap (λ words. filter_map variable_of (map (λ word. word.now) words)) (sym (map-id c.loop-word.yielded) ∙ end.0)
