use Rattle.std.proofs.Common.{◌≡◌, map, drop}
use Rattle.kc_text.specs.Expansion.{texts_in}
use Rattle.kc_text.specs.FileList.{file_list}
use Rattle.kc_text.specs.Vars.{vars_of}
use Rattle.kc_text.proofs.Pairs.{pair_of, after_left}
use Rattle.kc_text.proofs.variables.Vars.from_pairs.Given as goal

-- the texts so far and the pairs that are left give what all pairs give
abbrev pub invariant-loop-name : goal.invariant-loop-name
invariant-loop-name l = vars_of (map pair_of l.pairs) ≡ after_left (drop l.name-index l.pairs) (texts_in (file_list l.texts))
