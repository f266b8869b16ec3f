use Rattle.std.proofs.Common.{◌≡◌, ◌++◌, [], drop}
use Rattle.kc_folder.specs.PathsRead.{once}
use Rattle.kc_folder.proofs.read_paths.paths_once.Given as goal

abbrev pub invariant-loop-end : goal.invariant-loop-end
invariant-loop-end l = l.paths.items ++ once l.paths.items (drop l.end-index l.ends) ≡ once [] l.ends
