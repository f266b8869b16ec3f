use Rattle.std.proofs.Common.{◌∙◌, ap, []}
use Rattle.kc_folder.specs.PathsRead.{once}
use Rattle.kc_folder.proofs.read_paths.paths_read.Goals as goal

pub returns : goal.returns
returns c = record {
  ends = c.in_ok-ends.ends.items;
  in_order = c.in_ok-ends.ensures;
  listed = c.in_ok-paths.ensures ∙ ap (once []) c.as_slice.ensures.value;
}
