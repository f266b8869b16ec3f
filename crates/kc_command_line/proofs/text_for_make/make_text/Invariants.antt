use Rattle.std.proofs.Common.{◌≡◌, map}
use Rattle.std.specs.List.{flat_map}
use Rattle.kc_command_line.specs.MakeText.{make_line}
use Rattle.kc_command_line.proofs.text_for_make.make_text.Given as goal

abbrev pub invariant-loop-line : goal.invariant-loop-line
invariant-loop-line l = l.text.items ≡ flat_map make_line (map (λ line. line.now) l.yielded)
