use Rattle.std.proofs.Common.{◌≡◌, take}
use Rattle.std.specs.List.{flat_map}
use Rattle.std.specs.String.{string_bytes}
use Rattle.kc_session.specs.Bodies.{warning_line}
use Rattle.kc_session.proofs.load.warnings_text.Given as goal

-- the lines about the warnings so far
abbrev pub invariant-loop-warning : goal.invariant-loop-warning
invariant-loop-warning l =
    string_bytes l.text ≡ flat_map warning_line (take l.warning-index l.warnings)
