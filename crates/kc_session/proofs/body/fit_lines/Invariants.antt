use Rattle.std.proofs.Common.{◌≡◌, length}
use Rattle.std.specs.List.{list_all}
use Rattle.kc_session.specs.Stream.{fits_line, lines_of}
use Rattle.kc_session.proofs.body.fit_lines.Given as goal

-- the lines so far are not too long
abbrev pub invariant-loop-rest : goal.invariant-loop-rest
invariant-loop-rest l =
    list_all fits_line (lines_of l.text) ≡ list_all fits_line (lines_of l.rest)

abbrev pub decreases-loop-rest : goal.decreases-loop-rest
decreases-loop-rest l = length l.rest
