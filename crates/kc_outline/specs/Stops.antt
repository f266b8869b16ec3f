-- Steps: why a line that was not read is not added: this project's own.
use Rattle.std.specs.Prelude.{Option, Some, None}
use Rattle.kc_statement.specs.declared.mistake.Unread.{Unread}
use Rattle.kc_statement.specs.declared.mistake.Unread.TheVariants as unread
use Rattle.kc_outline.specs.declared.fault.LineProblem.{LineProblem}
use Rattle.kc_outline.specs.declared.fault.LineProblem.TheVariants.{Malformed}
use Rattle.kc_outline.specs.declared.stop.Stop.{Stop}
use Rattle.kc_outline.specs.declared.stop.Stop.TheVariants.{Problem, Form, NoMemory}

abbrev pub stop_of : Unread → Stop
stop_of unread.NoMemory = NoMemory
stop_of (unread.At m) = Form m

-- the problem of a line that was not added
abbrev pub problem_in : Stop → Option LineProblem
problem_in (Problem problem) = Some problem
problem_in (Form m) = Some Malformed
problem_in NoMemory = None
