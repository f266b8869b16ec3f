-- This project's own: what is said of a word after the files that is not NAME=VALUE.
use Rattle.std.specs.Prelude.{ℕ, Bool, List, if◌then◌else◌}
use Rattle.std.specs.List.{list_any}
use Rattle.kc_command_line.specs.declared.hints.HintKind.{HintKind}
use Rattle.kc_command_line.specs.declared.hints.HintKind.TheVariants.{TakesNoConfig, NoEqualsSign, NoName}
use Rattle.kc_command_line.specs.Variables.{is_equals}

-- with an `=`, what is before it is no name; without one it may be a CONFIG, where the target takes none
abbrev pub hint_of : Bool → List ℕ → HintKind
hint_of takes_config word =
    if list_any is_equals word then NoName else (if takes_config then NoEqualsSign else TakesNoConfig)
