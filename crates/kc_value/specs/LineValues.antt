-- Steps: what the lines of a bool or tristate symbol give it, put together as in Rule: this project's own.
use Rattle.std.specs.Prelude.{Bool, not, ◌&&◌, ◌||◌, Option, unwrap_or}
use Rattle.kc_statement.specs.declared.tri.Tri.{Tri}
use Rattle.kc_statement.specs.Tristate.{greatest, is_no, least}
use Rattle.kc_tree.specs.declared.user_value.UserVal.{UserVal}
use Rattle.kc_value.specs.declared.symbol_value.LineValues.{LineValues}
use Rattle.kc_value.specs.Rule.{in_type, user_part}

-- what counts where no user value does
abbrev pub otherwise : LineValues → Tri
otherwise l = least (greatest l.default l.implied) l.direct

-- what the symbol shows with this visibility and user value
abbrev pub shown_by : LineValues → Tri → Option UserVal → Tri
shown_by l vis u = in_type l.has_modules (greatest (unwrap_or (user_part vis u) (otherwise l)) l.selected)

-- whether it has its line
abbrev pub has_line_by : LineValues → Tri → Bool
has_line_by l vis =
    not (is_no vis) || not (is_no l.default) || (not (is_no l.implied) && not (is_no l.direct)) || not (is_no l.selected)
