-- Which assignments of a `.config` have their effect: this project's own.
use Rattle.std.specs.Prelude.{◌≡◌, ◌<◌, ℕ, Bool, false}
use Rattle.std.specs.Option.{option_map_or}
use Rattle.kc_statement.specs.declared.id.SymId.{SymId}
use Rattle.kc_tree.specs.declared.node.Node.TheVariants.{Val}
use Rattle.kc_tree.specs.declared.user_value.UserVal.{UserVal}
use Rattle.kc_value.specs.declared.value.Value.{Value}
use Rattle.kc_value.specs.declared.value.Value.TheVariants.{Tri as Level, Shown, Member}
use Rattle.kc_value.specs.Assignment.{Assignment}
use Rattle.kc_value.specs.ChangedValue.{same_user_value}
use Rattle.kc_files.specs.declared.assign.Assign.{Assign}
use Rattle.kc_files.specs.declared.numbered_lines.ConfigLine.{ConfigLine}
use Rattle.kc_files.specs.declared.numbered_lines.LineSays.{LineSays}
use Rattle.kc_files.specs.declared.numbered_lines.LineSays.TheVariants as said
use Rattle.kc_files.specs.ConfigReading.{names_symbol}
use Rattle.kc_files.specs.NumberedLines.{assign_of}

-- The symbol has the value that it is assigned, written or not. So y has its effect for a member of a choice where that is
-- selected, and n where it is not.
abbrev pub HasEffect : Assignment → Assign → Type 0
HasEffect a x = (written : Bool) × (a (Val x.symbol) ≡ Shown x.value written)

-- the test of that: the value that a symbol shows is this one, a text byte for byte
abbrev pub shows : Value → UserVal → Bool
shows (Level v) x = false
shows (Shown y written) x = same_user_value y x
shows (Member m) x = false

abbrev pub has_effect : Assignment → Assign → Bool
has_effect a x = shows (a (Val x.symbol)) x.value

-- ---- lines
-- a usable line that names this symbol
abbrev pub line_names : SymId → ConfigLine → Bool
line_names s line = option_map_or (names_symbol s) (assign_of line) false

-- the symbol of a usable line is below the count of symbols
abbrev pub IsSaidInside : ℕ → LineSays → Type 0
IsSaidInside symbols (said.Usable x) = x.symbol.0 < symbols
IsSaidInside symbols (said.Warned k) = Unit {0}
