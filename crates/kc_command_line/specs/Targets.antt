-- This project's own: which words a target takes, and which commands of a session give its output.
use Rattle.std.specs.Prelude.{ℕ, ◌-◌, ◌^◌, Bool, true, false, Option, Some, None}
use Rattle.kc_session.specs.declared.command.Command.{Command}
use Rattle.kc_session.specs.declared.command.Command.TheVariants.{AllNo, AllYes, Config, Header, Defconfig, New}
use Rattle.kc_command_line.specs.declared.targets.Target.{Target}
use Rattle.kc_command_line.specs.declared.targets.Target.TheVariants.{Olddefconfig, Savedefconfig, Listnewconfig, Genheader, Genmake, Allnoconfig, Allyesconfig, Files, Why, Check, Merge, How, Menu, Session}
use Rattle.kc_command_line.specs.declared.targets.Operands.{Operands}
use Rattle.kc_command_line.specs.declared.targets.Operands.TheVariants as operands

-- the command that changes the user values first
abbrev pub edit_of : Target → Option Command
edit_of Allnoconfig = Some AllNo
edit_of Allyesconfig = Some AllYes
edit_of _ = None

-- the command whose text is the output, or is what the output is made from; a list of files, a report and a session have
-- none of their own
abbrev pub query_of : Target → Option Command
query_of Olddefconfig = Some Config
query_of Savedefconfig = Some Defconfig
query_of Listnewconfig = Some New
query_of Genheader = Some Header
query_of Genmake = Some Config
query_of Allnoconfig = Some Config
query_of Allyesconfig = Some Config
query_of Files = None
query_of Why = None
query_of Check = None
query_of Merge = None
query_of How = None
query_of Menu = None
query_of Session = None

-- whether warnings and errors are in words without being asked for: the others write numbers, as other programs read them
abbrev pub is_explained : Target → Bool
is_explained Olddefconfig = false
is_explained Savedefconfig = false
is_explained Listnewconfig = false
is_explained Genheader = false
is_explained Genmake = true
is_explained Allnoconfig = false
is_explained Allyesconfig = false
is_explained Files = true
is_explained Why = true
is_explained Check = true
is_explained Merge = true
is_explained How = true
is_explained Menu = true
is_explained Session = false

-- ---- words
abbrev pub begins_with_config : Operands → Bool
begins_with_config operands.Nothing = false
begins_with_config operands.PerhapsConfig = false
begins_with_config operands.Config = true
begins_with_config operands.ConfigAndSymbols = true
begins_with_config operands.ConfigAndFragments = true
begins_with_config operands.ConfigAndWanted = true

-- the fewest and the most words after them that are no NAME=VALUE: as many as there can be, of symbols, of fragments,
-- and of wanted values, which may all be NAME=VALUE
abbrev pub word_counts : Operands → ℕ × ℕ
word_counts operands.Nothing = (0, 0)
word_counts operands.Config = (0, 0)
word_counts operands.PerhapsConfig = (0, 1)
word_counts operands.ConfigAndSymbols = (1, 2 ^ 64 - 1)
word_counts operands.ConfigAndFragments = (1, 2 ^ 64 - 1)
word_counts operands.ConfigAndWanted = (0, 2 ^ 64 - 1)
