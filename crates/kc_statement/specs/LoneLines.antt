-- What a line says that is its keyword alone, or an `option`: kconfig-language.rst, "Menu entries" and "Menu attributes".
use Rattle.std.specs.Prelude.{Option, Some, None}
use Rattle.kc_statement.specs.declared.attribute.Setting.{Setting}
use Rattle.kc_statement.specs.declared.attribute.Setting.TheVariants as setting
use Rattle.kc_statement.specs.declared.keyword.Keyword.{Keyword}
use Rattle.kc_statement.specs.declared.keyword.Keyword.TheVariants as keyword
use Rattle.kc_statement.specs.declared.statement.Statement.{Statement}
use Rattle.kc_statement.specs.declared.statement.Statement.TheVariants as statement

-- the statement of a line that is its keyword alone
abbrev pub lone_statement : Keyword → Option Statement
lone_statement keyword.EndMenu = Some statement.EndMenu
lone_statement keyword.EndIf = Some statement.EndIf
lone_statement keyword.Choice = Some statement.Choice
lone_statement keyword.EndChoice = Some statement.EndChoice
lone_statement keyword.Modules = Some statement.Modules
lone_statement keyword.Optional = Some statement.Optional
lone_statement keyword.Help = Some statement.Help
lone_statement _ = None

-- what an `option` line says
abbrev pub said_by_option : Setting → Statement
said_by_option setting.Modules = statement.Modules
said_by_option setting.AllNoConfigYes = statement.AllNoConfigYes
