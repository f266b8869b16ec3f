-- Steps: what the objects of the menu tree are made from, as contracts see it: this project's own record.
use Rattle.std.specs.Prelude.{List}
use Rattle.kc_text.specs.LineValue.{LineValue}
use Rattle.kc_value.specs.Solved.{SolvedValue}
use Rattle.kc_menu.specs.declared.help.Help.{Help}

-- a tree with its values, its lines, and whether help texts are wanted
pub record InputsValue : Type 0 where
  pub view : SolvedValue
  pub lines : List LineValue
  pub help : Help
