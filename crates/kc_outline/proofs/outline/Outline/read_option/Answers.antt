use Rattle.std.proofs.Common.{rules, Option}
use Rattle.kc_statement.specs.LineParts.{SaysOnly}
use Rattle.kc_statement.specs.LoneLines.{said_by_option}
use Rattle.kc_statement.specs.declared.attribute.Setting.{Setting}
use Rattle.kc_statement.specs.declared.attribute.Setting.TheVariants as setting
use Rattle.kc_statement.specs.declared.keyword.Keyword.{Keyword}
use Rattle.kc_statement.specs.declared.statement.Statement.TheVariants as statement
use Rattle.kc_outline.specs.declared.id.BlockId.{BlockId}
use Rattle.kc_outline.specs.declared.id.ChoiceId.{ChoiceId}
use Rattle.kc_outline.specs.Reader.{IsAdded}
use Rattle.kc_outline.proofs.outline.Outline.read_option.Goals as goal

pub returns-in-Modules-clause-added : goal.returns-in-Modules-clause-added
returns-in-Modules-clause-added c =
    let says : SaysOnly c.args.self.now.names c.args.line.now statement.Modules = rw c.in-Modules.is at (c.in_ok-setting.ensures c.args.self.now.names) in
    search (rules, says)

pub returns-in-AllNoConfigYes-clause-added : goal.returns-in-AllNoConfigYes-clause-added
returns-in-AllNoConfigYes-clause-added c =
    let says : SaysOnly c.args.self.now.names c.args.line.now statement.AllNoConfigYes = rw c.in-AllNoConfigYes.is at (c.in_ok-setting.ensures c.args.self.now.names) in
    search (rules, says)

pub returns-in_default-clause-added : goal.returns-in_default-clause-added
returns-in_default-clause-added c = of_setting c.in_ok-setting.setting (c.in_ok-setting.ensures c.args.self.now.names) where
  of_setting : (s : Setting) → SaysOnly c.args.self.now.names c.args.line.now (said_by_option s) → (nearest : Option Keyword) (block : Option BlockId) (choice : Option ChoiceId) → IsAdded nearest block choice c.args.owner c.args.line.now c.args.self.now c.args.self.now
  of_setting setting.Modules says = search (rules, says)
  of_setting setting.AllNoConfigYes says = search (rules, says)
