use Rattle.std.proofs.Common.{rules, refl}
use Rattle.kc_statement.specs.declared.keyword.Keyword.TheVariants as keyword
use Rattle.kc_statement.proofs.PartLaws.{option_of}
use Rattle.kc_statement.proofs.statement_forms.read_option.Goals as goal

pub returns : goal.returns
returns c = λ names. option_of names c.args.line.now c.after_first.result.now (search rules) c.requires _ (c.setting.ensures.read names) (c.setting.ensures.mistake names)
