use Rattle.std.proofs.Common.{rules}
use Rattle.kc_outline.proofs.AddedLaws.{no_attribute}
use Rattle.kc_outline.proofs.outline.Outline.add_attribute.Goals as goal

pub returns-in_err-read_type-in-Bool-clause-stop : goal.returns-in_err-read_type-in-Bool-clause-stop
returns-in_err-read_type-in-Bool-clause-stop c =
    let stop = c.in_err-read_type-in-Bool.ensures.stop c.args.context.now.statement in
    search (rules, stop)

pub returns-in_err-read_type-in-Tristate-clause-stop : goal.returns-in_err-read_type-in-Tristate-clause-stop
returns-in_err-read_type-in-Tristate-clause-stop c =
    let stop = c.in_err-read_type-in-Tristate.ensures.stop c.args.context.now.statement in
    search (rules, stop)

pub returns-in_err-read_type-in-String-clause-stop : goal.returns-in_err-read_type-in-String-clause-stop
returns-in_err-read_type-in-String-clause-stop c =
    let stop = c.in_err-read_type-in-String.ensures.stop c.args.context.now.statement in
    search (rules, stop)

pub returns-in_err-read_type-in-Int-clause-stop : goal.returns-in_err-read_type-in-Int-clause-stop
returns-in_err-read_type-in-Int-clause-stop c =
    let stop = c.in_err-read_type-in-Int.ensures.stop c.args.context.now.statement in
    search (rules, stop)

pub returns-in_err-read_type-in-Hex-clause-stop : goal.returns-in_err-read_type-in-Hex-clause-stop
returns-in_err-read_type-in-Hex-clause-stop c =
    let stop = c.in_err-read_type-in-Hex.ensures.stop c.args.context.now.statement in
    search (rules, stop)

pub returns-in_err-read_typed_default-in-DefBool-clause-stop : goal.returns-in_err-read_typed_default-in-DefBool-clause-stop
returns-in_err-read_typed_default-in-DefBool-clause-stop c =
    let stop = c.in_err-read_typed_default-in-DefBool.ensures.stop c.args.context.now.statement in
    search (rules, stop)

pub returns-in_err-read_typed_default-in-DefTristate-clause-stop : goal.returns-in_err-read_typed_default-in-DefTristate-clause-stop
returns-in_err-read_typed_default-in-DefTristate-clause-stop c =
    let stop = c.in_err-read_typed_default-in-DefTristate.ensures.stop c.args.context.now.statement in
    search (rules, stop)

pub returns-in_err-read_depends-in-Depends-clause-stop : goal.returns-in_err-read_depends-in-Depends-clause-stop
returns-in_err-read_depends-in-Depends-clause-stop c =
    let stop = c.in_err-read_depends-in-Depends.ensures.stop c.args.context.now.statement in
    search (rules, stop)

pub returns-in_err-read_select-in-Select-clause-stop : goal.returns-in_err-read_select-in-Select-clause-stop
returns-in_err-read_select-in-Select-clause-stop c =
    let stop = c.in_err-read_select-in-Select.ensures.stop c.args.context.now.statement in
    search (rules, stop)

pub returns-in_err-read_imply-in-Imply-clause-stop : goal.returns-in_err-read_imply-in-Imply-clause-stop
returns-in_err-read_imply-in-Imply-clause-stop c =
    let stop = c.in_err-read_imply-in-Imply.ensures.stop c.args.context.now.statement in
    search (rules, stop)

pub returns-in_err-read_help-in-Help-clause-stop : goal.returns-in_err-read_help-in-Help-clause-stop
returns-in_err-read_help-in-Help-clause-stop c =
    let stop = c.in_err-read_help-in-Help.ensures.stop c.args.self.now c.args.context.now.statement in
    search (rules, stop)

pub returns-in_err-read_prompt-in-Prompt-clause-stop : goal.returns-in_err-read_prompt-in-Prompt-clause-stop
returns-in_err-read_prompt-in-Prompt-clause-stop c =
    let stop = c.in_err-read_prompt-in-Prompt.ensures.stop c.args.context.now.statement in
    search (rules, stop)

pub returns-in_err-read_range-in-Range-clause-stop : goal.returns-in_err-read_range-in-Range-clause-stop
returns-in_err-read_range-in-Range-clause-stop c =
    let stop = c.in_err-read_range-in-Range.ensures.stop c.args.context.now.statement in
    search (rules, stop)

pub returns-in_err-read_visible-in-Visible-clause-stop : goal.returns-in_err-read_visible-in-Visible-clause-stop
returns-in_err-read_visible-in-Visible-clause-stop c =
    let stop = c.in_err-read_visible-in-Visible.ensures.stop c.args.context.now.statement in
    search (rules, stop)

pub returns-in_err-read_modules-in-Modules-clause-stop : goal.returns-in_err-read_modules-in-Modules-clause-stop
returns-in_err-read_modules-in-Modules-clause-stop c =
    let stop = c.in_err-read_modules-in-Modules.ensures.stop c.args.context.now.statement in
    search (rules, stop)

pub returns-in_err-read_option-in-Option-clause-stop : goal.returns-in_err-read_option-in-Option-clause-stop
returns-in_err-read_option-in-Option-clause-stop c =
    let stop = c.in_err-read_option-in-Option.ensures.stop c.args.context.now.statement in
    search (rules, stop)

pub returns-in_err-read_optional-in-Optional-clause-stop : goal.returns-in_err-read_optional-in-Optional-clause-stop
returns-in_err-read_optional-in-Optional-clause-stop c =
    let stop = c.in_err-read_optional-in-Optional.ensures.stop c.args.context.now.statement in
    search (rules, stop)

pub returns-in_default-clause-other : goal.returns-in_default-clause-other
returns-in_default-clause-other c = λ none.
    no_attribute c.args.keyword c.in_default.not-Bool c.in_default.not-Tristate c.in_default.not-String c.in_default.not-Int c.in_default.not-Hex c.in_default.not-DefBool c.in_default.not-DefTristate c.in_default.not-Default c.in_default.not-Prompt c.in_default.not-Range c.in_default.not-Depends c.in_default.not-Visible c.in_default.not-Select c.in_default.not-Imply c.in_default.not-Modules c.in_default.not-Option c.in_default.not-Optional c.in_default.not-Help
