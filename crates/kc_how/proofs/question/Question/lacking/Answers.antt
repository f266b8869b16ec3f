use Rattle.std.proofs.Common.{◌≡◌, ◌∙◌, ap, subst}
use Rattle.std.specs.Prelude.{IfOk}
use Rattle.kc_value.specs.Solution.{solution}
use Rattle.kc_value.specs.UserValues.{UserValues}
use Rattle.kc_files.specs.declared.loading.Load.TheVariants.{Merge}
use Rattle.kc_files.specs.Loading.{user_after}
use Rattle.kc_how.specs.Question.{Asked, IsFirstLacking, IsLacking, QuestionValue}
use Rattle.kc_how.proofs.question.Question.lacking.Goals as goal

pub returns-clause-lacking : goal.returns-clause-lacking
returns-clause-lacking c =
    let t = c.self.inside.tree.now in
    let u = c.self.inside.user.now in
    let lines = c.args.lines.items in
    let asked : Asked = record { tree = t; user = u; wanted = c.self.inside.wanted.now } in
    let tried : c.edit.new.user ≡ user_after t u Merge lines =
    c.edit.ensures.values ∙ c.apply.ensures.values ∙ ap (λ (w : UserValues). user_after t w Merge lines) c.in_ok-next.ensures in
    let here : IfOk c.first_lacking.result (IsLacking asked lines) =
    subst (λ (w : UserValues). IfOk c.first_lacking.result (IsFirstLacking (solution t w) asked.wanted)) tried c.first_lacking.ensures.lacking in
    subst (λ (q : QuestionValue). IfOk c.first_lacking.result (IsLacking q.asked lines)) c.self.view_is here
