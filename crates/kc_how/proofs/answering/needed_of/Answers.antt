use Rattle.std.proofs.Common.{List, subst}
use Rattle.kc_files.specs.declared.assign.Assign.{Assign}
use Rattle.kc_how.specs.Question.{IsEnoughFor}
use Rattle.kc_how.proofs.AnswerLaws.{not_apart}
use Rattle.kc_how.proofs.answering.needed_of.Goals as goal

pub returns-then-not-are_apart-clause-none : goal.returns-then-not-are_apart-clause-none
returns-then-not-are_apart-clause-none c =
    let q = c.args.question.now.asked in
    subst (λ (lines : List Assign). IsEnoughFor q lines → ⊥) c.as_slice-2.ensures.value
    (not_apart q c.tree-tree.result.now c.as_slice-2.result.now c.are_apart.result c.tree-tree.ensures c.are_apart.ensures c.if-not-are_apart.true)
