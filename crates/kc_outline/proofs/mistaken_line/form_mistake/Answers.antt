use Rattle.std.proofs.Common.{rules, ◌≡◌, ℕ, List, [], ap, subst, ◌∙◌, arith}
use Rattle.kc_statement.specs.Statements.{HasNoForm}
use Rattle.kc_outline.proofs.Counts.{has_room}
use Rattle.kc_outline.proofs.mistaken_line.form_mistake.Goals as goal

pub add_line-requires-clause-room : goal.add_line-requires-clause-room
add_line-requires-clause-room c = has_room [] [] c.new-context.result (c.new-context.ensures []) (omega arith)

pub returns-in-Err-Form : goal.returns-in-Err-Form
returns-in-Err-Form c = λ k is.
    let stop = c.in-Err-Form.ensures.stop in
    let none : HasNoForm c.in_ok-outline.outline.names c.args.line.now = search (rules, stop) in
    subst (λ (ns : List (List ℕ)). HasNoForm ns c.args.line.now) (ap (λ t. t.names) c.in_ok-outline.ensures ∙ c.in_ok-names.ensures) none
