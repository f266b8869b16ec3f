use Rattle.std.proofs.Common.{◌≡◌, [], ap, subst, ◌∙◌}
use Rattle.std.specs.Result.{IfOk}
use Rattle.std.specs.String.{string_bytes}
use Rattle.std.proofs.lemmas.Result.{IfOk-weaker}
use Rattle.kc_files.specs.ConfigText.{config_text_of}
use Rattle.kc_tree.specs.Nodes.{all_nodes}
use Rattle.kc_value.specs.Solution.{solution}
use Rattle.kc_value.specs.Solved.{SolvedValue}
use Rattle.kc_session.specs.declared.command.Refusal.TheVariants.{NoMemory}
use Rattle.kc_session.specs.Effect.{config_outcome, IsReplyTo}
use Rattle.kc_session.specs.Session.{IsSound, SessionState, SessionValue}
use Rattle.kc_session.proofs.AskedLaws.{asks_all, asks_refused, known_agrees}
use Rattle.kc_session.proofs.Outcomes.{text_answered, text_starved}
use Rattle.kc_session.proofs.session.Session.config.Goals.{in-Ok, in-Err}
use Rattle.kc_session.proofs.session.Session.config.Goals as goal

pub returns-clause-reply : goal.returns-clause-reply
returns-clause-reply c =
    let new = c.fill_all.new.self in
    let a = solution new.session.tree new.session.user in
    elim c.match-fill_all.branch [
      | in-Ok w ↦
          let s = w.solved.result in
          let k = w.known.result.now in
          let agrees = known_agrees new s k w.solved.ensures.solved w.known.ensures.tree w.known.ensures.values (w.solved.ensures.all w.in-Ok.ensures.all) in
          let trees : k.tree ≡ new.session.tree = w.known.ensures.tree ∙ ap (λ (x : SolvedValue). x.tree) w.solved.ensures.solved in
          let prefix : c.self.inside.prefix ≡ new.session.prefix = ap (λ (x : SessionState). x.session.prefix) c.self.view_is in
          let text : IfOk w.config_text_over.result (λ text. string_bytes text ≡ config_text_of new.session.tree new.session.prefix [] a) =
          IfOk-weaker w.config_text_over.result _ _ (λ text is. is a agrees ∙ (λ i. config_text_of (trees i) (prefix i) [] a)) w.config_text_over.ensures in
          rw w.result-is (subst (λ (x : SessionValue). IsReplyTo w.text_reply.result (config_outcome x)) c.fill_all.ensures.grew.session (text_answered string_bytes new.session (config_text_of new.session.tree new.session.prefix [] a) w.config_text_over.result w.text_reply.result text w.text_reply.ensures.text w.text_reply.ensures.starved))
      | in-Err w ↦ rw w.result-is (text_starved c.args.self.now.session _)
    ]

pub returns-clause-asks : goal.returns-clause-asks
returns-clause-asks c =
    let old = c.args.self.now in
    let new = c.fill_all.new.self in
    elim c.match-fill_all.branch [
      | in-Ok w ↦ asks_all old new c.match-fill_all.result (subst IsSound c.self.view_is c.self.invariant) c.fill_all.ensures.grew w.in-Ok.ensures.all
      | in-Err w ↦ rw w.result-is (asks_refused (all_nodes old.session.tree) old new NoMemory c.fill_all.ensures.grew)
    ]
