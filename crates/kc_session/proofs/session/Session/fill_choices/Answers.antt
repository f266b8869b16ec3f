use Rattle.std.proofs.Common.{◌≡◌, ◌*◌, ◌∙◌, ℕ, length, map, sym, ap}
use Rattle.std.specs.List.{range_with_len}
use Rattle.kc_outline.specs.TreeValue.{TreeValue}
use Rattle.kc_tree.specs.Nodes.{node_at}
use Rattle.kc_session.specs.Keeping.{choice_nodes}
use Rattle.kc_session.specs.Session.{SessionState}
use Rattle.kc_session.proofs.AskedLaws.{numbers_kept, on_ok}
use Rattle.kc_session.proofs.session.Session.fill_choices.Goals as goal

pub returns-clause-done : goal.returns-clause-done
returns-clause-done c =
    let t = c.self.inside.tree in
    let same : t ≡ c.args.self.now.session.tree = ap (λ (s : SessionState). s.session.tree) c.self.view_is in
    let symbols : length c.symbols.result.now ≡ length t.symbols = ap length c.symbols.ensures.symbols in
    let choices : length c.choices.result.now ≡ length t.choices = ap length c.choices.ensures.choices in
    let is : choice_nodes c.args.self.now.session.tree ≡ map (node_at t) (range_with_len (2 * length c.symbols.result.now) (2 * length c.choices.result.now)) =
    ap (λ (x : TreeValue). choice_nodes x) (sym same)
    ∙ ap (λ (k : ℕ). map (node_at t) (range_with_len (2 * k) (2 * length t.choices))) (sym symbols)
    ∙ ap (λ (k : ℕ). map (node_at t) (range_with_len (2 * length c.symbols.result.now) (2 * k))) (sym choices)
    in
    on_ok c.fill_numbers.result
    (numbers_kept t c.fill_numbers.new.self.values (2 * length c.symbols.result.now) (2 * length c.choices.result.now) (choice_nodes c.args.self.now.session.tree) is)
    c.fill_numbers.ensures.done
