use Rattle.std.proofs.Common.{◌≡◌, ◌≤◌, ◌<◌, ◌∙◌, ℕ, true, false, inl, inr, length, sym, ap, subst, arith}
use Rattle.std.specs.Prelude.{nat_lt}
use Rattle.std.proofs.lemmas.Bool.Decides.{nat_tests}
use Rattle.kc_tree.specs.Nodes.{number_in, IsNodeOf}
use Rattle.kc_tree.proofs.RowLaws.{IsPast, adds_none, adds_number, adds_equal, there_within, there_past}
use Rattle.kc_tree.proofs.uses.reader.Reader.add_node.Goals.{in-Mode2, in-Vis2}
use Rattle.kc_tree.proofs.uses.reader.Reader.add_node.Goals as goal

below : (k n : ℕ) → nat_lt k n ≡ true → k < n
below k n e = grind (arith, nat_tests)

past : (k n : ℕ) → nat_lt k n ≡ false → n ≤ k
past k n e = grind (arith, nat_tests)

pub returns-in_ok-push : goal.returns-in_ok-push
returns-in_ok-push c =
    let t = c.args.self.now.outline.now in
    let n = c.args.node in
    let same : c.match-node.node ≡ n = elim c.match-node.branch [
      | in-Mode2 w ↦ w.node-is ∙ w.in-Mode.node-is
      | in-Vis2 w ↦ w.node-is ∙ w.in-Vis.node-is
    ] in
    let there : IsNodeOf t n = elim c.match-node.branch [
      | in-Mode2 w ↦
          let k = w.in-Mode.choice.0 in
          let small = below k (length t.choices) (ap (λ xs. nat_lt k (length xs)) (sym w.choices.ensures) ∙ sym w.is_there-is ∙ c.if-is_there.true) in
          elim w.in-Mode.is [
            | inl e ↦ subst (IsNodeOf t) (sym e) small
            | inr e ↦ subst (IsNodeOf t) (sym e) small
          ]
      | in-Vis2 w ↦
          let k = w.in-Vis.symbol.0 in
          let small = below k (length t.symbols) (ap (λ xs. nat_lt k (length xs)) (sym c.symbols-symbols.ensures) ∙ sym w.is_there-is ∙ c.if-is_there.true) in
          elim w.in-Vis.is [
            | inl e ↦ subst (IsNodeOf t) (sym e) small
            | inr e ↦ subst (IsNodeOf t) (sym e) small
          ]
    ] in
    let is_number : c.index_in.result ≡ number_in (length t.symbols) n = c.index_in.ensures ∙ ap (number_in (length c.symbols-symbols.result.now)) same ∙ ap (λ xs. number_in (length xs) n) c.symbols-symbols.ensures in
    let added = adds_number (length t.symbols) c.args.row.now.items c.push.new.self.items n c.index_in.result c.in_ok-push.ensures.items is_number in
    adds_equal (length t.symbols) _ _ _ _ (sym (there_within t n there)) added

pub returns-else-is_there : goal.returns-else-is_there
returns-else-is_there c =
    let t = c.args.self.now.outline.now in
    let n = c.args.node in
    let missing : IsPast t n = elim c.match-node.branch [
      | in-Mode2 w ↦
          let k = w.in-Mode.choice.0 in
          let great = past k (length t.choices) (ap (λ xs. nat_lt k (length xs)) (sym w.choices.ensures) ∙ sym w.is_there-is ∙ c.if-is_there.false) in
          elim w.in-Mode.is [
            | inl e ↦ subst (IsPast t) (sym e) great
            | inr e ↦ subst (IsPast t) (sym e) great
          ]
      | in-Vis2 w ↦
          let k = w.in-Vis.symbol.0 in
          let great = past k (length t.symbols) (ap (λ xs. nat_lt k (length xs)) (sym c.symbols-symbols.ensures) ∙ sym w.is_there-is ∙ c.if-is_there.false) in
          elim w.in-Vis.is [
            | inl e ↦ subst (IsPast t) (sym e) great
            | inr e ↦ subst (IsPast t) (sym e) great
          ]
    ] in
    adds_equal (length t.symbols) _ _ _ _ (sym (there_past t n missing)) (adds_none (length t.symbols) c.args.row.now.items)
