use Rattle.std.proofs.Common.{ℕ, List, [], ◌∷◌, ◌++◌, map, subst, sym, ap, ◌∙◌}
use Rattle.std.proofs.lemmas.List.{append-nil}
use Rattle.kc_tree.specs.Nodes.{node_in}
use Rattle.kc_tree.specs.Users.{IsPath, users_left, whole_users}
use Rattle.kc_tree.proofs.UserLaws.{first_path, last_first}
use Rattle.kc_tree.proofs.node_users.NodeUsers.of.Goals as goal

pub invariant_of-result : goal.invariant_of-result
invariant_of-result c =
    let one = last_first (λ r. r.now) c.push.new.self.items [] c.args.row (c.push.ensures.items ∙ ap (λ xs. xs ++ c.args.row ∷ []) c.new-left.ensures) in
    (c.requires.few, subst (IsPath c.args.nodes c.args.users.now) (sym one) (first_path c.args.nodes c.args.users.now c.args.row.now c.requires.leveled c.requires.inside))

pub returns : goal.returns
returns c =
    let one = last_first (λ r. r.now) c.push.new.self.items [] c.args.row (c.push.ensures.items ∙ ap (λ xs. xs ++ c.args.row ∷ []) c.new-left.ensures) in
    ap (λ (rows : List (List ℕ)). map (node_in c.args.symbols) (users_left c.args.nodes c.args.users.now rows)) one
    ∙ ap (map (node_in c.args.symbols)) (append-nil (whole_users c.args.nodes c.args.users.now c.args.row.now))
