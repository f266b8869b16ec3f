use Rattle.std.proofs.Common.{◌<◌, ℕ, List, [], ◌∷◌, ◌++◌, cond, map, length, ◌∙◌, ap, arith}
use Rattle.std.specs.List.{list_any}
use Rattle.std.specs.Str.{bytes_eq}
use Rattle.std.specs.String.{string_bytes}
use Rattle.kc_statement.specs.declared.limits.TheConstants.{MOST_SYMBOLS}
use Rattle.kc_statement.proofs.NamesLemmas.{names-insert_key, names_stay_distinct, few_inserted, with_name-room, as_many}
use Rattle.kc_statement.proofs.names.Names.add.Goals as goal

pub returns-in_ok-insert-clause-added : goal.returns-in_ok-insert-clause-added
returns-in_ok-insert-clause-added c =
    let room : length c.args.self.now < MOST_SYMBOLS =
    omega (arith, c.if-len-lt-MOST_SYMBOLS.true, c.len.ensures.len, as_many c.self.inside.set.keys c.args.self.now c.self.view_is) in
    ap (map string_bytes) c.in_ok-insert.ensures.keys
    ∙ names-insert_key c.self.inside.set.keys c.in_ok-name.name
    ∙ ap (λ (w : List ℕ). cond (list_any (bytes_eq w) (map string_bytes c.self.inside.set.keys)) (map string_bytes c.self.inside.set.keys) (map string_bytes c.self.inside.set.keys ++ w ∷ [])) c.in_ok-name.ensures.ok
    ∙ ap (λ (names : List (List ℕ)). cond (list_any (bytes_eq c.args.name.now) names) names (names ++ c.args.name.now ∷ [])) c.self.view_is
    ∙ with_name-room c.args.self.now c.args.name.now room

pub invariant_of-self : goal.invariant_of-self
invariant_of-self c =
    let room : length c.self.inside.set.keys < MOST_SYMBOLS = omega (arith, c.if-len-lt-MOST_SYMBOLS.true, c.len.ensures.len) in (
      rw (ap (map string_bytes) c.in_ok-insert.ensures.keys ∙ names-insert_key c.self.inside.set.keys c.in_ok-name.name)
          (names_stay_distinct (map string_bytes c.self.inside.set.keys) (string_bytes c.in_ok-name.name) c.self.invariant.0),
      rw c.in_ok-insert.ensures.keys (few_inserted c.self.inside.set.keys c.in_ok-name.name room),
    )
