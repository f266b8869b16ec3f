use Rattle.std.proofs.Common.{◌≡◌, ◌+◌, ◌*◌, ◌-◌, ◌≤◌, true, length}
use Rattle.std.specs.List.{list_all}
use Rattle.kc_statement.specs.Grammar.{factor, part, expression, both, either}
use Rattle.kc_statement.specs.Fronts.{stands_at}
use Rattle.kc_statement.specs.TokenFronts.{symbols_at}
use Rattle.kc_statement.proofs.JoinLaws.{IsPartway}
use Rattle.kc_statement.proofs.expression.ExprParser.+expression.Given as goal

-- a group is read deeper, from a later position; at one position each level calls the one below it
abbrev pub decreases-read_any : goal.decreases-read_any
decreases-read_any l = 4 * (length l.self.now.tokens.now - l.start) + 3

abbrev pub decreases-read_all : goal.decreases-read_all
decreases-read_all l = 4 * (length l.self.now.tokens.now - l.start) + 2

abbrev pub decreases-read_factor : goal.decreases-read_factor
decreases-read_factor l = 4 * (length l.self.now.tokens.now - l.start) + 1

abbrev pub decreases-read_plain : goal.decreases-read_plain
decreases-read_plain l = 4 * (length l.self.now.tokens.now - l.start)

abbrev pub invariant-read_all-factors : goal.invariant-read_all-factors
invariant-read_all-factors l = record {
  from : l.start ≤ l.position;
  so_far : IsPartway l.self.kind part both (symbols_at l.self l.start) l.factors.items (symbols_at l.self l.position);
  kept : list_all (stands_at factor) l.factors.items ≡ true;
}

abbrev pub decreases-read_all-factors : goal.decreases-read_all-factors
decreases-read_all-factors l = length l.self.tokens.now - l.position

abbrev pub invariant-read_any-parts : goal.invariant-read_any-parts
invariant-read_any-parts l = record {
  from : l.start ≤ l.position;
  so_far : IsPartway l.self.kind expression either (symbols_at l.self l.start) l.parts.items (symbols_at l.self l.position);
  kept : list_all (stands_at part) l.parts.items ≡ true;
}

abbrev pub decreases-read_any-parts : goal.decreases-read_any-parts
decreases-read_any-parts l = length l.self.tokens.now - l.position
