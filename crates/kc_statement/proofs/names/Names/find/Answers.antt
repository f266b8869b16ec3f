use Rattle.std.proofs.Common.{◌≡◌, ◌≤◌, sym, ◌∙◌, position, ap, length, arith}
use Rattle.std.specs.Str.{bytes_eq}
use Rattle.std.specs.String.{string_bytes}
use Rattle.kc_statement.specs.declared.limits.TheConstants.{MOST_SYMBOLS}
use Rattle.kc_statement.proofs.NamesLemmas.{position-map, few_found, as_many}
use Rattle.kc_statement.proofs.names.Names.find.Goals as goal

found : (c : goal.After-get_index_of) → c.get_index_of.result ≡ position (bytes_eq c.args.name.now) c.args.self.now
found c =
    c.get_index_of.ensures.index
    ∙ sym (position-map string_bytes (bytes_eq c.args.name.now) c.self.inside.set.keys)
    ∙ ap (position (bytes_eq c.args.name.now)) c.self.view_is

pub returns-clause-number : goal.returns-clause-number
returns-clause-number c = found c

pub returns-clause-few : goal.returns-clause-few
returns-clause-few c =
    let few : length c.args.self.now ≤ MOST_SYMBOLS = omega (arith, as_many c.self.inside.set.keys c.args.self.now c.self.view_is, c.self.invariant.1) in
    few_found (bytes_eq c.args.name.now) c.args.self.now c.get_index_of.result (found c) few
