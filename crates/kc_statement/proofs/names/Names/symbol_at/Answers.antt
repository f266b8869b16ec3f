use Rattle.std.proofs.Common.{rules, ◌≡◌, ◌<◌, length, Some, option_map, position, sym, ◌∙◌, ap, arith}
use Rattle.std.specs.Str.{bytes_eq}
use Rattle.kc_statement.proofs.NamesLemmas.{number_of, as_many}
use Rattle.kc_statement.proofs.names.Names.symbol_at.Goals as goal

pub returns-then-eq : goal.returns-then-eq
returns-then-eq c =
    let among : c.len.result ≡ length c.self.inside.set.keys = c.len.ensures.len in
    let all = as_many c.self.inside.set.keys c.args.self.now c.self.view_is in
    let within : c.args.likely < length c.args.self.now = omega (arith, c.if-likely-len.true, among, all) in
    let number : Some c.args.likely ≡ position (bytes_eq c.args.name.now) c.args.self.now =
    number_of c.args.name.now c.args.self.now c.args.likely (search rules) within
    (ap (λ found. bytes_eq found c.args.name.now) (sym c.get.ensures) ∙ sym c.if-eq.ensures) in
    ap (option_map (λ k. record { 0 = k })) number
