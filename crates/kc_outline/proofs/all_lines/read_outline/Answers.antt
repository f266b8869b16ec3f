use Rattle.std.proofs.Common.{rules, ◌≡◌, ◌-◌, ◌<◌, ◌^◌, length, reverse, take, count_by, ◌∷◌, sym, ap, ◌∙◌, arith}
use Rattle.std.proofs.Common.{Some}
use Rattle.std.proofs.lemmas.List.{length-reverse, length-take, length-take-le}
use Rattle.std.proofs.lemmas.Option.{slice_get-get_or}
use Rattle.std.proofs.lemmas.List.Sums.{count_by-le-length}
use Rattle.std.proofs.Math.Seq.{take-length}
use Rattle.kc_statement.specs.Keywords.{is_choice, is_config, is_opener}
use Rattle.kc_statement.specs.Names.{names_of}
use Rattle.kc_outline.specs.Reader.{IsOutlineAfter}
use Rattle.kc_outline.specs.ContextAfter.{IsContextAfter}
use Rattle.kc_outline.proofs.Counts.{has_room, count_reverse, choices_of_outline}
use Rattle.kc_outline.proofs.OutlineFacts.{first_outline_of, outline_at, context_at, first_fault, symbols_of_outline, names_of_outline, entries_of_outline, whole, outline_of}
use Rattle.kc_outline.proofs.EnclosedLaws.{enclosing_of_outline}
use Rattle.kc_outline.proofs.FirstLaws.{firsts_of_outline}
use Rattle.kc_outline.proofs.MemberLaws.{members_of_outline}
use Rattle.kc_outline.proofs.MenuLaws.{menus_of_outline}
use Rattle.kc_outline.proofs.NameLaws.{names_of_lines}
use Rattle.kc_outline.proofs.NestedLaws.{blocks_of_outline, definitions_of_outline, nested_of_outline}
use Rattle.kc_outline.proofs.OnlyLaws.{one_tree, no_fault}
use Rattle.kc_outline.proofs.all_lines.read_outline.Goals as goal

pub loop-index-init : goal.loop-index-init
loop-index-init c =
    let names = c.in_ok-names.ensures.names in
    let made = c.in_ok-outline.ensures in
    record {
      names = ap (λ x. x.names) made ∙ names;
      outline = first_outline_of c.in_ok-names.names (names_of c.args.lines.now) (length c.args.lines.now - 0) c.in_ok-outline.outline made names;
      context = c.new-context.ensures (names_of c.args.lines.now);
    }

-- the lines before the index are fewer than those that are read
pub read_line-requires-clause-room : goal.read_line-requires-clause-room
read_line-requires-clause-room c =
    let lines = c.args.lines.now in
    let i = c.loop-index.index in
    let read : length (reverse (take i lines)) ≡ i = length-reverse (take i lines) ∙ length-take-le i lines (omega (arith, c.loop-index-test.true)) in
    let few : length (reverse (take i lines)) < 2 ^ 30 = omega (arith, read, c.loop-index-test.true, c.requires) in
    has_room (names_of lines) (reverse (take i lines)) c.loop-index.context c.loop-index.invariant.context few

pub returns-in-Err-clause-fault : goal.returns-in-Err-clause-fault
returns-in-Err-clause-fault c =
    let lines = c.args.lines.now in
    let i = c.loop-index.index in
    (first_fault lines i c.index-lines-index.result c.loop-index.outline.names c.loop-index.outline c.in-Err.stop c.line_fault.result
    (slice_get-get_or lines i c.index-lines-index.result c.loop-index-test.true ∙ ap Some (sym c.index-lines-index.is))
    c.loop-index.invariant.names (search rules) (search rules) c.loop-index-test.true c.line_fault.ensures).fault

pub returns-in-Err-clause-refused : goal.returns-in-Err-clause-refused
returns-in-Err-clause-refused c =
    let lines = c.args.lines.now in
    let i = c.loop-index.index in
    (first_fault lines i c.index-lines-index.result c.loop-index.outline.names c.loop-index.outline c.in-Err.stop c.line_fault.result
    (slice_get-get_or lines i c.index-lines-index.result c.loop-index-test.true ∙ ap Some (sym c.index-lines-index.is))
    c.loop-index.invariant.names (search rules) (search rules) c.loop-index-test.true c.line_fault.ensures).refused

pub loop-index-preserved : goal.loop-index-preserved
loop-index-preserved c =
    let lines = c.args.lines.now in
    let i = c.loop-index.index in
    let before = c.loop-index.invariant in
    let line = c.index-lines-index.result in
    let outline : IsOutlineAfter c.loop-index.outline.names (length lines - i - 1) (line ∷ reverse (take i lines)) c.read_line.new.outline = (search rules) in
    let context : IsContextAfter c.loop-index.outline.names (line ∷ reverse (take i lines)) c.read_line.new.context = (search rules) in
    let more = outline_at (names_of lines) lines i line c.loop-index.outline.names c.read_line.new.outline c.loop-index-test.true c.index-lines-index.is before.names outline in
    record {
      names = names_of_outline _ _ _ _ more;
      outline = more;
      context = context_at (names_of lines) lines i line c.loop-index.outline.names c.read_line.new.context c.loop-index-test.true c.index-lines-index.is before.names context;
    }

pub returns-clause-few : goal.returns-clause-few
returns-clause-few c =
    let after = c.loop-index.invariant.outline in
    let same = symbols_of_outline _ _ _ _ after in
    let few = c.in_ok-names.ensures.few in
    let names = c.in_ok-names.ensures.names in
    let there = ap length names in
    omega (arith, same, few, there)

pub returns-clause-choices : goal.returns-clause-choices
returns-clause-choices c =
    let lines = c.args.lines.now in
    let all : take c.loop-index.index lines ≡ lines = ap (λ i. take i lines) (search rules) ∙ take-length lines in
    choices_of_outline _ _ _ _ c.loop-index.invariant.outline
    ∙ count_reverse is_choice (take c.loop-index.index lines)
    ∙ ap (λ ls. count_by is_choice ls) all

pub returns-clause-few_choices : goal.returns-clause-few_choices
returns-clause-few_choices c =
    let lines = c.args.lines.now in
    let i = c.loop-index.index in
    let count = choices_of_outline _ _ _ _ c.loop-index.invariant.outline ∙ count_reverse is_choice (take i lines) in
    omega (arith, count, count_by-le-length is_choice (take i lines), length-take i lines, c.requires)

pub returns-clause-few_definitions : goal.returns-clause-few_definitions
returns-clause-few_definitions c =
    let lines = c.args.lines.now in
    let i = c.loop-index.index in
    let count = definitions_of_outline _ _ _ _ c.loop-index.invariant.outline ∙ count_reverse is_config (take i lines) in
    omega (arith, count, count_by-le-length is_config (take i lines), length-take i lines, c.requires)

pub returns-clause-few_blocks : goal.returns-clause-few_blocks
returns-clause-few_blocks c =
    let lines = c.args.lines.now in
    let i = c.loop-index.index in
    let count = blocks_of_outline _ _ _ _ c.loop-index.invariant.outline ∙ count_reverse is_opener (take i lines) in
    omega (arith, count, count_by-le-length is_opener (take i lines), length-take i lines, c.requires)

pub returns-clause-named : goal.returns-clause-named
returns-clause-named c =
    let after = c.loop-index.invariant.outline in
    ap length (names_of_outline _ _ _ _ after) ∙ sym (symbols_of_outline _ _ _ _ after)

pub returns-clause-entries : goal.returns-clause-entries
returns-clause-entries c = entries_of_outline _ _ _ _ c.loop-index.invariant.outline

pub returns-clause-members : goal.returns-clause-members
returns-clause-members c = members_of_outline _ _ _ _ c.loop-index.invariant.outline

pub returns-clause-firsts : goal.returns-clause-firsts
returns-clause-firsts c =
    let lines = c.args.lines.now in
    let all : lines ≡ take c.loop-index.index lines = sym (ap (λ i. take i lines) (search rules) ∙ take-length lines) in
    let few = c.in_ok-names.ensures.few in
    let count = ap length c.in_ok-names.ensures.names in
    firsts_of_outline _ _ _ _ (ap names_of all) (omega (arith, few, count)) c.loop-index.invariant.outline

pub returns-clause-names : goal.returns-clause-names
returns-clause-names c = names_of_lines _ (reverse c.args.lines.now) (names_of_outline _ _ _ _ c.loop-index.invariant.outline)

pub returns-clause-menus : goal.returns-clause-menus
returns-clause-menus c = menus_of_outline _ _ _ _ c.loop-index.invariant.outline

pub returns-clause-outline : goal.returns-clause-outline
returns-clause-outline c = outline_of c.args.lines.now c.loop-index.outline (whole c.args.lines.now c.loop-index.index c.loop-index.outline (search rules) c.loop-index.invariant.outline)

pub returns-clause-enclosing : goal.returns-clause-enclosing
returns-clause-enclosing c =
    enclosing_of_outline c.args.lines.now c.loop-index.outline
    (outline_of c.args.lines.now c.loop-index.outline (whole c.args.lines.now c.loop-index.index c.loop-index.outline (search rules) c.loop-index.invariant.outline))

pub returns-clause-only : goal.returns-clause-only
returns-clause-only c = λ t outline.
    let all = whole c.args.lines.now c.loop-index.index c.loop-index.outline (search rules) c.loop-index.invariant.outline in
    one_tree c.args.lines.now all.readings all.read t outline ∙ sym all.tree

pub returns-clause-exact : goal.returns-clause-exact
returns-clause-exact c = λ f found.
    let all = whole c.args.lines.now c.loop-index.index c.loop-index.outline (search rules) c.loop-index.invariant.outline in
    no_fault c.args.lines.now all.readings all.read f found

pub returns-clause-nested : goal.returns-clause-nested
returns-clause-nested c =
    nested_of_outline c.args.lines.now c.loop-index.outline
    (outline_of c.args.lines.now c.loop-index.outline (whole c.args.lines.now c.loop-index.index c.loop-index.outline (search rules) c.loop-index.invariant.outline))
