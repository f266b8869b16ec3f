use Rattle.std.proofs.Common.{◌≡◌, [], ap, length, rules, subst}
use Rattle.std.specs.Option.{IfNone, IfSome}
use Rattle.std.specs.Str.Lines.{lines}
use Rattle.kc_text.specs.LeadingItem.{BeginsWith}
use Rattle.kc_line_facts.proofs.VariableLaws.{have_all, have_more}
use Rattle.kc_line_facts.proofs.named_variables.file_variables.Goals as goal

pub loop-found-preserved-in_ok-push_item : goal.loop-found-preserved-in_ok-push_item
loop-found-preserved-in_ok-push_item c =
    let begins = subst (λ o. IfSome o (λ i. BeginsWith (lines c.loop-found.rest.now) i.0 (lines i.1.now))) c.in-Some.is c.in_ok-item.ensures.begins in
    record {
      utf8 = search rules;
      within = search rules;
      have = have_more c.loop-found.before (lines c.loop-found.rest.now) (lines c.in-Some.after.now) (lines c.args.text.now) c.in-Some.item c.more.result c.in_ok-push_item.ensures.uses.0
          c.loop-found.found.uses.items c.push_item.new.found.uses.items c.loop-found.found.definitions.items c.push_item.new.found.definitions.items
          c.loop-found.found.sources.items c.push_item.new.found.sources.items begins c.in_ok-push_item.ensures.uses.1 c.more.ensures c.in_ok-push_item.ensures.uses.2
          c.in_ok-push_item.ensures.definitions c.in_ok-push_item.ensures.sources c.loop-found.invariant.have;
    }

pub loop-found-preserved : goal.loop-found-preserved
loop-found-preserved c =
    let begins = subst (λ o. IfSome o (λ i. BeginsWith (lines c.loop-found.rest.now) i.0 (lines i.1.now))) c.in-Some.is c.in_ok-item.ensures.begins in
    record {
      utf8 = search rules;
      within = search rules;
      have = have_more c.loop-found.before (lines c.loop-found.rest.now) (lines c.in-Some.after.now) (lines c.args.text.now) c.in-Some.item c.more.result c.in_ok-push_item.ensures.uses.0
          c.loop-found.found.uses.items c.push_item.new.found.uses.items c.loop-found.found.definitions.items c.push_item.new.found.definitions.items
          c.loop-found.found.sources.items c.push_item.new.found.sources.items begins c.in_ok-push_item.ensures.uses.1 c.more.ensures c.in_ok-push_item.ensures.uses.2
          c.in_ok-push_item.ensures.definitions c.in_ok-push_item.ensures.sources c.loop-found.invariant.have;
    }

pub returns : goal.returns
returns c =
    let none = subst (λ o. IfNone o (c.loop-found.rest.now ≡ [])) c.in_default.is c.in_ok-item.ensures.none in
    have_all c.loop-found.before (lines c.loop-found.rest.now) (lines c.args.text.now) c.loop-found.found.uses.items
    c.loop-found.found.definitions.items c.loop-found.found.sources.items (ap lines none) c.loop-found.invariant.have
