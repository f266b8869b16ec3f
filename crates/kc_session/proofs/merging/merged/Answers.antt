use Rattle.kc_session.proofs.MergedLaws.{config_keeps}
use Rattle.kc_session.proofs.merging.merged.Goals as goal

pub returns-in-Done-clause-all : goal.returns-in-Done-clause-all
returns-in-Done-clause-all c =
    config_keeps c.merge_all.new.session c.apply.new.self c.apply.result c.in-Done.text c.facts-2.ensures.laws c.apply.ensures.applied c.in-Done.is c.apply.ensures.keeps
