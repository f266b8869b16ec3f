use Rattle.std.proofs.Common.{ℕ, List, subst}
use Rattle.kc_files.specs.OneReading.{IsReadAs}
use Rattle.kc_session.specs.Session.{IsSound, SessionState}
use Rattle.kc_session.proofs.session.Session.facts.Goals as goal

pub returns-clause-sound : goal.returns-clause-sound
returns-clause-sound c = subst IsSound c.self.view_is c.self.invariant

pub returns-clause-solved : goal.returns-clause-solved
returns-clause-solved c = (returns-clause-sound c).solved

pub returns-clause-laws : goal.returns-clause-laws
returns-clause-laws c = (returns-clause-sound c).laws

pub returns-clause-bodies : goal.returns-clause-bodies
returns-clause-bodies c =
    subst (λ (s : SessionState). (body : List ℕ) → IsReadAs s.session.tree s.session.prefix body) c.self.view_is (λ body. c.as_str.ensures.readings c.self.inside.tree body)

pub returns-clause-stays : goal.returns-clause-stays
returns-clause-stays c = (returns-clause-sound c).laws.edits_nothing c.args.self.now.session.user c.args.self.now.kept
