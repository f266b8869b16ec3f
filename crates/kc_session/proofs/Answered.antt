-- Answering one command more, and the evaluations that it needs.
use Rattle.std.proofs.Common.{◌≡◌, ℕ, ◌+◌, Bool, List, [], ◌∷◌, ◌++◌, length, Option, IsTrue, sum_by, refl, sym, ap, ◌∙◌, subst, append_assoc, append-nil, length-append, arith}
use Rattle.std.proofs.lemmas.List.Sums.{sum_by-cons}
use Rattle.std.specs.Io.KnownBytes.{Appends}
use Rattle.std.proofs.KnownBytes.{Appends-trans, Appends-nil}
use Rattle.kc_tree.specs.declared.node.Node.{Node}
use Rattle.kc_session.specs.EvaluationBound.{HasDirty, HaveDirty, IsBounded, AreBounded}
use Rattle.kc_session.specs.Keeping.{KeepsRight}
use Rattle.kc_session.specs.Replies.{outcome, session_after, reply_to, output_of, session_after_all, MayStarve}
use Rattle.kc_session.specs.Serving.{Answers, AnswersCommand}
use Rattle.kc_session.specs.Session.{SessionValue, SessionState}
use Rattle.kc_session.specs.Steps.{AreSteps, IsStep, none, next}
use Rattle.kc_session.specs.StreamCommands.{StreamCommand}

-- no command was answered yet
pub Answers-nil : (at : Option (List ℕ)) (s : SessionState) → KeepsRight s → Answers [] at at s s
unfolding output_of session_after_all MayStarve
Answers-nil at s right = record {
  starved = [];
  flags = refl;
  may = tt;
  output = Appends-nil at;
  session_is = refl;
  steps = none;
  right = right;
  counts = omega arith;
  bounded = λ all have. omega arith;
}

-- what a list of commands gives with one more at its end
output-push : (s : SessionValue) (cs : List StreamCommand) (fs : List Bool) (c : StreamCommand) (f : Bool) → length fs ≡ length cs
    → output_of s (cs ++ c ∷ []) (fs ++ f ∷ []) ≡ output_of s cs fs ++ reply_to (session_after_all s cs fs) c f
unfolding output_of session_after_all
output-push s [] [] c f e = append-nil _
output-push s [] (g ∷ fs) c f e = absurd (omega (arith, e))
output-push s (d ∷ cs) [] c f e = absurd (omega (arith, e))
output-push s (d ∷ cs) (g ∷ fs) c f e =
    ap (λ rest. reply_to s d g ++ rest) (output-push (session_after s d g) cs fs c f (omega (arith, e)))
    ∙ sym (append_assoc (reply_to s d g) (output_of (session_after s d g) cs fs) _)

session-push : (s : SessionValue) (cs : List StreamCommand) (fs : List Bool) (c : StreamCommand) (f : Bool) → length fs ≡ length cs
    → session_after_all s (cs ++ c ∷ []) (fs ++ f ∷ []) ≡ session_after (session_after_all s cs fs) c f
unfolding session_after_all
session-push s [] [] c f e = refl
session-push s [] (g ∷ fs) c f e = absurd (omega (arith, e))
session-push s (d ∷ cs) [] c f e = absurd (omega (arith, e))
session-push s (d ∷ cs) (g ∷ fs) c f e = session-push (session_after s d g) cs fs c f (omega (arith, e))

MayStarve-push : (s : SessionValue) (cs : List StreamCommand) (fs : List Bool) (c : StreamCommand) (f : Bool) → length fs ≡ length cs
    → MayStarve s cs fs → (IsTrue f → IsTrue (outcome (session_after_all s cs fs) c).takes_memory) → MayStarve s (cs ++ c ∷ []) (fs ++ f ∷ [])
unfolding session_after_all MayStarve
MayStarve-push s [] [] c f e may one = (one, tt)
MayStarve-push s [] (g ∷ fs) c f e may one = absurd (omega (arith, e))
MayStarve-push s (d ∷ cs) [] c f e may one = absurd (omega (arith, e))
MayStarve-push s (d ∷ cs) (g ∷ fs) c f e may one = (may.0, MayStarve-push (session_after s d g) cs fs c f (omega (arith, e)) may.1 one)

steps-push : (cs : List StreamCommand) (fs : List Bool) (c : StreamCommand) (f : Bool) (s m e : SessionState) → AreSteps cs fs s m → IsStep c f m e
    → AreSteps (cs ++ c ∷ []) (fs ++ f ∷ []) s e
steps-push [] [] c f s m e none one = next one none
steps-push [] (g ∷ fs) c f s m e steps one = elim steps [ ]
steps-push (d ∷ cs) [] c f s m e steps one = elim steps [ ]
steps-push (d ∷ cs) (g ∷ fs) c f s m e (next first later) one = next first (steps-push cs fs c f _ m e later one)

-- the lists of dirty nodes of all but the last command, and that of the last
record PartsDirty (s : SessionValue) (cs : List StreamCommand) (fs : List Bool) (c : StreamCommand) (f : Bool) (all : List (List Node)) : Type 0 where
  before : List (List Node)
  last : List Node
  have : HaveDirty s cs fs before
  has : HasDirty (session_after_all s cs fs).tree (session_after_all s cs fs).user (session_after (session_after_all s cs fs) c f).user last
  total : sum_by length all ≡ sum_by length before + length last

HaveDirty-parts : (s : SessionValue) (cs : List StreamCommand) (fs : List Bool) (c : StreamCommand) (f : Bool) (all : List (List Node)) → length fs ≡ length cs
    → HaveDirty s (cs ++ c ∷ []) (fs ++ f ∷ []) all → PartsDirty s cs fs c f all
unfolding session_after_all HaveDirty
HaveDirty-parts s [] [] c f [] e have = absurd have
HaveDirty-parts s [] [] c f (dirty ∷ []) e have = record { before = []; last = dirty; have = tt; has = have.0; total = omega (arith, sum_by-cons length dirty []) }
HaveDirty-parts s [] [] c f (dirty ∷ other ∷ later) e have = absurd have.1
HaveDirty-parts s [] (g ∷ fs) c f all e have = absurd (omega (arith, e))
HaveDirty-parts s (d ∷ cs) [] c f all e have = absurd (omega (arith, e))
HaveDirty-parts s (d ∷ cs) (g ∷ fs) c f [] e have = absurd have
HaveDirty-parts s (d ∷ cs) (g ∷ fs) c f (dirty ∷ later) e have =
    let parts = HaveDirty-parts (session_after s d g) cs fs c f later (omega (arith, e)) have.1 in
    record {
      before = dirty ∷ parts.before;
      last = parts.last;
      have = (have.0, parts.have);
      has = parts.has;
      total = omega (arith, parts.total, sum_by-cons length dirty later, sum_by-cons length dirty parts.before);
    }

bounded-push : (cs : List StreamCommand) (fs : List Bool) (c : StreamCommand) (f : Bool) (s before after : SessionState) → length fs ≡ length cs
    → before.session ≡ session_after_all s.session cs fs → after.session ≡ session_after before.session c f
    → AreBounded cs fs s before → IsBounded before after → AreBounded (cs ++ c ∷ []) (fs ++ f ∷ []) s after
bounded-push cs fs c f s before after flags was is all_bounded one_bounded all have =
    let parts = HaveDirty-parts s.session cs fs c f all flags have in
    let has : HasDirty before.session.tree before.session.user (session_after before.session c f).user parts.last =
    subst (λ t. HasDirty t.tree t.user (session_after t c f).user parts.last) (sym was) parts.has in
    let has_last : HasDirty before.session.tree before.session.user after.session.user parts.last =
    subst (λ t. HasDirty before.session.tree before.session.user t.user parts.last) (sym is) has in
    omega (arith, parts.total, all_bounded parts.before parts.have, one_bounded parts.last has_last)

-- one more command was answered
pub Answers-push : (cs : List StreamCommand) (c : StreamCommand) (old mid new : Option (List ℕ)) (s before after : SessionState)
    → Answers cs old mid s before → AnswersCommand c mid new before after → Answers (cs ++ c ∷ []) old new s after
Answers-push cs c old mid new s before after all one =
    let at_line : before.session ≡ session_after_all s.session cs all.starved = all.session_is in
    record {
      starved = all.starved ++ one.starved ∷ [];
      flags = length-append all.starved (one.starved ∷ []) ∙ ap (λ n. n + 1) all.flags ∙ sym (length-append cs (c ∷ []));
      may = MayStarve-push s.session cs all.starved c one.starved all.flags all.may (subst (λ t. IsTrue one.starved → IsTrue (outcome t c).takes_memory) at_line one.may);
      output = subst (Appends old new) (ap (λ t. output_of s.session cs all.starved ++ reply_to t c one.starved) at_line ∙ sym (output-push s.session cs all.starved c one.starved all.flags))
          (Appends-trans old mid new _ _ all.output one.output);
      session_is = one.step.session_is ∙ ap (λ t. session_after t c one.starved) at_line ∙ sym (session-push s.session cs all.starved c one.starved all.flags);
      steps = steps-push cs all.starved c one.starved s before after all.steps one.step;
      right = one.step.right;
      counts = omega (arith, all.counts, one.step.counts);
      bounded = bounded-push cs all.starved c one.starved s before after all.flags at_line one.step.session_is all.bounded one.bounded;
    }
