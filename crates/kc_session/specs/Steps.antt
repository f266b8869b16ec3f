-- This project's own command stream: what each command of it does to a session and to what the session keeps.
use Rattle.std.specs.Prelude.{◌≡◌, ◌≤◌, Bool, List, [], ◌∷◌, Result, Ok, Err}
use Rattle.kc_session.specs.declared.command.Refusal.{Refusal}
use Rattle.kc_session.specs.declared.command.Reply.{Reply}
use Rattle.kc_session.specs.declared.command_line.Request.{Request}
use Rattle.kc_session.specs.declared.command_line.Request.TheVariants.{Whole, WithBody}
use Rattle.kc_session.specs.Keeping.{EditsKept, Keeps, KeepsRight}
use Rattle.kc_session.specs.Replies.{outcome_or_starved, session_after}
use Rattle.kc_session.specs.Session.{SessionState}
use Rattle.kc_session.specs.StreamCommands.{StreamCommand, request_of_line}

-- What becomes of what is kept, by what the line of a command asks for: a command without a body does as that says, a
-- load is an edit, and a line that is refused changes nothing.
unfoldable pub KeepsRequest : SessionState → Result Request Refusal → Reply → SessionState → Type 0
KeepsRequest old (Ok (Whole c)) reply new = Keeps old c reply new
KeepsRequest old (Ok (WithBody load k)) reply new = EditsKept old new
KeepsRequest old (Err r) reply new = new ≡ old

-- One command was done, or was refused its memory: user values became what they are to be, an edit dropped exactly what it
-- can change, a query added nodes that are reached from those it asks alone and counted each, and what is kept is right.
-- The count of evaluations never falls.
pub record IsStep (command : StreamCommand) (starved : Bool) (old new : SessionState) : Type 0 where
  pub session_is : new.session ≡ session_after old.session command starved
  pub keeps : KeepsRequest old (request_of_line command.line) (outcome_or_starved old.session command starved).reply new
  pub right : KeepsRight new
  pub counts : old.kept.evals ≤ new.kept.evals

-- Some commands were done, each over the session that the one before it left. The flags say which were refused their
-- memory.
pub data AreSteps : List StreamCommand → List Bool → SessionState → SessionState → Type 0 where
  none : {s : SessionState} → AreSteps [] [] s s
  next : {s m e : SessionState} {c : StreamCommand} {f : Bool} {cs : List StreamCommand} {fs : List Bool}
      → IsStep c f s m → AreSteps cs fs m e → AreSteps (c ∷ cs) (f ∷ fs) s e
