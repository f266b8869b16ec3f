-- This project's own command stream: what was read, written and done when the serving of a stream ended, and how many
-- evaluations that took.
use Rattle.std.specs.Prelude.{◌≡◌, ◌≤◌, ℕ, Bool, List, ◌∷◌, ◌++◌, length, Option, Result, Ok, Err, IsTrue, IfSome}
use Rattle.kc_session.specs.declared.fault.IoFault.{IoFault}
use Rattle.kc_session.specs.declared.fault.IoFault.TheVariants.{Read, Write, Memory}
use Rattle.std.specs.Io.KnownBytes.{Appends, Consumes, IsAtEnd}
use Rattle.kc_session.specs.EvaluationBound.{IsBounded, AreBounded}
use Rattle.kc_session.specs.Keeping.{KeepsRight}
use Rattle.kc_session.specs.Output.{WritesPart}
use Rattle.kc_session.specs.Replies.{outcome, reply_to, output_of, session_after_all, MayStarve}
use Rattle.kc_session.specs.Session.{SessionState}
use Rattle.kc_session.specs.Steps.{IsStep, AreSteps}
use Rattle.kc_session.specs.StreamCommands.{StreamCommand, commands_of, complete_commands_of}

-- The commands were done in turn, and all their replies were written, each that of a resolver that knows
-- nothing but the tree and the user values left by the commands before. Of each command the session keeps what it is to
-- keep, and what is kept afterwards is right. So a node was evaluated only where it was not kept at the start, or where an
-- edit had changed it.
pub record Answers (commands : List StreamCommand) (written wrote : Option (List ℕ)) (session after : SessionState) : Type 0 where
  pub starved : List Bool
  pub flags : length starved ≡ length commands
  pub may : MayStarve session.session commands starved
  pub output : Appends written wrote (output_of session.session commands starved)
  pub session_is : after.session ≡ session_after_all session.session commands starved
  pub steps : AreSteps commands starved session after
  pub right : KeepsRight after
  pub counts : session.kept.evals ≤ after.kept.evals
  pub bounded : AreBounded commands starved session after

-- one command was done and its reply written
pub record AnswersCommand (command : StreamCommand) (written wrote : Option (List ℕ)) (session after : SessionState) : Type 0 where
  pub starved : Bool
  pub may : IsTrue starved → IsTrue (outcome session.session command).takes_memory
  pub output : Appends written wrote (reply_to session.session command starved)
  pub step : IsStep command starved session after
  pub bounded : IsBounded session after

-- one command was done, and a beginning of its reply was written
pub record StopsInReply (command : StreamCommand) (written wrote : Option (List ℕ)) (session after : SessionState) : Type 0 where
  pub starved : Bool
  pub may : IsTrue starved → IsTrue (outcome session.session command).takes_memory
  pub output : WritesPart written wrote (reply_to session.session command starved)
  pub step : IsStep command starved session after
  pub bounded : IsBounded session after

-- the stream was read to its end, and all its commands were answered
pub record ServesAll (remaining left written wrote : Option (List ℕ)) (session after : SessionState) : Type 0 where
  pub stream : List ℕ
  pub read : Consumes remaining left stream
  pub end : IsAtEnd left
  pub answered : Answers (commands_of stream) written wrote session after

-- reading failed, and the commands that were read completely were answered
pub record StopsReading (remaining left written wrote : Option (List ℕ)) (session after : SessionState) : Type 0 where
  pub stream : List ℕ
  pub read : Consumes remaining left stream
  pub answered : Answers (complete_commands_of stream) written wrote session after

-- Writing failed in the reply to a command of the stream: the commands before it were answered, it was done
-- itself, and a beginning of its reply was written.
pub record StopsWriting (remaining written wrote : Option (List ℕ)) (session after : SessionState) : Type 0 where
  pub done : List StreamCommand
  pub failed : StreamCommand
  pub more : List StreamCommand
  pub commands : IfSome remaining (λ stream. commands_of stream ≡ done ++ failed ∷ more)
  pub before : Option (List ℕ)
  pub between : SessionState
  pub answered : Answers done written before session between
  pub stopped : StopsInReply failed before wrote between after

-- What serving with buffers gives, by its answer; memory is no matter any more.
abbrev pub Serves : Result (Unit {0}) IoFault → Option (List ℕ) → Option (List ℕ) → Option (List ℕ) → Option (List ℕ) → SessionState → SessionState → Type 0
Serves (Ok u) remaining left written wrote session after = ServesAll remaining left written wrote session after
Serves (Err Read) remaining left written wrote session after = StopsReading remaining left written wrote session after
Serves (Err Write) remaining left written wrote session after = StopsWriting remaining written wrote session after
Serves (Err Memory) remaining left written wrote session after = ⊥
