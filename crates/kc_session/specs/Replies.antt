-- This project's own command stream: the replies to its commands.
use Rattle.std.specs.Prelude.{ℕ, ◌+◌, ◌==◌, Bool, List, [], ◌∷◌, ◌++◌, length, Result, Ok, Err, codes, IsTrue, if◌then◌else◌}
use Rattle.kc_files.specs.declared.loading.Load.{Load}
use Rattle.kc_session.specs.declared.command.Refusal.{Refusal}
use Rattle.kc_session.specs.declared.command.Refusal.TheVariants.{BadLineCount}
use Rattle.kc_session.specs.declared.command_line.Request.{Request}
use Rattle.kc_session.specs.declared.command_line.Request.TheVariants.{Whole, WithBody}
use Rattle.kc_session.specs.declared.command.Reply.{Reply}
use Rattle.kc_session.specs.declared.command.Reply.TheVariants.{Done, Refused}
use Rattle.kc_session.specs.Commands.{load_command}
use Rattle.kc_session.specs.Effect.{Outcome, refusal_number, refuse, perform, starved_or}
use Rattle.kc_session.specs.Session.{SessionValue, with_user}
use Rattle.kc_session.specs.HeldBody.{joined}
use Rattle.kc_session.specs.StreamCommands.{StreamCommand, request_of_line}

-- the text and the line `ok`, or the line `refused` with its number
unfoldable pub reply_bytes : Reply → List ℕ
reply_bytes (Done text) = text ++ codes "ok\n"
reply_bytes (Refused r) = codes "refused " ++ (48 + refusal_number r) ∷ codes "\n"

-- a load is done with the lines that it took, if these are as many as it asks for
abbrev pub body_outcome : SessionValue → Load → ℕ → List (List ℕ) → Outcome
body_outcome s load k body =
    if length body == k then perform s (load_command load (joined body)) else refuse s BadLineCount

abbrev pub request_outcome : SessionValue → Result Request Refusal → List (List ℕ) → Outcome
request_outcome s (Err r) body = refuse s r
request_outcome s (Ok (Whole c)) body = perform s c
request_outcome s (Ok (WithBody load k)) body = body_outcome s load k body

-- effect and reply of a command of the stream, with ample memory
unfoldable pub outcome : SessionValue → StreamCommand → Outcome
outcome s c = request_outcome s (request_of_line c.line) c.body

-- those of a command of which it is said whether it was refused its memory
abbrev pub outcome_or_starved : SessionValue → StreamCommand → Bool → Outcome
outcome_or_starved s c starved = starved_or s starved (outcome s c)

-- the session after a command
abbrev pub session_after : SessionValue → StreamCommand → Bool → SessionValue
session_after s c starved = with_user s (outcome_or_starved s c starved).user

abbrev pub reply_to : SessionValue → StreamCommand → Bool → List ℕ
reply_to s c starved = reply_bytes (outcome_or_starved s c starved).reply

-- All replies joined, and the session after the last of them. The second list says of each command whether it
-- was refused its memory.
unfoldable pub output_of : SessionValue → List StreamCommand → List Bool → List ℕ
output_of s [] fs = []
output_of s (c ∷ cs) [] = []
output_of s (c ∷ cs) (f ∷ fs) = reply_to s c f ++ output_of (session_after s c f) cs fs

unfoldable pub session_after_all : SessionValue → List StreamCommand → List Bool → SessionValue
session_after_all s [] fs = s
session_after_all s (c ∷ cs) [] = s
session_after_all s (c ∷ cs) (f ∷ fs) = session_after_all (session_after s c f) cs fs

-- memory was refused only to commands that take some
unfoldable pub MayStarve : SessionValue → List StreamCommand → List Bool → Type 0
MayStarve s [] fs = Unit {0}
MayStarve s (c ∷ cs) [] = Unit {0}
MayStarve s (c ∷ cs) (f ∷ fs) = (IsTrue f → IsTrue (outcome s c).takes_memory) × MayStarve (session_after s c f) cs fs
