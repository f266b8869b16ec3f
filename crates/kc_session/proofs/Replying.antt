-- The reply to a command of the stream, by what its line asks for.
use Rattle.std.proofs.Common.{◌≡◌, ℕ, true, false, List, length, Option, Result, Ok, Err, if◌then◌else◌, refl, sym, ap, subst, ◌∙◌}
use Rattle.std.proofs.lemmas.Bool.{eq-eqb}
use Rattle.kc_files.specs.declared.loading.Load.{Load}
use Rattle.kc_files.specs.declared.loading.Load.TheVariants.{Replace, Merge as MergeLoad}
use Rattle.kc_value.specs.KeptLaws.{KeptLaws}
use Rattle.kc_session.specs.declared.command.Command.{Command}
use Rattle.kc_session.specs.declared.command.Refusal.{Refusal}
use Rattle.kc_session.specs.declared.command.Refusal.TheVariants.{UnknownCommand, UndefinedSymbol, BadValue, BadMemberValue, BadLineCount, TooLong, NoMemory}
use Rattle.kc_session.specs.declared.command.Reply.{Reply}
use Rattle.kc_session.specs.declared.command.Reply.TheVariants.{Refused}
use Rattle.kc_session.specs.declared.command_line.Request.{Request}
use Rattle.kc_session.specs.declared.command_line.Request.TheVariants.{Whole, WithBody}
use Rattle.kc_session.specs.Bodies.{fits_body}
use Rattle.kc_session.specs.Commands.{request_of_text, load_command, lines_asked}
use Rattle.kc_session.specs.Effect.{IsOutcome, refuse, perform, loaded}
use Rattle.kc_session.specs.EvaluationBound.{IsBounded}
use Rattle.kc_session.specs.HeldBody.{HeldBody, GivesBody, body_held, joined}
use Rattle.kc_session.specs.Keeping.{KeepsRight}
use Rattle.std.specs.Io.KnownBytes.{Appends}
use Rattle.kc_session.specs.Held.{HeldLine, text_held}
use Rattle.kc_session.specs.NextCommand.{HoldsCommand}
use Rattle.kc_session.specs.Output.{WritesPart}
use Rattle.kc_session.specs.Replies.{body_outcome, request_outcome, outcome, reply_bytes}
use Rattle.kc_session.specs.Serving.{AnswersCommand, StopsInReply}
use Rattle.kc_session.specs.Session.{SessionState, SessionValue}
use Rattle.kc_session.specs.Steps.{IsStep, KeepsRequest}
use Rattle.kc_session.specs.Stream.{lines_of}
use Rattle.kc_session.specs.StreamCommands.{StreamCommand, lines_taken, request_of_line}
use Rattle.kc_session.proofs.BodyHolding.{fits_body-joined}
use Rattle.kc_session.proofs.EvaluationLaws.{request_bounded, request_counts}
use Rattle.kc_session.proofs.Outcomes.{same_due, done_as_due}

-- ---- a load
performed : (s : SessionValue) (load : Load) (k : ℕ) (lines : List (List ℕ)) → length lines ≡ k
    → perform s (load_command load (joined lines)) ≡ body_outcome s load k lines
performed s load k lines count =
    sym (ap (λ b. if b then perform s (load_command load (joined lines)) else refuse s BadLineCount) (eq-eqb (length lines) k count))

too_long : (s : SessionValue) (load : Load) (body : List ℕ) → fits_body body ≡ false → perform s (load_command load body) ≡ refuse s TooLong
unfolding perform
too_long s Replace body long = ap (λ b. if b then loaded s Replace body else refuse s TooLong) long
too_long s MergeLoad body long = ap (λ b. if b then loaded s MergeLoad body else refuse s TooLong) long

takes_memory : (s : SessionValue) (load : Load) (body : List ℕ) → fits_body body ≡ true → (perform s (load_command load body)).takes_memory ≡ true
unfolding perform
takes_memory s Replace body fits = ap (λ b. (if b then loaded s Replace body else refuse s TooLong).takes_memory) fits
takes_memory s MergeLoad body fits = ap (λ b. (if b then loaded s MergeLoad body else refuse s TooLong).takes_memory) fits

body_refused : (s : SessionValue) (load : Load) (k : ℕ) (lines : List (List ℕ)) (f : Refusal) (r : Reply) (n : SessionValue) → GivesBody (Err f) k lines
    → lines_of (joined lines) ≡ lines → r ≡ Refused f → n ≡ s → IsOutcome s (body_outcome s load k lines) r n
body_refused s load k lines BadLineCount r n few are replied same =
    same_due s (refuse s BadLineCount) (body_outcome s load k lines) r n
    (sym (ap (λ b. if b then perform s (load_command load (joined lines)) else refuse s BadLineCount) few))
    (done_as_due s (refuse s BadLineCount) r n replied same)
body_refused s load k lines TooLong r n gives are replied same =
    same_due s (refuse s TooLong) (body_outcome s load k lines) r n
    (sym (too_long s load (joined lines) (fits_body-joined lines are ∙ gives.1)) ∙ performed s load k lines gives.0)
    (done_as_due s (refuse s TooLong) r n replied same)
body_refused s load k lines NoMemory r n gives are replied same =
    same_due s (perform s (load_command load (joined lines))) (body_outcome s load k lines) r n (performed s load k lines gives.0)
    (record { starved = true; may = λ h. takes_memory s load (joined lines) (fits_body-joined lines are ∙ gives.1); replied = replied; session = same })
body_refused s load k lines UnknownCommand r n gives are replied same = absurd gives
body_refused s load k lines UndefinedSymbol r n gives are replied same = absurd gives
body_refused s load k lines BadValue r n gives are replied same = absurd gives
body_refused s load k lines BadMemberValue r n gives are replied same = absurd gives

body_loaded : (s : SessionValue) (load : Load) (k : ℕ) (lines : List (List ℕ)) (bytes : List ℕ) (r : Reply) (n : SessionValue) → GivesBody (Ok bytes) k lines
    → IsOutcome s (perform s (load_command load bytes)) r n → IsOutcome s (body_outcome s load k lines) r n
body_loaded s load k lines bytes r n gives o =
    same_due s (perform s (load_command load bytes)) (body_outcome s load k lines) r n
    (ap (λ b. perform s (load_command load b)) gives.1 ∙ performed s load k lines gives.0) o

pub load_refused_reply : (s : SessionValue) (load : Load) (held : HeldBody) (f : Refusal) (r : Reply) (n : SessionValue) → body_held held ≡ Err f → r ≡ Refused f → n ≡ s
    → (k : ℕ) (lines : List (List ℕ)) → GivesBody (body_held held) k lines → lines_of (joined lines) ≡ lines → IsOutcome s (body_outcome s load k lines) r n
load_refused_reply s load held f r n is replied same k lines gives are =
    body_refused s load k lines f r n (subst (λ c. GivesBody c k lines) is gives) are replied same

pub load_done_reply : (s : SessionValue) (load : Load) (held : HeldBody) (bytes : List ℕ) (r : Reply) (n : SessionValue) → body_held held ≡ Ok bytes
    → IsOutcome s (perform s (load_command load bytes)) r n
    → (k : ℕ) (lines : List (List ℕ)) → GivesBody (body_held held) k lines → lines_of (joined lines) ≡ lines → IsOutcome s (body_outcome s load k lines) r n
load_done_reply s load held bytes r n is o k lines gives are =
    body_loaded s load k lines bytes r n (subst (λ c. GivesBody c k lines) is gives) o

-- ---- a command, by what its line asks for
asked : (s : SessionValue) (c : StreamCommand) (q : Result Request Refusal) (r : Reply) (n : SessionValue) → q ≡ request_of_line c.line
    → IsOutcome s (request_outcome s q c.body) r n → IsOutcome s (outcome s c) r n
unfolding outcome
asked s c q r n is o =
    same_due s (request_outcome s q c.body) (outcome s c) r n (ap (λ (x : Result Request Refusal). request_outcome s x c.body) is) o

asked_lines : (c : StreamCommand) (load : Load) (k : ℕ) → Ok (WithBody load k) ≡ request_of_line c.line → lines_taken c.line ≡ k
unfolding lines_taken
asked_lines c load k is = ap lines_asked (sym is)

module _ (s : SessionValue) (held : HeldBody) (q : Result Request Refusal) (r : Reply) (n : SessionValue) where
  -- whichever command asks for this and has this body, it was done as it is to be
  abbrev pub IsReplyToHeld : Type 0
  IsReplyToHeld =
      (c : StreamCommand) → q ≡ request_of_line c.line → GivesBody (body_held held) (lines_taken c.line) c.body → lines_of (joined c.body) ≡ c.body → IsOutcome s (outcome s c) r n

  pub refused_reply : (f : Refusal) → q ≡ Err f → r ≡ Refused f → n ≡ s → IsReplyToHeld
  refused_reply f asks replied same c is gives are = asked s c (Err f) r n (sym asks ∙ is) (done_as_due s (refuse s f) r n replied same)

  pub whole_reply : (k : Command) → q ≡ Ok (Whole k) → IsOutcome s (perform s k) r n → IsReplyToHeld
  whole_reply k asks o c is gives are = asked s c (Ok (Whole k)) r n (sym asks ∙ is) o

  pub load_reply : (load : Load) (k : ℕ) → q ≡ Ok (WithBody load k)
      → ((m : ℕ) (lines : List (List ℕ)) → GivesBody (body_held held) m lines → lines_of (joined lines) ≡ lines → IsOutcome s (body_outcome s load m lines) r n) → IsReplyToHeld
  load_reply load k asks loads c is gives are =
      let asked_is : Ok (WithBody load k) ≡ request_of_line c.line = sym asks ∙ is in
      asked s c (Ok (WithBody load k)) r n asked_is (loads k c.body (subst (λ m. GivesBody (body_held held) m c.body) (asked_lines c load k asked_is) gives) are)

-- ---- the command, its reply and its bytes
module _ (s n : SessionState) (held : HeldBody) (q : Result Request Refusal) (r : Reply) (replies : IsReplyToHeld s.session held q r n.session) (keeps : KeepsRequest s q r n)
    (laws : KeptLaws s.session.tree) (right_before : KeepsRight s) (right : KeepsRight n) where
  held_step : (c : StreamCommand) → q ≡ request_of_line c.line → (o : IsOutcome s.session (outcome s.session c) r n.session) → IsStep c o.starved s n
  held_step c asks o = record {
    session_is = o.session;
    keeps = subst (λ x. KeepsRequest s (request_of_line c.line) x n) o.replied (subst (λ x. KeepsRequest s x r n) asks keeps);
    right = right;
    counts = request_counts s n r q keeps;
  }

  held_bounded : (o : SessionValue) → n.session ≡ o → o.tree ≡ s.session.tree → IsBounded s n
  held_bounded o session tree = request_bounded s n laws (ap (λ x. x.tree) session ∙ tree) right_before right r q keeps

  asks_this : (line : HeldLine) (c : StreamCommand) → q ≡ request_of_text (text_held line) → HoldsCommand line held c → q ≡ request_of_line c.line
  asks_this line c is h = is ∙ ap request_of_text h.text

  pub answers_held : (w0 w1 : Option (List ℕ)) → Appends w0 w1 (reply_bytes r) → (line : HeldLine) (c : StreamCommand) → q ≡ request_of_text (text_held line) → HoldsCommand line held c
      → AnswersCommand c w0 w1 s n
  answers_held w0 w1 wrote line c is h =
      let asks = asks_this line c is h in
      let o = replies c asks h.gives h.are_lines in
      record {
        starved = o.starved;
        may = o.may;
        output = subst (λ x. Appends w0 w1 (reply_bytes x)) o.replied wrote;
        step = held_step c asks o;
        bounded = held_bounded _ o.session refl;
      }

  pub stops_held : (w0 w1 : Option (List ℕ)) → WritesPart w0 w1 (reply_bytes r) → (line : HeldLine) (c : StreamCommand) → q ≡ request_of_text (text_held line) → HoldsCommand line held c
      → StopsInReply c w0 w1 s n
  stops_held w0 w1 wrote line c is h =
      let asks = asks_this line c is h in
      let o = replies c asks h.gives h.are_lines in
      record {
        starved = o.starved;
        may = o.may;
        output = subst (λ x. WritesPart w0 w1 (reply_bytes x)) o.replied wrote;
        step = held_step c asks o;
        bounded = held_bounded _ o.session refl;
      }
