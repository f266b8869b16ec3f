-- What the loop over a stream keeps, and how it ends.
use Rattle.std.proofs.Common.{◌≡◌, ℕ, false, List, [], ◌∷◌, ◌++◌, Option, Some, None, Result, Ok, Err, IfSome, unwrap_or, sym, ap, ◌∙◌, subst, append-nil}
use Rattle.std.specs.Io.KnownBytes.{Consumes, IsAtEnd, prepend_known}
use Rattle.std.proofs.KnownBytes.{Consumes-trans}
use Rattle.std.specs.Result.{OnOk, OnErr, IfErr}
use Rattle.kc_files.specs.DefaultLoading.{HasNoFeeds}
use Rattle.kc_session.specs.declared.fault.IoFault.{IoFault}
use Rattle.kc_session.specs.declared.fault.IoFault.TheVariants.{Write}
use Rattle.kc_session.specs.Held.{HeldLine}
use Rattle.kc_session.specs.HeldBody.{HeldBody}
use Rattle.kc_session.specs.Keeping.{KeepsRight}
use Rattle.kc_session.specs.NextLine.{TakesNothing}
use Rattle.kc_session.specs.NextCommand.{HoldsCommand, IsWholeCommand, TakesWholeCommand, TakesLastCommand, StopsInCommand}
use Rattle.kc_session.specs.Serving.{Answers, AnswersCommand, StopsInReply, ServesAll, StopsReading, StopsWriting, Serves}
use Rattle.kc_session.specs.Session.{SessionState}
use Rattle.kc_session.specs.Stream.{has_feed, text_of_line}
use Rattle.kc_session.specs.StreamCommands.{StreamCommand, commands_of}
use Rattle.kc_session.proofs.Cutting.{IsCutAfter, IsCutAfter-nil, IsCutAfter-more, commands_of-cut, commands_of-last, complete_commands_of-part}
use Rattle.kc_session.proofs.Answered.{Answers-nil, Answers-push}
use Rattle.kc_session.proofs.PlainLines.{first_plain, text_plain}
use Rattle.kc_session.proofs.Unread.{Consumes-used_up, Consumes-at_end}

-- what was read, written and done so far: whole commands
pub record HasServed (from left : Option (List ℕ)) (written wrote : Option (List ℕ)) (s t : SessionState) : Type 0 where
  pub front : List ℕ
  pub done : List StreamCommand
  pub read : Consumes from left front
  pub cut : IsCutAfter front done
  pub answered : Answers done written wrote s t
  pub unfed : HasNoFeeds s.session.user → HasNoFeeds t.session.user

starts : (from : Option (List ℕ)) (unread : List ℕ) → unread ≡ [] → Consumes from (prepend_known unread from) []
starts None unread none = tt
starts (Some xs) unread none = sym (ap (λ bytes. bytes ++ xs) none)

pub HasServed-nil : (from : Option (List ℕ)) (unread : List ℕ) (written : Option (List ℕ)) (s : SessionState) → unread ≡ [] → KeepsRight s
    → HasServed from (prepend_known unread from) written written s s
HasServed-nil from unread written s none right =
    record { front = []; done = []; read = starts from unread none; cut = IsCutAfter-nil; answered = Answers-nil written s right; unfed = λ h. h }

-- what answering a command gives, whichever command the buffers hold
abbrev pub AnswersHeld : HeldLine → HeldBody → Option (List ℕ) → Option (List ℕ) → SessionState → SessionState → Type 0
AnswersHeld line body written wrote s t = (c : StreamCommand) → HoldsCommand line body c → AnswersCommand c written wrote s t

abbrev pub StopsInHeld : HeldLine → HeldBody → Option (List ℕ) → Option (List ℕ) → SessionState → SessionState → Type 0
StopsInHeld line body written wrote s t = (c : StreamCommand) → HoldsCommand line body c → StopsInReply c written wrote s t

-- what a command keeps whose text has no line feed, whichever command the buffers hold
abbrev pub UnfedHeld : HeldLine → HeldBody → Type 0 → Type 0 → Type 0
UnfedHeld line body P Q = (c : StreamCommand) → HoldsCommand line body c → has_feed (text_of_line c.line) ≡ false → P → Q

-- .. is kept by each command that is taken
pub whole_unfed : {P Q : Type 0} (left after : Option (List ℕ)) (line : HeldLine) (body : HeldBody) → TakesWholeCommand left after line body → UnfedHeld line body P Q → P → Q
whole_unfed left after line body takes unfed =
    unfed takes.command takes.holds
    (text_plain takes.command.line (first_plain (takes.bytes ++ []) takes.command (commands_of []) (takes.is_command.first [])))

pub last_unfed : {P Q : Type 0} (left after : Option (List ℕ)) (line : HeldLine) (body : HeldBody) → TakesLastCommand left after line body → UnfedHeld line body P Q → P → Q
last_unfed left after line body takes unfed =
    unfed takes.command takes.holds (text_plain takes.command.line (first_plain takes.bytes takes.command [] takes.only))

pub HasServed-more : (from left after w0 w1 w2 : Option (List ℕ)) (line : HeldLine) (body : HeldBody) (s t v : SessionState)
    → HasServed from left w0 w1 s t → TakesWholeCommand left after line body → AnswersHeld line body w1 w2 t v → UnfedHeld line body (HasNoFeeds t.session.user) (HasNoFeeds v.session.user)
    → HasServed from after w0 w2 s v
HasServed-more from left after w0 w1 w2 line body s t v so_far takes answers unfed =
    record {
      front = so_far.front ++ takes.bytes;
      done = so_far.done ++ takes.command ∷ [];
      read = Consumes-trans from left after so_far.front takes.bytes so_far.read takes.taken;
      cut = IsCutAfter-more so_far.front takes.bytes so_far.done takes.command so_far.cut takes.is_command;
      answered = Answers-push so_far.done takes.command w0 w1 w2 s t v so_far.answered (answers takes.command takes.holds);
      unfed = λ user. whole_unfed left after line body takes unfed (so_far.unfed user);
    }

-- the stream has ended
pub ServesAll-nothing : (from left rest w0 w1 : Option (List ℕ)) (unread : List ℕ) (s t : SessionState)
    → HasServed from left w0 w1 s t → TakesNothing left (prepend_known unread rest) → ServesAll from rest w0 w1 s t
ServesAll-nothing from left rest w0 w1 unread s t so_far takes =
    let whole : Consumes from (prepend_known unread rest) so_far.front =
    subst (Consumes from (prepend_known unread rest)) (append-nil so_far.front) (Consumes-trans from left (prepend_known unread rest) so_far.front [] so_far.read takes.taken) in
    let end = Consumes-at_end from rest unread so_far.front whole takes.end in
    record {
      stream = so_far.front;
      read = end.0;
      end = end.1;
      answered = subst (λ cs. Answers cs w0 w1 s t) (sym (commands_of-cut so_far.front so_far.done so_far.cut)) so_far.answered;
    }

-- the stream has ended with its last command
pub ServesAll-last : (from left rest w0 w1 w2 : Option (List ℕ)) (unread : List ℕ) (line : HeldLine) (body : HeldBody) (s t v : SessionState)
    → HasServed from left w0 w1 s t → TakesLastCommand left (prepend_known unread rest) line body → AnswersHeld line body w1 w2 t v → ServesAll from rest w0 w2 s v
ServesAll-last from left rest w0 w1 w2 unread line body s t v so_far takes answers =
    let end = Consumes-at_end from rest unread (so_far.front ++ takes.bytes) (Consumes-trans from left (prepend_known unread rest) so_far.front takes.bytes so_far.read takes.taken) takes.end in
    record {
      stream = so_far.front ++ takes.bytes;
      read = end.0;
      end = end.1;
      answered = subst (λ cs. Answers cs w0 w2 s v) (sym (commands_of-last so_far.front takes.bytes so_far.done takes.command so_far.cut takes.only))
          (Answers-push so_far.done takes.command w0 w1 w2 s t v so_far.answered (answers takes.command takes.holds));
    }

-- reading failed within a command
pub StopsReading-part : (from left rest w0 w1 : Option (List ℕ)) (unread : List ℕ) (s t : SessionState)
    → HasServed from left w0 w1 s t → StopsInCommand left (prepend_known unread rest) → unread ≡ [] → StopsReading from rest w0 w1 s t
StopsReading-part from left rest w0 w1 unread s t so_far stops none =
    record {
      stream = so_far.front ++ stops.part;
      read = Consumes-used_up from rest unread (so_far.front ++ stops.part) (Consumes-trans from left (prepend_known unread rest) so_far.front stops.part so_far.read stops.taken) none;
      answered = subst (λ cs. Answers cs w0 w1 s t) (sym (complete_commands_of-part so_far.front stops.part so_far.done so_far.cut stops.none)) so_far.answered;
    }

commands_whole : (from left after : Option (List ℕ)) (front bytes : List ℕ) (done : List StreamCommand) (command : StreamCommand) → Consumes from left front → Consumes left after bytes
    → IsCutAfter front done → IsWholeCommand bytes command → IfSome from (λ stream. commands_of stream ≡ done ++ command ∷ commands_of (unwrap_or after []))
commands_whole None left after front bytes done command p q cut is_whole = tt
commands_whole (Some xs) None after front bytes done command p q cut is_whole = absurd p
commands_whole (Some xs) (Some ys) None front bytes done command p q cut is_whole = absurd q
commands_whole (Some xs) (Some ys) (Some zs) front bytes done command p q cut is_whole =
    ap commands_of (p ∙ ap (λ rest. front ++ rest) q) ∙ cut.commands (bytes ++ zs) ∙ ap (λ rest. done ++ rest) (is_whole.first zs)

commands_last : (from left after : Option (List ℕ)) (front bytes : List ℕ) (done : List StreamCommand) (command : StreamCommand) → Consumes from left front → Consumes left after bytes
    → IsAtEnd after → IsCutAfter front done → commands_of bytes ≡ command ∷ [] → IfSome from (λ stream. commands_of stream ≡ done ++ command ∷ [])
commands_last None left after front bytes done command p q end cut only = tt
commands_last (Some xs) None after front bytes done command p q end cut only = absurd p
commands_last (Some xs) (Some ys) None front bytes done command p q end cut only = absurd q
commands_last (Some xs) (Some ys) (Some zs) front bytes done command p q end cut only =
    let all : ys ≡ bytes = q ∙ ap (λ rest. bytes ++ rest) end ∙ append-nil bytes in
    ap commands_of (p ∙ ap (λ rest. front ++ rest) all) ∙ commands_of-last front bytes done command cut only

-- writing failed in the reply to a command behind which more may come
pub StopsWriting-whole : (from left after w0 w1 w2 : Option (List ℕ)) (line : HeldLine) (body : HeldBody) (s t v : SessionState)
    → HasServed from left w0 w1 s t → TakesWholeCommand left after line body → StopsInHeld line body w1 w2 t v → StopsWriting from w0 w2 s v
StopsWriting-whole from left after w0 w1 w2 line body s t v so_far takes stops =
    record {
      done = so_far.done;
      failed = takes.command;
      more = commands_of (unwrap_or after []);
      commands = commands_whole from left after so_far.front takes.bytes so_far.done takes.command so_far.read takes.taken so_far.cut takes.is_command;
      before = w1;
      between = t;
      answered = so_far.answered;
      stopped = stops takes.command takes.holds;
    }

-- writing failed in the reply to the last command
pub StopsWriting-last : (from left after w0 w1 w2 : Option (List ℕ)) (line : HeldLine) (body : HeldBody) (s t v : SessionState)
    → HasServed from left w0 w1 s t → TakesLastCommand left after line body → StopsInHeld line body w1 w2 t v → StopsWriting from w0 w2 s v
StopsWriting-last from left after w0 w1 w2 line body s t v so_far takes stops =
    record {
      done = so_far.done;
      failed = takes.command;
      more = [];
      commands = commands_last from left after so_far.front takes.bytes so_far.done takes.command so_far.read takes.taken takes.end so_far.cut takes.only;
      before = w1;
      between = t;
      answered = so_far.answered;
      stopped = stops takes.command takes.holds;
    }

-- how serving ends with the reply to the last command
pub Serves-last : (r : Result (Unit {0}) IoFault) (from left rest w0 w1 w2 : Option (List ℕ)) (unread : List ℕ) (line : HeldLine) (body : HeldBody) (s t v : SessionState)
    → HasServed from left w0 w1 s t → TakesLastCommand left (prepend_known unread rest) line body
    → OnOk r (AnswersHeld line body w1 w2 t v) → OnErr r (StopsInHeld line body w1 w2 t v) → IfErr r (λ e. e ≡ Write) → Serves r from rest w0 w2 s v
Serves-last (Ok u) from left rest w0 w1 w2 unread line body s t v so_far takes ok err fault =
    ServesAll-last from left rest w0 w1 w2 unread line body s t v so_far takes ok
Serves-last (Err e) from left rest w0 w1 w2 unread line body s t v so_far takes ok err fault =
    subst (λ f. Serves (Err f) from rest w0 w2 s v) (sym fault)
    (StopsWriting-last from left (prepend_known unread rest) w0 w1 w2 line body s t v so_far takes err)
