-- How a stream is cut into commands: what a loop over its commands keeps.
use Rattle.std.proofs.Common.{◌≡◌, ◌≤◌, ℕ, zero, suc, ◌==◌, ◌&&◌, true, false, List, [], ◌∷◌, ◌++◌, length, take, filter, refl, sym, ap, ◌∙◌, append_assoc, append-nil, arith}
use Rattle.std.specs.List.{list_all}
use Rattle.std.proofs.Math.Seq.{take-append_seam}
use Rattle.std.proofs.lemmas.Bool.{cond-false, cond-true, eq-eqb}
use Rattle.std.proofs.lemmas.List.{take_all}
use Rattle.kc_session.specs.Stream.{has_feed, is_ended, lines_of}
use Rattle.kc_session.specs.StreamCommands.{StreamCommand, command_with_body, lines_taken, commands_after, commands_of, is_complete, complete_commands_of}
use Rattle.kc_session.specs.HeldBody.{joined}
use Rattle.kc_session.specs.NextLine.{IsEndedLine, IsLastLine}
use Rattle.kc_session.specs.NextCommand.{AreEndedLines, IsWholeCommand}
use Rattle.kc_session.proofs.BodyHolding.{both_true, and_false}
use Rattle.kc_session.proofs.Lines.{is_ended-unended, IsLastLine-unended}

-- ---- lines and commands
-- the lines of a body are passed
commands_after-taken : (body more : List (List ℕ)) → commands_after (length body) (body ++ more) ≡ commands_after 0 more
unfolding commands_after
commands_after-taken [] more = refl
commands_after-taken (l ∷ ls) more = commands_after-taken ls more

-- a load takes all that is left
commands_after-all : (k : ℕ) (lines : List (List ℕ)) → length lines ≤ k → commands_after k lines ≡ []
unfolding commands_after
commands_after-all zero [] h = refl
commands_after-all zero (l ∷ ls) h = absurd (omega (arith, h))
commands_after-all (suc k) [] h = refl
commands_after-all (suc k) (l ∷ ls) h = commands_after-all k ls (omega (arith, h))

first_command : (bytes line : List ℕ) (lines : List (List ℕ)) → lines_of bytes ≡ line ∷ lines
    → commands_of bytes ≡ command_with_body line (take (lines_taken line) lines) ∷ commands_after (lines_taken line) lines
unfolding commands_of commands_after
first_command bytes line lines e = ap (commands_after 0) e

pub commands_of-nil : commands_of [] ≡ []
unfolding commands_of commands_after lines_of
commands_of-nil = refl

commands_of-lines : (more : List ℕ) → commands_after 0 (lines_of more) ≡ commands_of more
unfolding commands_of
commands_of-lines more = refl

-- a line and its body, each line with its line feed
pub IsWholeCommand-lines : (line : List ℕ) (body : List (List ℕ)) → IsEndedLine line → AreEndedLines body → length body ≡ lines_taken line
    → IsWholeCommand (line ++ joined body) (command_with_body line body)
IsWholeCommand-lines line body is_line are_lines count =
    record {
      first = λ more.
          let lines : lines_of ((line ++ joined body) ++ more) ≡ line ∷ (body ++ lines_of more) =
          ap lines_of (append_assoc line (joined body) more) ∙ is_line.first (joined body ++ more) ∙ ap (λ ls. line ∷ ls) (are_lines.first more) in
          first_command ((line ++ joined body) ++ more) line (body ++ lines_of more) lines
          ∙ ap (λ k. command_with_body line (take k (body ++ lines_of more)) ∷ commands_after k (body ++ lines_of more)) (sym count)
          ∙ ap (λ b. command_with_body line b ∷ commands_after (length body) (body ++ lines_of more)) (take-append_seam body (lines_of more))
          ∙ ap (λ cs. command_with_body line body ∷ cs) (commands_after-taken body (lines_of more) ∙ commands_of-lines more);
      complete = both_true _ _ is_line.ended (both_true _ _ (eq-eqb (length body) (lines_taken line) count) are_lines.ended);
    }

-- a line and what is left behind it
pub commands_of-last_lines : (line rest : List ℕ) (body : List (List ℕ)) → IsEndedLine line → lines_of rest ≡ body → length body ≤ lines_taken line
    → commands_of (line ++ rest) ≡ command_with_body line body ∷ []
commands_of-last_lines line rest body is_line are count =
    first_command (line ++ rest) line body (is_line.first rest ∙ ap (λ ls. line ∷ ls) are)
    ∙ (λ i. command_with_body line (take_all (lines_taken line) body count i) ∷ commands_after-all (lines_taken line) body count i)

-- a last line, without a line feed
pub commands_of-last_line : (line : List ℕ) → IsLastLine line → commands_of line ≡ command_with_body line [] ∷ []
commands_of-last_line line is_line =
    first_command line line [] is_line.only
    ∙ (λ i. command_with_body line (take_all (lines_taken line) [] (omega arith) i) ∷ commands_after-all (lines_taken line) [] (omega arith) i)

-- ---- commands that are not complete
complete_of : (bytes : List ℕ) (command : StreamCommand) → commands_of bytes ≡ command ∷ [] → is_complete command ≡ false → complete_commands_of bytes ≡ []
unfolding complete_commands_of
complete_of bytes command only lacks = ap (filter is_complete) only ∙ cond-false (is_complete command) _ _ lacks

pub complete_commands_of-nil : complete_commands_of [] ≡ []
unfolding complete_commands_of
complete_commands_of-nil = ap (filter is_complete) commands_of-nil

-- a beginning of a line
pub complete_commands_of-line : (part : List ℕ) → has_feed part ≡ false → complete_commands_of part ≡ []
complete_commands_of-line [] h = complete_commands_of-nil
complete_commands_of-line (b ∷ bs) h =
    complete_of (b ∷ bs) (command_with_body (b ∷ bs) []) (commands_of-last_line (b ∷ bs) (IsLastLine-unended b bs h))
    (ap (λ e. e && (length (command_with_body (b ∷ bs) []).body == lines_taken (b ∷ bs) && true)) (is_ended-unended (b ∷ bs) h))

-- a line and a part of its body
pub complete_commands_of-body : (line part : List ℕ) → IsEndedLine line → length (lines_of part) ≤ lines_taken line
    → (length (lines_of part) == lines_taken line && list_all is_ended (lines_of part)) ≡ false → complete_commands_of (line ++ part) ≡ []
complete_commands_of-body line part is_line count few =
    complete_of (line ++ part) (command_with_body line (lines_of part)) (commands_of-last_lines line part (lines_of part) is_line refl count)
    (and_false (is_ended line) _ few)

-- ---- whole commands
-- The stream can be cut after `front`: it begins with the commands `done`, all complete, whatever follows.
pub record IsCutAfter (front : List ℕ) (done : List StreamCommand) : Type 0 where
  pub commands : (more : List ℕ) → commands_of (front ++ more) ≡ done ++ commands_of more
  pub complete : (more : List ℕ) → complete_commands_of (front ++ more) ≡ done ++ complete_commands_of more

pub IsCutAfter-nil : IsCutAfter [] []
IsCutAfter-nil = record { commands = λ more. refl; complete = λ more. refl }

complete_first : (bytes more : List ℕ) (command : StreamCommand) → IsWholeCommand bytes command
    → complete_commands_of (bytes ++ more) ≡ command ∷ complete_commands_of more
unfolding complete_commands_of
complete_first bytes more command is_whole =
    ap (filter is_complete) (is_whole.first more) ∙ cond-true (is_complete command) _ _ is_whole.complete

-- one command more
pub IsCutAfter-more : (front bytes : List ℕ) (done : List StreamCommand) (command : StreamCommand) → IsCutAfter front done → IsWholeCommand bytes command
    → IsCutAfter (front ++ bytes) (done ++ command ∷ [])
IsCutAfter-more front bytes done command cut is_whole =
    record {
      commands = λ more.
          ap commands_of (append_assoc front bytes more) ∙ cut.commands (bytes ++ more) ∙ ap (λ rest. done ++ rest) (is_whole.first more) ∙ sym (append_assoc done (command ∷ []) (commands_of more));
      complete = λ more.
          ap complete_commands_of (append_assoc front bytes more) ∙ cut.complete (bytes ++ more) ∙ ap (λ rest. done ++ rest) (complete_first bytes more command is_whole) ∙ sym (append_assoc done (command ∷ []) (complete_commands_of more));
    }

-- at the end of the stream
pub commands_of-cut : (front : List ℕ) (done : List StreamCommand) → IsCutAfter front done → commands_of front ≡ done
commands_of-cut front done cut =
    ap commands_of (sym (append-nil front)) ∙ cut.commands [] ∙ ap (λ rest. done ++ rest) commands_of-nil ∙ append-nil done

-- at the end of the stream, after the last command
pub commands_of-last : (front bytes : List ℕ) (done : List StreamCommand) (command : StreamCommand) → IsCutAfter front done → commands_of bytes ≡ command ∷ []
    → commands_of (front ++ bytes) ≡ done ++ command ∷ []
commands_of-last front bytes done command cut only =
    cut.commands bytes ∙ ap (λ rest. done ++ rest) only

-- where reading failed within a command
pub complete_commands_of-part : (front part : List ℕ) (done : List StreamCommand) → IsCutAfter front done → complete_commands_of part ≡ []
    → complete_commands_of (front ++ part) ≡ done
complete_commands_of-part front part done cut none =
    cut.complete part ∙ ap (λ rest. done ++ rest) none ∙ append-nil done
