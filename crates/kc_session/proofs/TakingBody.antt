-- What was taken of a body so far, and what a line and its body are together.
use Rattle.std.proofs.Common.{◌≡◌, ℕ, ◌+◌, ◌<◌, ◌≤◌, ◌==◌, ◌&&◌, Bool, true, false, List, [], ◌∷◌, ◌++◌, length, Option, Result, Ok, Err, IsTrue, refl, sym, ap, subst, ◌∙◌, inl, inr, append_assoc, append-nil, length-append, arith}
use Rattle.std.specs.List.{list_all}
use Rattle.std.specs.Io.KnownBytes.{Consumes}
use Rattle.std.specs.Result.{IfOk}
use Rattle.kc_session.specs.declared.fault.IoFault.{IoFault}
use Rattle.kc_session.specs.declared.next_command.CommandRead.{CommandRead}
use Rattle.kc_session.specs.declared.next_command.CommandRead.TheVariants.{Whole, Last, Nothing}
use Rattle.std.proofs.KnownBytes.{Consumes-trans}
use Rattle.std.proofs.lemmas.Bool.{cases_lt, ne_eqb}
use Rattle.std.proofs.lemmas.List.Folds.{list_all-append}
use Rattle.kc_session.specs.declared.command.Refusal.TheVariants.{BadLineCount}
use Rattle.kc_session.specs.Commands.{request_of_text, lines_asked}
use Rattle.kc_session.specs.Stream.{has_feed, is_ended, lines_of, text_if_fits}
use Rattle.kc_session.specs.StreamCommands.{command_with_body, lines_taken}
use Rattle.kc_session.specs.Held.{HeldLine, held_of, text_held}
use Rattle.kc_session.specs.HeldBody.{HeldBody, HoldsLines, GivesBody, body_held, joined}
use Rattle.kc_session.specs.NextLine.{TakesEndedLine, TakesLastLine, TakesNothing, StopsInLine}
use Rattle.kc_session.specs.NextCommand.{AreEndedLines, TakesEndedBody, TakesLastBody, TakesBody, StopsInBody, TakesWholeCommand, TakesLastCommand, TakesCommand, StopsInCommand, may_go_on}
use Rattle.kc_session.proofs.BodyHolding.{joined-push, both_true, and_false, GivesBody-all, GivesBody-short}
use Rattle.kc_session.proofs.Cutting.{IsWholeCommand-lines, commands_of-last_lines, commands_of-last_line, complete_commands_of-line, complete_commands_of-body}
use Rattle.kc_session.proofs.Holding.{text_held-held_of}
use Rattle.kc_session.proofs.Lines.{is_ended-unended, IsLastLine-unended}

lines_of-nil : lines_of [] ≡ []
unfolding lines_of
lines_of-nil = refl

-- ---- the lines of a body
-- Lines with their line feeds were taken and are held; so many are still to come.
pub record HasTakenLines (k : ℕ) (left after : Option (List ℕ)) (held : HeldBody) (to_come : ℕ) : Type 0 where
  pub lines : List (List ℕ)
  pub taken : Consumes left after (joined lines)
  pub are_lines : AreEndedLines lines
  pub count : length lines + to_come ≡ k
  pub holds : HoldsLines held lines

-- what `push_line` does with a line, whatever lines are held
abbrev pub PushesLine : HeldBody → HeldBody → HeldLine → Type 0
PushesLine held pushed line = (lines : List (List ℕ)) (bytes : List ℕ) → HoldsLines held lines → line ≡ held_of bytes → HoldsLines pushed (lines ++ bytes ∷ [])

pub HasTakenLines-nil : (k : ℕ) (at : Option (List ℕ)) (held : HeldBody) → HoldsLines held [] → Consumes at at [] → HasTakenLines k at at held k
HasTakenLines-nil k at held holds none =
    record { lines = []; taken = none; are_lines = record { first = λ more. refl; ended = refl }; count = omega arith; holds = holds }

-- the bytes of the lines and one more
taken_more : (left mid after : Option (List ℕ)) (lines : List (List ℕ)) (line : List ℕ) → Consumes left mid (joined lines) → Consumes mid after line
    → Consumes left after (joined (lines ++ line ∷ []))
taken_more left mid after lines line first second =
    subst (Consumes left after) (sym (joined-push lines line)) (Consumes-trans left mid after (joined lines) line first second)

length-one_more : (lines : List (List ℕ)) (line : List ℕ) → length (lines ++ line ∷ []) ≡ length lines + 1
length-one_more lines line = length-append lines (line ∷ [])

ended_more : (lines : List (List ℕ)) (line : List ℕ) (b : Bool) → is_ended line ≡ b → list_all is_ended (lines ++ line ∷ []) ≡ (list_all is_ended lines && (b && true))
ended_more lines line b e =
    list_all-append is_ended lines (line ∷ []) ∙ ap (λ x. list_all is_ended lines && (x && true)) e

pub HasTakenLines-more : (k : ℕ) (left mid after : Option (List ℕ)) (held pushed : HeldBody) (line : HeldLine) (to_come fewer : ℕ) → HasTakenLines k left mid held to_come
    → TakesEndedLine mid after line → PushesLine held pushed line → to_come ≡ fewer + 1 → HasTakenLines k left after pushed fewer
HasTakenLines-more k left mid after held pushed line to_come fewer h takes pushes one =
    record {
      lines = h.lines ++ takes.line ∷ [];
      taken = taken_more left mid after h.lines takes.line h.taken takes.taken;
      are_lines = record {
        first = λ more.
            ap (λ bytes. lines_of (bytes ++ more)) (joined-push h.lines takes.line)
            ∙ ap lines_of (append_assoc (joined h.lines) takes.line more)
            ∙ h.are_lines.first (takes.line ++ more)
            ∙ ap (λ ls. h.lines ++ ls) (takes.is_line.first more)
            ∙ sym (append_assoc h.lines (takes.line ∷ []) (lines_of more));
        ended = ended_more h.lines takes.line true takes.is_line.ended ∙ both_true _ _ h.are_lines.ended refl;
      };
      count = omega (arith, h.count, one, length-one_more h.lines takes.line);
      holds = pushes h.lines takes.line h.holds takes.holds;
    }

-- the lines of the bytes are these
alone : (lines : List (List ℕ)) → AreEndedLines lines → lines_of (joined lines) ≡ lines
alone lines are =
    ap lines_of (sym (append-nil (joined lines))) ∙ are.first [] ∙ ap (λ ls. lines ++ ls) lines_of-nil ∙ append-nil lines

pub TakesEndedBody-all : (k : ℕ) (left after : Option (List ℕ)) (held : HeldBody) (to_come : ℕ) → HasTakenLines k left after held to_come → to_come ≡ 0
    → TakesEndedBody k left after held
TakesEndedBody-all k left after held to_come h none =
    let count : length h.lines ≡ k = omega (arith, h.count, none) in
    record { lines = h.lines; taken = h.taken; are_lines = h.are_lines; count = count; gives = GivesBody-all held k h.lines h.holds count }

-- the stream has ended before the next line
pub TakesLastBody-nothing : (k : ℕ) (left mid after : Option (List ℕ)) (held ended : HeldBody) (to_come : ℕ) → HasTakenLines k left mid held to_come
    → TakesNothing mid after → 0 < to_come → body_held ended ≡ Err BadLineCount → TakesLastBody k left after ended
TakesLastBody-nothing k left mid after held ended to_come h nothing some is =
    record {
      lines = h.lines;
      taken = subst (Consumes left after) (append-nil (joined h.lines)) (Consumes-trans left mid after (joined h.lines) [] h.taken nothing.taken);
      are_lines = alone h.lines h.are_lines;
      count = omega (arith, h.count);
      gives = GivesBody-short ended k h.lines is (ne_eqb (length h.lines) k (λ e. absurd (omega (arith, e, h.count, some))));
      end = nothing.end;
    }

-- the stream has ended with a line of the body
last_lines : (lines : List (List ℕ)) (line : List ℕ) → AreEndedLines lines → lines_of line ≡ line ∷ [] → lines_of (joined (lines ++ line ∷ [])) ≡ lines ++ line ∷ []
last_lines lines line are only =
    ap lines_of (joined-push lines line) ∙ are.first line ∙ ap (λ ls. lines ++ ls) only

pub TakesLastBody-line : (k : ℕ) (left mid after : Option (List ℕ)) (held pushed : HeldBody) (line : HeldLine) (to_come : ℕ) → HasTakenLines k left mid held to_come
    → TakesLastLine mid after line → PushesLine held pushed line → to_come ≡ 1 → TakesLastBody k left after pushed
TakesLastBody-line k left mid after held pushed line to_come h takes pushes one =
    let count : length (h.lines ++ takes.line ∷ []) ≡ k = omega (arith, h.count, one, length-one_more h.lines takes.line) in
    record {
      lines = h.lines ++ takes.line ∷ [];
      taken = taken_more left mid after h.lines takes.line h.taken takes.taken;
      are_lines = last_lines h.lines takes.line h.are_lines takes.is_line.only;
      count = omega (arith, count);
      gives = GivesBody-all pushed k (h.lines ++ takes.line ∷ []) (pushes h.lines takes.line h.holds takes.holds) count;
      end = takes.end;
    }

pub TakesLastBody-few : (k : ℕ) (left mid after : Option (List ℕ)) (held ended : HeldBody) (line : HeldLine) (to_come : ℕ) → HasTakenLines k left mid held to_come
    → TakesLastLine mid after line → 1 < to_come → body_held ended ≡ Err BadLineCount → TakesLastBody k left after ended
TakesLastBody-few k left mid after held ended line to_come h takes more is =
    let lines : List (List ℕ) = h.lines ++ takes.line ∷ [] in
    record {
      lines = lines;
      taken = taken_more left mid after h.lines takes.line h.taken takes.taken;
      are_lines = last_lines h.lines takes.line h.are_lines takes.is_line.only;
      count = omega (arith, h.count, more, length-one_more h.lines takes.line);
      gives = GivesBody-short ended k lines is (ne_eqb (length lines) k (λ e. absurd (omega (arith, e, h.count, more, length-one_more h.lines takes.line))));
      end = takes.end;
    }

pub TakesLastBody-last : (k : ℕ) (left mid after : Option (List ℕ)) (held ended : HeldBody) (line : HeldLine) (to_come : ℕ) → HasTakenLines k left mid held to_come
    → TakesLastLine mid after line → 0 < to_come → (to_come ≡ 1 → PushesLine held ended line) → (1 < to_come → body_held ended ≡ Err BadLineCount) → TakesLastBody k left after ended
TakesLastBody-last k left mid after held ended line to_come h takes some all few =
    elim (cases_lt 1 to_come) [
      | inl more ↦ TakesLastBody-few k left mid after held ended line to_come h takes more (few more)
      | inr one ↦
          let is : to_come ≡ 1 = omega (arith, some, one) in
          TakesLastBody-line k left mid after held ended line to_come h takes (all is) is
    ]

-- reading failed within a line of the body
pub StopsInBody-line : (k : ℕ) (left mid after : Option (List ℕ)) (held : HeldBody) (to_come : ℕ) → HasTakenLines k left mid held to_come
    → StopsInLine mid after → 0 < to_come → StopsInBody k left after
StopsInBody-line k left mid after held to_come h stops some =
    record {
      part = joined h.lines ++ stops.part;
      taken = Consumes-trans left mid after (joined h.lines) stops.part h.taken stops.taken;
      count = subst (λ ls. length ls ≤ k) (sym (h.are_lines.first stops.part)) (few stops.part stops.has_no_feed);
      is_part = ap (λ ls. length ls == k && list_all is_ended ls) (h.are_lines.first stops.part) ∙ partial stops.part stops.has_no_feed;
    }
  where
    few : (part : List ℕ) → has_feed part ≡ false → length (h.lines ++ lines_of part) ≤ k
    few [] none = omega (arith, h.count, length-append h.lines (lines_of []), ap length lines_of-nil)
    few (b ∷ bs) none = omega (arith, h.count, some, length-append h.lines (lines_of (b ∷ bs)), ap length (IsLastLine-unended b bs none).only)

    partial : (part : List ℕ) → has_feed part ≡ false → (length (h.lines ++ lines_of part) == k && list_all is_ended (h.lines ++ lines_of part)) ≡ false
    partial [] none =
        ap (λ b. b && list_all is_ended (h.lines ++ lines_of []))
        (ne_eqb (length (h.lines ++ lines_of [])) k (λ e. absurd (omega (arith, e, h.count, some, length-append h.lines (lines_of []), ap length lines_of-nil))))
    partial (b ∷ bs) none =
        and_false _ _
        (ap (λ ls. list_all is_ended (h.lines ++ ls)) (IsLastLine-unended b bs none).only
        ∙ ended_more h.lines (b ∷ bs) false (is_ended-unended (b ∷ bs) none)
        ∙ and_false _ _ refl)

-- ---- a line and its body
-- how many lines are asked for, by the text that is held
pub taken_by : (line : HeldLine) (bytes : List ℕ) (text : Option (List ℕ)) (k : ℕ) → line ≡ held_of bytes → text ≡ text_held line → k ≡ lines_asked (request_of_text text)
    → lines_taken bytes ≡ k
unfolding lines_taken
taken_by line bytes text k holds is asks =
    sym (asks ∙ ap (λ t. lines_asked (request_of_text t)) (is ∙ ap text_held holds ∙ text_held-held_of bytes))

text_of_held : (line : HeldLine) (bytes : List ℕ) → line ≡ held_of bytes → text_held line ≡ text_if_fits bytes
text_of_held line bytes holds = ap text_held holds ∙ text_held-held_of bytes

pub TakesWholeCommand-body : (left mid after : Option (List ℕ)) (line : HeldLine) (body : HeldBody) (text : Option (List ℕ)) (k : ℕ) → TakesEndedLine left mid line
    → text ≡ text_held line → k ≡ lines_asked (request_of_text text) → TakesEndedBody k mid after body → TakesWholeCommand left after line body
TakesWholeCommand-body left mid after line body text k takes is asks b =
    let same = taken_by line takes.line text k takes.holds is asks in
    record {
      command = command_with_body takes.line b.lines;
      bytes = takes.line ++ joined b.lines;
      taken = Consumes-trans left mid after takes.line (joined b.lines) takes.taken b.taken;
      is_command = IsWholeCommand-lines takes.line b.lines takes.is_line b.are_lines (b.count ∙ sym same);
      holds = record {
        text = text_of_held line takes.line takes.holds;
        gives = subst (λ n. GivesBody (body_held body) n b.lines) (sym same) b.gives;
        are_lines = alone b.lines b.are_lines;
      };
    }

pub TakesLastCommand-body : (left mid after : Option (List ℕ)) (line : HeldLine) (body : HeldBody) (text : Option (List ℕ)) (k : ℕ) → TakesEndedLine left mid line
    → text ≡ text_held line → k ≡ lines_asked (request_of_text text) → TakesLastBody k mid after body → TakesLastCommand left after line body
TakesLastCommand-body left mid after line body text k takes is asks b =
    let same = taken_by line takes.line text k takes.holds is asks in
    record {
      command = command_with_body takes.line b.lines;
      bytes = takes.line ++ joined b.lines;
      taken = Consumes-trans left mid after takes.line (joined b.lines) takes.taken b.taken;
      only = commands_of-last_lines takes.line (joined b.lines) b.lines takes.is_line b.are_lines (subst (λ n. length b.lines ≤ n) (sym same) b.count);
      holds = record {
        text = text_of_held line takes.line takes.holds;
        gives = subst (λ n. GivesBody (body_held body) n b.lines) (sym same) b.gives;
        are_lines = b.are_lines;
      };
      end = b.end;
    }

-- a last line, which has no body
pub TakesLastCommand-line : (left after : Option (List ℕ)) (line : HeldLine) (body : HeldBody) (text : Option (List ℕ)) (k : ℕ) → TakesLastLine left after line
    → text ≡ text_held line → k ≡ lines_asked (request_of_text text) → GivesBody (body_held body) k [] → TakesLastCommand left after line body
TakesLastCommand-line left after line body text k takes is asks gives =
    record {
      command = command_with_body takes.line [];
      bytes = takes.line;
      taken = takes.taken;
      only = commands_of-last_line takes.line takes.is_line;
      holds = record {
        text = text_of_held line takes.line takes.holds;
        gives = subst (λ n. GivesBody (body_held body) n []) (sym (taken_by line takes.line text k takes.holds is asks)) gives;
        are_lines = lines_of-nil;
      };
      end = takes.end;
    }

-- reading failed
pub StopsInCommand-line : (left after : Option (List ℕ)) → StopsInLine left after → StopsInCommand left after
StopsInCommand-line left after stops =
    record { part = stops.part; taken = stops.taken; none = complete_commands_of-line stops.part stops.has_no_feed }

pub StopsInCommand-body : (left mid after : Option (List ℕ)) (line : HeldLine) (text : Option (List ℕ)) (k : ℕ) → TakesEndedLine left mid line
    → text ≡ text_held line → k ≡ lines_asked (request_of_text text) → StopsInBody k mid after → StopsInCommand left after
StopsInCommand-body left mid after line text k takes is asks stops =
    let same = taken_by line takes.line text k takes.holds is asks in
    record {
      part = takes.line ++ stops.part;
      taken = Consumes-trans left mid after takes.line stops.part takes.taken stops.taken;
      none = complete_commands_of-body takes.line stops.part takes.is_line
          (subst (λ n. length (lines_of stops.part) ≤ n) (sym same) stops.count)
          (ap (λ n. length (lines_of stops.part) == n && list_all is_ended (lines_of stops.part)) same ∙ stops.is_part);
    }

-- ---- by what was found
pub command_of_body : (r : Result CommandRead IoFault) (mid after : Option (List ℕ)) (body : HeldBody) (k : ℕ) → IfOk r (λ read. TakesBody read k mid after body)
    → IfOk r (λ read. (left : Option (List ℕ)) (line : HeldLine) → TakesEndedLine left mid line → k ≡ lines_asked (request_of_text (text_held line)) → TakesCommand read left after line body)
command_of_body (Ok Whole) mid after body k b = λ left line takes asks. TakesWholeCommand-body left mid after line body (text_held line) k takes refl asks b
command_of_body (Ok Last) mid after body k b = λ left line takes asks. TakesLastCommand-body left mid after line body (text_held line) k takes refl asks b
command_of_body (Ok Nothing) mid after body k b = absurd b
command_of_body (Err e) mid after body k b = tt

pub if_it_goes_on : (r : Result CommandRead IoFault) (P : Type 0) → P → IfOk r (λ found. IsTrue (may_go_on found) → P)
if_it_goes_on (Ok found) P p = λ h. p
if_it_goes_on (Err e) P p = tt
