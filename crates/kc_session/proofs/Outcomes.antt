-- What an edit did, with or without its memory.
use Rattle.std.proofs.Common.{◌≡◌, ◌≤◌, Bool, true, false, not, if◌then◌else◌, ℕ, List, [], length, Option, Some, None, Result, Ok, Err, IfOk, OnErr, is_some, IsTrue, refl, sym, ap, ◌∙◌, subst, arith}
use Rattle.std.proofs.lemmas.Bool.{false≢true}
use Rattle.std.proofs.lemmas.List.{set_past}
use Rattle.std.specs.Option.{option_map_or}
use Rattle.kc_statement.specs.declared.id.SymId.{SymId}
use Rattle.kc_outline.specs.declared.id.ChoiceId.{ChoiceId}
use Rattle.kc_tree.specs.declared.user_value.UserVal.{UserVal}
use Rattle.kc_tree.specs.declared.user_value.UserVal.TheVariants.{Text}
use Rattle.kc_statement.specs.SymbolTypes.{is_tri_type}
use Rattle.kc_outline.specs.TreeValue.{TreeValue, symbol_named, choice_of}
use Rattle.kc_value.specs.UserValues.{UserValues, IsUserFor, with_value, with_chosen}
use Rattle.kc_tree.specs.Fits.{type_of}
use Rattle.kc_session.specs.declared.command.Command.TheVariants.{Set}
use Rattle.kc_session.specs.declared.command.Refusal.{Refusal}
use Rattle.kc_session.specs.declared.command.Refusal.TheVariants.{UnknownCommand, UndefinedSymbol, BadValue, BadMemberValue, BadLineCount, TooLong, NoMemory}
use Rattle.kc_session.specs.declared.command.Reply.{Reply}
use Rattle.kc_session.specs.declared.command.Reply.TheVariants.{Done, Refused}
use Rattle.kc_session.specs.Session.{IsSound, SessionState, SessionValue, with_user}
use Rattle.kc_session.specs.Values.{value_of}
use Rattle.kc_session.specs.Effect.{Outcome, IsOutcome, IsReplyTo, IsApplied, answer, perform, keeps_text, refuse, give_value, set_member, set_value, set_symbol, set_outcome, loaded, load_outcome}
use Rattle.kc_files.specs.OneReading.{assigns_in}
use Rattle.kc_session.specs.Bodies.{fits_body, warnings_text_of, IsReadRefusal}
use Rattle.kc_files.specs.declared.assign.Assign.{Assign}
use Rattle.kc_files.specs.declared.loading.Load.{Load}
use Rattle.kc_files.specs.Loading.{user_after}
use Rattle.kc_statement.specs.Numerals.{numeral_in}
use Rattle.kc_statement.specs.declared.symbol_type.SymbolType.{SymbolType}
use Rattle.kc_statement.specs.declared.symbol_type.SymbolType.TheVariants as kind

-- with its memory, an edit did what is due
pub done_as_due : (s : SessionValue) (due : Outcome) (r : Reply) (n : SessionValue) → r ≡ due.reply → n ≡ with_user s due.user → IsOutcome s due r n
done_as_due s due r n replied session = record { starved = false; may = λ h. absurd (false≢true h); replied = replied; session = session }

pub same_due : (s : SessionValue) (due other : Outcome) (r : Reply) (n : SessionValue) → due ≡ other → IsOutcome s due r n → IsOutcome s other r n
same_due s due other r n d o = subst (λ x. IsOutcome s x r n) d o

-- ---- a text that a query asks for
pub text_answered : {T E : Type 0} (bytes : T → List ℕ) (s : SessionValue) (due : List ℕ) (r : Result T E) (reply : Reply) → IfOk r (λ t. bytes t ≡ due)
    → IfOk r (λ t. reply ≡ Done (bytes t)) → OnErr r (reply ≡ Refused NoMemory) → IsReplyTo reply (answer s due)
text_answered bytes s due (Ok t) reply is done starved = record { starved = false; may = λ h. refl; is = done ∙ ap Done is }
text_answered bytes s due (Err e) reply is done starved = record { starved = true; may = λ h. refl; is = starved }

-- memory was refused before it was there
pub text_starved : (s : SessionValue) (due : List ℕ) → IsReplyTo (Refused NoMemory) (answer s due)
text_starved s due = record { starved = true; may = λ h. refl; is = refl }

-- ---- the value of a symbol
pub value_refused : (s : SessionValue) (k : SymId) (value : List ℕ) (r : Reply) (n : SessionValue) → value_of (type_of s.tree k) value ≡ None
    → r ≡ Refused BadValue → n ≡ s → IsOutcome s (set_value s k value) r n
value_refused s k value r n none replied same =
    let due : refuse s BadValue ≡ set_value s k value = ap (λ v. option_map_or (give_value s k) v (refuse s BadValue)) (sym none) in
    same_due s (refuse s BadValue) (set_value s k value) r n due (done_as_due s (refuse s BadValue) r n replied same)

pub value_kept : (s : SessionValue) (k : SymId) (value : List ℕ) (v : UserVal) (r : Reply) (n : SessionValue) → value_of (type_of s.tree k) value ≡ Some v
    → r ≡ Done [] → n ≡ with_user s (with_value s.user k (Some v)) → IsOutcome s (set_value s k value) r n
value_kept s k value v r n some replied session =
    let due : give_value s k v ≡ set_value s k value = ap (λ v. option_map_or (give_value s k) v (refuse s BadValue)) (sym some) in
    same_due s (give_value s k v) (set_value s k value) r n due (done_as_due s (give_value s k v) r n replied session)

-- what is spelt for a symbol that is no bool and no tristate is a text
keeps_number : (k : SymbolType) (text : List ℕ) (b : Bool) → IsTrue (is_some (if b then Some (Text text) else None))
    → IsTrue (option_map_or keeps_text (if b then Some (Text text) else None) false)
keeps_number k text true h = h
keeps_number k text false h = h

keeps_spelled : (k : SymbolType) (text : List ℕ) → IsTrue (not (is_tri_type k)) → IsTrue (is_some (value_of k text))
    → IsTrue (option_map_or keeps_text (value_of k text) false)
keeps_spelled kind.Bool text is_text spelled = absurd (false≢true is_text)
keeps_spelled kind.Tristate text is_text spelled = absurd (false≢true is_text)
keeps_spelled kind.String text is_text spelled = is_text
keeps_spelled kind.Int text is_text spelled = keeps_number kind.Int text (is_some (numeral_in kind.Int text)) spelled
keeps_spelled kind.Hex text is_text spelled = keeps_number kind.Hex text (is_some (numeral_in kind.Hex text)) spelled

takes_if_keeps : (s : SessionValue) (k : SymId) (v : Option UserVal) → IsTrue (option_map_or keeps_text v false)
    → IsTrue (option_map_or (give_value s k) v (refuse s BadValue)).takes_memory
takes_if_keeps s k None h = h
takes_if_keeps s k (Some v) h = h

pub value_starved : (s : SessionValue) (k : SymId) (value : List ℕ) (r : Reply) (n : SessionValue) → IsTrue (not (is_tri_type (type_of s.tree k)))
    → IsTrue (is_some (value_of (type_of s.tree k) value)) → r ≡ Refused NoMemory → n ≡ s → IsOutcome s (set_value s k value) r n
value_starved s k value r n is_text spelled replied same = record {
  starved = true;
  may = λ yes. takes_if_keeps s k (value_of (type_of s.tree k) value) (keeps_spelled (type_of s.tree k) value is_text spelled);
  replied = replied;
  session = same;
}

-- ---- a symbol, a member of a choice or not
pub member_outcome : (s : SessionValue) (k : SymId) (c : ChoiceId) (value : List ℕ) (r : Reply) (n : SessionValue) → choice_of s.tree k ≡ Some c
    → r ≡ (set_member s k c value).reply → n ≡ with_user s (set_member s k c value).user → IsOutcome s (set_symbol s value k) r n
member_outcome s k c value r n is_member replied session =
    let due : set_member s k c value ≡ set_symbol s value k = ap (λ x. option_map_or (λ c. set_member s k c value) x (set_value s k value)) (sym is_member) in
    same_due s (set_member s k c value) (set_symbol s value k) r n due (done_as_due s (set_member s k c value) r n replied session)

pub free_outcome : (s : SessionValue) (k : SymId) (value : List ℕ) (r : Reply) (n : SessionValue) → choice_of s.tree k ≡ None
    → IsOutcome s (set_value s k value) r n → IsOutcome s (set_symbol s value k) r n
free_outcome s k value r n is_free o =
    same_due s (set_value s k value) (set_symbol s value k) r n
    (ap (λ x. option_map_or (λ c. set_member s k c value) x (set_value s k value)) (sym is_free)) o

-- ---- the command
pub unknown_applied : (s : SessionValue) (name value : List ℕ) (r : Reply) (n : SessionValue) → symbol_named s.tree name ≡ None
    → r ≡ Refused UndefinedSymbol → n ≡ s → IsApplied s (Set name value) r n
unfolding perform
unknown_applied s name value r n none replied same =
    let due : refuse s UndefinedSymbol ≡ set_outcome s name value = ap (λ x. option_map_or (set_symbol s value) x (refuse s UndefinedSymbol)) (sym none) in
    same_due s (refuse s UndefinedSymbol) (set_outcome s name value) r n due (done_as_due s (refuse s UndefinedSymbol) r n replied same)

pub symbol_applied : (s : SessionValue) (name value : List ℕ) (k : SymId) (r : Reply) (n : SessionValue) → symbol_named s.tree name ≡ Some k
    → IsOutcome s (set_symbol s value k) r n → IsApplied s (Set name value) r n
unfolding perform
symbol_applied s name value k r n some o =
    same_due s (set_symbol s value k) (set_outcome s name value) r n
    (ap (λ x. option_map_or (set_symbol s value) x (refuse s UndefinedSymbol)) (sym some)) o

-- ---- a load
pub load_refused : (s : SessionValue) (load : Load) (body : List ℕ) (f : Refusal) (r : Reply) (n : SessionValue) → IsReadRefusal body f
    → r ≡ Refused f → n ≡ s → IsOutcome s (load_outcome s load body) r n
load_refused s load body TooLong r n why replied same =
    let due : refuse s TooLong ≡ load_outcome s load body = ap (λ b. if b then loaded s load body else refuse s TooLong) (sym why) in
    same_due s (refuse s TooLong) (load_outcome s load body) r n due (done_as_due s (refuse s TooLong) r n replied same)
load_refused s load body NoMemory r n why replied same =
    let due : loaded s load body ≡ load_outcome s load body = ap (λ b. if b then loaded s load body else refuse s TooLong) (sym why) in
    same_due s (loaded s load body) (load_outcome s load body) r n due
    (record { starved = true; may = λ h. h; replied = replied; session = same })
load_refused s load body UnknownCommand r n why replied same = absurd why
load_refused s load body UndefinedSymbol r n why replied same = absurd why
load_refused s load body BadValue r n why replied same = absurd why
load_refused s load body BadMemberValue r n why replied same = absurd why
load_refused s load body BadLineCount r n why replied same = absurd why

pub load_done : (s : SessionValue) (load : Load) (body text : List ℕ) (assigns : List Assign) (u : UserValues) (r : Reply) (n : SessionValue)
    → fits_body body ≡ true → text ≡ warnings_text_of s.tree s.prefix body → assigns ≡ assigns_in s.tree s.prefix body
    → u ≡ user_after s.tree s.user load assigns → r ≡ Done text → n ≡ with_user s u → IsOutcome s (load_outcome s load body) r n
load_done s load body text assigns u r n fits warnings counted user replied session =
    let due : loaded s load body ≡ load_outcome s load body = ap (λ b. if b then loaded s load body else refuse s TooLong) (sym fits) in
    same_due s (loaded s load body) (load_outcome s load body) r n due
    (done_as_due s (loaded s load body) r n (replied ∙ ap Done warnings) (session ∙ ap (with_user s) (user ∙ ap (user_after s.tree s.user load) counted)))

-- ---- values and chosen members
-- a choice that is not there is not changed
pub chosen_outside : (t : TreeValue) (u : UserValues) (c : ChoiceId) (m : Option SymId) → IsUserFor t u → length t.choices ≤ c.0 → with_chosen u c m ≡ u
chosen_outside t u c m sized out =
    ap (λ x. record { values = u.values; chosen = x }) (set_past u.chosen c.0 m (omega (arith, sized.chosen, out)))

-- .. so that the session is what it was
pub chosen_past : (s : SessionState) (c : ChoiceId) (m : Option SymId) → IsSound s → length s.session.tree.choices ≤ c.0 → s.session ≡ with_user s.session (with_chosen s.session.user c m)
chosen_past s c m sound out = ap (with_user s.session) (sym (chosen_outside s.session.tree s.session.user c m sound.user out))
