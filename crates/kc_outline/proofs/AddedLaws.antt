-- A line that was added is one more of those that are read.
use Rattle.std.proofs.Common.{◌≡◌, ◌⊎◌, ℕ, ◌+◌, ◌==◌, Bool, true, false, ◌&&◌, ◌||◌, List, [], ◌∷◌, Option, Some, None, cond, nat_le, length, refl, sym, ap, subst, ◌∙◌, inl, inr}
use Rattle.std.specs.Option.{option_map_or}
use Rattle.kc_text.specs.LineValue.{LineValue}
use Rattle.kc_text.specs.declared.line.LineKind.{LineKind}
use Rattle.kc_text.specs.declared.line.LineKind.TheVariants.{Statement as StatementLine, EndOfFile as EndLine}
use Rattle.kc_statement.specs.declared.id.SymId.{SymId}
use Rattle.kc_statement.specs.declared.keyword.Keyword.{Keyword}
use Rattle.kc_statement.specs.declared.keyword.Keyword.TheVariants as keyword
use Rattle.kc_statement.specs.declared.statement.Statement.{Statement}
use Rattle.kc_statement.specs.declared.statement.Statement.TheVariants as statement
use Rattle.kc_statement.specs.LineParts.{SaysOnly}
use Rattle.kc_statement.specs.Keywords.{keyword_of, is_attribute_word, is_config_word, is_opener_word}
use Rattle.kc_statement.proofs.PartLaws.{end_says}
use Rattle.kc_outline.specs.declared.context.Context.{Context}
use Rattle.kc_outline.specs.declared.context.OpenBlock.{OpenBlock}
use Rattle.kc_outline.specs.declared.context.Owner.{Owner}
use Rattle.kc_outline.specs.declared.id.BlockId.{BlockId}
use Rattle.kc_outline.specs.declared.id.ChoiceId.{ChoiceId}
use Rattle.kc_outline.specs.declared.fault.LineProblem.{LineProblem}
use Rattle.kc_outline.specs.declared.fault.LineProblem.TheVariants.{Limit, Malformed, UnknownStatement}
use Rattle.kc_outline.specs.declared.limits.TheConstants.{MOST_OPEN_BLOCKS}
use Rattle.kc_outline.specs.declared.stop.Stop.{Stop}
use Rattle.kc_outline.specs.declared.stop.Stop.TheVariants.{Problem, Form, NoMemory}
use Rattle.kc_outline.specs.Adding.{with_reading}
use Rattle.kc_outline.specs.ContextAfter.{IsContextAfter, IsPlaceAfter, owner_made}
use Rattle.kc_outline.specs.Enclosing.{choice_among, innermost, open_blocks, nearest_statement}
use Rattle.kc_outline.specs.LineFaults.{IsSound, early_problem, kind_problem, word_problem, first_problem, is_no_choice_default, is_past_limit, opens_too_deep, test}
use Rattle.kc_outline.specs.Reader.{IsAdded, IsEntered, IsFound, IsNotAdded, IsOutlineAfter, IsRefused, IsStop, owner_after}
use Rattle.kc_outline.specs.Stops.{problem_in}
use Rattle.kc_outline.specs.TreeOf.{Reading, IsReading, defined_in}
use Rattle.kc_outline.specs.TreeValue.{TreeValue}
use Rattle.kc_outline.proofs.AddingEntries.{tree_push}
use Rattle.kc_outline.proofs.OnlyLaws.{late_alone, malformed_alone}
use Rattle.kc_outline.proofs.OwnerLaws.{next_outline}
use Rattle.kc_outline.proofs.PassingLaws.{place_of}
use Rattle.kc_outline.proofs.ReadingLaws.{form_word, word_of}

-- a line that opens no block opens none too many
pub not_too_deep : (blocks : List OpenBlock) (l : LineValue) (k : Keyword) → keyword_of l ≡ Some k → is_opener_word k ≡ false → opens_too_deep blocks l ≡ false
not_too_deep blocks l k is other =
    ap (λ o. option_map_or is_opener_word o false && nat_le MOST_OPEN_BLOCKS (length blocks)) is ∙ ap (λ b. b && nat_le MOST_OPEN_BLOCKS (length blocks)) other

no_late : (choice deep few : Bool) → choice ≡ false → deep ≡ false → few ≡ false → first_problem (test Malformed choice ∷ test Limit (deep || few) ∷ []) ≡ None
no_late choice deep few a b c = rw (a, b, c) refl

late_choice : (choice deep few : Bool) → choice ≡ true → first_problem (test Malformed choice ∷ test Limit (deep || few) ∷ []) ≡ Some Malformed
late_choice choice deep few a = rw a refl

late_limit : (choice deep few : Bool) → choice ≡ false → (deep || few) ≡ true → first_problem (test Malformed choice ∷ test Limit (deep || few) ∷ []) ≡ Some Limit
late_limit choice deep few a b = rw (a, b) refl

-- a line that was added has no problem
pub sound_added : (earlier : List LineValue) (last : Bool) (l : LineValue) (p : Context) (block : Option BlockId) (choice : Option ChoiceId) (owner : Option Owner) (old new : TreeValue)
    → early_problem earlier last l ≡ None → opens_too_deep p.stack l ≡ false → IsPlaceAfter earlier p
    → (added : IsAdded p.statement block choice owner l old new) → IsSound old.names earlier last l added.statement
sound_added earlier last l p block choice owner old new early shallow at added = record {
  early = early;
  form = added.says.form;
  late =
      no_late (is_no_choice_default (nearest_statement earlier) added.statement) (opens_too_deep (open_blocks earlier) l) (is_past_limit added.statement)
      (ap (λ n. is_no_choice_default n added.statement) (sym at.statement) ∙ added.fits)
      (ap (λ bs. opens_too_deep bs l) (sym at.stack) ∙ shallow)
      added.few;
}

pub found_added : (earlier : List LineValue) (last : Bool) (l : LineValue) (p : Context) (block : Option BlockId) (choice : Option ChoiceId) (owner : Option Owner) (old new : TreeValue)
    → early_problem earlier last l ≡ None → opens_too_deep p.stack l ≡ false → IsPlaceAfter earlier p
    → IsAdded p.statement block choice owner l old new → IsFound old.names earlier last l None
found_added earlier last l p block choice owner old new early shallow at added =
    (added.statement, sound_added earlier last l p block choice owner old new early shallow at added, added.says.only)

-- and is one more of those that are read
pub next_added : (following : ℕ) (earlier : List LineValue) (l : LineValue) (p q : Context) (old new : TreeValue) → early_problem earlier (following == 0) l ≡ None → opens_too_deep p.stack l ≡ false
    → IsAdded p.statement (innermost p.stack) (choice_among p.stack) q.owner l old new
    → IsOutlineAfter old.names (following + 1) earlier old → IsContextAfter old.names earlier p → IsContextAfter old.names (l ∷ earlier) q → IsOutlineAfter old.names following (l ∷ earlier) new
next_added following earlier l p q old new early shallow added before at after =
    let s = added.statement in
    let r : Reading = record {
      statement = s;
      block = innermost p.stack;
      choice = choice_among p.stack;
      owner = q.owner;
    } in
    let reading : IsReading old.names earlier (following == 0) l r = record {
      sound = sound_added earlier (following == 0) l p (innermost p.stack) (choice_among p.stack) q.owner old new early shallow (place_of old.names earlier p at) added;
      block = ap innermost at.stack;
      choice = ap choice_among at.stack;
      owner = after.owner;
    } in
    next_outline old.names following earlier l old new r before reading added.says.only
    (λ rs made named is. added.tree ∙ ap (λ t. with_reading t r) is ∙ tree_push old.names rs s (innermost p.stack) (choice_among p.stack) q.owner made named)

-- ---- an attribute that was not added is at fault
module _ (earlier : List LineValue) (last : Bool) (l : LineValue) (p : Context) (old new : TreeValue) (early : early_problem earlier last l ≡ None) (at : IsPlaceAfter earlier p) where
  pub not_added : (stop : Stop) → IsNotAdded p.statement old new l stop → IsStop old.names earlier last l stop
  not_added NoMemory h = tt
  not_added (Form m) h = malformed_alone old.names earlier last l early h.0
  not_added (Problem problem) ((is, s, says, refused), same) =
      rw is
      (late_alone old.names earlier last l s Malformed early says.form says.only
      (late_choice (is_no_choice_default (nearest_statement earlier) s) (opens_too_deep (open_blocks earlier) l) (is_past_limit s)
      (ap (λ n. is_no_choice_default n s) (sym at.statement) ∙ refused)))

  -- and so is a statement
  pub not_entered : (stop : Stop) → IsRefused p.statement (opens_too_deep p.stack l) old new l stop → IsStop old.names earlier last l stop
  not_entered NoMemory h = tt
  not_entered (Form m) h = malformed_alone old.names earlier last l early h.0
  not_entered (Problem problem) ((is, s, says, fits, past), same) =
      rw is
      (late_alone old.names earlier last l s Limit early says.form says.only
      (late_limit (is_no_choice_default (nearest_statement earlier) s) (opens_too_deep (open_blocks earlier) l) (is_past_limit s)
      (ap (λ n. is_no_choice_default n s) (sym at.statement) ∙ fits)
      (ap (λ bs. opens_too_deep bs l || is_past_limit s) (sym at.stack) ∙ past)))

-- then nothing has changed
pub not_added_same : (nearest : Option Keyword) (old new : TreeValue) (l : LineValue) (stop : Stop) (problem : LineProblem) → IsNotAdded nearest old new l stop → problem_in stop ≡ Some problem → new ≡ old
not_added_same nearest old new l NoMemory problem h is = absurd (cc)
not_added_same nearest old new l (Form m) problem h is = h.1
not_added_same nearest old new l (Problem p) problem h is = h.1

pub not_entered_same : (nearest : Option Keyword) (deep : Bool) (old new : TreeValue) (l : LineValue) (stop : Stop) (problem : LineProblem) → IsRefused nearest deep old new l stop → problem_in stop ≡ Some problem → new ≡ old
not_entered_same nearest deep old new l NoMemory problem h is = absurd (cc)
not_entered_same nearest deep old new l (Form m) problem h is = h.1
not_entered_same nearest deep old new l (Problem p) problem h is = h.1

-- ---- a statement that was added
-- one that defines no symbol
no_symbol : (s : Statement) → option_map_or is_config_word (word_of s) false ≡ false → None ≡ defined_in s
no_symbol (statement.Config x) e = absurd (cc)
no_symbol _ e = refl

module _ (p : Context) (l : LineValue) (k : Keyword) (is : keyword_of l ≡ Some k) (old new : TreeValue) where
  pub entered : is_config_word k ≡ false → opens_too_deep p.stack l ≡ false
      → IsAdded p.statement (innermost p.stack) (choice_among p.stack) (owner_made k None p.definitions p.blocks p.choices p.comments) l old new → IsEntered p k None l old new
  entered other shallow added = record {
    added = added;
    shallow = shallow;
    symbol_is =
        no_symbol added.statement
        (sym (form_word is_config_word refl old.names l added.statement added.says.form) ∙ ap (λ o. option_map_or is_config_word o false) is ∙ other);
  }

  -- what is after it
  pub owned_after : (symbol : Option SymId) (q : Context) → is_attribute_word k ≡ false → q.owner ≡ owner_after p (Some k) symbol → (e : IsEntered p k symbol l old new)
      → IsAdded p.statement (innermost p.stack) (choice_among p.stack) q.owner l old new
  owned_after symbol q other owner e =
      let same : q.owner ≡ owner_made k symbol p.definitions p.blocks p.choices p.comments =
      owner ∙ ap (λ b. cond b p.owner (owner_made k symbol p.definitions p.blocks p.choices p.comments)) other in
      subst (λ o. IsAdded p.statement (innermost p.stack) (choice_among p.stack) o l old new) (sym same) e.added

-- ---- an end of file
no_keyword : (earlier : List LineValue) (last : Bool) (kind : LineKind) (l : LineValue) → keyword_of l ≡ None → kind_problem earlier last kind l ≡ None → kind ≡ EndLine
no_keyword earlier last EndLine l is early = refl
no_keyword earlier last StatementLine l is early =
    let some : Some UnknownStatement ≡ None = sym (ap (λ o. option_map_or (λ k. word_problem earlier last k l) o (Some UnknownStatement)) is) ∙ early in
    absurd (cc)

pub end_said : (names : List (List ℕ)) (earlier : List LineValue) (last : Bool) (l : LineValue) → keyword_of l ≡ None → early_problem earlier last l ≡ None → SaysOnly names l statement.EndOfFile
end_said names earlier last l is early = end_says names l (no_keyword earlier last l.kind l is early)

pub end_shallow : (blocks : List OpenBlock) (l : LineValue) → keyword_of l ≡ None → opens_too_deep blocks l ≡ false
end_shallow blocks l is = ap (λ o. option_map_or is_opener_word o false && nat_le MOST_OPEN_BLOCKS (length blocks)) is

-- ---- keywords without a form
pub last_keywords : (k : Keyword) → is_attribute_word k ≡ false → (k ≡ keyword.Config → ⊥) → (k ≡ keyword.Menu → ⊥) → (k ≡ keyword.EndMenu → ⊥) → (k ≡ keyword.If → ⊥) → (k ≡ keyword.Choice → ⊥)
    → (k ≡ keyword.EndIf → ⊥) → (k ≡ keyword.EndChoice → ⊥) → (k ≡ keyword.Comment → ⊥) → (k ≡ keyword.MainMenu → ⊥) → (k ≡ keyword.Source) ⊎ (k ≡ keyword.Unsupported)
last_keywords keyword.Source a config menu endmenu opens choice endif endchoice comment mainmenu = inl refl
last_keywords keyword.Unsupported a config menu endmenu opens choice endif endchoice comment mainmenu = inr refl
last_keywords keyword.Config a config menu endmenu opens choice endif endchoice comment mainmenu = absurd (config refl)
last_keywords keyword.Menu a config menu endmenu opens choice endif endchoice comment mainmenu = absurd (menu refl)
last_keywords keyword.EndMenu a config menu endmenu opens choice endif endchoice comment mainmenu = absurd (endmenu refl)
last_keywords keyword.If a config menu endmenu opens choice endif endchoice comment mainmenu = absurd (opens refl)
last_keywords keyword.Choice a config menu endmenu opens choice endif endchoice comment mainmenu = absurd (choice refl)
last_keywords keyword.EndIf a config menu endmenu opens choice endif endchoice comment mainmenu = absurd (endif refl)
last_keywords keyword.EndChoice a config menu endmenu opens choice endif endchoice comment mainmenu = absurd (endchoice refl)
last_keywords keyword.Comment a config menu endmenu opens choice endif endchoice comment mainmenu = absurd (comment refl)
last_keywords keyword.MainMenu a config menu endmenu opens choice endif endchoice comment mainmenu = absurd (mainmenu refl)
last_keywords _ a config menu endmenu opens choice endif endchoice comment mainmenu = absurd (cc)

-- ---- keywords of no attribute
pub no_attribute : (k : Keyword) → (k ≡ keyword.Bool → ⊥) → (k ≡ keyword.Tristate → ⊥) → (k ≡ keyword.String → ⊥) → (k ≡ keyword.Int → ⊥) → (k ≡ keyword.Hex → ⊥) → (k ≡ keyword.DefBool → ⊥) → (k ≡ keyword.DefTristate → ⊥) → (k ≡ keyword.Default → ⊥) → (k ≡ keyword.Prompt → ⊥) → (k ≡ keyword.Range → ⊥) → (k ≡ keyword.Depends → ⊥) → (k ≡ keyword.Visible → ⊥) → (k ≡ keyword.Select → ⊥) → (k ≡ keyword.Imply → ⊥) → (k ≡ keyword.Modules → ⊥) → (k ≡ keyword.Option → ⊥) → (k ≡ keyword.Optional → ⊥) → (k ≡ keyword.Help → ⊥) → is_attribute_word k ≡ false
no_attribute keyword.Bool n0 n1 n2 n3 n4 n5 n6 n7 n8 n9 n10 n11 n12 n13 n14 n15 n16 n17 = absurd (n0 refl)
no_attribute keyword.Tristate n0 n1 n2 n3 n4 n5 n6 n7 n8 n9 n10 n11 n12 n13 n14 n15 n16 n17 = absurd (n1 refl)
no_attribute keyword.String n0 n1 n2 n3 n4 n5 n6 n7 n8 n9 n10 n11 n12 n13 n14 n15 n16 n17 = absurd (n2 refl)
no_attribute keyword.Int n0 n1 n2 n3 n4 n5 n6 n7 n8 n9 n10 n11 n12 n13 n14 n15 n16 n17 = absurd (n3 refl)
no_attribute keyword.Hex n0 n1 n2 n3 n4 n5 n6 n7 n8 n9 n10 n11 n12 n13 n14 n15 n16 n17 = absurd (n4 refl)
no_attribute keyword.DefBool n0 n1 n2 n3 n4 n5 n6 n7 n8 n9 n10 n11 n12 n13 n14 n15 n16 n17 = absurd (n5 refl)
no_attribute keyword.DefTristate n0 n1 n2 n3 n4 n5 n6 n7 n8 n9 n10 n11 n12 n13 n14 n15 n16 n17 = absurd (n6 refl)
no_attribute keyword.Default n0 n1 n2 n3 n4 n5 n6 n7 n8 n9 n10 n11 n12 n13 n14 n15 n16 n17 = absurd (n7 refl)
no_attribute keyword.Prompt n0 n1 n2 n3 n4 n5 n6 n7 n8 n9 n10 n11 n12 n13 n14 n15 n16 n17 = absurd (n8 refl)
no_attribute keyword.Range n0 n1 n2 n3 n4 n5 n6 n7 n8 n9 n10 n11 n12 n13 n14 n15 n16 n17 = absurd (n9 refl)
no_attribute keyword.Depends n0 n1 n2 n3 n4 n5 n6 n7 n8 n9 n10 n11 n12 n13 n14 n15 n16 n17 = absurd (n10 refl)
no_attribute keyword.Visible n0 n1 n2 n3 n4 n5 n6 n7 n8 n9 n10 n11 n12 n13 n14 n15 n16 n17 = absurd (n11 refl)
no_attribute keyword.Select n0 n1 n2 n3 n4 n5 n6 n7 n8 n9 n10 n11 n12 n13 n14 n15 n16 n17 = absurd (n12 refl)
no_attribute keyword.Imply n0 n1 n2 n3 n4 n5 n6 n7 n8 n9 n10 n11 n12 n13 n14 n15 n16 n17 = absurd (n13 refl)
no_attribute keyword.Modules n0 n1 n2 n3 n4 n5 n6 n7 n8 n9 n10 n11 n12 n13 n14 n15 n16 n17 = absurd (n14 refl)
no_attribute keyword.Option n0 n1 n2 n3 n4 n5 n6 n7 n8 n9 n10 n11 n12 n13 n14 n15 n16 n17 = absurd (n15 refl)
no_attribute keyword.Optional n0 n1 n2 n3 n4 n5 n6 n7 n8 n9 n10 n11 n12 n13 n14 n15 n16 n17 = absurd (n16 refl)
no_attribute keyword.Help n0 n1 n2 n3 n4 n5 n6 n7 n8 n9 n10 n11 n12 n13 n14 n15 n16 n17 = absurd (n17 refl)
no_attribute _ n0 n1 n2 n3 n4 n5 n6 n7 n8 n9 n10 n11 n12 n13 n14 n15 n16 n17 = refl
