-- What one more reading changes of the choices.
use Rattle.std.proofs.Common.{◌≡◌, ℕ, ◌+◌, ◌==◌, Bool, false, List, [], ◌∷◌, ◌++◌, Option, Some, None, length, refl, ap, ◌∙◌, arith}
use Rattle.std.specs.Prelude.{if◌then◌else◌, ◌&&◌, ◌||◌, All}
use Rattle.std.proofs.Math.Bool.{and-false}
use Rattle.std.proofs.lemmas.Bool.{ne_eqb, eq-eqb}
use Rattle.std.proofs.lemmas.List.Elements.{All-weaker}
use Rattle.kc_statement.specs.declared.id.SymId.{SymId}
use Rattle.kc_outline.specs.declared.id.BlockId.{BlockId}
use Rattle.kc_outline.specs.declared.id.ChoiceId.{ChoiceId}
use Rattle.kc_outline.specs.declared.choice.ChoiceDefault.{ChoiceDefault}
use Rattle.kc_statement.specs.declared.attribute.Prompt.{Prompt}
use Rattle.kc_outline.specs.declared.context.Owner.{Owner}
use Rattle.kc_outline.specs.declared.context.Owner.TheVariants as owner
use Rattle.kc_statement.specs.declared.statement.Statement.{Statement}
use Rattle.kc_statement.specs.declared.statement.Statement.TheVariants as statement
use Rattle.kc_outline.specs.TreeValue.{ChoiceValue}
use Rattle.kc_outline.specs.TreeOf.{Reading, map_placed, is_of_choice, prompt_in, says_optional, defined_in, choice_default_in, member_of, choice_block, choice_at, choice_blocks, choices_in}
use Rattle.kc_outline.specs.Outline.{IsMadeBy, IsChoiceMadeBy, IsMade, AreMade}
use Rattle.kc_outline.specs.Adding.{with_some, new_choice, change_choice, with_member, choices_with}
use Rattle.kc_outline.proofs.ChangeLaws.{change_at_same, map_placed_push, map_placed_same, map_placed_changed, filter_map_push}
use Rattle.kc_outline.proofs.AddingParts.{reading, said_push, is_said_push, unsaid, never_said, none_of, no_choice}

-- all that a line may add to a choice
abbrev choice_after : Option Prompt → Option ChoiceDefault → Option SymId → Bool → ChoiceValue → ChoiceValue
choice_after p v s optional x = record {
  block = x.block;
  prompts = with_some x.prompts p;
  defaults = with_some x.defaults v;
  members = with_some x.members s;
  is_optional = optional || x.is_optional;
}

choice_at_push : (rs : List Reading) (r : Reading) (j : ℕ) (b : BlockId) → choice_at (rs ++ r ∷ []) j b ≡ choice_after (if is_of_choice j r.owner then prompt_in r.statement else None) (if is_of_choice j r.owner then choice_default_in r.statement else None) (member_of j r) (is_of_choice j r.owner && says_optional r.statement) (choice_at rs j b)
choice_at_push rs r j b =
    rw (said_push (is_of_choice j) prompt_in rs r, said_push (is_of_choice j) choice_default_in rs r, filter_map_push (member_of j) rs r, is_said_push (is_of_choice j) says_optional rs r)
    refl

abbrev choices_of_lines : List Reading → List BlockId → List ChoiceValue
choices_of_lines rs hs = map_placed (choice_at rs) 0 hs

-- ---- what the choice that owns a line gets, where the line defines no symbol
no_member : (j : ℕ) (st : Statement) (b : Option BlockId) (ch : Option ChoiceId) (o : Option Owner) → defined_in st ≡ None → member_of j (reading st b ch o) ≡ None
no_member j st b None o none = refl
no_member j st b (Some c) o none = rw none (no_choice {A = Option SymId} (c.0 == j) None)

owned_push : (rs : List Reading) (st : Statement) (b : Option BlockId) (ch : Option ChoiceId) (o : Option Owner) (j : ℕ) (h : BlockId) → defined_in st ≡ None → choice_at (rs ++ reading st b ch o ∷ []) j h ≡ choice_after (if is_of_choice j o then prompt_in st else None) (if is_of_choice j o then choice_default_in st else None) None (is_of_choice j o && says_optional st) (choice_at rs j h)
owned_push rs st b ch o j h none =
    choice_at_push rs (reading st b ch o) j h ∙ rw (no_member j st b ch o none) refl

change_choice_same : (o : Option Owner) (xs : List ChoiceValue) → change_choice o (λ x. x) xs ≡ xs
change_choice_same None xs = refl
change_choice_same (Some (owner.Definition s j)) xs = refl
change_choice_same (Some (owner.Menu m)) xs = refl
change_choice_same (Some (owner.Choice c m)) xs = change_at_same xs c.0
change_choice_same (Some (owner.Comment c)) xs = refl

choices_after : (rs : List Reading) (st : Statement) (b : Option BlockId) (ch : Option ChoiceId) (o : Option Owner) (hs : List BlockId) → defined_in st ≡ None → choices_of_lines (rs ++ reading st b ch o ∷ []) hs ≡ change_choice o (choice_after (prompt_in st) (choice_default_in st) None (says_optional st)) (choices_of_lines rs hs)
choices_after rs st b ch None hs none =
    map_placed_same (choice_at (rs ++ reading st b ch None ∷ [])) (choice_at rs) 0 hs
    (λ j h late. owned_push rs st b ch None j h none)
choices_after rs st b ch (Some (owner.Definition s i)) hs none =
    map_placed_same (choice_at (rs ++ reading st b ch (Some (owner.Definition s i)) ∷ [])) (choice_at rs) 0 hs
    (λ j h late. owned_push rs st b ch (Some (owner.Definition s i)) j h none)
choices_after rs st b ch (Some (owner.Menu m)) hs none =
    map_placed_same (choice_at (rs ++ reading st b ch (Some (owner.Menu m)) ∷ [])) (choice_at rs) 0 hs
    (λ j h late. owned_push rs st b ch (Some (owner.Menu m)) j h none)
choices_after rs st b ch (Some (owner.Comment c)) hs none =
    map_placed_same (choice_at (rs ++ reading st b ch (Some (owner.Comment c)) ∷ [])) (choice_at rs) 0 hs
    (λ j h late. owned_push rs st b ch (Some (owner.Comment c)) j h none)
choices_after rs st b ch (Some (owner.Choice c m)) hs none =
    map_placed_changed (choice_at (rs ++ reading st b ch (Some (owner.Choice c m)) ∷ [])) (choice_at rs) (choice_after (prompt_in st) (choice_default_in st) None (says_optional st)) 0 c.0 hs
    (λ j h other. rw (ne_eqb c.0 j (λ e. omega arith)) at (owned_push rs st b ch (Some (owner.Choice c m)) j h none))
    (λ h. rw (eq-eqb c.0 (0 + c.0) (omega arith)) at (owned_push rs st b ch (Some (owner.Choice c m)) (0 + c.0) h none))

choice_blocks_push : (rs : List Reading) (st : Statement) (b : Option BlockId) (ch : Option ChoiceId) (o : Option Owner) → choice_blocks (rs ++ reading st b ch o ∷ []) ≡ with_some (choice_blocks rs) (choice_block st o)
choice_blocks_push rs st b ch o = filter_map_push (λ r. choice_block r.statement r.owner) rs (reading st b ch o)

-- where the line makes no choice
choices_changed : (rs : List Reading) (st : Statement) (b : Option BlockId) (ch : Option ChoiceId) (o : Option Owner) → choice_block st o ≡ None → defined_in st ≡ None → choices_in (rs ++ reading st b ch o ∷ []) ≡ change_choice o (choice_after (prompt_in st) (choice_default_in st) None (says_optional st)) (choices_in rs)
choices_changed rs st b ch o no_block none =
    let heads : choice_blocks (rs ++ reading st b ch o ∷ []) ≡ choice_blocks rs = rw no_block at (choice_blocks_push rs st b ch o) in
    rw heads (choices_after rs st b ch o (choice_blocks rs) none)

-- ---- the choice in which a line defines a symbol
member_push : (rs : List Reading) (s : SymId) (b : Option BlockId) (ch : Option ChoiceId) (o : Option Owner) (j : ℕ) (h : BlockId) → choice_at (rs ++ reading (statement.Config (Some s)) b ch o ∷ []) j h ≡ choice_after None None (member_of j (reading (statement.Config (Some s)) b ch o)) false (choice_at rs j h)
member_push rs s b ch o j h =
    choice_at_push rs (reading (statement.Config (Some s)) b ch o) j h
    ∙ rw (no_choice {A = Option Prompt} (is_of_choice j o) None, no_choice {A = Option ChoiceDefault} (is_of_choice j o) None, and-false (is_of_choice j o)) refl

members_after : (rs : List Reading) (s : SymId) (b : Option BlockId) (ch : Option ChoiceId) (o : Option Owner) (hs : List BlockId) → choices_of_lines (rs ++ reading (statement.Config (Some s)) b ch o ∷ []) hs ≡ with_member ch s (choices_of_lines rs hs)
members_after rs s b None o hs =
    map_placed_same (choice_at (rs ++ reading (statement.Config (Some s)) b None o ∷ [])) (choice_at rs) 0 hs
    (λ j h late. member_push rs s b None o j h)
members_after rs s b (Some c) o hs =
    map_placed_changed (choice_at (rs ++ reading (statement.Config (Some s)) b (Some c) o ∷ [])) (choice_at rs) (choice_after None None (Some s) false) 0 c.0 hs
    (λ j h other. rw (ne_eqb c.0 j (λ e. omega arith)) at (member_push rs s b (Some c) o j h))
    (λ h. rw (eq-eqb c.0 (0 + c.0) (omega arith)) at (member_push rs s b (Some c) o (0 + c.0) h))

member_added : (rs : List Reading) (s : SymId) (b : Option BlockId) (ch : Option ChoiceId) (o : Option Owner) → choices_in (rs ++ reading (statement.Config (Some s)) b ch o ∷ []) ≡ with_member ch s (choices_in rs)
member_added rs s b ch o =
    let heads : choice_blocks (rs ++ reading (statement.Config (Some s)) b ch o ∷ []) ≡ choice_blocks rs = choice_blocks_push rs (statement.Config (Some s)) b ch o in
    rw heads (members_after rs s b ch o (choice_blocks rs))

-- ---- a new choice
-- no line belongs to, or is in, a choice that comes next
no_choice_yet : (rs : List Reading) (o : Option Owner) → IsMadeBy rs o → is_of_choice (0 + length (choice_blocks rs)) o ≡ false
no_choice_yet rs None made = refl
no_choice_yet rs (Some (owner.Definition s j)) made = refl
no_choice_yet rs (Some (owner.Menu m)) made = refl
no_choice_yet rs (Some (owner.Choice c m)) made = ne_eqb c.0 (0 + length (choice_blocks rs)) (λ e. omega (arith, made.0))
no_choice_yet rs (Some (owner.Comment c)) made = refl

no_member_yet : (rs : List Reading) (st : Statement) (b : Option BlockId) (ch : Option ChoiceId) (o : Option Owner) → IsChoiceMadeBy rs ch → member_of (0 + length (choice_blocks rs)) (reading st b ch o) ≡ None
no_member_yet rs st b None o made = refl
no_member_yet rs st b (Some c) o made =
    let other : (c.0 == (0 + length (choice_blocks rs))) ≡ false = ne_eqb c.0 (0 + length (choice_blocks rs)) (λ e. omega arith) in
    rw other refl

next_choice : (rs : List Reading) (b : BlockId) → AreMade rs → choice_at rs (0 + length (choice_blocks rs)) b ≡ new_choice b
next_choice rs b made =
    let others : All (λ r. is_of_choice (0 + length (choice_blocks rs)) r.owner ≡ false) rs =
    All-weaker (IsMade rs) (λ r. is_of_choice (0 + length (choice_blocks rs)) r.owner ≡ false) (λ r m. no_choice_yet rs r.owner m.owner) rs made in
    let outside : All (λ r. member_of (0 + length (choice_blocks rs)) r ≡ None) rs =
    All-weaker (IsMade rs) (λ r. member_of (0 + length (choice_blocks rs)) r ≡ None) (λ r m. no_member_yet rs r.statement r.block r.choice r.owner m.choice) rs made in
    rw (unsaid (is_of_choice (0 + length (choice_blocks rs))) prompt_in rs others, unsaid (is_of_choice (0 + length (choice_blocks rs))) choice_default_in rs others, none_of (member_of (0 + length (choice_blocks rs))) rs outside, never_said (is_of_choice (0 + length (choice_blocks rs))) says_optional rs others) refl

choice_added : (rs : List Reading) (b : Option BlockId) (ch : Option ChoiceId) (o : Option Owner) → AreMade rs → choices_in (rs ++ reading statement.Choice b ch o ∷ []) ≡ choices_with statement.Choice ch o (choices_in rs)
choice_added rs b ch None made = choices_changed rs statement.Choice b ch None refl refl
choice_added rs b ch (Some (owner.Definition s j)) made = choices_changed rs statement.Choice b ch (Some (owner.Definition s j)) refl refl
choice_added rs b ch (Some (owner.Menu m)) made = choices_changed rs statement.Choice b ch (Some (owner.Menu m)) refl refl
choice_added rs b ch (Some (owner.Comment c)) made = choices_changed rs statement.Choice b ch (Some (owner.Comment c)) refl refl
choice_added rs b ch (Some (owner.Choice c m)) made =
    rw (choice_blocks_push rs statement.Choice b ch (Some (owner.Choice c m)))
    (choices_after rs statement.Choice b ch (Some (owner.Choice c m)) (choice_blocks rs ++ m ∷ []) refl
    ∙ change_choice_same (Some (owner.Choice c m)) (choices_of_lines rs (choice_blocks rs ++ m ∷ []))
    ∙ map_placed_push (choice_at rs) 0 (choice_blocks rs) m
    ∙ ap (λ x. choices_in rs ++ x ∷ []) (next_choice rs m made))

-- ---- all
pub choices_push : (rs : List Reading) (st : Statement) (b : Option BlockId) (ch : Option ChoiceId) (o : Option Owner) → AreMade rs → choices_in (rs ++ reading st b ch o ∷ []) ≡ choices_with st ch o (choices_in rs)
choices_push rs (statement.Config (Some s)) b ch o made = member_added rs s b ch o
choices_push rs statement.Choice b ch o made = choice_added rs b ch o made
choices_push rs (statement.TypeAndPrompt k p) b ch o made = choices_changed rs (statement.TypeAndPrompt k p) b ch o refl refl
choices_push rs (statement.Prompt p) b ch o made = choices_changed rs (statement.Prompt p) b ch o refl refl
choices_push rs (statement.Default v) b ch o made = choices_changed rs (statement.Default v) b ch o refl refl
choices_push rs statement.Optional b ch o made = choices_changed rs statement.Optional b ch o refl refl
choices_push rs st b ch o made = choices_changed rs st b ch o refl refl ∙ change_choice_same o (choices_in rs)
