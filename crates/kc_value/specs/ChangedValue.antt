-- The values that are others than without the user's own, and what they are enough for: this project's own.
use Rattle.std.specs.Prelude.{◌≡◌, ℕ, List, Bool, true, false, not, ◌&&◌, ◌==◌, Option, Some, None, option_and_then, if◌then◌else◌}
use Rattle.std.specs.Str.{bytes_eq}
use Rattle.kc_statement.specs.declared.id.SymId.{SymId}
use Rattle.kc_outline.specs.declared.id.ChoiceId.{ChoiceId}
use Rattle.kc_outline.specs.TreeValue.{TreeValue, choice_of}
use Rattle.kc_tree.specs.declared.user_value.UserVal.{UserVal}
use Rattle.kc_tree.specs.declared.user_value.UserVal.TheVariants.{Tri as TriVal, Text}
use Rattle.kc_tree.specs.declared.node.Node.{Node}
use Rattle.kc_tree.specs.declared.node.Node.TheVariants.{Vis, Val, Mode, Sel}
use Rattle.kc_tree.specs.Fits.{fits}
use Rattle.kc_tree.specs.Nodes.{IsNodeOf}
use Rattle.kc_value.specs.declared.value.Value.{Value}
use Rattle.kc_value.specs.declared.value.Value.TheVariants.{Tri as Level, Shown, Member}
use Rattle.kc_value.specs.Assignable.{same_tri}
use Rattle.kc_value.specs.Assignment.{as_member}
use Rattle.kc_value.specs.Replay.{shown_in}
use Rattle.kc_value.specs.Solution.{solution, IsOnlySolution}
use Rattle.kc_value.specs.UserValues.{UserValues, IsUserFor, user_value, chosen_in}
use Rattle.kc_value.specs.Without.{IsOwned, is_optional_choice, value_without}

-- ---- values that are the same: as they are spelt, with the same mark
abbrev pub same_mark : Bool → Bool → Bool
same_mark true m = m
same_mark false m = not m

abbrev pub same_user_value : UserVal → UserVal → Bool
same_user_value (TriVal v) (TriVal w) = same_tri v w
same_user_value (TriVal v) (Text w) = false
same_user_value (Text v) (TriVal w) = false
same_user_value (Text v) (Text w) = bytes_eq v w

abbrev pub same_member : Option SymId → Option SymId → Bool
same_member None None = true
same_member None (Some s) = false
same_member (Some r) None = false
same_member (Some r) (Some s) = r.0 == s.0

abbrev pub same_value : Value → Value → Bool
same_value (Level v) (Level w) = same_tri v w
same_value (Level v) (Shown y n) = false
same_value (Level v) (Member s) = false
same_value (Shown x m) (Level w) = false
same_value (Shown x m) (Shown y n) = same_user_value x y && same_mark m n
same_value (Shown x m) (Member s) = false
same_value (Member r) (Level w) = false
same_value (Member r) (Shown y n) = false
same_value (Member r) (Member s) = same_member r s

-- ---- the value, where it is another than without the node's own user value or chosen member, all else as it is
unfoldable pub changed_value : TreeValue → UserValues → Node → Option Value
changed_value t u n = if same_value (solution t u n) (value_without t u n) then None else Some (solution t u n)

-- ---- user values that hold just what was changed
-- the value that a symbol was changed to, and none where nothing was changed
abbrev pub HoldsValue : TreeValue → UserValues → UserValues → SymId → Type 0
HoldsValue t u w s = user_value w s ≡ option_and_then shown_in (changed_value t u (Val s))

-- the member that a choice was changed to select, and none where nothing was changed
abbrev pub HoldsMember : TreeValue → UserValues → UserValues → ChoiceId → Type 0
HoldsMember t u w c = chosen_in w c ≡ option_and_then as_member (changed_value t u (Sel c))

-- those of all symbols and choices of the tree
pub record HoldsChanges (t : TreeValue) (u w : UserValues) : Type 0 where
  pub values : (s : SymId) → IsNodeOf t (Val s) → HoldsValue t u w s
  pub members : (c : ChoiceId) → IsNodeOf t (Sel c) → HoldsMember t u w c

-- ---- what two users' solutions have in common
abbrev pub is_mode : Node → Bool
is_mode (Vis s) = false
is_mode (Val s) = false
is_mode (Mode c) = true
is_mode (Sel c) = false

-- the values of symbols and the selections of choices
abbrev pub SameOwned : TreeValue → UserValues → UserValues → Type 0
SameOwned t u w = (n : Node) → IsNodeOf t n → IsOwned n → solution t w n ≡ solution t u n

-- ---- what was changed is just enough for the solution
pub record ChangesAreJustEnough (t : TreeValue) (u : UserValues) : Type 0 where
  -- the tree has one solution, and no other, for any user values
  pub solved : (w : UserValues) → IsOnlySolution t w (solution t w)
  -- no value of a member of a choice is changed: the selection of its choice is
  pub members_not : (s : SymId) → IsNodeOf t (Val s) → (c : ChoiceId) → choice_of t s ≡ Some c → changed_value t u (Val s) ≡ None
  -- a changed value is one that its symbol takes
  pub fitting : IsUserFor t u → (s : SymId) → IsNodeOf t (Val s) → (v : UserVal)
      → option_and_then shown_in (changed_value t u (Val s)) ≡ Some v → fits t s v ≡ true
  -- a changed text is the user's own
  pub texts : (s : SymId) → IsNodeOf t (Val s) → (text : List ℕ)
      → option_and_then shown_in (changed_value t u (Val s)) ≡ Some (Text text) → user_value u s ≡ Some (Text text)
  -- user values that hold the changes give each visibility, value and selection as it is
  pub enough : (w : UserValues) → HoldsChanges t u w → (n : Node) → IsNodeOf t n → is_mode n ≡ false
      → solution t w n ≡ solution t u n
  -- and each mode, but that of an optional choice: it is n where the choice selects none
  pub modes : (w : UserValues) → HoldsChanges t u w → (c : ChoiceId) → IsNodeOf t (Mode c) → is_optional_choice t c ≡ false
      → solution t w (Mode c) ≡ solution t u (Mode c)
  -- user values that give the values and the selections as they are have one where a value was changed
  pub needed : (w : UserValues) → SameOwned t u w → (s : SymId) → IsNodeOf t (Val s) → user_value w s ≡ None
      → changed_value t u (Val s) ≡ None
  -- and a chosen member where a selection was
  pub needed_members : (w : UserValues) → SameOwned t u w → (c : ChoiceId) → IsNodeOf t (Sel c) → chosen_in w c ≡ None
      → changed_value t u (Sel c) ≡ None
