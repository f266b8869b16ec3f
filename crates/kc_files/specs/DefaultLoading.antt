-- What the text of the default file gives a tree where it is loaded: this project's own.
use Rattle.std.specs.Prelude.{◌≡◌, false, ℕ, List, [], ◌∷◌, ◌++◌, Some, option_map, filter_map, codes}
use Rattle.std.specs.List.{flat_map, list_any}
use Rattle.kc_statement.specs.declared.id.SymId.{SymId}
use Rattle.kc_outline.specs.declared.id.ChoiceId.{ChoiceId}
use Rattle.kc_outline.specs.Entries.{symbol_ids}
use Rattle.kc_outline.specs.TreeValue.{TreeValue}
use Rattle.kc_tree.specs.declared.node.Node.{Node}
use Rattle.kc_tree.specs.declared.node.Node.TheVariants.{Mode}
use Rattle.kc_tree.specs.declared.user_value.UserVal.TheVariants.{Text}
use Rattle.kc_tree.specs.Nodes.{IsNodeOf}
use Rattle.kc_value.specs.ChangedValue.{is_mode, SameOwned}
use Rattle.kc_value.specs.Solution.{solution}
use Rattle.kc_value.specs.UserValues.{UserValues, user_value, no_values}
use Rattle.kc_value.specs.Without.{is_optional_choice}
use Rattle.kc_files.specs.declared.assign.Assign.{Assign}
use Rattle.kc_files.specs.declared.loading.Load.TheVariants.{Replace}
use Rattle.kc_files.specs.declared.warning.Warning.{Warning}
use Rattle.kc_files.specs.ConfigLines.{is_feed, lines_in}
use Rattle.kc_files.specs.ConfigReading.{IsConfigReading}
use Rattle.kc_files.specs.DefaultText.{default_value}
use Rattle.kc_files.specs.Loading.{user_after}

-- the assignments of all symbols that have a value in the default file, in the order of their first definitions
abbrev pub default_assigns : TreeValue → UserValues → List Assign
default_assigns t u =
    filter_map (λ s. option_map (λ v. record { symbol = s; value = v }) (default_value t u s)) (symbol_ids t)

-- no text that the user gave has a line feed, which would end its line
abbrev pub HasNoFeeds : UserValues → Type 0
HasNoFeeds u = (s : SymId) (w : List ℕ) → user_value u s ≡ Some (Text w) → list_any is_feed w ≡ false

-- the user values after a text was loaded in the place of all that were there
pub record IsLoadedFrom (t : TreeValue) (prefix text : List ℕ) (w : UserValues) : Type 0 where
  pub assigns : List Assign
  pub warnings : List Warning
  pub reading : IsConfigReading t prefix text assigns warnings
  pub loaded : w ≡ user_after t (no_values t) Replace assigns

-- the text of these lines, each with its line feed
abbrev pub text_of_lines : List (List ℕ) → List ℕ
text_of_lines lines = flat_map (λ line. line ++ codes "\n") lines

-- A text keeps what the user changed, and has no line too many.
pub record KeepsChanges (t : TreeValue) (u : UserValues) (prefix text : List ℕ) : Type 0 where
  -- it is read back without a warning, as what it was written for
  pub read : IsConfigReading t prefix text (default_assigns t u) []
  -- loaded in the place of all, it gives each visibility, value and selection as it is
  pub enough : (w : UserValues) → IsLoadedFrom t prefix text w → (n : Node) → IsNodeOf t n → is_mode n ≡ false
      → solution t w n ≡ solution t u n
  -- and each mode, but that of an optional choice: it is n where the choice selects none
  pub modes : (w : UserValues) → IsLoadedFrom t prefix text w → (c : ChoiceId) → IsNodeOf t (Mode c) → is_optional_choice t c ≡ false
      → solution t w (Mode c) ≡ solution t u (Mode c)
  -- with any one of its lines left out, it gives some value or selection otherwise
  pub needed : (before after : List (List ℕ)) (line : List ℕ) → lines_in text ≡ before ++ line ∷ after → (w : UserValues)
      → IsLoadedFrom t prefix (text_of_lines (before ++ after)) w → SameOwned t u w → ⊥
