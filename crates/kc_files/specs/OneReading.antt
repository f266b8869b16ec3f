-- The one reading of the text of a `.config`: this project's own.
use Rattle.std.specs.Prelude.{◌≡◌, ℕ, List, [], filter_map}
use Rattle.kc_outline.specs.TreeValue.{TreeValue}
use Rattle.kc_files.specs.declared.assign.Assign.{Assign}
use Rattle.kc_files.specs.declared.warning.Warning.{Warning}
use Rattle.kc_files.specs.ConfigReading.{usable, counting, warnings_from, IsConfigReading}
use Rattle.kc_files.specs.LineSteps.{readings_in}

-- The assignments that count, and the warnings. `IsReadAs` says that these are what a text means, and nothing else.
unfoldable pub assigns_in : TreeValue → List ℕ → List ℕ → List Assign
assigns_in t prefix text = counting (filter_map usable (readings_in t prefix text))

unfoldable pub warnings_in : TreeValue → List ℕ → List ℕ → List Warning
warnings_in t prefix text = warnings_from [] 1 (readings_in t prefix text)

-- a text is read as these assignments and warnings, and as no others
pub record IsReadAs (t : TreeValue) (prefix text : List ℕ) : Type 0 where
  pub reading : IsConfigReading t prefix text (assigns_in t prefix text) (warnings_in t prefix text)
  pub only : (assigns : List Assign) (warnings : List Warning) → IsConfigReading t prefix text assigns warnings
      → (assigns ≡ assigns_in t prefix text) × (warnings ≡ warnings_in t prefix text)
