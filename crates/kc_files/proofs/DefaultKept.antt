-- The text of the default file keeps what the user changed, and has no line too many.
use Rattle.std.proofs.Common.{◌≡◌, ℕ, List, [], ◌∷◌, ◌++◌, All, sym, ap, ◌∙◌, subst}
use Rattle.std.specs.Str.{IsUtf8}
use Rattle.kc_outline.specs.TreeValue.{TreeValue}
use Rattle.kc_tree.specs.Accepted.{IsAccepted}
use Rattle.kc_value.specs.ChangedValue.{HoldsChanges, SameOwned, ChangesAreJustEnough}
use Rattle.kc_value.specs.UserValues.{UserValues, IsUserFor, no_values}
use Rattle.kc_files.specs.declared.assign.Assign.{Assign}
use Rattle.kc_files.specs.declared.loading.Load.TheVariants.{Replace}
use Rattle.kc_files.specs.ConfigLines.{lines_in}
use Rattle.kc_files.specs.ConfigReading.{IsConfigReading}
use Rattle.kc_files.specs.DefaultLoading.{default_assigns, HasNoFeeds, IsLoadedFrom, text_of_lines, KeepsChanges}
use Rattle.kc_files.specs.DefaultText.{default_text_of}
use Rattle.kc_files.specs.Loading.{user_after}
use Rattle.kc_files.specs.WrittenAssigns.{assigns_text, IsWritable}
use Rattle.kc_files.proofs.AssignLines.{assign_body}
use Rattle.kc_files.proofs.AssignTexts.{bodies_utf8, written_reading, loaded_by, left_out}
use Rattle.kc_files.proofs.DefaultAssigns.{text_is, all_writable, apart}
use Rattle.kc_files.proofs.DefaultLoaded.{holds}
use Rattle.kc_files.proofs.DefaultNeeded.{needed_one}
use Rattle.kc_files.proofs.LineFormLaws.{IsNamed}

pub kept : (t : TreeValue) (u : UserValues) (prefix : List ℕ) → IsAccepted t → IsNamed prefix → ChangesAreJustEnough t u → IsUserFor t u → HasNoFeeds u → IsUtf8 (default_text_of t u prefix)
    → KeepsChanges t u prefix (default_text_of t u prefix)
kept t u prefix accepted named just user unfed utf8 = record {
  read = whole;
  enough = λ w loaded n node h. just.enough w (held w loaded) n node h;
  modes = λ w loaded c node plain. just.modes w (held w loaded) c node plain;
  needed = λ before after line split w loaded same. without before after line split w loaded same;
} where
  assigns : List Assign
  assigns = default_assigns t u

  text : List ℕ
  text = default_text_of t u prefix

  is : text ≡ assigns_text t prefix assigns
  is = text_is t u prefix accepted

  writable : All (IsWritable t) assigns
  writable = all_writable t u accepted just user unfed

  bodies : All (λ a. IsUtf8 (assign_body t prefix a)) assigns
  bodies = bodies_utf8 t prefix assigns (subst IsUtf8 is utf8)

  whole : IsConfigReading t prefix text assigns []
  whole = subst (λ x. IsConfigReading t prefix x assigns []) (sym is) (written_reading t prefix accepted named assigns writable (apart t u) bodies)

  held : (w : UserValues) → IsLoadedFrom t prefix text w → HoldsChanges t u w
  held w loaded = subst (HoldsChanges t u) (sym (loaded_by t prefix text assigns [] w named whole loaded)) (holds t u accepted just)

  without : (before after : List (List ℕ)) (line : List ℕ) → lines_in text ≡ before ++ line ∷ after → (w : UserValues)
      → IsLoadedFrom t prefix (text_of_lines (before ++ after)) w → SameOwned t u w → ⊥
  without before after line split w loaded same =
      let out = left_out t prefix accepted named assigns writable (apart t u) bodies before after line (sym (ap lines_in is) ∙ split) in
      let gives : w ≡ user_after t (no_values t) Replace (out.0 ++ out.1) = loaded_by t prefix (text_of_lines (before ++ after)) (out.0 ++ out.1) [] w named out.4 loaded in
      needed_one t u just out.0 out.1 out.2 out.3 (subst (SameOwned t u) gives same)
