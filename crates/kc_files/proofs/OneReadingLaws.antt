-- A text is read as its lines say, and as nothing else.
use Rattle.std.proofs.Common.{◌≡◌, ℕ, true, List, refl}
use Rattle.kc_outline.specs.TreeValue.{TreeValue}
use Rattle.kc_files.specs.ConfigLines.{lines_in}
use Rattle.kc_files.specs.ConfigReading.{IsConfigReading}
use Rattle.kc_files.specs.LineSteps.{readings_in}
use Rattle.kc_files.specs.OneReading.{assigns_in, warnings_in, IsReadAs}
use Rattle.kc_files.specs.PrefixForm.{is_prefix}
use Rattle.kc_files.proofs.LineFormLaws.{prefix_bytes}
use Rattle.kc_files.proofs.ReadingLaws.{one_config_reading, readings_have}

-- what the lines give is a reading
lines_read : (t : TreeValue) (prefix text : List ℕ) → IsConfigReading t prefix text (assigns_in t prefix text) (warnings_in t prefix text)
unfolding assigns_in warnings_in
lines_read t prefix text =
    record { readings = readings_in t prefix text; read = readings_have t prefix (lines_in text); counted = refl; warned = refl }

-- and with a prefix that is well formed there is no other
pub read_as : (t : TreeValue) (prefix text : List ℕ) → is_prefix prefix ≡ true → IsReadAs t prefix text
read_as t prefix text formed = record {
  reading = lines_read t prefix text;
  only = λ assigns warnings h.
      one_config_reading t prefix text (assigns_in t prefix text) assigns (warnings_in t prefix text) warnings (prefix_bytes prefix formed) (lines_read t prefix text) h;
}
