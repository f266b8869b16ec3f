use Rattle.std.proofs.Common.{◌≡◌, false, string_bytes}
use Rattle.std.specs.Str.Iter.{chars_rest}
use Rattle.kc_files.specs.ReadingSteps.{text_from}
use Rattle.kc_files.specs.TextSteps.{begun}
use Rattle.kc_files.proofs.unquoting.text_behind.Given as goal

-- the text so far with what is left is the whole
abbrev pub invariant-loop-c : goal.invariant-loop-c
invariant-loop-c l = begun (string_bytes l.text) l.escape (chars_rest l.c-iterator) ≡ text_from false l.quoted
