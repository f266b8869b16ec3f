use Rattle.std.proofs.Common.{◌≡◌, ◌<◌, false, length, slice_index}
use denote.Text.{Utf8}
use denote.Shadow.{shadow}
use Rattle.kc_text.specs.Bytes.{is_blank}
use Rattle.kc_text.proofs.StopLaws.{ReadTo}
use Rattle.kc_text.proofs.stops.stop_in.Given as goal

-- the tokens so far are before those of the rest, which begins with no blank
abbrev pub invariant-loop-passed : goal.invariant-loop-passed
invariant-loop-passed l = record {
  utf8 : shadow (Utf8 l.rest);
  first : 0 < length l.rest → is_blank (slice_index l.rest 0) ≡ false;
  read : ReadTo l.line l.rest;
}

abbrev pub decreases-loop-passed : goal.decreases-loop-passed
decreases-loop-passed l = length l.rest
