use Rattle.std.proofs.Common.{◌≡◌, false, drop}
use Rattle.kc_files.specs.QuotedBytes.{lost_from}
use Rattle.kc_files.proofs.QuotedLaws.{moved}
use Rattle.kc_files.proofs.quoted_bytes.lost_place.Given as goal

-- what is found in the bytes that are left is what is found in all
abbrev pub invariant-loop-place : goal.invariant-loop-place
invariant-loop-place l = moved l.place (lost_from l.is_escaped (drop l.place l.raw)) ≡ lost_from false l.raw
