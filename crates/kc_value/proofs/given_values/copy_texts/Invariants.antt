use Rattle.std.proofs.Common.{◌≡◌, ◌≤◌, take, vec_capacity}
use Rattle.kc_value.proofs.given_values.copy_texts.Given as goal

-- the texts so far are copied, and the room stays
abbrev pub invariant-loop-text : goal.invariant-loop-text
invariant-loop-text l = record {
  copied : l.copies.items ≡ take l.text-index l.texts;
  room : l.room ≤ vec_capacity l.copies;
}
