use Rattle.std.proofs.Common.{◌≡◌, ◌++◌, string_bytes}
use Rattle.std.specs.Str.Iter.{chars_rest}
use Rattle.kc_files.specs.Quoting.{escaped}
use Rattle.kc_files.proofs.quoting.push_escaped.Given as goal

-- the text so far with what is left is the whole
abbrev pub invariant-loop-c : goal.invariant-loop-c
invariant-loop-c l = string_bytes l.out ++ escaped (chars_rest l.c-iterator) ≡ string_bytes l.initial.out ++ escaped l.text
