use Rattle.std.proofs.Common.{◌≡◌}
use Rattle.std.specs.List.{flat_map, range_with_len}
use Rattle.std.specs.String.{string_bytes}
use Rattle.kc_session.specs.ShowLine.{show_line_of}
use Rattle.kc_session.proofs.show.list_text.Given as goal

-- the lines so far
abbrev pub invariant-loop-number : goal.invariant-loop-number
invariant-loop-number l =
    string_bytes l.text ≡ flat_map (λ k. show_line_of l.fn.solved.tree l.fn.solved.user (record { 0 = k })) (range_with_len 0 l.number)
