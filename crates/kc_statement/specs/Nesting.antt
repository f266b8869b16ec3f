-- Steps: how deep the tokens so far nest, as one pass over them counts it: this project's own.
use Rattle.std.specs.Prelude.{◌+◌, Bool, ◌||◌, if◌then◌else◌, nat_le}
use Rattle.kc_text.specs.declared.line.Token.{Token}
use Rattle.kc_statement.specs.declared.limits.TheConstants.{MOST_NESTED}
use Rattle.kc_statement.specs.declared.nesting.Depth.{Depth}
use Rattle.kc_statement.specs.NestingDepth.{is_opening, is_closing, is_not}

abbrev pub depth_after : Depth → Token → Depth
depth_after d t = record {
  opened = if is_opening t then d.opened + 1 else d.opened;
  closed = if is_closing t then d.closed + 1 else d.closed;
  nots = if is_not t then d.nots + 1 else 0;
}

abbrev pub is_too_deep : Depth → Bool
is_too_deep d = nat_le (d.closed + (MOST_NESTED + 1)) d.opened || nat_le (MOST_NESTED + 1) d.nots
