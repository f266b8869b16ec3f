use Rattle.std.proofs.Common.{◌≡◌, ◌-◌, length, take, reverse}
use Rattle.kc_statement.specs.Names.{names_of}
use Rattle.kc_outline.specs.ContextAfter.{IsContextAfter}
use Rattle.kc_outline.specs.Reader.{IsOutlineAfter}
use Rattle.kc_outline.proofs.all_lines.read_outline.Given as goal

-- the lines before the index are read
abbrev pub invariant-loop-index : goal.invariant-loop-index
invariant-loop-index l = record {
  names : l.outline.names ≡ names_of l.lines;
  outline : IsOutlineAfter (names_of l.lines) (length l.lines - l.index) (reverse (take l.index l.lines)) l.outline;
  context : IsContextAfter (names_of l.lines) (reverse (take l.index l.lines)) l.context;
}
