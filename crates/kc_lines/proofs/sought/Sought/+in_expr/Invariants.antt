use Rattle.std.proofs.Common.{◌≡◌, drop}
use Rattle.std.specs.List.{list_any}
use Rattle.kc_lines.specs.LoopSteps.{reads}
use Rattle.kc_lines.proofs.sought.Sought.+in_expr.Given as goal

-- those that are left read it where all do
abbrev pub invariant-in_some-loop-part : goal.invariant-in_some-loop-part
invariant-in_some-loop-part l =
    list_any (reads l.self.outline.now l.self.node) (drop l.part-index l.parts) ≡ list_any (reads l.self.outline.now l.self.node) l.parts
