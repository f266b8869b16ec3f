use Rattle.kc_lines.specs.declared.parts.Family.TheVariants.{Definition, Choice, Block, Comment}
use Rattle.kc_lines.specs.LineIndex.{AreStartsBefore, begins}
use Rattle.kc_lines.proofs.line_index.LineIndex.of.Given as goal

-- of the lines before the number the starts are known
abbrev pub invariant-loop-number : goal.invariant-loop-number
invariant-loop-number l = record {
  definitions : AreStartsBefore (begins Definition) l.lines l.number l.definitions.items;
  choices : AreStartsBefore (begins Choice) l.lines l.number l.choices.items;
  blocks : AreStartsBefore (begins Block) l.lines l.number l.blocks.items;
  comments : AreStartsBefore (begins Comment) l.lines l.number l.comments.items;
}
