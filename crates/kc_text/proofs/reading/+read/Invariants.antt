use Rattle.std.proofs.Common.{◌≡◌, ◌-◌, ◌≤◌, ◌+◌, ◌*◌, List, length}
use denote.Text.{Utf8}
use denote.Shadow.{shadow}
use Rattle.std.specs.Str.Lines.{lines}
use Rattle.kc_text.specs.FileList.{File}
use Rattle.kc_text.specs.Libraries.{StaysGiven, known_files}
use Rattle.kc_text.specs.MoreFiles.{Extends}
use Rattle.kc_text.specs.Reading.{items_read}
use Rattle.kc_text.specs.Scanning.{outside_of, placing, state_of}
use Rattle.kc_text.proofs.reading.+read.Given as goal

-- how many files more may be open, and which of the three calls comes first
abbrev pub decreases-include_file : goal.decreases-include_file
decreases-include_file g l = 3 * (64 - length l.around.now.items)

abbrev pub decreases-read_file : goal.decreases-read_file
decreases-read_file g l = 3 * (64 - length l.around.now.items) + 2

abbrev pub decreases-read_item : goal.decreases-read_item
decreases-read_item g l = 3 * (64 - length l.around.now.items) + 1

-- reading all lines is reading those from here on, after what was read so far
abbrev pub invariant-read_file-loop-rest : goal.invariant-read_file-loop-rest
invariant-read_file-loop-rest g l = record {
  utf8 : shadow (Utf8 l.rest);
  around : l.around.items ≡ l.fn.around.items;
  within : l.number + length l.rest ≤ length l.text + 1;
  count : l.number + length (lines l.rest) ≡ length (lines l.text) + 1;
  kept : Extends (known_files l.fn.texts) (known_files l.texts);
  given : StaysGiven l.fn.texts l.texts;
  reads : (more : List File) → Extends (known_files l.texts) more →
      items_read (outside_of l.fn.reader) (placing more l.fn.reader l.fn.around.items) l.fn.file.path l.fn.file.run 0 1 (lines l.fn.text) (state_of l.fn.state)
      ≡ items_read (outside_of l.fn.reader) (placing more l.fn.reader l.fn.around.items) l.fn.file.path l.fn.file.run 0 l.number (lines l.rest) (state_of l.state);
}

abbrev pub decreases-read_file-loop-rest : goal.decreases-read_file-loop-rest
decreases-read_file-loop-rest g l = length l.rest
