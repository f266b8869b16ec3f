use Rattle.std.proofs.Common.{◌≡◌, ◌++◌, drop, None}
use Rattle.kc_value.specs.Assignment.{Assignment}
use Rattle.kc_files.specs.DraftValue.{draft_of}
use Rattle.kc_files.proofs.entry_text.text_of.Given as goal

-- the draft with what the entries that are left add is the whole
abbrev pub invariant-loop-entry : goal.invariant-loop-entry
invariant-loop-entry g l = (a : Assignment) → g.T.EntryText.is_over l.entries a
    → l.draft.bytes ++ g.T.EntryText.rest l.entries a l.draft l.before (drop l.entry-index l.entry-items)
    ≡ l.beginning ++ g.T.EntryText.rest l.entries a (draft_of l.beginning) None l.tree.entries
