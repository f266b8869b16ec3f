use Rattle.std.proofs.Common.{◌≡◌, None, length, refl, sym, ap, ◌∙◌, arith}
use Rattle.kc_text.specs.LentFiles.{lent_files, total_bytes}
use Rattle.kc_text.specs.Sources.{put, text_of}
use Rattle.kc_text.proofs.LentLists.{added-new, length-lent_files, put-extends, put-lent_files, text_of-put-own, too_long, too_many, total-put}
use Rattle.kc_text.proofs.Pairs.{fails_at}
use Rattle.kc_text.proofs.files.ReadFiles.add.Goals as goal
use Rattle.kc_text.proofs.files.ReadFiles.add.Goals.{then-len-ge-MAX_FILES-via-then-len-ge-MAX_FILES, then-len-ge-MAX_FILES-via-else-len-ge-MAX_FILES+then-text-self}

pub returns-then-len-ge-MAX_FILES-clause-fault : goal.returns-then-len-ge-MAX_FILES-clause-fault
returns-then-len-ge-MAX_FILES-clause-fault c =
    let path = c.args.path.now in
    let text = c.args.text.now in
    let files = c.args.self.now in
    let none : text_of path files ≡ None = c.requires in
    let count = ap length (sym c.self.view_is) ∙ length-lent_files c.self.inside.files in
    let bytes = ap total_bytes (sym c.self.view_is) ∙ sym c.self.invariant.0 in
    fails_at c.at.result _ path 0 _ c.at.ensures
    (elim c.then-len-ge-MAX_FILES.branch [
      | then-len-ge-MAX_FILES-via-then-len-ge-MAX_FILES w ↦ too_many path text files none (omega (arith, count, c.len.ensures.len))
      | then-len-ge-MAX_FILES-via-else-len-ge-MAX_FILES+then-text-self w ↦ too_long path text files none (omega (arith, bytes, c.self.invariant.1, w.if-text-self))
    ])

pub invariant_of-self-2 : goal.invariant_of-self-2
invariant_of-self-2 c =
    let path = c.args.path.now in
    let text = c.args.text.now in
    let m = c.self.inside.files in
    let none : text_of path (lent_files m) ≡ None = ap (text_of path) c.self.view_is ∙ c.requires in
    let after = ap total_bytes (put-lent_files path text c.in_ok-path.path c.args.text m c.insert.new.self c.in_ok-path.ensures refl c.in_ok-insert.ensures.entries) ∙ total-put path text (lent_files m) none in
    (omega (arith, after, c.self.invariant.0), omega arith)

pub returns-clause-adds : goal.returns-clause-adds
returns-clause-adds c =
    let path = c.args.path.now in
    let text = c.args.text.now in
    let files = c.args.self.now in
    let none : text_of path files ≡ None = c.requires in
    let count = ap length (sym c.self.view_is) ∙ length-lent_files c.self.inside.files in
    let bytes = ap total_bytes (sym c.self.view_is) ∙ sym c.self.invariant.0 in
    added-new path text files none _ (omega (arith, count, c.len.ensures.len)) (omega (arith, bytes, c.self.invariant.1))
    (put-lent_files path text c.in_ok-path.path c.args.text c.self.inside.files c.insert.new.self c.in_ok-path.ensures refl c.in_ok-insert.ensures.entries ∙ ap (put path text) c.self.view_is)

pub returns-clause-text : goal.returns-clause-text
returns-clause-text c =
    let path = c.args.path.now in
    let text = c.args.text.now in
    let m = c.self.inside.files in
    let none : text_of path (lent_files m) ≡ None = ap (text_of path) c.self.view_is ∙ c.requires in
    ap (text_of path) (put-lent_files path text c.in_ok-path.path c.args.text m c.insert.new.self c.in_ok-path.ensures refl c.in_ok-insert.ensures.entries) ∙ text_of-put-own path text (lent_files m) none

pub returns-clause-kept : goal.returns-clause-kept
returns-clause-kept c = λ q t found.
    let path = c.args.path.now in
    let text = c.args.text.now in
    let m = c.self.inside.files in
    let none : text_of path (lent_files m) ≡ None = ap (text_of path) c.self.view_is ∙ c.requires in
    ap (text_of q) (put-lent_files path text c.in_ok-path.path c.args.text m c.insert.new.self c.in_ok-path.ensures refl c.in_ok-insert.ensures.entries)
    ∙ put-extends path text (lent_files m) none q t (ap (text_of q) c.self.view_is ∙ found)
