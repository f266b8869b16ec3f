use Rattle.std.proofs.Common.{◌≡◌, ◌<◌, ℕ, List, length, drop, None, Some, Ok, Bor, false, arith, rules, tests, ap, sym, ◌∙◌}
use Rattle.std.specs.Str.Lines.{lines}
use Rattle.std.proofs.lemmas.List.{nil_from_length}
use Rattle.std.proofs.lemmas.Result.{err_from_is_err_and}
use Rattle.kc_text.specs.Definitions.{definition_of}
use Rattle.kc_text.specs.Expansion.{is_among}
use Rattle.kc_text.specs.Items.{first_item}
use Rattle.kc_text.specs.Libraries.{known_files}
use Rattle.kc_text.specs.declared.line.PlacedFile.{PlacedFile}
use Rattle.kc_text.specs.Reading.{entered, file_read}
use Rattle.kc_text.specs.Scanning.{item_of, names_of, outside_of, place_of, placing, state_of}
use Rattle.kc_text.specs.Sources.{text_of}
use Rattle.kc_text.proofs.Nesting.{extends_on, fails_along, gives_as, item_sources, lines_end, lines_fail, lines_go_on, lines_left, of_some, source_reads}
use Rattle.kc_text.proofs.PhysicalLines.{more_lines}
use Rattle.kc_text.proofs.Silent.{silent_first, silent_item, silent_read}
use Rattle.kc_text.proofs.reading.+read.Goals as goal
use Rattle.kc_text.proofs.reading.+read.Goals.{read_item-then-begun+in_default, read_item-else-begun}

pub include_file-returns-in_err-read_file-clause-reads :
    goal.include_file-returns-in_err-read_file-clause-reads
include_file-returns-in_err-read_file-clause-reads g t c =
    let p = err_from_is_err_and c.from_residual-in_err-read_file.result c.from_residual-in_err-read_file.ensures.1 in
    let wanted = c.args.wanted.now in
    let file = c.in-Ok-Some.file in
    let new : is_among wanted (names_of c.args.around.now.items) ≡ false = cc in
    let files = known_files c.read_file.new.texts in
    let found : (file.0.now ≡ wanted) × (text_of wanted (known_files c.text.new.self) ≡ Some file.1.now) =
    of_some _ (λ (f : Bor (List ℕ) × Bor (List ℕ)). (f.0.now ≡ wanted) × (text_of wanted (known_files c.text.new.self) ≡ Some f.1.now)) c.in-Ok-Some.field-0 file c.in-Ok-Some.field-0-is c.in-Ok-Some.ensures.found in
    let reads = source_reads files c.args.reader c.args.around.now.items c.push.new.self.items (place_of c.args.place) wanted file.0 file.1.now (state_of c.args.state.now) new (omega arith) (omega arith) found.0 (c.in_err-read_file.ensures.kept wanted file.1.now found.1) (omega arith) c.in_ok-push.ensures.items in
    let read = λ (f : PlacedFile). file_read (outside_of c.args.reader) (placing files c.args.reader c.push.new.self.items) f.path f.run file.1.now (entered file.1.now (state_of c.args.state.now)) in
    rw (p.1, p.2) (fails_along _ _ _ (λ f h. reads ∙ ap read (sym c.in_ok-file.ensures) ∙ h) c.in_err-read_file.ensures.reads)

pub include_file-returns-clause-reads : goal.include_file-returns-clause-reads
include_file-returns-clause-reads g t c = λ more e.
    let wanted = c.args.wanted.now in
    let file = c.in-Ok-Some.file in
    let new : is_among wanted (names_of c.args.around.now.items) ≡ false = cc in
    let found : (file.0.now ≡ wanted) × (text_of wanted (known_files c.text.new.self) ≡ Some file.1.now) =
    of_some _ (λ (f : Bor (List ℕ) × Bor (List ℕ)). (f.0.now ≡ wanted) × (text_of wanted (known_files c.text.new.self) ≡ Some f.1.now)) c.in-Ok-Some.field-0 file c.in-Ok-Some.field-0-is c.in-Ok-Some.ensures.found in
    let here = e wanted file.1.now (c.in_ok-read_file.ensures.kept wanted file.1.now found.1) in
    source_reads more c.args.reader c.args.around.now.items c.push.new.self.items (place_of c.args.place) wanted file.0 file.1.now (state_of c.args.state.now) new (omega arith) (omega arith) found.0 here (omega arith) c.in_ok-push.ensures.items
    ∙ ap (λ (f : PlacedFile). file_read (outside_of c.args.reader) (placing more c.args.reader c.push.new.self.items) f.path f.run file.1.now (entered file.1.now (state_of c.args.state.now))) (sym c.in_ok-file.ensures)
    ∙ c.in_ok-read_file.ensures.reads more e

pub read_item-returns-in-Some-source_path-clause-reads :
    goal.read_item-returns-in-Some-source_path-clause-reads
read_item-returns-in-Some-source_path-clause-reads g t c =
    let at = place_of c.args.place in
    let item = item_of c.args.item in
    let wanted = c.in-Some-source_path.wanted.now in
    let line = c.in_ok-line.ensures in
    let none : definition_of item.text ≡ None =
    elim c.if-begun.branch [
      | read_item-then-begun+in_default w ↦ ap definition_of (sym line) ∙ search rules
      | read_item-else-begun w ↦ ap definition_of (sym line) ∙ search rules
    ] in
    gives_as c.include_file.result (state_of c.include_file.new.state) (known_files c.include_file.new.texts) _ _
    (λ files.
    item_sources (outside_of c.args.reader) (placing files c.args.reader c.args.around.now.items) at item c.in_ok-tokens.tokens wanted (state_of c.args.state.now)
    (search rules) none (search rules) (search rules)
    ∙ ap (placing files c.args.reader c.args.around.now.items at wanted) (sym c.in_ok-tokens.ensures.state))
    c.include_file.ensures.reads

pub read_file-returns-in_err-read_item-clause-reads :
    goal.read_file-returns-in_err-read_item-clause-reads
read_file-returns-in_err-read_item-clause-reads g t c =
    let p = err_from_is_err_and c.from_residual-in_err-read_item.result c.from_residual-in_err-read_item.ensures.1 in
    let some : 0 < length (lines c.loop-rest.rest.now) = more_lines c.loop-rest.rest.now (search (rules, tests)) in
    let files = known_files c.read_item.new.texts in
    rw (p.1, p.2)
    (fails_along _ _ _
    (lines_fail files c.args.reader c.args.around.now.items c.loop-rest.around.items c.loop-rest.invariant.around c.args.file.now.path c.args.file.now.run c.args.text.now (lines c.loop-rest.rest.now) c.loop-rest.number (state_of c.args.state.now) (state_of c.loop-rest.state) (item_of c.in_ok-item.item) some c.in_ok-item.ensures.item (c.loop-rest.invariant.reads files c.in_err-read_item.ensures.kept))
    c.in_err-read_item.ensures.reads)

pub read_file-loop-rest-preserved-then-is_silent : goal.read_file-loop-rest-preserved-then-is_silent
read_file-loop-rest-preserved-then-is_silent g t c =
    let now = lines c.loop-rest.rest.now in
    let front = c.of-front.result in
    let line = front.line.now in
    let behind = lines front.rest.now in
    let passed = c.if-is_silent.true in
    let silent = c.of-front.ensures.silent (c.is_silent.ensures.start passed) in
    let some : 0 < length now = more_lines c.loop-rest.rest.now (search (rules, tests)) in
    let first : silent_item line ≡ first_item now = silent_first line silent behind (c.is_silent.ensures.alone passed) ∙ ap first_item (sym c.of-front.ensures.lines) in
    let rest : behind ≡ drop 1 now = ap (drop 1) (sym c.of-front.ensures.lines) in
    let known = known_files c.loop-rest.texts in
    record {
      utf8 = search rules;
      around = c.loop-rest.invariant.around;
      within = omega (arith, c.loop-rest.invariant.within, c.of-front.ensures.shorter);
      count = lines_left known c.args.reader c.args.around.now.items c.loop-rest.around.items c.loop-rest.invariant.around c.args.file.now.path c.args.file.now.run c.args.text.now now c.loop-rest.number (state_of c.args.state.now) (state_of c.loop-rest.state) (silent_item line) some first (c.loop-rest.invariant.reads known (λ q u found. found)) behind rest c.loop-rest.invariant.count;
      kept = c.loop-rest.invariant.kept;
      given = c.loop-rest.invariant.given;
      reads = λ more e. lines_go_on more c.args.reader c.args.around.now.items c.loop-rest.around.items c.loop-rest.invariant.around c.args.file.now.path c.args.file.now.run c.args.text.now now c.loop-rest.number (state_of c.args.state.now) (state_of c.loop-rest.state) (silent_item line) some first (c.loop-rest.invariant.reads more e) (state_of c.loop-rest.state) behind rest
          (silent_read line silent (outside_of c.args.reader) (placing more c.args.reader c.loop-rest.around.items) (record { path = c.args.file.now.path; run = c.args.file.now.run; number = c.loop-rest.number }) (state_of c.loop-rest.state) (c.is_silent.ensures.short passed));
    }

pub read_file-loop-rest-preserved : goal.read_file-loop-rest-preserved
read_file-loop-rest-preserved g t c =
    let now = lines c.loop-rest.rest.now in
    let behind = lines c.in_ok-item.item.rest.now in
    let some : 0 < length now = more_lines c.loop-rest.rest.now (search (rules, tests)) in
    let known = known_files c.loop-rest.texts in
    let next = c.in_ok-read_item.ensures in
    record {
      utf8 = search rules;
      around = next.around ∙ c.loop-rest.invariant.around;
      within = omega (arith, c.loop-rest.invariant.within, c.in_ok-item.ensures.within);
      count = lines_left known c.args.reader c.args.around.now.items c.loop-rest.around.items c.loop-rest.invariant.around c.args.file.now.path c.args.file.now.run c.args.text.now now c.loop-rest.number (state_of c.args.state.now) (state_of c.loop-rest.state) (item_of c.in_ok-item.item) some c.in_ok-item.ensures.item (c.loop-rest.invariant.reads known (λ q u found. found)) behind c.in_ok-item.ensures.rest c.loop-rest.invariant.count;
      kept = extends_on _ _ _ c.loop-rest.invariant.kept next.kept;
      given = λ sources before. next.given sources (c.loop-rest.invariant.given sources before);
      reads = λ more e. lines_go_on more c.args.reader c.args.around.now.items c.loop-rest.around.items c.loop-rest.invariant.around c.args.file.now.path c.args.file.now.run c.args.text.now now c.loop-rest.number (state_of c.args.state.now) (state_of c.loop-rest.state) (item_of c.in_ok-item.item) some c.in_ok-item.ensures.item (c.loop-rest.invariant.reads more (extends_on _ _ _ next.kept e)) (state_of c.read_item.new.state) behind c.in_ok-item.ensures.rest (next.reads more e);
    }

pub read_file-returns-clause-reads : goal.read_file-returns-clause-reads
read_file-returns-clause-reads g t c = λ more e.
    let none : length c.loop-rest.rest.now ≡ 0 = search (rules, tests) in
    lines_end (outside_of c.args.reader) (placing more c.args.reader c.args.around.now.items) c.args.file.now.path c.args.file.now.run c.args.text.now (lines c.loop-rest.rest.now) c.loop-rest.number (state_of c.args.state.now) (state_of c.loop-rest.state) (ap lines (nil_from_length c.loop-rest.rest.now none)) c.loop-rest.invariant.count (c.loop-rest.invariant.reads more e)
    ∙ ap Ok (sym c.in_ok-push_end.ensures)
