use Rattle.std.proofs.Common.{◌≡◌, ◌≤◌, ◌∷◌, ◌++◌, [], ℕ, List, length, Bor, Some, Ok, ap, sym, ◌∙◌}
use Rattle.std.proofs.lemmas.Result.{err_from_is_err_and}
use Rattle.kc_text.specs.declared.line.PlacedFile.{PlacedFile}
use Rattle.kc_text.specs.declared.files.TheConstants.{MAX_BYTES}
use Rattle.kc_text.specs.Expansion.{then_on}
use Rattle.kc_text.specs.Libraries.{known_files}
use Rattle.kc_text.specs.Reading.{file_read}
use Rattle.kc_text.specs.Scanning.{outside_of, placing, state_of}
use Rattle.kc_text.specs.Sources.{text_of}
use Rattle.kc_text.proofs.LineCounts.{logical_lines-few}
use Rattle.kc_text.proofs.Nesting.{fails_along, of_if_some, of_some, top_reads}
use Rattle.kc_text.proofs.reading.read_top.Goals as goal

pub returns-in_err-read_file-clause-gives : goal.returns-in_err-read_file-clause-gives
returns-in_err-read_file-clause-gives g c =
    let p = err_from_is_err_and c.from_residual-in_err-read_file.result c.from_residual-in_err-read_file.ensures.1 in
    let top = c.args.top.now in
    let file = c.in-Ok-Some.file in
    let files = known_files c.read_file.new.texts in
    let found : (file.0.now ≡ top) × (text_of top (known_files c.text.new.self) ≡ Some file.1.now) =
    of_some _ (λ (f : Bor (List ℕ) × Bor (List ℕ)). (f.0.now ≡ top) × (text_of top (known_files c.text.new.self) ≡ Some f.1.now)) c.in-Ok-Some.field-0 file c.in-Ok-Some.field-0-is c.in-Ok-Some.ensures.found in
    let one : c.push.new.self.items ≡ file.0 ∷ [] = c.in_ok-push.ensures.items ∙ ap (λ l. l ++ file.0 ∷ []) c.new-around.ensures.items in
    let reads = top_reads files c.args.reader top file.0 file.1.now c.push.new.self.items (state_of c.in_ok-state.state) found.0 (c.in_err-read_file.ensures.kept top file.1.now found.1) one c.in_ok-state.ensures in
    let read = λ (f : PlacedFile). file_read (outside_of c.args.reader) (placing files c.args.reader c.push.new.self.items) f.path f.run file.1.now (state_of c.in_ok-state.state) in
    rw (p.1, p.2) (fails_along _ _ _ (λ f h. ap (λ r. then_on r (λ s. Ok s.lines)) (reads ∙ ap read (sym c.in_ok-file.ensures) ∙ h)) c.in_err-read_file.ensures.reads)

pub returns-clause-gives : goal.returns-clause-gives
returns-clause-gives g c = λ more e.
    let top = c.args.top.now in
    let file = c.in-Ok-Some.file in
    let found : (file.0.now ≡ top) × (text_of top (known_files c.text.new.self) ≡ Some file.1.now) =
    of_some _ (λ (f : Bor (List ℕ) × Bor (List ℕ)). (f.0.now ≡ top) × (text_of top (known_files c.text.new.self) ≡ Some f.1.now)) c.in-Ok-Some.field-0 file c.in-Ok-Some.field-0-is c.in-Ok-Some.ensures.found in
    let here = e top file.1.now (c.in_ok-read_file.ensures.kept top file.1.now found.1) in
    let one : c.push.new.self.items ≡ file.0 ∷ [] = c.in_ok-push.ensures.items ∙ ap (λ l. l ++ file.0 ∷ []) c.new-around.ensures.items in
    ap (λ r. then_on r (λ s. Ok s.lines))
    (top_reads more c.args.reader top file.0 file.1.now c.push.new.self.items (state_of c.in_ok-state.state) found.0 here one c.in_ok-state.ensures
    ∙ ap (λ (f : PlacedFile). file_read (outside_of c.args.reader) (placing more c.args.reader c.push.new.self.items) f.path f.run file.1.now (state_of c.in_ok-state.state)) (sym c.in_ok-file.ensures)
    ∙ c.in_ok-read_file.ensures.reads more e)

pub returns-clause-few : goal.returns-clause-few
returns-clause-few g c =
    let top = c.args.top.now in
    let file = c.in-Ok-Some.file in
    let known = known_files c.read_file.new.texts in
    let found : (file.0.now ≡ top) × (text_of top (known_files c.text.new.self) ≡ Some file.1.now) =
    of_some _ (λ (f : Bor (List ℕ) × Bor (List ℕ)). (f.0.now ≡ top) × (text_of top (known_files c.text.new.self) ≡ Some f.1.now)) c.in-Ok-Some.field-0 file c.in-Ok-Some.field-0-is c.in-Ok-Some.ensures.found in
    let short : length file.1.now ≤ MAX_BYTES =
    of_if_some (λ (f : Bor (List ℕ) × Bor (List ℕ)). length f.1.now ≤ MAX_BYTES) c.in-Ok-Some.field-0 file c.in-Ok-Some.field-0-is c.in-Ok-Some.ensures.short in
    logical_lines-few known (outside_of c.args.reader) top file.1.now _ (c.in_ok-read_file.ensures.kept top file.1.now found.1) short (returns-clause-gives g c known (λ q u h. h))
