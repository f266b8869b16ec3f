use Rattle.std.proofs.Common.{◌≡◌, ℕ, List, [], sym, subst}
use Rattle.std.specs.Prelude.{All, IfOk}
use Rattle.std.specs.Str.{IsUtf8}
use Rattle.std.specs.String.{string_bytes}
use Rattle.std.proofs.lemmas.Result.{IfOk-weaker}
use Rattle.std.proofs.lemmas.Str.{IsUtf8-string_bytes}
use Rattle.kc_files.specs.ConfigReading.{IsConfigReading}
use Rattle.kc_files.specs.WrittenAssigns.{assigns_text, IsWritable}
use Rattle.kc_files.proofs.AssignTexts.{bodies_utf8, written_reading}
use Rattle.kc_files.proofs.LineFormLaws.{prefix_bytes}
use Rattle.kc_files.proofs.written_assigns.assigns_text.Goals as goal

pub returns-clause-text : goal.returns-clause-text
returns-clause-text c =
    subst (λ (p : List ℕ). IfOk c.lines_of.result (λ text. string_bytes text ≡ assigns_text c.args.tree.now p c.args.assigns.now)) c.as_str.ensures.text c.lines_of.ensures

pub returns-clause-read : goal.returns-clause-read
returns-clause-read c = λ unfed apart.
    let t = c.args.tree.now in
    let p = c.args.prefix.now in
    let assigns = c.args.assigns.now in
    let writable : All (IsWritable t) assigns =
    λ k d inside. record { inside = (c.requires k d inside).0; typed = (c.requires k d inside).1; unfed = unfed k d inside } in
    IfOk-weaker c.lines_of.result _ _
    (λ text is.
    subst (λ (bs : List ℕ). IsConfigReading t p bs assigns []) (sym is)
    (written_reading t p c.symbols.ensures.accepted (prefix_bytes p c.as_str.ensures.valid) assigns writable apart
    (bodies_utf8 t p assigns (subst IsUtf8 is (IsUtf8-string_bytes text)))))
    (returns-clause-text c)
