use Rattle.std.proofs.Common.{◌≡◌, ◌∙◌, ℕ, Bool, true, false, List, None, if◌then◌else◌, ap, sym}
use Rattle.std.specs.Prelude.{option_and_then}
use Rattle.std.specs.Str.{is_utf8}
use Rattle.std.proofs.lemmas.Bool.{false_from_ne_true}
use Rattle.std.proofs.lemmas.Str.{is_utf8-from_IsUtf8, IsUtf8-from_is_utf8}
use Rattle.kc_outline.specs.TreeValue.{symbol_named}
use Rattle.kc_files.specs.MeantComments.{if_tri}
use Rattle.kc_files.proofs.unset_comments.tri_named.Goals as goal

pub returns-in-Ok : goal.returns-in-Ok
returns-in-Ok c =
    let t = c.args.tree.now in
    let name = c.args.name.now in
    let text : is_utf8 name ≡ true = is_utf8-from_IsUtf8 name c.in-Ok.ensures.cases.1 in
    c.tri_of.ensures
    ∙ ap (λ (w : List ℕ). option_and_then (if_tri t) (symbol_named t w)) c.in-Ok.ensures.cases.0
    ∙ sym (ap (λ (b : Bool). if b then option_and_then (if_tri t) (symbol_named t name) else None) text)

pub returns-in-Err : goal.returns-in-Err
returns-in-Err c =
    let t = c.args.tree.now in
    let name = c.args.name.now in
    let none : is_utf8 name ≡ false = false_from_ne_true (is_utf8 name) (λ e. c.in-Err.ensures.cases.0 (IsUtf8-from_is_utf8 name e)) in
    sym (ap (λ (b : Bool). if b then option_and_then (if_tri t) (symbol_named t name) else None) none)
