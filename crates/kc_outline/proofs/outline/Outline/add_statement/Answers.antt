use Rattle.std.proofs.Common.{rules, refl, ◌≡◌, false, Some, None, sym, ap, subst, ◌∙◌, IfErr}
use Rattle.kc_statement.specs.declared.keyword.Keyword.TheVariants as keyword
use Rattle.kc_statement.specs.Keywords.{keyword_of, is_config_word, is_opener_word}
use Rattle.kc_outline.specs.ContextAfter.{owner_made}
use Rattle.kc_outline.specs.Enclosing.{choice_among, innermost}
use Rattle.kc_outline.specs.LineFaults.{opens_too_deep}
use Rattle.kc_outline.specs.Reader.{IsAdded, IsRefused}
use Rattle.kc_outline.proofs.AddedLaws.{entered, not_too_deep}
use Rattle.kc_outline.proofs.outline.Outline.add_statement.Goals as goal

pub returns-then-eq-clause-stop : goal.returns-then-eq-clause-stop
returns-then-eq-clause-stop c =
    let p = c.args.context.now in
    let line = c.args.line.now in
    let is : keyword_of line ≡ Some keyword.Config = (search rules) in
    subst (λ b. IfErr c.read_config.result (IsRefused p.statement b c.args.self.now c.read_config.new.self line)) (sym (not_too_deep p.stack line keyword.Config is refl)) (c.read_config.ensures.stop p.statement)

pub returns-in_err-read_menu-in-Menu-clause-stop : goal.returns-in_err-read_menu-in-Menu-clause-stop
returns-in_err-read_menu-in-Menu-clause-stop c =
    let stop = rw c.opens_too_deep-is_too_deep.ensures at (c.in_err-read_menu-in-Menu.ensures.stop c.args.context.now.statement) in
    search (rules, stop)

pub returns-in_err-read_if-in-If-clause-stop : goal.returns-in_err-read_if-in-If-clause-stop
returns-in_err-read_if-in-If-clause-stop c =
    let stop = rw c.opens_too_deep-is_too_deep.ensures at (c.in_err-read_if-in-If.ensures.stop c.args.context.now.statement) in
    search (rules, stop)

pub returns-in_err-read_choice-in-Choice-clause-stop : goal.returns-in_err-read_choice-in-Choice-clause-stop
returns-in_err-read_choice-in-Choice-clause-stop c =
    let stop = rw c.opens_too_deep-is_too_deep.ensures at (c.in_err-read_choice-in-Choice.ensures.stop c.args.context.now.statement) in
    search (rules, stop)

pub returns-in_err-read_end_menu-in-EndMenu-clause-stop : goal.returns-in_err-read_end_menu-in-EndMenu-clause-stop
returns-in_err-read_end_menu-in-EndMenu-clause-stop c =
    let p = c.args.context.now in
    let stop = c.in_err-read_end_menu-in-EndMenu.ensures.stop p.statement (opens_too_deep p.stack c.args.line.now) in
    search (rules, stop)

pub returns-in_err-read_end_if-in-EndIf-clause-stop : goal.returns-in_err-read_end_if-in-EndIf-clause-stop
returns-in_err-read_end_if-in-EndIf-clause-stop c =
    let p = c.args.context.now in
    let stop = c.in_err-read_end_if-in-EndIf.ensures.stop c.args.self.now p.statement (opens_too_deep p.stack c.args.line.now) in
    search (rules, stop)

pub returns-in_err-read_end_choice-in-EndChoice-clause-stop : goal.returns-in_err-read_end_choice-in-EndChoice-clause-stop
returns-in_err-read_end_choice-in-EndChoice-clause-stop c =
    let p = c.args.context.now in
    let stop = c.in_err-read_end_choice-in-EndChoice.ensures.stop c.args.self.now p.statement (opens_too_deep p.stack c.args.line.now) in
    search (rules, stop)

pub returns-in_err-read_comment-in-Comment-clause-stop : goal.returns-in_err-read_comment-in-Comment-clause-stop
returns-in_err-read_comment-in-Comment-clause-stop c =
    let p = c.args.context.now in
    let stop = c.in_err-read_comment-in-Comment.ensures.stop p.statement (opens_too_deep p.stack c.args.line.now) in
    search (rules, stop)

pub returns-in_err-read_main_menu-in-MainMenu-clause-stop : goal.returns-in_err-read_main_menu-in-MainMenu-clause-stop
returns-in_err-read_main_menu-in-MainMenu-clause-stop c =
    let p = c.args.context.now in
    let stop = c.in_err-read_main_menu-in-MainMenu.ensures.stop p.statement (opens_too_deep p.stack c.args.line.now) in
    search (rules, stop)

pub returns-in_ok-read_menu-in-Menu-clause-added : goal.returns-in_ok-read_menu-in-Menu-clause-added
returns-in_ok-read_menu-in-Menu-clause-added c =
    let p = c.args.context.now in
    let old = c.args.self.now in
    let added : IsAdded p.statement (innermost p.stack) (choice_among p.stack) (owner_made c.args.keyword None p.definitions p.blocks p.choices p.comments) c.args.line.now old c.read_menu.new.self = rw (c.innermost-block.ensures, c.made_by-owner.ensures) at (c.in_ok-read_menu-in-Menu.ensures.added p.statement (choice_among p.stack)) in
    entered p c.args.line.now c.args.keyword c.requires.keyword old c.read_menu.new.self (ap is_config_word c.in-Menu.is) (sym c.opens_too_deep-is_too_deep.ensures ∙ c.in_ok-read_menu-in-Menu.ensures.shallow) added

pub returns-in_ok-read_end_menu-in-EndMenu-clause-added : goal.returns-in_ok-read_end_menu-in-EndMenu-clause-added
returns-in_ok-read_end_menu-in-EndMenu-clause-added c =
    let p = c.args.context.now in
    let old = c.args.self.now in
    let added : IsAdded p.statement (innermost p.stack) (choice_among p.stack) (owner_made c.args.keyword None p.definitions p.blocks p.choices p.comments) c.args.line.now old c.read_end_menu.new.self = rw c.innermost-block.ensures at (c.in_ok-read_end_menu-in-EndMenu.ensures.added p.statement (choice_among p.stack) (owner_made c.args.keyword None p.definitions p.blocks p.choices p.comments)) in
    entered p c.args.line.now c.args.keyword c.requires.keyword old c.read_end_menu.new.self (ap is_config_word c.in-EndMenu.is) (not_too_deep p.stack c.args.line.now c.args.keyword c.requires.keyword (ap is_opener_word c.in-EndMenu.is)) added

pub returns-in_ok-read_if-in-If-clause-added : goal.returns-in_ok-read_if-in-If-clause-added
returns-in_ok-read_if-in-If-clause-added c =
    let p = c.args.context.now in
    let old = c.args.self.now in
    let added : IsAdded p.statement (innermost p.stack) (choice_among p.stack) (owner_made c.args.keyword None p.definitions p.blocks p.choices p.comments) c.args.line.now old c.read_if.new.self = rw c.innermost-block.ensures at (c.in_ok-read_if-in-If.ensures.added p.statement (choice_among p.stack) (owner_made c.args.keyword None p.definitions p.blocks p.choices p.comments)) in
    entered p c.args.line.now c.args.keyword c.requires.keyword old c.read_if.new.self (ap is_config_word c.in-If.is) (sym c.opens_too_deep-is_too_deep.ensures ∙ c.in_ok-read_if-in-If.ensures.shallow) added

pub returns-in_ok-read_choice-in-Choice-clause-added : goal.returns-in_ok-read_choice-in-Choice-clause-added
returns-in_ok-read_choice-in-Choice-clause-added c =
    let p = c.args.context.now in
    let old = c.args.self.now in
    let added : IsAdded p.statement (innermost p.stack) (choice_among p.stack) (owner_made c.args.keyword None p.definitions p.blocks p.choices p.comments) c.args.line.now old c.read_choice.new.self = rw (c.innermost-block.ensures, c.made_by-owner.ensures) at (c.in_ok-read_choice-in-Choice.ensures.added p.statement (choice_among p.stack)) in
    entered p c.args.line.now c.args.keyword c.requires.keyword old c.read_choice.new.self (ap is_config_word c.in-Choice.is) (sym c.opens_too_deep-is_too_deep.ensures ∙ c.in_ok-read_choice-in-Choice.ensures.shallow) added

pub returns-in_ok-read_end_if-in-EndIf-clause-added : goal.returns-in_ok-read_end_if-in-EndIf-clause-added
returns-in_ok-read_end_if-in-EndIf-clause-added c =
    let p = c.args.context.now in
    let old = c.args.self.now in
    let added : IsAdded p.statement (innermost p.stack) (choice_among p.stack) (owner_made c.args.keyword None p.definitions p.blocks p.choices p.comments) c.args.line.now old old = c.in_ok-read_end_if-in-EndIf.ensures.added old p.statement (innermost p.stack) (choice_among p.stack) (owner_made c.args.keyword None p.definitions p.blocks p.choices p.comments) in
    entered p c.args.line.now c.args.keyword c.requires.keyword old old (ap is_config_word c.in-EndIf.is) (not_too_deep p.stack c.args.line.now c.args.keyword c.requires.keyword (ap is_opener_word c.in-EndIf.is)) added

pub returns-in_ok-read_end_choice-in-EndChoice-clause-added : goal.returns-in_ok-read_end_choice-in-EndChoice-clause-added
returns-in_ok-read_end_choice-in-EndChoice-clause-added c =
    let p = c.args.context.now in
    let old = c.args.self.now in
    let added : IsAdded p.statement (innermost p.stack) (choice_among p.stack) (owner_made c.args.keyword None p.definitions p.blocks p.choices p.comments) c.args.line.now old old = c.in_ok-read_end_choice-in-EndChoice.ensures.added old p.statement (innermost p.stack) (choice_among p.stack) (owner_made c.args.keyword None p.definitions p.blocks p.choices p.comments) in
    entered p c.args.line.now c.args.keyword c.requires.keyword old old (ap is_config_word c.in-EndChoice.is) (not_too_deep p.stack c.args.line.now c.args.keyword c.requires.keyword (ap is_opener_word c.in-EndChoice.is)) added

pub returns-in_ok-read_comment-in-Comment-clause-added : goal.returns-in_ok-read_comment-in-Comment-clause-added
returns-in_ok-read_comment-in-Comment-clause-added c =
    let p = c.args.context.now in
    let old = c.args.self.now in
    let added : IsAdded p.statement (innermost p.stack) (choice_among p.stack) (owner_made c.args.keyword None p.definitions p.blocks p.choices p.comments) c.args.line.now old c.read_comment.new.self = rw (c.innermost-block.ensures, c.choice.ensures, c.made_by-owner.ensures) at (c.in_ok-read_comment-in-Comment.ensures.added p.statement) in
    entered p c.args.line.now c.args.keyword c.requires.keyword old c.read_comment.new.self (ap is_config_word c.in-Comment.is) (not_too_deep p.stack c.args.line.now c.args.keyword c.requires.keyword (ap is_opener_word c.in-Comment.is)) added

pub returns-in_ok-read_main_menu-in-MainMenu-clause-added : goal.returns-in_ok-read_main_menu-in-MainMenu-clause-added
returns-in_ok-read_main_menu-in-MainMenu-clause-added c =
    let p = c.args.context.now in
    let old = c.args.self.now in
    let added : IsAdded p.statement (innermost p.stack) (choice_among p.stack) (owner_made c.args.keyword None p.definitions p.blocks p.choices p.comments) c.args.line.now old old = c.in_ok-read_main_menu-in-MainMenu.ensures.added p.statement (innermost p.stack) (choice_among p.stack) (owner_made c.args.keyword None p.definitions p.blocks p.choices p.comments) in
    entered p c.args.line.now c.args.keyword c.requires.keyword old old (ap is_config_word c.in-MainMenu.is) (not_too_deep p.stack c.args.line.now c.args.keyword c.requires.keyword (ap is_opener_word c.in-MainMenu.is)) added
