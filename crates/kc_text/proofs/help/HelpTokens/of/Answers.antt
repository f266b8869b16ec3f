use Rattle.std.proofs.Common.{Ok, sym, ap, ◌∙◌}
use Rattle.kc_text.proofs.HelpTokens.{help_is_no_definition, dashed_is_no_definition, help_shows, dashed_shows}
use Rattle.kc_text.proofs.help.HelpTokens.of.Goals as goal

pub returns-then-begins_dash-clause-statement : goal.returns-then-begins_dash-clause-statement
returns-then-begins_dash-clause-statement c = dashed_is_no_definition c.args.line.now c.requires.help (sym c.begins_dash.ensures ∙ c.if-begins_dash.true)

pub returns-then-begins_dash-clause-tokens : goal.returns-then-begins_dash-clause-tokens
returns-then-begins_dash-clause-tokens c = λ names outside.
    dashed_shows c.args.line.now c.requires.help names outside (sym c.begins_dash.ensures ∙ c.if-begins_dash.true)
    ∙ ap Ok (sym (c.new.ensures ∙ c.self.invariant.1))

pub returns-else-begins_dash-clause-statement : goal.returns-else-begins_dash-clause-statement
returns-else-begins_dash-clause-statement c = help_is_no_definition c.args.line.now c.requires.help (sym c.begins_dash.ensures ∙ c.if-begins_dash.false)

pub returns-else-begins_dash-clause-tokens : goal.returns-else-begins_dash-clause-tokens
returns-else-begins_dash-clause-tokens c = λ names outside.
    help_shows c.args.line.now c.requires.help names outside (sym c.begins_dash.ensures ∙ c.if-begins_dash.false)
    ∙ ap Ok (sym (c.new-else-begins_dash.ensures ∙ c.self.invariant.0))
