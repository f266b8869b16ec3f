use Rattle.std.proofs.Common.{◌≡◌, ◌∙◌, ap, length, sym}
use Rattle.std.specs.Prelude.{map}
use Rattle.std.specs.List.{range_with_len}
use Rattle.std.proofs.lemmas.List.{length-map}
use Rattle.kc_text.specs.LineReferences.{lent_names}
use Rattle.kc_line_facts.specs.EarlierFindings.{is_missing, known_names, reached_names}
use Rattle.kc_line_facts.specs.FreshNames.{is_fresh}
use Rattle.kc_line_facts.proofs.EarlierLaws.{fresh_flag, fresh_with}
use Rattle.kc_line_facts.proofs.earlier_faults.missing_flags.Goals as goal

pub returns : goal.returns
returns c =
    fresh_with (reached_names c.args.files.now c.args.reached.now) (known_names c.args.files.now (lent_names c.args.given.now)) c.as_slice.result.now c.as_slice-2.result.now _
    (ap lent_names c.as_slice.ensures.value ∙ c.in_ok-names.ensures) (ap lent_names c.as_slice-2.ensures.value ∙ c.in_ok-known.ensures) c.fresh_flags.ensures
