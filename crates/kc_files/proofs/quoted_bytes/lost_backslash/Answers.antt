use Rattle.kc_files.proofs.QuotedLaws.{loses}
use Rattle.kc_files.proofs.quoted_bytes.lost_backslash.Goals as goal

pub returns-clause-first : goal.returns-clause-first
returns-clause-first c = loses c.args.raw.now c.lost_place.result c.lost_place.ensures
