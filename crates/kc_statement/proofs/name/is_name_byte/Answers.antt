use Rattle.std.proofs.Common.{nat_eq, get_or, refl, arith}
use Rattle.kc_statement.specs.declared.name.TheConstants.{CLASSES}
use Rattle.kc_statement.specs.Names.{is_name_byte}
use Rattle.kc_text.proofs.ByteClasses.{agree_below, agree_at}
use Rattle.kc_statement.proofs.name.is_name_byte.Goals as goal

pub returns : goal.returns
unfolding agree_below
returns c = agree_at (λ k. nat_eq (get_or CLASSES k 0) 110) is_name_byte 256 refl c.args.byte (omega arith)
