-- Where a line is, whatever owns the lines before it.
use Rattle.std.proofs.Common.{ℕ, ◌<◌, ◌^◌, List, length, arith}
use Rattle.std.proofs.lemmas.List.Sums.{count_by-le-length}
use Rattle.kc_text.specs.LineValue.{LineValue}
use Rattle.kc_outline.specs.declared.context.Context.{Context}
use Rattle.kc_statement.specs.Keywords.{is_opener, is_config, is_comment, is_choice}
use Rattle.kc_outline.specs.ContextAfter.{HasRoom, IsContextAfter, IsPlaceAfter}

-- what is known with the owner
pub place_of : (names : List (List ℕ)) (earlier : List LineValue) (p : Context) → IsContextAfter names earlier p → IsPlaceAfter earlier p
place_of names earlier p known = record {
  stack = known.stack;
  statement = known.statement;
  definitions = known.definitions;
  blocks = known.blocks;
  choices = known.choices;
  comments = known.comments;
}

-- what is counted of few lines has a number
pub has_room_after : (earlier : List LineValue) (c : Context) → IsPlaceAfter earlier c → length earlier < 2 ^ 30 → HasRoom c
has_room_after earlier c known few = record {
  definitions = omega (arith, known.definitions, count_by-le-length is_config earlier);
  blocks = omega (arith, known.blocks, count_by-le-length is_opener earlier);
  choices = omega (arith, known.choices, count_by-le-length is_choice earlier);
  comments = omega (arith, known.comments, count_by-le-length is_comment earlier);
}
