-- What is known of bytes that are UTF-8.
use Rattle.std.proofs.lemmas.Str.{is_utf8-from_IsUtf8, IsUtf8-from_is_utf8}

pub ruleset text_facts = (is_utf8-from_IsUtf8, IsUtf8-from_is_utf8)
