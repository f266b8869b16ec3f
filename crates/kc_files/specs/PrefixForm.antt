-- What may stand before the names in the files: this project's own, after the `CONFIG_` of the kernel.
use Rattle.std.specs.Prelude.{ℕ, Bool, ◌&&◌, nat_le, List, length}
use Rattle.std.specs.List.{list_all}
use Rattle.kc_statement.specs.Names.{is_name_byte}

-- at most 64 bytes of names, and none at all will do
abbrev pub is_prefix : List ℕ → Bool
is_prefix bs = nat_le (length bs) 64 && list_all is_name_byte bs
