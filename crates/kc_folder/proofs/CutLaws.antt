-- Where the bytes of a long file are cut.
use Rattle.std.proofs.Common.{◌≡◌, ℕ, ◌+◌, ◌<◌, ◌≤◌, List, [], ◌∷◌, ◌++◌, length, take, drop, sym, subst, ap, arith, length-append, length-drop}
use Rattle.std.specs.Prelude.{IsUtf8, encode_utf8_all}
use Rattle.std.specs.Str.{IsValidUpTo}
use Rattle.std.specs.Char.{len_utf8}
use Rattle.std.proofs.lemmas.Str.{IsUtf8-take, IsUtf8-drop, IsCharBoundary-from_take, IsCharBoundary-past_char, len_utf8_bounds}
use Rattle.std.proofs.lemmas.List.{take-append-le}
use Rattle.kc_folder.specs.Cuts.{IsCut}

-- a longer front of a text that goes on for a character or more
record Longer (bytes : List ℕ) (n : ℕ) : Type 0 where
  end : ℕ
  longer : n < end
  within : end ≤ n + 4
  front : IsUtf8 (take end bytes)

longer_by : (bytes : List ℕ) (n : ℕ) → IsUtf8 bytes → n + 4 ≤ length bytes → IsUtf8 (drop n bytes) → (cs : List ℕ) → encode_utf8_all cs ≡ drop n bytes → Longer bytes n
longer_by bytes n text room tail [] is = absurd (omega (arith, ap length is, length-drop n bytes))
longer_by bytes n text room tail (c ∷ cs) is =
    let step = len_utf8_bounds c in
    record {
      end = n + len_utf8 c;
      longer = omega (arith, step.0);
      within = omega (arith, step.1);
      front = IsUtf8-take bytes (n + len_utf8 c) text (IsCharBoundary-past_char bytes (encode_utf8_all cs) n c (omega arith) tail (sym is));
    }

longer_front : (bytes : List ℕ) (n : ℕ) → IsUtf8 bytes → n + 4 ≤ length bytes → IsUtf8 (take n bytes) → Longer bytes n
longer_front bytes n text room front =
    let tail = IsUtf8-drop bytes n text (IsCharBoundary-from_take bytes n text (omega arith) front) in
    longer_by bytes n text room tail tail.0 tail.1.1

-- bytes with four or more after their longest front begin no text
no_text : (bytes rest : List ℕ) (n : ℕ) → IsValidUpTo bytes n → n + 4 ≤ length bytes → ¬ (IsUtf8 (bytes ++ rest))
no_text bytes rest n valid room text =
    let front = subst IsUtf8 (sym (take-append-le n bytes rest (omega arith))) valid.front in
    let more = longer_front (bytes ++ rest) n text (omega (arith, length-append bytes rest)) front in
    valid.longest more.end more.longer (subst IsUtf8 (take-append-le more.end bytes rest (omega (arith, more.within))) more.front)

pub cut_of_no_text : (bytes : List ℕ) (n : ℕ) → IsValidUpTo bytes n → n + 4 ≤ length bytes → IsCut bytes (length bytes)
cut_of_no_text bytes n valid room = record {
  within = omega arith;
  most = omega arith;
  whole = λ rest text. absurd (no_text bytes rest n valid room text);
}
