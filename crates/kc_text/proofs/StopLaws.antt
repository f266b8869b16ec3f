-- The places where the reading of a line stops, and that of a variable's text.
use Rattle.std.proofs.Common.{◌≡◌, ℕ, ◌+◌, ◌<◌, true, false, true≢false, cond, ◌||◌, List, [], ◌∷◌, ◌++◌, Option, Some, None, length, take, drop, slice_index, subst, refl, sym, ap, ◌∙◌, append_assoc, take-append-drop, length-append, length-drop, arith}
use Rattle.std.proofs.lemmas.Bool.{false≢true}
use Rattle.std.proofs.lemmas.List.{append-nil}
use Rattle.std.proofs.lemmas.List.Folds.{list_any-append}
use Rattle.std.proofs.lemmas.Option.{none-some}
use Rattle.kc_text.specs.declared.line.Operator.{Operator}
use Rattle.kc_text.specs.declared.expansion.Piece.{Piece as Part}
use Rattle.kc_text.specs.declared.expansion.Piece.TheVariants.{Text, Reference, Malformed}
use Rattle.kc_text.specs.declared.stops.StopKind.{StopKind}
use Rattle.kc_text.specs.declared.stops.StopKind.TheVariants.{UnclosedQuote, BadReference}
use Rattle.kc_text.specs.declared.stops.Stop.{Stop}
use Rattle.kc_text.specs.Bytes.{is_blank}
use Rattle.kc_text.specs.References.{Piece, malformed, value_pieces}
use Rattle.kc_text.specs.Lexing.{Raw, word, quoted, operator, unclosed, Mode, between, in_word, in_quotes, on, is_quote, begins_word, sign_step, lexed, raw_tokens}
use Rattle.kc_text.specs.Scanning.{bytes_of, piece_of}
use Rattle.kc_text.specs.Shown.{Shows}
use Rattle.kc_text.specs.Stopping.{BadDollar, Leaves, Passes, StopsWithin}
use Rattle.kc_text.specs.Stops.{is_malformed, is_bad, stop_of, first_stop, EndsWith, Stops, StopsInValue}
use Rattle.kc_text.proofs.Lexing.{word_begins, word_ends, lexed-word_malformed, quotes_end, lexed-quotes_malformed, raw_tokens-operator, first_is}
use Rattle.kc_text.proofs.References.{after_value_dollar}
use Rattle.kc_text.proofs.ShownLaws.{only_shown, quote_not_blank, quote_opens, shown}

-- bytes hold no bad dollar
pub bytes_sound : (bs : List ℕ) → is_bad (bytes_of bs) ≡ false
bytes_sound [] = refl
bytes_sound (b ∷ bs) = bytes_sound bs

sound_both : (ps qs : List Piece) → is_bad ps ≡ false → is_bad qs ≡ false → is_bad (ps ++ qs) ≡ false
sound_both ps qs e f = list_any-append is_malformed ps qs ∙ ap (λ v. v || is_bad qs) e ∙ f

bad_last : (ps : List Piece) → is_bad ps ≡ false → is_bad (ps ++ malformed ∷ []) ≡ true
bad_last ps e = list_any-append is_malformed ps (malformed ∷ []) ∙ ap (λ v. v || true) e

-- what a part leaves, by what it is
pub bad_dollar_of : (p : Part) (text after : List ℕ) → Leaves p text after → is_bad (piece_of p) ≡ true → BadDollar text
bad_dollar_of (Text front) text after l e = absurd (true≢false (sym e ∙ bytes_sound front.now))
bad_dollar_of (Reference name) text after l e = absurd (false≢true e)
bad_dollar_of Malformed text after l e = l

pub end_of : (p : Part) (text after : List ℕ) → Leaves p text after → is_bad (piece_of p) ≡ false → EndsWith text after
end_of (Text front) text after l e = l
end_of (Reference name) text after l e = l
end_of Malformed text after l e = absurd (true≢false e)

-- ends of a text
pub ends_itself : (text : List ℕ) → EndsWith text text
ends_itself text = ([], refl)

pub ends_behind : (n : ℕ) (text after : List ℕ) → after ≡ drop n text → EndsWith text after
ends_behind n text after e = (take n text, sym (take-append-drop n text) ∙ ap (λ v. take n text ++ v) (sym e))

pub ends_past : (b : ℕ) (text after : List ℕ) → EndsWith text after → EndsWith (b ∷ text) after
ends_past b text after e = (b ∷ e.0, ap (λ v. b ∷ v) e.1)

pub ends_through : (text middle after : List ℕ) → EndsWith text middle → EndsWith middle after → EndsWith text after
ends_through text middle after e f = (e.0 ++ f.0, e.1 ∙ ap (λ v. e.0 ++ v) f.1 ∙ sym (append_assoc e.0 f.0 after))

-- the parts of a token that were read, up to the rest of a text
pub record SoFar (mode : List Piece → Mode) (text rest : List ℕ) : Type 0 where
  pub parts : List Piece
  pub sound : is_bad parts ≡ false
  pub reads : lexed 0 (mode []) text ≡ lexed 0 (mode parts) rest

pub so_far_begin : (mode : List Piece → Mode) (text rest : List ℕ) → rest ≡ text → SoFar mode text rest
so_far_begin mode text rest e = record { parts = []; sound = refl; reads = ap (lexed 0 (mode [])) (sym e) }

pub so_far_more : (mode : List Piece → Mode) (text rest after : List ℕ) (p : Part) → SoFar mode text rest → is_bad (piece_of p) ≡ false
    → ((ps : List Piece) → lexed 0 (mode ps) rest ≡ lexed 0 (mode (ps ++ piece_of p)) after) → SoFar mode text after
so_far_more mode text rest after p s e lexes = record {
  parts = s.parts ++ piece_of p;
  sound = sound_both s.parts (piece_of p) s.sound e;
  reads = s.reads ∙ lexes s.parts;
}

empty_is : (bs : List ℕ) → length bs ≡ 0 → bs ≡ []
empty_is [] e = refl
empty_is (b ∷ bs) e = absurd (omega (arith, e))

-- a dollar alone that begins no reference
dollar_alone : (text : List ℕ) → BadDollar text → raw_tokens text ≡ word (malformed ∷ []) ∷ []
dollar_alone text d = ap raw_tokens d.begins ∙ word_begins (36 ∷ d.after) refl ∙ lexed-word_malformed [] d.after d.none

-- a text with a bad dollar in its first token
stops_at_dollar : (text rest : List ℕ) (token : Raw) → raw_tokens text ≡ token ∷ [] → stop_of token ≡ Some BadReference → EndsWith text rest → BadDollar rest
    → StopsWithin text (record { kind = BadReference; left = length rest })
stops_at_dollar text rest token shows kind ends d = record {
  token = token;
  shows = shows;
  kind = kind;
  at = rest;
  ends = ends;
  left = refl;
  there = dollar_alone rest d;
  no_blank = λ _. ap (λ v. is_blank (slice_index v 0)) d.begins;
}

module _ (text rest : List ℕ) (begins : begins_word text ≡ true) (s : SoFar in_word text rest) (ends : EndsWith text rest) where
  pub word_stops : BadDollar rest → StopsWithin text (record { kind = BadReference; left = length rest })
  word_stops d =
      stops_at_dollar text rest (word (s.parts ++ malformed ∷ []))
      (word_begins text begins ∙ s.reads ∙ ap (lexed 0 (in_word s.parts)) d.begins ∙ lexed-word_malformed s.parts d.after d.none)
      (ap (λ v. cond v (Some BadReference) None) (bad_last s.parts s.sound))
      ends d

  word_shorter : (before : List ℕ) → text ≡ before ++ rest → begins_word rest ≡ false → length rest < length text
  word_shorter [] e ended = absurd (true≢false (sym begins ∙ ap begins_word e ∙ ended))
  word_shorter (b ∷ before) e ended = omega (arith, ap length e, length-append before rest)

  pub word_passes : begins_word rest ≡ false → Passes text rest
  word_passes ended = record {
    token = word s.parts;
    shows = word_begins text begins ∙ s.reads ∙ word_ends s.parts rest ended;
    read = ap (λ v. cond v (Some BadReference) None) s.sound;
    ends = ends;
    shorter = word_shorter ends.0 ends.1 ended;
  }

module _ (q : ℕ) (text rest : List ℕ) (kind : is_quote q ≡ true) (some : 0 < length text) (first : slice_index text 0 ≡ q) (s : SoFar (in_quotes q) (drop 1 text) rest) (ends : EndsWith text rest) where
  opens : raw_tokens text ≡ lexed 0 (in_quotes q s.parts) rest
  opens = ap raw_tokens (first_is text q some first) ∙ quote_opens q kind (drop 1 text) ∙ s.reads

  pub quotes_stop : BadDollar rest → StopsWithin text (record { kind = BadReference; left = length rest })
  quotes_stop d =
      stops_at_dollar text rest (unclosed (s.parts ++ malformed ∷ []))
      (opens ∙ ap (lexed 0 (in_quotes q s.parts)) d.begins ∙ lexed-quotes_malformed q s.parts d.after kind d.none)
      (ap (λ v. cond v (Some BadReference) (Some UnclosedQuote)) (bad_last s.parts s.sound))
      ends d

  pub quotes_open : length rest ≡ 0 → StopsWithin text (record { kind = UnclosedQuote; left = length text })
  quotes_open empty =
      let shows : raw_tokens text ≡ unclosed s.parts ∷ [] = opens ∙ ap (lexed 0 (in_quotes q s.parts)) (empty_is rest empty) in
      record {
        token = unclosed s.parts;
        shows = shows;
        kind = ap (λ v. cond v (Some BadReference) (Some UnclosedQuote)) s.sound;
        at = text;
        ends = ends_itself text;
        left = refl;
        there = shows;
        no_blank = λ _. ap is_blank first ∙ quote_not_blank q kind;
      }

  pub quotes_pass : (after : List ℕ) → after ≡ drop 1 rest → 0 < length rest → slice_index rest 0 ≡ q → Passes text after
  quotes_pass after e more last =
      let closes : rest ≡ q ∷ drop 1 rest = first_is rest q more last in
      record {
        token = quoted s.parts;
        shows = opens ∙ ap (lexed 0 (in_quotes q s.parts)) closes ∙ quotes_end q s.parts (drop 1 rest) ∙ ap (λ v. quoted s.parts ∷ raw_tokens v) (sym e);
        read = refl;
        ends = ends_through text rest after ends (ends_behind 1 rest after e);
        shorter = omega (arith, ap length ends.1, length-append ends.0 rest, ap length closes, ap length e);
      }

module _ (text : List ℕ) (some : 0 < length text) (blank : is_blank (slice_index text 0) ≡ false) (begins : begins_word text ≡ false) where
  pub sign_passes : (o : Operator) (n : ℕ) (after : List ℕ) → n < length text → sign_step (slice_index text 0) (drop 1 text) ≡ on (operator o ∷ []) n between → after ≡ drop (n + 1) text → Passes text after
  sign_passes o n after within reads e = record {
    token = operator o;
    shows = raw_tokens-operator text o n some blank begins reads ∙ ap (λ v. operator o ∷ raw_tokens v) (sym e);
    read = refl;
    ends = ends_behind (n + 1) text after e;
    shorter = omega (arith, ap length e, length-drop (n + 1) text, within);
  }

-- the tokens of a line that were read, up to the rest of it
pub record ReadTo (line rest : List ℕ) : Type 0 where
  pub tokens : List Raw
  pub ends : EndsWith line rest
  pub shows : raw_tokens line ≡ tokens ++ raw_tokens rest
  pub read : first_stop tokens ≡ None

abbrev first_by : Option StopKind → List Raw → Option StopKind
first_by found rs = elim found [ Some kind ↦ Some kind | None ↦ first_stop rs ]

none_more : (rs : List Raw) (r : Raw) → first_stop rs ≡ None → stop_of r ≡ None → first_stop (rs ++ r ∷ []) ≡ None
none_more [] r h e = ap (λ found. first_by found []) e
none_more (s ∷ rs) r h e =
    elim (stop_of s) as (λ found. stop_of s ≡ found → first_stop (s ∷ (rs ++ r ∷ [])) ≡ None) [
      | Some kind ↦ λ q. absurd (none-some kind (sym (ap (λ found. first_by found rs) (sym q) ∙ h)))
      | None ↦ λ q. ap (λ found. first_by found (rs ++ r ∷ [])) q ∙ none_more rs r (ap (λ found. first_by found rs) (sym q) ∙ h) e
    ] refl

pub read_to_begin : (line rest : List ℕ) (n : ℕ) → rest ≡ drop n line → raw_tokens rest ≡ raw_tokens line → ReadTo line rest
read_to_begin line rest n e same = record { tokens = []; ends = ends_behind n line rest e; shows = sym same; read = refl }

pub read_to_more : (line rest after next : List ℕ) (n : ℕ) → ReadTo line rest → Passes rest after → next ≡ drop n after → raw_tokens next ≡ raw_tokens after → ReadTo line next
read_to_more line rest after next n r p e same = record {
  tokens = r.tokens ++ p.token ∷ [];
  ends = ends_through line after next (ends_through line rest after r.ends p.ends) (ends_behind n after next e);
  shows = r.shows ∙ ap (λ v. r.tokens ++ v) (p.shows ∙ ap (λ v. p.token ∷ v) (sym same)) ∙ sym (append_assoc r.tokens (p.token ∷ []) (raw_tokens next));
  read = none_more r.tokens p.token r.read p.read;
}

pub read_to_end : (line rest : List ℕ) → ReadTo line rest → raw_tokens rest ≡ [] → (rs : List Raw) → Shows line rs → first_stop rs ≡ None
read_to_end line rest r e rs s = ap first_stop (sym (only_shown s) ∙ r.shows ∙ ap (λ v. r.tokens ++ v) e ∙ append-nil r.tokens) ∙ r.read

pub read_to_stop : (line rest : List ℕ) (at : Stop) → ReadTo line rest → StopsWithin rest at → Stops line at
read_to_stop line rest at r s = record {
  tokens = r.tokens;
  last = s.token;
  shows = subst (Shows line) (r.shows ∙ ap (λ v. r.tokens ++ v) s.shows) (shown line);
  read = r.read;
  kind = s.kind;
  at = s.at;
  ends = ends_through line rest s.at r.ends s.ends;
  left = s.left;
  there = subst (Shows s.at) s.there (shown s.at);
  no_blank = s.no_blank;
}

-- the parts of a variable's text that were read, up to the rest of it
pub record ValueTo (text rest : List ℕ) : Type 0 where
  pub parts : List Piece
  pub ends : EndsWith text rest
  pub are : value_pieces text ≡ parts ++ value_pieces rest
  pub sound : is_bad parts ≡ false

pub value_to_begin : (text : List ℕ) → ValueTo text text
value_to_begin text = record { parts = []; ends = ends_itself text; are = refl; sound = refl }

pub value_to_more : (text rest after : List ℕ) (p : Part) → ValueTo text rest → is_bad (piece_of p) ≡ false → Leaves p rest after → value_pieces rest ≡ piece_of p ++ value_pieces after → ValueTo text after
value_to_more text rest after p v e l begins = record {
  parts = v.parts ++ piece_of p;
  ends = ends_through text rest after v.ends (end_of p rest after l e);
  are = v.are ∙ ap (λ w. v.parts ++ w) begins ∙ sym (append_assoc v.parts (piece_of p) (value_pieces after));
  sound = sound_both v.parts (piece_of p) v.sound e;
}

pub value_to_end : (text rest : List ℕ) → ValueTo text rest → rest ≡ [] → is_bad (value_pieces text) ≡ false
value_to_end text rest v e = ap is_bad (v.are ∙ ap (λ w. v.parts ++ value_pieces w) e ∙ append-nil v.parts) ∙ v.sound

pub value_to_stop : (text rest after : List ℕ) (p : Part) → ValueTo text rest → is_bad (piece_of p) ≡ true → Leaves p rest after → StopsInValue text (length rest)
value_to_stop text rest after p v e l =
    let d = bad_dollar_of p rest after l e in
    record {
      parts = v.parts;
      at = rest;
      ends = v.ends;
      are = v.are;
      sound = v.sound;
      there = ap value_pieces d.begins ∙ ap (λ found. after_value_dollar found d.after) d.none;
      is_left = refl;
    }
