use Rattle.std.proofs.Common.{arith, sym, ◌∙◌}
use Rattle.std.specs.Option.{option_copied}
use Rattle.std.proofs.lemmas.Bool.{false≢true}
use Rattle.kc_text.specs.LineReferences.{lent_names}
use Rattle.kc_names.specs.NameEnds.{IsOtherAt}
use Rattle.kc_names.proofs.EndLaws.{kept_end}
use Rattle.kc_names.proofs.FoundLaws.{kept_from, none_after, none_left}
use Rattle.kc_names.specs.NameForms.{hash_of, lowered}
use Rattle.std.proofs.Common.{◌≡◌, ap}
use Rattle.kc_names.proofs.name_ends.other_among.Goals as goal

pub returns-then-found-hash : goal.returns-then-found-hash
returns-then-found-hash c =
    let names = lent_names c.args.names.now in
    let excepted = option_copied c.args.excepted in
    let same : c.hash_from-hash.result ≡ hash_of (lowered c.args.name.now) = c.hash_from-hash.ensures ∙ ap (λ l. hash_of (lowered l)) c.as_bytes.ensures.value in
    record {
      holds = tt;
      none = λ k other.
          none_left (IsOtherAt names excepted c.args.name.now) c.args.kept.now c.hash_from-hash.result c.place_of-first.result c.loop-place.place
          (lowered c.args.name.now) k c.requires.rise (c.place_of-first.ensures c.requires.rise) c.loop-place.auto.place c.loop-place-test.true
          c.loop-place.invariant c.if-found-hash.true same (kept_end names c.args.kept.now excepted c.args.name.now k c.requires other) other;
    }

pub loop-place-preserved : goal.loop-place-preserved
loop-place-preserved c =
    none_after (IsOtherAt (lent_names c.args.names.now) (option_copied c.args.excepted) c.args.name.now) c.args.kept.now c.place_of-first.result c.loop-place.place
    c.loop-place-test.true c.loop-place.invariant (λ p. false≢true (sym c.if-is_other_at.false ∙ c.is_other_at.ensures.1 p))

pub returns : goal.returns
returns c =
    let names = lent_names c.args.names.now in
    let excepted = option_copied c.args.excepted in
    let same : c.hash_from-hash.result ≡ hash_of (lowered c.args.name.now) = c.hash_from-hash.ensures ∙ ap (λ l. hash_of (lowered l)) c.as_bytes.ensures.value in
    record {
      holds = tt;
      none = λ k other.
          let is = kept_end names c.args.kept.now excepted c.args.name.now k c.requires other in
          let after =
          kept_from (IsOtherAt names excepted c.args.name.now) c.args.kept.now c.hash_from-hash.result c.place_of-first.result c.loop-place.place
          (lowered c.args.name.now) k (c.place_of-first.ensures c.requires.rise) c.loop-place.invariant same is other in
          absurd (omega (arith, after, is.1, c.loop-place-test.false));
    }
