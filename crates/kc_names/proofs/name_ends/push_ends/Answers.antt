use Rattle.kc_names.proofs.EndLaws.{ends_more}
use Rattle.kc_names.proofs.NearLaws.{rest_whole}
use Rattle.kc_names.proofs.name_ends.push_ends.Goals as goal

pub loop-place-preserved : goal.loop-place-preserved
loop-place-preserved c =
    let name = c.args.name.now in
    let place = c.loop-place.place in
    record {
      more = λ k has. c.in_ok-push_end.ensures.more k (c.loop-place.invariant.more k has);
      ends =
          ends_more c.loop-place.kept.items c.push_end.new.kept.items name place c.args.number _ (rest_whole name place)
          c.in_ok-push_end.ensures.more c.in_ok-push_end.ensures.end c.loop-place.invariant.ends;
    }
