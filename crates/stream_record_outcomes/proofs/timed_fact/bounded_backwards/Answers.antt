use Rattle.std.proofs.Common.{◌∙◌, ℕ, ap, arith, sym}
use Rattle.stream_record_outcomes.specs.Times.{latest_with}
use Rattle.stream_record_outcomes.proofs.FactTimes.{bounded_more, latest_more}
use Rattle.stream_record_outcomes.proofs.timed_fact.bounded_backwards.Goals as goal

pub loop-place-preserved : goal.loop-place-preserved
loop-place-preserved c =
    let facts = c.as_slice-facts.result.now in
    let place = c.loop-place.place in
    let fact = c.index-facts-place.result in
    record {
      within = omega arith;
      so_far =
          bounded_more c.args.begun.now.second c.args.whole facts place fact (omega arith) (omega arith) c.index-facts-place.is
          c.loop-place.latest c.loop-place.backwards.items c.push.new.self.items c.own_fact.result c.loop-place.invariant.latest
          c.own_fact.ensures c.loop-place.invariant.so_far (c.in_ok-push.ensures.items);
      latest =
          c.latest_with-latest.ensures
          ∙ ap (λ (n : ℕ). latest_with c.args.whole n fact) c.loop-place.invariant.latest
          ∙ sym (latest_more c.args.begun.now.second c.args.whole facts place fact (omega arith) (omega arith) c.index-facts-place.is);
    }
