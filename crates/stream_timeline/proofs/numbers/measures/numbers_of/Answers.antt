use Rattle.std.proofs.Common.{◌≡◌, ◌∙◌, List, ap, subst, sym}
use Rattle.stream_timeline.specs.declared.numbers.interval.Interval.{Interval}
use Rattle.stream_timeline.specs.declared.numbers.stretch.Stretch.{Stretch}
use Rattle.stream_timeline.specs.Intervals.{intervals_of}
use Rattle.stream_timeline.specs.Numbers.{alone_in, busy_in, peak_in, work_of}
use Rattle.stream_timeline.specs.Stretches.{AreInOrder, stretches_of}
use Rattle.stream_timeline.proofs.Bounds.{intervals_ordered, stretches_in_order, intervals_fit}
use Rattle.stream_timeline.proofs.numbers.measures.numbers_of.Goals as goal

pub stretches_of-requires-clause-ordered : goal.stretches_of-requires-clause-ordered
stretches_of-requires-clause-ordered c =
    rw (c.deref.ensures.value, c.in_ok-intervals.ensures.value) (intervals_ordered c.args.time_range c.args.steps.now)

pub busy_in-requires : goal.busy_in-requires
busy_in-requires c =
    intervals_fit c.args.time_range c.args.steps.now c.in_ok-intervals.intervals.items c.deref-2.result.now c.in_ok-intervals.ensures.value c.in_ok-intervals.ensures.small
    (c.deref-2.ensures.value ∙ (c.in_ok-stretches.ensures ∙ ap stretches_of c.deref.ensures.value))

pub alone_in-requires : goal.alone_in-requires
alone_in-requires c =
    intervals_fit c.args.time_range c.args.steps.now c.in_ok-intervals.intervals.items c.deref-5.result.now c.in_ok-intervals.ensures.value c.in_ok-intervals.ensures.small
    (c.deref-5.ensures.value ∙ (c.in_ok-stretches.ensures ∙ ap stretches_of c.deref.ensures.value))

pub returns : goal.returns
returns c =
    let is : List Interval = intervals_of c.args.time_range c.args.steps.now in
    let intervals : c.in_ok-intervals.intervals.items ≡ is = c.in_ok-intervals.ensures.value in
    let same : c.in_ok-stretches.stretches.items ≡ stretches_of is = c.in_ok-stretches.ensures ∙ ap stretches_of (c.deref.ensures.value ∙ intervals) in
    record {
      stretches = same;
      in_order = subst (λ (ss : List Stretch). AreInOrder ss) (sym same) (stretches_in_order is);
      busy = c.busy_in.ensures ∙ ap busy_in (c.deref-2.ensures.value ∙ same);
      peak = c.peak_in.ensures ∙ ap peak_in (c.deref-3.ensures.value ∙ same);
      work = c.work_of.ensures ∙ ap work_of (c.deref-4.ensures.value ∙ intervals);
      alone = λ place l. c.in_ok-alone_in.ensures.value place l ∙ ap (alone_in place) (c.deref-5.ensures.value ∙ same);
      lone = c.in_ok-alone_in.ensures.len;
      created = c.completed_of.ensures;
      updated = c.completed_of-2.ensures;
      deleted = c.completed_of-3.ensures;
    }
