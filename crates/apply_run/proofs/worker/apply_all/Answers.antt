use Rattle.std.proofs.Common.{◌+◌, ◌++◌, ◌∷◌, [], All, length, length-append, sum_by, refl, true≢false, sym, ap, ◌∙◌, subst, subst₂, arith}
use mathlib.Core.List.{IsPrefix}
use Rattle.std.proofs.lemmas.List.Elements.{All-append, All-nil}
use Rattle.std.proofs.lemmas.List.Sums.{sum_by_push}
use Rattle.apply_events.specs.ChangeEvents.{change_events, span_of}
use Rattle.apply_events.specs.WorkerEvents.{worker_events}
use Rattle.apply_bus.specs.Claims.{Drawing}
use Rattle.apply_events.specs.Fits.{IsOfPlan}
use Rattle.apply_run.specs.Worker.Drawn.{IsDrawn}
use Rattle.apply_run.specs.Worker.WorkerJob.{work_of}
use Rattle.apply_run.proofs.Workers.Drawing.{drawn_on, none_drawn, room_left}
use Rattle.apply_writer.proofs.Prefixes.{prefix_behind}
use Rattle.apply_run.proofs.worker.apply_all.Goals as goal

pub loop-change-init : goal.loop-change-init
loop-change-init g c =
    let none = sym c.requires.fresh.0 in
    record {
      bus = refl;
      sender = refl;
      claims = refl;
      drawer = refl;
      drawn = subst (IsDrawn c.args.job.now.claims.now.limit) none (none_drawn c.args.job.now.claims.now.limit);
      sent = c.requires.fresh.1 ∙ ap (worker_events (work_of c.args.job.now) c.args.tx.now.worker) none;
      fits = subst (All (IsOfPlan c.args.job.now.plan.now)) (sym c.requires.fresh.1) (All-nil (IsOfPlan c.args.job.now.plan.now));
      time = ap (sum_by (span_of (work_of c.args.job.now))) none;
      soon = omega arith;
    }

pub apply_change-requires-clause-in_time : goal.apply_change-requires-clause-in_time
apply_change-requires-clause-in_time g c =
    let i = c.loop-change.invariant in let few = c.requires.few in
    let limit = c.args.job.now.claims.now.limit in
    let drawn = ap (λ (d : Drawing). d.drawn) c.in-Some.ensures.some in
    let numbers = drawn_on c.a_rising_list_rises_on.ensures limit c.in-Some.change c.loop-change.drawer.drawn c.draw.new.drawer.drawn i.drawn drawn c.in-Some.ensures.below c.in-Some.ensures.rising in
    let room = room_left c.a_rising_list_fits_below_its_limit.ensures limit c.in-Some.change c.loop-change.drawer.drawn c.draw.new.drawer.drawn numbers drawn in
    omega (arith, i.soon)

pub loop-change-smaller : goal.loop-change-smaller
loop-change-smaller g c =
    let i = c.loop-change.invariant in
    let limit = c.args.job.now.claims.now.limit in
    let drawn = ap (λ (d : Drawing). d.drawn) c.in-Some.ensures.some in
    let numbers = drawn_on c.a_rising_list_rises_on.ensures limit c.in-Some.change c.loop-change.drawer.drawn c.draw.new.drawer.drawn i.drawn drawn c.in-Some.ensures.below c.in-Some.ensures.rising in
    let room = room_left c.a_rising_list_fits_below_its_limit.ensures limit c.in-Some.change c.loop-change.drawer.drawn c.draw.new.drawer.drawn numbers drawn in
    let longer = ap length drawn ∙ length-append c.loop-change.drawer.drawn (c.in-Some.change ∷ []) in
    omega arith

pub loop-change-preserved : goal.loop-change-preserved
loop-change-preserved g c =
    let i = c.loop-change.invariant in let change = c.in-Some.change in
    let limit = c.args.job.now.claims.now.limit in let work = work_of c.args.job.now in let w = c.args.tx.now.worker in
    let before = c.loop-change.drawer.drawn in let after = c.draw.new.drawer.drawn in
    let drawn = ap (λ (d : Drawing). d.drawn) c.in-Some.ensures.some in
    let numbers = drawn_on c.a_rising_list_rises_on.ensures limit change before after i.drawn drawn c.in-Some.ensures.below c.in-Some.ensures.rising in
    let whole = c.in-Some-apply_change.ensures.whole in let part = c.apply_change.ensures.part in
    let longer = ap length drawn ∙ length-append before (change ∷ []) in
    record {
      bus = c.apply_change.ensures.sender.0 ∙ i.bus;
      sender = c.apply_change.ensures.sender.1 ∙ i.sender;
      claims = ap (λ (d : Drawing). d.claims) c.in-Some.ensures.some ∙ i.claims;
      drawer = ap (λ (d : Drawing). d.worker) c.in-Some.ensures.some ∙ i.drawer;
      drawn = numbers;
      sent = whole.2 ∙ ap (λ l. l ++ change_events work c.loop-change.tx.worker change c.loop-change.at) i.sent ∙ ap (λ v. worker_events work w before ++ change_events work v change c.loop-change.at) i.sender
          ∙ ap (λ at. worker_events work w before ++ change_events work w change at) i.time ∙ sym (c.a_further_change_comes_after.ensures work w change before) ∙ ap (worker_events work w) (sym drawn);
      fits = subst (All (IsOfPlan c.args.job.now.plan.now)) (sym part.1) (All-append (IsOfPlan c.args.job.now.plan.now) c.loop-change.tx.sent part.0 i.fits part.3);
      time = whole.0 ∙ ap (λ n. n + span_of work change) i.time ∙ sym (sum_by_push (span_of work) before change) ∙ ap (sum_by (span_of work)) (sym drawn);
      soon = omega (arith, whole.1, i.soon);
    }

pub returns-in-None-clause-fits : goal.returns-in-None-clause-fits
returns-in-None-clause-fits g c =
    let i = c.loop-change.invariant in let part = c.apply_change.ensures.part in
    subst (All (IsOfPlan c.args.job.now.plan.now)) (sym part.1) (All-append (IsOfPlan c.args.job.now.plan.now) c.loop-change.tx.sent part.0 i.fits part.3)

pub returns-in-None-clause-whole : goal.returns-in-None-clause-whole
returns-in-None-clause-whole g c all = absurd (true≢false (sym all))

pub returns-in-None-clause-part : goal.returns-in-None-clause-part
returns-in-None-clause-part g c =
    let i = c.loop-change.invariant in let change = c.in-Some.change in let part = c.apply_change.ensures.part in
    let work = work_of c.args.job.now in let w = c.args.tx.now.worker in
    let before = c.loop-change.drawer.drawn in let at = c.loop-change.at in
    let sent = worker_events work w before in
    let drawn = ap (λ (d : Drawing). d.drawn) c.in-Some.ensures.some in
    subst₂ IsPrefix (ap (λ l. l ++ part.0) (sym i.sent) ∙ sym part.1)
    (ap (λ v. sent ++ change_events work v change at) i.sender ∙ ap (λ n. sent ++ change_events work w change n) i.time
    ∙ sym (c.a_further_change_comes_after.ensures work w change before) ∙ ap (worker_events work w) (sym drawn))
    (prefix_behind sent part.0 (change_events work c.loop-change.tx.worker change at) part.2)

pub returns-in-None-clause-sender : goal.returns-in-None-clause-sender
returns-in-None-clause-sender g c =
    let i = c.loop-change.invariant in let unchanged = c.apply_change.ensures.sender in
    (unchanged.0 ∙ i.bus, unchanged.1 ∙ i.sender)
