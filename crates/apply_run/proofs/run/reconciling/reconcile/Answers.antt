use Rattle.std.proofs.Common.{◌≡◌, ◌++◌, ◌∷◌, ◌+◌, [], ℕ, Bool, true, false, ◌&&◌, ◌==◌, List, refl, sym, ap, ◌∙◌, subst, subst₂, length, length-append, arith}
use Rattle.std.specs.List.{range_with_len}
use Rattle.std.specs.Vec.Iter.{into_iter_items, into_iter_len}
use Rattle.std.proofs.lemmas.Bool.Decides.{nat_tests}
use Rattle.std.proofs.lemmas.Grind.{common_steps}
use Rattle.apply_events.specs.Partition.{NamesEachWorkerOnce}
use Rattle.apply_bus.specs.Bus.{Account, IsTakenInPart, IsTakenWhole, NamesWorkersBelow, sent_list_of}
use Rattle.apply_bus.specs.Claims.{ClaimsName, Drawing, JoinedDrawers, IsDealtOut, lists_drawn}
use Rattle.apply_bus.specs.Items.{closes}
use Rattle.apply_bus.specs.declared.item.Item.{Item}
use Rattle.apply_run.specs.Run.Reconciled.{IsReconciled, IsReconciledWhole}
use Rattle.apply_run.specs.Run.Threads.{EachAt}
use Rattle.apply_run.specs.Worker.Stopped.{sender_of, IsStoppedWorker}
use Rattle.apply_run.proofs.Runs.Places.{all_seen, each_at, each_snoc}
use Rattle.apply_run.proofs.Runs.Joined.{all_fit, applied, applied_in_part, joined_in_order, reconciled, reconciled_whole}
use Rattle.apply_run.proofs.run.reconciling.reconcile.Goals as goal
use Rattle.apply_run.proofs.run.reconciling.reconcile.Goals.{then-closed, else-closed}

both_true : (a b : Bool) → (a && b) ≡ true → (a ≡ true) × (b ≡ true)
both_true true true e = (refl, refl)
both_true true false e = absurd cc
both_true false b e = absurd cc

-- where no close is missing, all were taken
none_open : (left : ℕ) (taken taken' : List Item) (workers workers' : ℕ) → (left == 0) ≡ true → taken ≡ taken' → workers ≡ workers' → left + closes taken ≡ workers → closes taken' ≡ workers'
none_open left taken taken' workers workers' none e f sum = let zero : left ≡ 0 = grind (arith, nat_tests) in omega (arith, ap closes e)

pub loop-worker-preserved : goal.loop-worker-preserved
loop-worker-preserved g c =
    let i = c.loop-worker.invariant in let joined = c.join_sender-closed.ensures in
    let work = g.K.RunName.work in let claims = g.K.RunName.claims in let bus = g.K.RunName.bus in let taken = c.args.taken.taken in
    let yielded = c.loop-worker.yielded in let stopped = c.in-Some.worker in let drawing = c.draw_all.new.drawer in let before = c.loop-worker.drawer_join.drawings in
    let F : ℕ → Drawing → Type 0 = IsReconciled work taken in
    let W : ℕ → Drawing → Type 0 = IsReconciledWhole work taken in
    let split = sym (ap (λ l. yielded ++ l) c.in-Some.ensures.steps.0) ∙ i.left in
    let did = each_at (IsStoppedWorker work claims bus) c.args.stopped.items yielded (into_iter_items c.next.new.self) stopped split c.requires.stopped in
    let drawings = ap (λ (a : JoinedDrawers). a.drawings) c.join.ensures in
    let part : IsTakenInPart taken (sent_list_of (sender_of stopped.sender)) = subst (λ l. IsTakenInPart l (sent_list_of (sender_of stopped.sender))) i.taken joined.part in
    record {
      left = grind (arith, common_steps);
      count = grind (arith, common_steps);
      bus = ap (λ (a : Account). a.bus) joined.joined ∙ i.bus;
      workers = ap (λ (a : Account). a.workers) joined.joined ∙ i.workers;
      taken = ap (λ (a : Account). a.taken) joined.joined ∙ i.taken;
      claims = ap (λ (a : JoinedDrawers). a.claims) c.join.ensures ∙ i.claims;
      here = ap length drawings ∙ length-append before (drawing ∷ []) ∙ ap (λ n. n + 1) i.here ∙ sym (length-append yielded (stopped ∷ []));
      part = subst (EachAt F) (sym drawings) (each_snoc F before drawing i.part
          (subst (λ k. F k drawing) (sym i.here) (reconciled work claims bus (length yielded) stopped drawing taken did c.draw_all.ensures.same.1 c.draw_all.ensures.met_none c.draw_all.ensures.more part)));
      whole = λ both full. let were = both_true c.loop-worker.closed c.join_sender-closed.result both in
          let all : IsTakenWhole taken (sent_list_of (sender_of stopped.sender)) =
          subst (λ l. IsTakenWhole l (sent_list_of (sender_of stopped.sender))) i.taken (joined.whole were.1 (ap closes i.taken ∙ full ∙ sym i.workers)) in
          subst (EachAt W) (sym drawings) (each_snoc W before drawing (i.whole were.0 full)
          (subst (λ k. W k drawing) (sym i.here) (reconciled_whole work claims bus (length yielded) stopped drawing taken did c.draw_all.ensures.none_left (sym joined.closed ∙ were.1) all)));
    }

pub finish-requires-clause-each : goal.finish-requires-clause-each
finish-requires-clause-each g c =
    let i = c.loop-worker.invariant in let drawings = c.loop-worker.drawer_join.drawings in
    let seen = all_seen c.loop-worker.yielded (into_iter_items c.loop-worker.worker-iterator) c.args.stopped.items (into_iter_len c.loop-worker.worker-iterator) i.left i.count c.in-None.ensures.steps.0 in
    let count : length drawings ≡ c.args.claims.now.workers = i.here ∙ ap length seen ∙ c.requires.workers.1 ∙ ap (λ (n : ClaimsName). n.workers) (sym c.requires.claims) in
    subst (NamesEachWorkerOnce c.loop-worker.drawer_join.claims.workers) (ap (range_with_len 0) (ap (λ (n : ClaimsName). n.workers) i.claims ∙ sym count) ∙ sym (joined_in_order g.K.RunName.work c.args.taken.taken drawings i.part))
    (c.workers_in_order_stand_once.ensures c.loop-worker.drawer_join.claims.workers)

pub returns-clause-applied : goal.returns-clause-applied
returns-clause-applied g c =
    let i = c.loop-worker.invariant in let drawings = c.loop-worker.drawer_join.drawings in let claims = g.K.RunName.claims in
    let seen = all_seen c.loop-worker.yielded (into_iter_items c.loop-worker.worker-iterator) c.args.stopped.items (into_iter_len c.loop-worker.worker-iterator) i.left i.count c.in-None.ensures.steps.0 in
    let count : length drawings ≡ claims.workers = i.here ∙ ap length seen ∙ c.requires.workers.1 in
    let named : NamesWorkersBelow claims.workers c.args.taken.taken = subst₂ NamesWorkersBelow (i.workers ∙ c.requires.workers.0) i.taken c.open_left-left.ensures.named in
    let work = g.K.RunName.work in let taken = c.args.taken.taken in let m = c.finish.ensures.dealt_out.0 in
    let dealt : IsDealtOut claims drawings m = subst (λ (n : ClaimsName). IsDealtOut n drawings m) (i.claims ∙ c.requires.claims) c.finish.ensures.dealt_out.1 in (
      lists_drawn drawings,
      applied_in_part work claims taken drawings c.requires.some count c.requires.limit named i.part m dealt,
      λ whole. elim c.if-closed.branch [
        | then-closed w ↦ let full : closes taken ≡ c.args.taken.workers = none_open c.open_left-left.result c.loop-worker.taken.taken taken c.loop-worker.taken.workers c.args.taken.workers (sym w.result-is ∙ whole) i.taken i.workers c.open_left-left.ensures.left in
            applied work claims taken drawings c.requires.some count c.requires.limit named i.part (i.whole w.if-closed.true full) m dealt
        | else-closed w ↦ absurd (let no = sym w.result-is ∙ whole in cc)
      ],
    )

pub returns-clause-fits : goal.returns-clause-fits
returns-clause-fits g c =
    let i = c.loop-worker.invariant in let drawings = c.loop-worker.drawer_join.drawings in let claims = g.K.RunName.claims in
    let seen = all_seen c.loop-worker.yielded (into_iter_items c.loop-worker.worker-iterator) c.args.stopped.items (into_iter_len c.loop-worker.worker-iterator) i.left i.count c.in-None.ensures.steps.0 in
    let count : length drawings ≡ claims.workers = i.here ∙ ap length seen ∙ c.requires.workers.1 in
    let named : NamesWorkersBelow claims.workers c.args.taken.taken = subst₂ NamesWorkersBelow (i.workers ∙ c.requires.workers.0) i.taken c.open_left-left.ensures.named in
    all_fit g.K.RunName.work claims c.args.taken.taken drawings count named i.part
