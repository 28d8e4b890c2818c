use Rattle.std.proofs.Common.{◌≡◌, ◌++◌, ◌∷◌, ◌+◌, [], ℕ, sym, ap, ◌∙◌, subst, length, length-append, arith}
use Rattle.std.specs.Vec.Iter.{into_iter_items}
use Rattle.std.proofs.lemmas.Grind.{common_steps}
use Rattle.apply_run.specs.declared.worker.StoppedWorker.{StoppedWorker}
use Rattle.apply_run.specs.Run.Threads.{EachAt, IsThreadOf}
use Rattle.apply_run.specs.Worker.Stopped.{IsStoppedWorker}
use Rattle.apply_run.proofs.Runs.Places.{each_at, each_snoc}
use Rattle.apply_run.proofs.run.threads.join_all.Goals as goal

pub loop-thread-preserved : goal.loop-thread-preserved
loop-thread-preserved g c =
    let i = c.loop-thread.invariant in
    let yielded = c.loop-thread.yielded in let thread = c.in-Some.thread in let stopped = c.join.result in let before = c.loop-thread.stopped.items in
    let W : ℕ → StoppedWorker → Type 0 = IsStoppedWorker g.K.RunName.work g.K.RunName.claims g.K.RunName.bus in
    let split = sym (ap (λ l. yielded ++ l) c.in-Some.ensures.steps.0) ∙ i.left in
    let is = each_at IsThreadOf c.args.threads.items yielded (into_iter_items c.next.new.self) thread split c.requires.started in
    let work : W (length yielded) stopped = subst (λ k. W k stopped) is c.join.ensures in
    let pushed : c.push.new.self.items ≡ before ++ stopped ∷ [] = grind (arith, common_steps) in
    record {
      left = grind (arith, common_steps);
      count = grind (arith, common_steps);
      here = ap length pushed ∙ length-append before (stopped ∷ []) ∙ ap (λ n. n + 1) i.here ∙ sym (length-append yielded (thread ∷ []));
      stopped = subst (EachAt W) (sym pushed) (each_snoc W before stopped i.stopped (subst (λ k. W k stopped) (sym i.here) work));
      room = omega (arith, i.room, c.push.ensures.capacity);
    }
