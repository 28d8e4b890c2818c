use Rattle.std.proofs.Common.{◌≡◌, ◌++◌, ◌∷◌, ◌+◌, [], ℕ, suc, sym, ap, ◌∙◌, subst, length, length-append, arith, rules, add-zero, refl}
use Rattle.std.specs.Vec.Iter.{into_iter_items, into_iter_len}
use Rattle.std.proofs.lemmas.Grind.{common_steps}
use Rattle.apply_bus.specs.Bus.{Sender}
use Rattle.apply_run.specs.Run.Threads.{EachAt, IsNewDrawer, IsNewSender, IsThreadOf}
use Rattle.apply_run.specs.declared.run.threads.WorkerPromise.{WorkerPromise}
use Rattle.apply_run.proofs.Runs.Places.{all_seen, each_at, each_behind_none, each_head, each_nil, each_snoc, each_tail, made_few}
use Rattle.apply_run.proofs.run.threads.start_all.Goals as goal

pub loop-drawer-init : goal.loop-drawer-init
loop-drawer-init g c =
    let started = c.args.started.now.items in
    record {
      left = c.into_iter-drawer-iterator.ensures.into_iter_gives.0;
      count = grind (arith, common_steps);
      here = ap length c.requires.none;
      started = subst (EachAt IsThreadOf) (sym c.requires.none) (each_nil IsThreadOf);
      room = c.requires.room;
      rest = each_behind_none (IsNewSender g.K.RunName.bus) started (into_iter_items c.into_iter-senders.result) c.args.senders.items c.requires.none c.into_iter-senders.ensures.rest c.requires.senders;
    }

pub spawn_with-thread-requires-clause-runs : goal.spawn_with-thread-requires-clause-runs
spawn_with-thread-requires-clause-runs g c κs within =
    let i = c.loop-drawer.invariant in
    let yielded = c.loop-drawer.yielded in
    let before = sym (ap (λ l. yielded ++ l) c.in-Some.ensures.steps.0) ∙ i.left in
    let drawer = each_at (IsNewDrawer g.K.RunName.claims) c.args.drawers.items yielded (into_iter_items c.next.new.self) c.in-Some.drawer before c.requires.drawers in
    let F : ℕ → Sender → Type 0 = λ k sender. IsNewSender g.K.RunName.bus (length c.loop-drawer.started.items + k) sender in
    let sender = each_head F c.in-Some-next.tx (into_iter_items c.next-in-loop-drawer.new.self) (subst (EachAt F) c.in-Some-next.ensures.items i.rest) in (
      c.requires.run,
      (
        subst (λ k. IsNewDrawer g.K.RunName.claims k c.in-Some.drawer) (sym i.here ∙ sym (add-zero (length c.loop-drawer.started.items)) ∙ sym sender.1) drawer,
        ((sender.0, refl, sender.2), (search rules, search rules, search rules, search rules)),
      ),
    )

pub loop-drawer-preserved : goal.loop-drawer-preserved
loop-drawer-preserved g c =
    let i = c.loop-drawer.invariant in
    let F : ℕ → Sender → Type 0 = λ k sender. IsNewSender g.K.RunName.bus (length c.loop-drawer.started.items + k) sender in
    let rest = subst (EachAt F) c.in-Some-next.ensures.items i.rest in
    let sender = each_head F c.in-Some-next.tx (into_iter_items c.next-in-loop-drawer.new.self) rest in
    let tail = each_tail F c.in-Some-next.tx (into_iter_items c.next-in-loop-drawer.new.self) rest in
    let started = c.loop-drawer.started.items in let worker = c.in-Ok.worker in
    let pushed : c.push.new.self.items ≡ started ++ worker ∷ [] = grind (arith, common_steps) in
    let len : length c.push.new.self.items ≡ length started + 1 = ap length pushed ∙ length-append started (worker ∷ []) in
    let ok = c.in-Ok.ensures.ok in
    record {
      left = grind (arith, common_steps);
      count = grind (arith, common_steps);
      here = len ∙ ap (λ n. n + 1) i.here ∙ sym (length-append c.loop-drawer.yielded (c.in-Some.drawer ∷ []));
      started = subst (EachAt IsThreadOf) (sym pushed) (each_snoc IsThreadOf started worker i.started
          (ap (λ (p : WorkerPromise g.row.K.Denot). p.worker) ok ∙ c.worker.ensures ∙ sender.1 ∙ add-zero (length started)));
      room = omega (arith, i.room, c.push.ensures.capacity);
      rest = λ k d low. let t = tail k d low in (t.0, t.1 ∙ (let e : length started + suc k ≡ length c.push.new.self.items + k = omega (arith, len) in e), t.2);
    }

pub returns-in_default-clause-started : goal.returns-in_default-clause-started
returns-in_default-clause-started g c = c.loop-drawer.invariant.started

pub returns-in_default-clause-few : goal.returns-in_default-clause-few
returns-in_default-clause-few g c = made_few c.loop-drawer.yielded (into_iter_items c.loop-drawer.drawer-iterator) c.args.drawers.items c.loop-drawer.started.items c.loop-drawer.invariant.left c.loop-drawer.invariant.here

pub returns-in-Err-clause-started : goal.returns-in-Err-clause-started
returns-in-Err-clause-started g c = c.loop-drawer.invariant.started

pub returns-in-Err-clause-few : goal.returns-in-Err-clause-few
returns-in-Err-clause-few g c = made_few c.loop-drawer.yielded (into_iter_items c.loop-drawer.drawer-iterator) c.args.drawers.items c.loop-drawer.started.items c.loop-drawer.invariant.left c.loop-drawer.invariant.here

pub returns-clause-started : goal.returns-clause-started
returns-clause-started g c = c.loop-drawer.invariant.started

pub returns-clause-few : goal.returns-clause-few
returns-clause-few g c = made_few c.loop-drawer.yielded (into_iter_items c.loop-drawer.drawer-iterator) c.args.drawers.items c.loop-drawer.started.items c.loop-drawer.invariant.left c.loop-drawer.invariant.here

pub returns-clause-all : goal.returns-clause-all
returns-clause-all g c _ =
    let i = c.loop-drawer.invariant in
    i.here ∙ ap length (all_seen c.loop-drawer.yielded (into_iter_items c.loop-drawer.drawer-iterator) c.args.drawers.items (into_iter_len c.loop-drawer.drawer-iterator) i.left i.count c.in-None.ensures.steps.0)
