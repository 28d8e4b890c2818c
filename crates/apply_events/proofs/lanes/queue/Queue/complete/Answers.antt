use Rattle.std.proofs.Common.{◌<◌, ◌∷◌, length, refl, sym, ◌∙◌, subst}
use Rattle.std.specs.BinaryHeap.{heap_items}
use Rattle.apply_events.specs.declared.lanes.queue.followers.Follower.{Follower}
use Rattle.apply_events.specs.declared.lanes.queue.followers.Followers.{Followers}
use Rattle.apply_events.specs.Waits.Queue.{Follow, IsChain, Stands, counts_of, with_step_done, waiting_at}
use Rattle.apply_events.proofs.Waits.Emitted.{all_emitted, are_emitted, next_emitted}
use Rattle.apply_events.proofs.lanes.queue.Queue.complete.Goals as goal

pub loop-place-init : goal.loop-place-init
loop-place-init c = record {
  same = refl;
  left = λ limit names done started place q new. (
      let queue = c.args.self.now in
      let emitted = are_emitted limit names done started queue c.args.step c.args.at c.next_round-later.result place q new c.next_round-later.ensures in
      (emitted.0, subst (λ p. IsChain queue.followers.all.items p emitted.0) (sym c.last_of-place.ensures) emitted.1, emitted.2));
}

pub get-follower-requires-clause-known : goal.get-follower-requires-clause-known
get-follower-requires-clause-known c =
    let k = c.requires.known in
    let emitted = c.loop-place.invariant.left k.0 k.1 k.2 k.3 k.4 k.5 k.6 in
    (next_emitted k.1 (with_step_done k.2 c.args.step c.args.at) c.next_round-later.result k.3 c.loop-place.self c.loop-place.place emitted.0 c.loop-place-test.true emitted.1 emitted.2).fits

pub release-requires-clause-known : goal.release-requires-clause-known
release-requires-clause-known c =
    let k = c.requires.known in
    let emitted = c.loop-place.invariant.left k.0 k.1 k.2 k.3 k.4 k.5 k.6 in
    let next = next_emitted k.1 (with_step_done k.2 c.args.step c.args.at) c.next_round-later.result k.3 c.loop-place.self c.loop-place.place emitted.0 c.loop-place-test.true emitted.1 emitted.2 in
    subst (λ (f : Follower). f.turn < length c.loop-place.self.waiting.items) (sym c.get-follower.ensures) next.is_known

pub release-requires-clause-some : goal.release-requires-clause-some
release-requires-clause-some c =
    let k = c.requires.known in
    let emitted = c.loop-place.invariant.left k.0 k.1 k.2 k.3 k.4 k.5 k.6 in
    let next = next_emitted k.1 (with_step_done k.2 c.args.step c.args.at) c.next_round-later.result k.3 c.loop-place.self c.loop-place.place emitted.0 c.loop-place-test.true emitted.1 emitted.2 in
    subst (λ (f : Follower). 0 < (waiting_at c.loop-place.self.waiting.items f.turn).missing) (sym c.get-follower.ensures) next.is_missing

pub loop-place-smaller : goal.loop-place-smaller
loop-place-smaller c =
    let k = c.requires.known in
    let emitted = c.loop-place.invariant.left k.0 k.1 k.2 k.3 k.4 k.5 k.6 in
    let next = next_emitted k.1 (with_step_done k.2 c.args.step c.args.at) c.next_round-later.result k.3 c.loop-place.self c.loop-place.place emitted.0 c.loop-place-test.true emitted.1 emitted.2 in
    subst (λ (f : Follower). f.before < c.loop-place.place) (sym c.get-follower.ensures) next.falls

pub loop-place-preserved : goal.loop-place-preserved
loop-place-preserved c = record {
  same = c.release.ensures.followers ∙ c.loop-place.invariant.same;
  left = λ limit names done started place q new. (
      let emitted = c.loop-place.invariant.left limit names done started place q new in
      let now = with_step_done done c.args.step c.args.at in
      let later = c.next_round-later.result in
      let queue = c.loop-place.self in
      let next = next_emitted names now later started queue c.loop-place.place emitted.0 c.loop-place-test.true emitted.1 emitted.2 in
      let f = c.get-follower.result in
      let chain = subst (λ (y : Follower). IsChain queue.followers.all.items y.before next.turns) (sym c.get-follower.ensures) next.chain in
      let stands = subst (λ (y : Follower). Stands names now (y.turn ∷ next.turns) later started queue.waiting.items (heap_items queue.ready)) (sym c.get-follower.ensures) next.stands in (
        next.turns,
        subst (λ (all : Followers). IsChain all.all.items f.before next.turns) (sym c.release.ensures.followers) chain,
        c.in_ok-release.ensures.stands names now next.turns started stands,
      ));
}

pub returns : goal.returns
returns c = λ limit names done started place q new.
    let emitted = c.loop-place.invariant.left limit names done started place q new in
    all_emitted limit names (with_step_done done c.args.step c.args.at) emitted.0 c.next_round-later.result started c.loop-place.self c.loop-place.place c.loop-place-test.false emitted.1
    (subst (Follow limit (counts_of names)) (sym c.loop-place.invariant.same) q.follow) emitted.2
