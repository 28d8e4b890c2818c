-- A step is done. The queue records it for each turn that waits for it, as often as the turn names
-- the step.
use Rattle.std.proofs.Common.{◌≡◌, ℕ, ◌-◌, ◌<◌, ◌≤◌, List, [], ◌∷◌, Option, None, length, refl, sym, ap, ◌∙◌, subst, ⊎_elim, arith, eq-eqb}
use Rattle.std.specs.BinaryHeap.{heap_items}
use Rattle.std.specs.List.{AllByRecursion}
use Rattle.std.proofs.lemmas.Bool.{cases_lt}
use Rattle.apply_model.specs.declared.script.wait.Wait.{Wait}
use Rattle.apply_events.specs.declared.lanes.lane_time.LaneTime.{LaneTime}
use Rattle.apply_events.specs.Waits.LaneTime.{next_round}
use Rattle.apply_events.specs.declared.lanes.queue.Queue.{Queue}
use Rattle.apply_events.specs.Waits.Queue.{Follow, HasPlace, IsChain, IsQueue, counts_of, follower_at, last_at, Stands, late_after, ready_round_of, named, names_at, one_if, with_step_done, times, waiting_at}
use Rattle.apply_events.proofs.Waits.Standing.{beyond, late_put, open_put, some_missing}

all_known : (names : List (List Wait)) (step : Wait) (turns : List ℕ) → ((k : ℕ) → times k turns ≤ counts_of names step k) → AllByRecursion (λ number. number < length names) turns
all_known names step [] few = tt
all_known names step (turn ∷ turns) few = (
  ⊎_elim
      (λ (lt : turn < length names). lt)
      (λ (high : length names ≤ turn).
      let none : counts_of names step turn ≡ 0 = ap (named step) (beyond names turn [] high) in
      let itself = ap one_if (eq-eqb turn turn refl) in
      let some = few turn in absurd (omega arith))
      (cases_lt turn (length names)),
  all_known names step turns (λ k. (let less = few k in omega arith)),
)

pub are_emitted : (limit : ℕ) (names : List (List Wait)) (done : Wait → Option LaneTime) (started : List ℕ) (queue : Queue) (step : Wait) (at later : LaneTime)
    → HasPlace step limit → IsQueue limit names done started queue → done step ≡ None → later ≡ next_round at
    → (left : List ℕ) × IsChain queue.followers.all.items (last_at queue.followers step) left
    × Stands names (with_step_done done step at) left later started queue.waiting.items (heap_items queue.ready)
are_emitted limit names done started queue step at later place q new is =
    let chain = q.follow.chains step place in
    let h = q.stands in (
      chain.0,
      chain.1,
      record {
        size = h.size;
        known = all_known names step chain.0 (λ k. (let same = chain.2 k in omega arith));
        missing = λ number lt. (
            let old = h.missing number lt in
            let less = open_put done step at new (names_at names number) in
            let count = chain.2 number in omega arith);
        late = λ number lt.
            ap (λ n. late_after n later (waiting_at queue.waiting.items number).at) (chain.2 number)
            ∙ ap (late_after (named step (names_at names number)) later) (h.late number lt)
            ∙ ap (λ m. late_after (named step (names_at names number)) m (ready_round_of done (names_at names number))) is
            ∙ sym (late_put done step at new (names_at names number));
        ripe = h.ripe;
        each = h.each;
        heap = h.heap;
      },
    )

pub all_emitted : (limit : ℕ) (names : List (List Wait)) (done : Wait → Option LaneTime) (left : List ℕ) (later : LaneTime) (started : List ℕ) (queue : Queue) (place : ℕ) → place ≤ 0
    → IsChain queue.followers.all.items place left → Follow limit (counts_of names) queue.followers
    → Stands names done left later started queue.waiting.items (heap_items queue.ready) → IsQueue limit names done started queue
all_emitted limit names done [] later started queue place over chain follow h = record {
  follow = follow;
  stands = record { size = h.size; known = tt; missing = h.missing; late = h.late; ripe = h.ripe; each = h.each; heap = h.heap };
}
all_emitted limit names done (turn ∷ left) later started queue place over chain follow h = let some = chain.0 in absurd (omega arith)

-- the first of those of which the queue has not heard
pub record IsNext (names : List (List Wait)) (done : Wait → Option LaneTime) (later : LaneTime) (started : List ℕ) (queue : Queue) (place : ℕ) : Type 0 where
  pub turns : List ℕ
  pub fits : place ≤ length queue.followers.all.items
  pub falls : (follower_at queue.followers.all.items (place - 1)).before < place
  pub chain : IsChain queue.followers.all.items (follower_at queue.followers.all.items (place - 1)).before turns
  pub stands : Stands names done ((follower_at queue.followers.all.items (place - 1)).turn ∷ turns) later started queue.waiting.items (heap_items queue.ready)
  pub is_known : (follower_at queue.followers.all.items (place - 1)).turn < length queue.waiting.items
  pub is_missing : 0 < (waiting_at queue.waiting.items (follower_at queue.followers.all.items (place - 1)).turn).missing

pub next_emitted : (names : List (List Wait)) (done : Wait → Option LaneTime) (later : LaneTime) (started : List ℕ) (queue : Queue) (place : ℕ) (left : List ℕ) → 0 < place
    → IsChain queue.followers.all.items place left → Stands names done left later started queue.waiting.items (heap_items queue.ready) → IsNext names done later started queue place
next_emitted names done later started queue place [] some chain h = absurd (omega arith)
next_emitted names done later started queue place (turn ∷ turns) some chain h =
    let f = follower_at queue.followers.all.items (place - 1) in
    let waiting = queue.waiting.items in
    let same : f.turn ≡ turn = chain.2 in
    let size = h.size in
    let low = h.known.0 in
    let known : turn < length waiting = omega arith in
    let mine = subst (λ t. Stands names done (t ∷ turns) later started waiting (heap_items queue.ready)) (sym same) h in
    record {
      turns = turns;
      fits = chain.1;
      falls = chain.3;
      chain = chain.4;
      stands = mine;
      is_known = omega arith;
      is_missing = some_missing names done turns later started waiting (heap_items queue.ready) f.turn mine (omega arith);
    }
