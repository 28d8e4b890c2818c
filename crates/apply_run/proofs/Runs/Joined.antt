-- What is known once all workers were joined.
use Rattle.std.proofs.Common.{◌≡◌, ◌≢◌, ℕ, zero, suc, ◌+◌, ◌<◌, true, false, List, [], ◌∷◌, All, cond, length, get_or, map, refl, sym, ap, ◌∙◌, subst, ⊎_elim, add-zero, arith}
use Rattle.std.proofs.lemmas.Bool.{eq-eqb, ne_eqb}
use Rattle.std.proofs.lemmas.Bool.Decides.{eqb_tells}
use Rattle.std.proofs.lemmas.List.Elements.{All-cons, All-nil}
use Rattle.std.specs.List.{range_with_len}
use mathlib.Core.List.{IsPrefix}
use Rattle.apply_events.specs.declared.event.Event.{Event}
use Rattle.apply_events.specs.OfWorker.{of_worker}
use Rattle.apply_events.specs.Partition.{IsPartition}
use Rattle.apply_events.specs.Step.{Work}
use Rattle.apply_events.specs.WorkerEvents.{worker_events}
use Rattle.apply_bus.specs.declared.item.Item.{Item}
use Rattle.apply_bus.specs.Bus.{BusName, IsTakenInPart, IsTakenWhole, NamesWorkersBelow, sent_list_of}
use Rattle.apply_bus.specs.Claims.{ClaimsName, Drawing, IsDealtOut, lists_drawn, workers_of}
use Rattle.apply_bus.specs.Items.{events}
use Rattle.apply_run.specs.Applied.{IsApplied, IsAppliedInPart}
use Rattle.apply_run.specs.declared.worker.StoppedWorker.{StoppedWorker}
use Rattle.apply_events.specs.Fits.{IsOfPlan}
use Rattle.apply_run.specs.Run.Reconciled.{IsReconciled, IsReconciledWhole}
use Rattle.apply_run.specs.Run.Threads.{EachAt}
use Rattle.apply_run.specs.Worker.Stopped.{sender_of, is_closed, IsStoppedWorker}
use Rattle.apply_run.proofs.Workers.Prefixes.{all_of_prefix, events_prefix}
use Rattle.apply_writer.proofs.Prefixes.{prefix_more}

-- ---- one worker

part_taken : (work : Work) (claims : ClaimsName) (bus : BusName) (k : ℕ) (stopped : StoppedWorker) (taken : List Item) → IsStoppedWorker work claims bus k stopped → IsTakenInPart taken (sent_list_of (sender_of stopped.sender))
    → IsPrefix (of_worker k (events taken)) (sender_of stopped.sender).sent
part_taken work claims bus k stopped taken did part = subst (λ w. IsPrefix (of_worker w (events taken)) (sender_of stopped.sender).sent) did.sender_worker part

pub reconciled : (work : Work) (claims : ClaimsName) (bus : BusName) (k : ℕ) (stopped : StoppedWorker) (drawing : Drawing) (taken : List Item) → IsStoppedWorker work claims bus k stopped
    → drawing.worker ≡ stopped.drawer.worker → drawing.met_none ≡ true → IsPrefix stopped.drawer.drawn drawing.drawn → IsTakenInPart taken (sent_list_of (sender_of stopped.sender)) → IsReconciled work taken k drawing
reconciled work claims bus k stopped drawing taken did same met more part =
    let sent = (sender_of stopped.sender).sent in let taken_part = part_taken work claims bus k stopped taken did part in
    let all = prefix_more sent (worker_events work k stopped.drawer.drawn) (worker_events work k drawing.drawn) did.part (events_prefix work k stopped.drawer.drawn drawing.drawn more) in
    record {
      worker_is = same ∙ did.drawer_worker;
      met_none = met;
      part = prefix_more (of_worker k (events taken)) sent (worker_events work k drawing.drawn) taken_part all;
      fits = all_of_prefix (IsOfPlan work.plan) (of_worker k (events taken)) sent taken_part did.fits;
    }

pub reconciled_whole : (work : Work) (claims : ClaimsName) (bus : BusName) (k : ℕ) (stopped : StoppedWorker) (drawing : Drawing) (taken : List Item) → IsStoppedWorker work claims bus k stopped
    → (stopped.drawer.met_none ≡ true → drawing.drawn ≡ stopped.drawer.drawn) → is_closed stopped.sender ≡ true → IsTakenWhole taken (sent_list_of (sender_of stopped.sender)) → IsReconciledWhole work taken k drawing
reconciled_whole work claims bus k stopped drawing taken did none_left closed whole =
    let all = did.whole closed in
    ap (λ w. of_worker w (events taken)) (sym did.sender_worker) ∙ whole ∙ all.1 ∙ ap (worker_events work k) (sym (none_left all.0))

-- ---- all workers

in_order : {X : Type 0} → (f : X → ℕ) (xs : List X) (i : ℕ) → EachAt (λ k x. f x ≡ i + k) xs → map f xs ≡ range_with_len i (length xs)
in_order f [] i h = refl
in_order f (x ∷ xs) i h =
    let first : f x ≡ i = h 0 x (omega arith) ∙ add-zero i in
    let rest = in_order f xs (i + 1) (λ k y low. h (suc k) y (omega arith) ∙ (let e : i + suc k ≡ i + 1 + k = omega arith in e)) in
    ap (λ n. n ∷ map f xs) first ∙ ap (λ l. i ∷ l) rest

-- the workers were joined in their order
pub joined_in_order : (work : Work) (taken : List Item) (drawings : List Drawing) → EachAt (IsReconciled work taken) drawings → workers_of drawings ≡ range_with_len 0 (length drawings)
joined_in_order work taken drawings h = in_order (λ (d : Drawing). d.worker) drawings 0 (λ k d low. (h k d low).worker_is ∙ (let e : k ≡ 0 + k = omega arith in e))

list_at : (drawings : List Drawing) (w : ℕ) (d : Drawing) → w < length drawings → get_or (lists_drawn drawings) w [] ≡ (get_or drawings w d).drawn
list_at [] w d low = absurd (omega arith)
list_at (x ∷ xs) zero d low = refl
list_at (x ∷ xs) (suc w) d low = list_at xs w d (omega arith)

own_head : (w : ℕ) (e : Event) (es : List Event) → e.worker ≡ w → of_worker w (e ∷ es) ≡ e ∷ of_worker w es
own_head w e es is = ap (λ b. cond b (e ∷ of_worker w es) (of_worker w es)) (eq-eqb e.worker w is)

other_head : (w : ℕ) (e : Event) (es : List Event) → e.worker ≢ w → of_worker w (e ∷ es) ≡ of_worker w es
other_head w e es is = ap (λ b. cond b (e ∷ of_worker w es) (of_worker w es)) (ne_eqb e.worker w is)

-- what holds of the events of each worker holds of all
pub fits_all : (P : Event → Type 0) (workers : ℕ) (es : List Event) → All (λ (e : Event). e.worker < workers) es → ((w : ℕ) → w < workers → All P (of_worker w es)) → All P es
fits_all P workers [] named h = All-nil P
fits_all P workers (e ∷ es) named h =
    let N : Event → Type 0 = λ event. event.worker < workers in
    let low : e.worker < workers = named 0 e (omega arith) in
    All-cons P e es (subst (All P) (own_head e.worker e es refl) (h e.worker low) 0 e (omega arith))
    (fits_all P workers es (λ k d lt. named (suc k) d (omega arith))
    (λ w lt. ⊎_elim
    (λ (c : _ × (e.worker ≡ w)). let own = subst (All P) (own_head w e es c.1) (h w lt) in λ k d below. own (suc k) d (omega arith))
    (λ (c : _ × (e.worker ≢ w)). subst (All P) (other_head w e es c.1) (h w lt))
    (eqb_tells e.worker w)))

blank : ClaimsName → Drawing
blank claims = record { claims = claims; worker = 0; drawn = []; met_none = false }

-- all numbers were dealt out
dealt_out : (work : Work) (claims : ClaimsName) (taken : List Item) (drawings : List Drawing) → 0 < length drawings → claims.limit ≡ length work.plan.changes → EachAt (IsReconciled work taken) drawings → (m : ℕ) → IsDealtOut claims drawings m
    → IsPartition claims.workers (length work.plan.changes) (lists_drawn drawings)
dealt_out work claims taken drawings some limit h m dealt =
    let first = blank claims in
    subst (λ n. IsPartition claims.workers n (lists_drawn drawings)) (dealt.complete 0 first some (h 0 first some).met_none ∙ limit) dealt.partition

pub applied_in_part : (work : Work) (claims : ClaimsName) (taken : List Item) (drawings : List Drawing) → 0 < claims.workers → length drawings ≡ claims.workers → claims.limit ≡ length work.plan.changes
    → NamesWorkersBelow claims.workers taken → EachAt (IsReconciled work taken) drawings → (m : ℕ) → IsDealtOut claims drawings m → IsAppliedInPart work claims.workers (lists_drawn drawings) (events taken)
applied_in_part work claims taken drawings some count limit named h m dealt = record {
  dealt_out = dealt_out work claims taken drawings (omega arith) limit h m dealt;
  interleaved = record {
    named = named;
    parts = λ w low.
        let first = blank claims in let here : w < length drawings = omega arith in
        subst (λ l. IsPrefix (of_worker w (events taken)) (worker_events work w l)) (sym (list_at drawings w first here)) (h w first here).part;
  };
}

pub applied : (work : Work) (claims : ClaimsName) (taken : List Item) (drawings : List Drawing) → 0 < claims.workers → length drawings ≡ claims.workers → claims.limit ≡ length work.plan.changes
    → NamesWorkersBelow claims.workers taken → EachAt (IsReconciled work taken) drawings → EachAt (IsReconciledWhole work taken) drawings → (m : ℕ) → IsDealtOut claims drawings m
    → IsApplied work claims.workers (lists_drawn drawings) (events taken)
applied work claims taken drawings some count limit named h whole m dealt = record {
  dealt_out = dealt_out work claims taken drawings (omega arith) limit h m dealt;
  interleaved = record {
    named = named;
    parts = λ w low.
        let first = blank claims in let here : w < length drawings = omega arith in
        whole w first here ∙ ap (worker_events work w) (sym (list_at drawings w first here));
  };
}

pub all_fit : (work : Work) (claims : ClaimsName) (taken : List Item) (drawings : List Drawing) → length drawings ≡ claims.workers → NamesWorkersBelow claims.workers taken → EachAt (IsReconciled work taken) drawings
    → All (IsOfPlan work.plan) (events taken)
all_fit work claims taken drawings count named h = fits_all (IsOfPlan work.plan) claims.workers (events taken) named (λ w low. (h w (blank claims) (omega arith)).fits)
