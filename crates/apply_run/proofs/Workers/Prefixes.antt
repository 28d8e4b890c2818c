-- Facts about prefixes.
use Rattle.std.proofs.Common.{◌≡◌, ℕ, zero, suc, ◌+◌, List, [], ◌∷◌, ◌++◌, All, refl, sym, ap, ◌∙◌, subst, append_assoc, arith}
use mathlib.Core.List.{IsPrefix}
use Rattle.apply_events.specs.declared.event.Event.{Event}
use Rattle.apply_events.specs.ChangeEvents.{change_events, in_turn, span_of}
use Rattle.apply_events.specs.Step.{Work}
use Rattle.apply_events.specs.WorkerEvents.{worker_events}
use Rattle.apply_writer.proofs.Prefixes.{prefix_behind}

pub prefix_push : {X : Type 0} → (xs ys zs : List X) (x : X) → IsPrefix xs ys → zs ≡ ys ++ x ∷ [] → IsPrefix xs zs
prefix_push xs ys zs x p is = (p.0 ++ x ∷ [], sym (append_assoc xs p.0 (x ∷ [])) ∙ ap (λ l. l ++ x ∷ []) p.1 ∙ sym is)

pub all_of_prefix : {X : Type 0} → (P : X → Type 0) (xs ys : List X) → IsPrefix xs ys → All P ys → All P xs
all_of_prefix P [] ys p all k d low = absurd (omega arith)
all_of_prefix P (x ∷ xs) [] p all k d low = absurd cc
all_of_prefix P (x ∷ xs) (y ∷ ys) p all zero d low = let same : y ≡ x = cc (p.1) in subst P same (all zero d (omega arith))
all_of_prefix P (x ∷ xs) (y ∷ ys) p all (suc k) d low = all_of_prefix P xs ys (p.0, (let tails : xs ++ p.0 ≡ ys = cc (p.1) in tails)) (λ j e lt. all (suc j) e (omega arith)) k d (omega arith)

-- lists one after another begin with those of the first
in_turn_prefix : {X : Type 0} → (f : X → ℕ → List Event) (time : X → ℕ) (xs rest : List X) (at : ℕ) → IsPrefix (in_turn f time xs at) (in_turn f time (xs ++ rest) at)
in_turn_prefix f time [] rest at = (in_turn f time rest at, refl)
in_turn_prefix f time (x ∷ xs) rest at = prefix_behind (f x at) (in_turn f time xs (at + time x)) (in_turn f time (xs ++ rest) (at + time x)) (in_turn_prefix f time xs rest (at + time x))

-- with more changes a worker reports more
pub events_prefix : (work : Work) (worker : ℕ) (xs ys : List ℕ) → IsPrefix xs ys → IsPrefix (worker_events work worker xs) (worker_events work worker ys)
events_prefix work worker xs ys p = subst (λ l. IsPrefix (worker_events work worker xs) (worker_events work worker l)) p.1 (in_turn_prefix (change_events work worker) (span_of work) xs p.0 0)
