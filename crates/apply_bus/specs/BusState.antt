-- What a bus holds, and what was taken from it, agree with what was sent.
use Rattle.std.specs.Prelude.{◌≡◌, ℕ, ◌<◌, List, ◌∷◌, ◌++◌, All}
use Rattle.apply_bus.specs.declared.item.Item.{Item}
use Rattle.apply_bus.specs.Items.{closes, items_of, worker_of}

-- only the last item may be a close
abbrev pub ClosesLast : List Item → Type 0
ClosesLast items =
    (front : List Item) (item : Item) (rest : List Item) → items ≡ front ++ item ∷ rest → closes front ≡ 0

-- for each worker, what was taken, followed by what is in the queue, is what it sent; only its last
-- item may be a close; nobody else has sent anything
pub record IsConsistent (workers : ℕ) (taken queue : List Item) (sent : ℕ → List Item) : Type 0 where
  pub named : All (λ item. worker_of item < workers) (taken ++ queue)
  pub agree : (worker : ℕ) → items_of worker (taken ++ queue) ≡ sent worker
  pub closed_last : (worker : ℕ) → ClosesLast (sent worker)
