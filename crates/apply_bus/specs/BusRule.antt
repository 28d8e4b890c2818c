-- The rule of a bus: the queue, the receiver's view and the senders' views are consistent. A
-- sender's view lies in its pass; after a join it lies in the pass that joined it.
use Rattle.std.specs.Prelude.{◌≡◌, ℕ, ◌+◌, ◌<◌, Bool, true, false, List, [], ◌∷◌, ◌++◌}
use Rattle.std.specs.List.{AllByRecursion}
use mathlib.Core.Option.{some}
use lib.ListN.{get_elem?}
use Rattle.apply_bus.specs.declared.bus_rule.Known.{Known}
use Rattle.apply_bus.specs.declared.bus_rule.Knowledge.{Knowledge}
use Rattle.apply_bus.specs.declared.item.Item.{Item}
use Rattle.apply_bus.specs.BusState.{IsConsistent}
use Rattle.apply_bus.specs.Items.{closes, items_of, worker_of}

abbrev pub known : ℕ → List Item → Known
known worker sent = record { worker = worker; sent = sent }

abbrev pub knowledge : Bool → List Item → ℕ → List Known → Knowledge
knowledge receives taken workers senders =
    record { receives = receives; taken = taken; workers = workers; senders = senders }

-- the receiver's pass, with the senders that were joined to it
abbrev pub receiving : List Item → ℕ → List Known → Knowledge
receiving taken workers senders = knowledge true taken workers senders

-- the pass of a worker's sender
abbrev pub sending : ℕ → List Item → Knowledge
sending worker sent = knowledge false [] 0 (known worker sent ∷ [])

-- a pass whose view was joined to another
abbrev pub spent : Knowledge
spent = knowledge false [] 0 []

-- one more sender was made
abbrev pub with_one_more : Knowledge → Knowledge
with_one_more v = knowledge v.receives v.taken (v.workers + 1) v.senders

-- the first pass with the views of the second joined to it
abbrev pub with_senders_of : Knowledge → Knowledge → Knowledge
with_senders_of v w = knowledge v.receives v.taken v.workers (v.senders ++ w.senders)

abbrev pub first_with : Item → List Known → List Known
first_with item [] = []
first_with item (k ∷ ks) = known k.worker (k.sent ++ item ∷ []) ∷ ks

-- the sender of the pass has sent the item
abbrev pub after_send : Knowledge → Item → Knowledge
after_send v item = knowledge v.receives v.taken v.workers (first_with item v.senders)

-- the item was taken
abbrev pub after_take : Knowledge → Item → Knowledge
after_take v item = knowledge v.receives (v.taken ++ item ∷ []) v.workers v.senders

-- the view is what its worker has sent, and lies only in the pass of that number
abbrev pub Knows : (owner : ℕ → ℕ) → (sent : ℕ → List Item) → (workers pass : ℕ) → Known → Type 0
Knows owner sent workers pass k = (owner k.worker ≡ pass) × (k.worker < workers) × (k.sent ≡ sent k.worker)

-- what the pass knows is true
abbrev pub KnowsAll :
    (reader : ℕ) → (owner : ℕ → ℕ) → (taken : List Item) → (sent : ℕ → List Item) → (workers pass : ℕ) → Knowledge
    → Type 0
KnowsAll reader owner taken sent workers pass v =
    AllByRecursion (Knows owner sent workers pass) v.senders
    × (v.receives ≡ true → (pass ≡ reader) × (v.taken ≡ taken) × (v.workers ≡ workers))

-- the rule of the queue and of what each pass knows
abbrev pub IsLawful : List Item → List Knowledge → Type 0
IsLawful queue views =
    (reader : ℕ) × (owner : ℕ → ℕ) × (taken : List Item) × (workers : ℕ) × (sent : ℕ → List Item)
    × IsConsistent workers taken queue sent
    × ((pass : ℕ) (v : Knowledge) → get_elem? views pass ≡ some v → KnowsAll reader owner taken sent workers pass v)

-- what a receive ensures: the item joins the list taken, its worker is one of the bus, and no close
-- of that worker was taken before
abbrev pub IsTaken : Knowledge → Item → Knowledge → Type 0
IsTaken v item w =
    (w ≡ after_take v item)
    × (worker_of item < v.workers)
    × (closes (items_of (worker_of item) v.taken) ≡ 0)

-- what a look at the rule ensures, with the queue at that time: each view that was joined is what
-- its worker has sent
abbrev pub IsBorneOut : Knowledge → List Item → Type 0
IsBorneOut v queue =
    (sent : ℕ → List Item)
    × IsConsistent v.workers v.taken queue sent
    × AllByRecursion (λ k. (k.worker < v.workers) × (k.sent ≡ sent k.worker)) v.senders
