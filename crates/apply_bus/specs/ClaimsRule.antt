-- The rule of claims: the word and the drawers' views are consistent. A drawer's view lies in its
-- seat; after a join it lies in the seat that joined it.
use Rattle.std.specs.Prelude.{◌≡◌, ℕ, zero, suc, ◌^◌, ◌<◌, ◌≤◌, min, nat_lt, Bool, true, false, List, [], ◌∷◌, ◌++◌, All, if◌then◌else◌}
use Rattle.std.specs.List.{AllByRecursion}
use mathlib.Core.Option.{some}
use lib.ListN.{get_elem?}
use Rattle.atomic_table.specs.Table.{State, Me}
use Rattle.apply_events.specs.Partition.{numbers_of}
use Rattle.apply_bus.specs.declared.claims_rule.Hand.{Hand}
use Rattle.apply_bus.specs.declared.claims_rule.Share.{Share}
use Rattle.apply_bus.specs.Bus.{max_workers}
use Rattle.apply_bus.specs.ClaimsState.{IsConsistent}

abbrev pub share : (worker limit workers : ℕ) → (drawn : List ℕ) → (met_none : Bool) → Share
share worker limit workers drawn met_none =
    record { worker = worker; limit = limit; workers = workers; drawn = drawn; met_none = met_none }

abbrev pub hand : List Share → Hand
hand shares = record { shares = shares }

-- the hand of one drawer
abbrev pub drawer : (worker limit workers : ℕ) → (drawn : List ℕ) → (met_none : Bool) → Hand
drawer worker limit workers drawn met_none = hand (share worker limit workers drawn met_none ∷ [])

-- the shares of n workers, starting with the worker `first`, before any draw
abbrev pub new_shares : (limit workers first n : ℕ) → List Share
new_shares limit workers first zero = []
new_shares limit workers first (suc n) = share first limit workers [] false ∷ new_shares limit workers (suc first) n

abbrev pub without_first : List Share → List Share
without_first [] = []
without_first (s ∷ shares) = shares

abbrev pub first_alone : List Share → List Share
first_alone [] = []
first_alone (s ∷ shares) = s ∷ []

-- a hand that was joined to another
abbrev pub spent : Hand
spent = hand []

-- the first hand with the shares of the second joined to it
abbrev pub with_shares_of : Hand → Hand → Hand
with_shares_of v w = hand (v.shares ++ w.shares)

-- a number below the limit is drawn; any other means that the end was met
abbrev pub share_after : Share → ℕ → Share
share_after s number =
    if nat_lt number s.limit
    then share s.worker s.limit s.workers (s.drawn ++ number ∷ []) s.met_none
    else share s.worker s.limit s.workers s.drawn true

abbrev pub first_after : List Share → ℕ → List Share
first_after [] number = []
first_after (s ∷ shares) number = share_after s number ∷ shares

-- what a draw ensures: the number is above all that were drawn before
abbrev pub IsDrawn : Me ℕ Hand → ℕ → Me ℕ Hand → Type 0
IsDrawn me number after =
    (after ≡ (hand (first_after me.0.shares number), []))
    × AllByRecursion (λ s. All (λ earlier. earlier < number) s.drawn) me.0.shares

-- the share is that of its worker, and lies only in the seat of that number
abbrev pub Knows : (owner falls_to : ℕ → ℕ) → (met_none : ℕ → Bool) → (limit workers word seat : ℕ) → Share → Type 0
Knows owner falls_to met_none limit workers word seat s =
    (owner s.worker ≡ seat) × (s.worker < workers) × (s.limit ≡ limit) × (s.workers ≡ workers)
    × (s.drawn ≡ numbers_of falls_to s.worker (min word limit)) × (s.met_none ≡ met_none s.worker)

-- what the seat knows is true
abbrev pub KnowsAll : (owner falls_to : ℕ → ℕ) → (met_none : ℕ → Bool) → (limit workers word seat : ℕ) → Hand → Type 0
KnowsAll owner falls_to met_none limit workers word seat v =
    AllByRecursion (Knows owner falls_to met_none limit workers word seat) v.shares

-- the word cannot wrap, and each number that was drawn is dealt to a worker
pub record IsInRange (limit workers word : ℕ) (falls_to : ℕ → ℕ) : Type 0 where
  pub few : workers ≤ max_workers
  pub small : limit < 2 ^ 32
  pub falls : (number : ℕ) → number < min word limit → falls_to number < workers

-- the rule of the word and of what each seat knows
abbrev pub IsLawful : (limit workers : ℕ) → State ℕ Hand → Type 0
IsLawful limit workers s =
    (owner : ℕ → ℕ) × (falls_to : ℕ → ℕ) × (met_none : ℕ → Bool) × (word : ℕ)
    × (s.words ≡ word ∷ [])
    × IsInRange limit workers word falls_to
    × IsConsistent workers limit word (λ worker. numbers_of falls_to worker (min word limit)) met_none
    × ((seat : ℕ) (v : Hand) → get_elem? s.views seat ≡ some v
    → KnowsAll owner falls_to met_none limit workers word seat v)

-- the share is its worker's, if the numbers below m are dealt to the workers; m is the limit if the
-- share has met the end
abbrev pub IsDealt : (falls_to : ℕ → ℕ) → (m : ℕ) → Share → Type 0
IsDealt falls_to m s =
    (m ≤ s.limit)
    × ((number : ℕ) → number < m → falls_to number < s.workers)
    × (s.drawn ≡ numbers_of falls_to s.worker m)
    × (s.met_none ≡ true → m ≡ s.limit)

-- what a look at the rule ensures about the shares of a seat
abbrev pub AreDealt : Hand → Type 0
AreDealt v = (falls_to : ℕ → ℕ) × (m : ℕ) × AllByRecursion (IsDealt falls_to m) v.shares
