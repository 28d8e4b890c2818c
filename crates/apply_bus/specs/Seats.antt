-- What is known in the seats of claims and drawers.
use Rattle.std.specs.Prelude.{◌≡◌, ℕ, Bool, List, [], ◌∷◌, map}
use Rattle.std.specs.List.{AllByRecursion}
use Rattle.atomic_table.specs.declared.shared.Seat.{Seat}
use Rattle.apply_bus.specs.declared.claims_rule.Hand.{Hand}
use Rattle.apply_bus.specs.declared.claims_rule.Share.{Share}
use Rattle.apply_bus.specs.Claims.{ClaimsName, Drawing}
use Rattle.apply_bus.specs.ClaimsRule.{drawer}

abbrev pub first_limit : List Share → ℕ
first_limit [] = 0
first_limit (s ∷ shares) = s.limit

abbrev pub first_workers : List Share → ℕ
first_workers [] = 0
first_workers (s ∷ shares) = s.workers

abbrev pub first_drawn : List Share → List ℕ
first_drawn [] = []
first_drawn (s ∷ shares) = s.drawn

-- the claims of a drawer, from its seat
abbrev pub seat_claims : Seat ℕ Hand → ClaimsName
seat_claims s = record { table = s.table_id; limit = first_limit s.me.0.shares; workers = first_workers s.me.0.shares }

abbrev pub seat_drawn : Seat ℕ Hand → List ℕ
seat_drawn s = first_drawn s.me.0.shares

-- the seat is that of a worker's drawer
abbrev pub IsDrawerSeat : (worker : ℕ) → (met_none : Bool) → Seat ℕ Hand → Type 0
IsDrawerSeat worker met_none s =
    s.me ≡ (drawer worker (seat_claims s).limit (seat_claims s).workers (seat_drawn s) met_none, [])

-- a share of these claims, as contracts see it
abbrev pub drawing_of : ClaimsName → Share → Drawing
drawing_of claims s = record { claims = claims; worker = s.worker; drawn = s.drawn; met_none = s.met_none }

abbrev pub seat_drawings : ClaimsName → Seat ℕ Hand → List Drawing
seat_drawings claims s = map (drawing_of claims) s.me.0.shares

abbrev pub seat_lists : Seat ℕ Hand → List (List ℕ)
seat_lists s = map (λ (share : Share). share.drawn) s.me.0.shares

-- the seat holds no slot, and only shares of these claims
pub record IsJoiningSeat (limit workers : ℕ) (s : Seat ℕ Hand) : Type 0 where
  pub free : s.me.1 ≡ []
  pub same : AllByRecursion (λ (share : Share). (share.limit ≡ limit) × (share.workers ≡ workers)) s.me.0.shares
