-- The rule of claims in a form that proofs take apart.
use Rattle.std.proofs.Common.{◌≡◌, ℕ, ◌-◌, ◌<◌, ◌≤◌, min, Bool, [], ◌∷◌, ◌++◌, slice_index, slice_set}
use Rattle.atomic_table.specs.Table.{State, Me, stepped, Allows, Splits, Joins, Enters}
use Rattle.std.specs.List.{range_with_len}
use Rattle.apply_events.proofs.Dealing.{all_named, dealt_out}
use Rattle.apply_bus.specs.declared.claims_rule.Hand.{Hand}
use Rattle.apply_bus.specs.ClaimsRule.{KnowsAll, IsLawful}
use Rattle.apply_bus.specs.ClaimsState.{marks}
use Rattle.apply_bus.proofs.Views.{AtEach}

-- each number below x and the limit is dealt to a worker, and x less the limit workers have met the
-- end
abbrev pub Counted : (ℕ → ℕ) → (ℕ → Bool) → ℕ → ℕ → ℕ → Type 0
Counted who met n w x = (w ≤ 8) × (n < 4294967296) × ((k : ℕ) → k < min x n → who k < w) × (marks met w ≡ x - n)

abbrev pub Plain : ℕ → ℕ → State ℕ Hand → Type 0
Plain n w s =
    (owner : ℕ → ℕ) × (who : ℕ → ℕ) × (met : ℕ → Bool) × (x : ℕ)
    × (s.words ≡ x ∷ [])
    × Counted who met n w x
    × AtEach (KnowsAll owner who met n w x) s.views

pub to_plain : (n w : ℕ) (s : State ℕ Hand) → IsLawful n w s → Plain n w s
to_plain n w s h = (h.0, h.1, h.2, h.3, h.4, (h.5.few, h.5.small, h.5.falls, h.6.marked), h.7)

pub from_plain : (n w : ℕ) (s : State ℕ Hand) → Plain n w s → IsLawful n w s
from_plain n w s h = (
  h.0,
  h.1,
  h.2,
  h.3,
  h.4,
  record { few = h.5.0; small = h.5.1; falls = h.5.2 },
  record { partition = dealt_out h.1 w (min h.3 n) (range_with_len 0 w) h.5.2 (all_named w); marked = h.5.3 },
  h.6,
)

pub allows_from : (n w slots id : ℕ) (me : Me ℕ Hand) (f : ℕ → ℕ) (then : ℕ → Me ℕ Hand → Type 0) → Allows (Plain n w) slots id me 0 f then → Allows (IsLawful n w) slots id me 0 f then
allows_from n w slots id me f then step s h sized here fits =
    let r = step s (to_plain n w s h) sized here fits in (r.0, r.1, r.2, from_plain n w (stepped s 0 (f (slice_index s.words 0)) id me.1 r.0 r.1) r.3, r.4)

pub splits_from : (n w id : ℕ) (v left right : Hand) → Splits (Plain n w) id v left right → Splits (IsLawful n w) id v left right
splits_from n w id v left right step s h here =
    from_plain n w record { words = s.words; homes = s.homes; views = slice_set s.views id left ++ right ∷ [] } (step s (to_plain n w s h) here)

pub joins_from : (n w id : ℕ) (v : Hand) (other : ℕ) (u both spent : Hand) → Joins (Plain n w) id v other u both spent → Joins (IsLawful n w) id v other u both spent
joins_from n w id v other u both spent step s h here apart there =
    from_plain n w record { words = s.words; homes = s.homes; views = slice_set (slice_set s.views id both) other spent } (step s (to_plain n w s h) here apart there)

pub enters_from : (n w slots : ℕ) (then : ℕ → Hand → Type 0) → Enters (Plain n w) slots 0 then → Enters (IsLawful n w) slots 0 then
enters_from n w slots then step s h sized fits =
    let r = step s (to_plain n w s h) sized fits in (r.0, from_plain n w record { words = s.words; homes = s.homes; views = s.views ++ r.0 ∷ [] } r.1, r.2)
