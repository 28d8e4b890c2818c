-- What a checker holds open of one action after messages in the default form and after messages in
-- Terraform's form. It is the same, whatever lines it names, but for reads: a read that failed has
-- no end in Terraform's form and stays open.
use Rattle.std.proofs.Common.{◌≡◌, ℕ, ◌+◌, ◌-◌, ◌<◌, ◌≤◌, Bool, true, false, cond, Option, Some, None, Result, Ok, Err, refl, sym, subst, arith, nat_lt}
use Rattle.std.proofs.lemmas.Bool.{lt-ltb, ltb-true}
use Rattle.stream_check.specs.declared.messages.action.Action.{Action}
use Rattle.stream_check.specs.declared.messages.action.Action.TheVariants.{Create, Update, Delete, Read, Refresh}
use Rattle.stream_check.specs.declared.messages.timed_stage.TimedStage.{TimedStage}
use Rattle.stream_check.specs.declared.messages.timed_stage.TimedStage.TheVariants.{Start, Progress, Complete, Errored}
use Rattle.stream_check.specs.declared.rules.fault.Fault.{Fault}
use Rattle.stream_check.specs.declared.rules.fault.Fault.TheVariants.{NotLater, StartsAgain, TooMany}
use Rattle.stream_check.specs.declared.rules.pending.Pending.{Pending}
use Rattle.stream_check.specs.declared.rules.pending.Pending.TheVariants.{One, Several}
use Rattle.stream_check.specs.Course.{after, begun, ended, max_overlap, may_overlap, progressed}

abbrev pub IsSame : Option Pending → Option Pending → Type 0
IsSame None None = Unit {0}
IsSame None (Some q) = ⊥
IsSame (Some p) None = ⊥
IsSame (Some (One b t l)) (Some (One c u m)) = t ≡ u
IsSame (Some (One b t l)) (Some (Several c m)) = ⊥
IsSame (Some (Several b n)) (Some (One c u l)) = ⊥
IsSame (Some (Several b n)) (Some (Several c m)) = n ≡ m

abbrev pub IsCovered : Option Pending → Option Pending → Type 0
IsCovered None q = Unit {0}
IsCovered (Some (One b t l)) None = ⊥
IsCovered (Some (One b t l)) (Some (One c u m)) = t ≡ u
IsCovered (Some (One b t l)) (Some (Several c m)) = 1 ≤ m
IsCovered (Some (Several b n)) None = ⊥
IsCovered (Some (Several b n)) (Some (One c u l)) = ⊥
IsCovered (Some (Several b n)) (Some (Several c m)) = n ≤ m

abbrev pub Matches : Action → Option Pending → Option Pending → Type 0
Matches Create p q = IsSame p q
Matches Update p q = IsSame p q
Matches Delete p q = IsSame p q
Matches Read p q = IsCovered p q
Matches Refresh p q = IsSame p q

-- how many stand open
abbrev pub held : Option Pending → ℕ
held None = 0
held (Some (One b t l)) = 1
held (Some (Several b n)) = n

-- where the first is accepted, the second is, and both match
abbrev pub BothOk : (Option Pending → Option Pending → Type 0) → Result (Option Pending) Fault → Result (Option Pending) Fault → Type 0
BothOk R (Ok p) (Ok q) = R p q
BothOk R (Ok p) (Err fault) = ⊥
BothOk R (Err fault) r = Unit {0}

begun_same : (k : Action) (line other : ℕ) (p q : Option Pending) → IsSame p q → BothOk IsSame (begun k line p) (begun k other q)
begun_same k line other None None h = refl
begun_same k line other None (Some q) h = absurd h
begun_same k line other (Some p) None h = absurd h
begun_same k line other (Some (One b t l)) (Some (One c u m)) h = either (may_overlap k)
  where
    either : (o : Bool) → BothOk IsSame (cond o (Ok (Some (Several b 2))) (Err (StartsAgain b))) (cond o (Ok (Some (Several c 2))) (Err (StartsAgain c)))
    either true = refl
    either false = tt
begun_same k line other (Some (One b t l)) (Some (Several c m)) h = absurd h
begun_same k line other (Some (Several b n)) (Some (One c u l)) h = absurd h
begun_same k line other (Some (Several b n)) (Some (Several c m)) h = subst (λ (x : ℕ). BothOk IsSame (begun k line (Some (Several b n))) (begun k other (Some (Several c x)))) h (either (nat_lt n max_overlap))
  where
    either : (o : Bool) → BothOk IsSame (cond o (Ok (Some (Several b (n + 1)))) (Err (TooMany b))) (cond o (Ok (Some (Several c (n + 1)))) (Err (TooMany c)))
    either true = refl
    either false = tt

progressed_same : (seconds line other : ℕ) (p q : Option Pending) → IsSame p q → BothOk IsSame (progressed seconds line p) (progressed seconds other q)
progressed_same seconds line other None None h = tt
progressed_same seconds line other None (Some q) h = absurd h
progressed_same seconds line other (Some p) None h = absurd h
progressed_same seconds line other (Some (One b t l)) (Some (One c u m)) h = subst (λ (x : ℕ). BothOk IsSame (progressed seconds line (Some (One b t l))) (progressed seconds other (Some (One c x m)))) h (either (nat_lt t seconds))
  where
    either : (o : Bool) → BothOk IsSame (cond o (Ok (Some (One b seconds line))) (Err (NotLater l))) (cond o (Ok (Some (One c seconds other))) (Err (NotLater m)))
    either true = refl
    either false = tt
progressed_same seconds line other (Some (One b t l)) (Some (Several c m)) h = absurd h
progressed_same seconds line other (Some (Several b n)) (Some (One c u l)) h = absurd h
progressed_same seconds line other (Some (Several b n)) (Some (Several c m)) h = h

ended_same : (seconds : ℕ) (p q : Option Pending) → IsSame p q → BothOk IsSame (ended seconds p) (ended seconds q)
ended_same seconds None None h = tt
ended_same seconds None (Some q) h = absurd h
ended_same seconds (Some p) None h = absurd h
ended_same seconds (Some (One b t l)) (Some (One c u m)) h = subst (λ (x : ℕ). BothOk IsSame (ended seconds (Some (One b t l))) (ended seconds (Some (One c x m)))) h (either (nat_lt seconds t))
  where
    either : (o : Bool) → BothOk IsSame (cond o (Err (NotLater l)) (Ok None)) (cond o (Err (NotLater m)) (Ok None))
    either true = tt
    either false = tt
ended_same seconds (Some (One b t l)) (Some (Several c m)) h = absurd h
ended_same seconds (Some (Several b n)) (Some (One c u l)) h = absurd h
ended_same seconds (Some (Several b n)) (Some (Several c m)) h = subst (λ (x : ℕ). BothOk IsSame (ended seconds (Some (Several b n))) (ended seconds (Some (Several c x)))) h (either (nat_lt 1 n))
  where
    either : (o : Bool) → BothOk IsSame (cond o (Ok (Some (Several b (n - 1)))) (Ok None)) (cond o (Ok (Some (Several c (n - 1)))) (Ok None))
    either true = refl
    either false = tt

same_after : (k : Action) (stage : TimedStage) (line other : ℕ) (p q : Option Pending) → IsSame p q → BothOk IsSame (after k stage line p) (after k stage other q)
same_after k Start line other p q h = begun_same k line other p q h
same_after k (Progress s) line other p q h = progressed_same s line other p q h
same_after k (Complete s) line other p q h = ended_same s p q h
same_after k (Errored s) line other p q h = ended_same s p q h

-- ---- reads

begun_covered : (line other : ℕ) (p q : Option Pending) → held q < max_overlap → IsCovered p q → BothOk IsCovered (begun Read line p) (begun Read other q)
begun_covered line other None None room h = refl
begun_covered line other None (Some (One c u m)) room h = omega arith
begun_covered line other None (Some (Several c m)) room h =
    subst (λ (o : Bool). BothOk IsCovered (begun Read line None) (cond o (Ok (Some (Several c (m + 1)))) (Err (TooMany c)))) (sym (lt-ltb m max_overlap room)) (let one : 1 ≤ m + 1 = omega arith in one)
begun_covered line other (Some (One b t l)) None room h = absurd h
begun_covered line other (Some (One b t l)) (Some (One c u m)) room h = omega arith
begun_covered line other (Some (One b t l)) (Some (Several c m)) room h =
    subst (λ (o : Bool). BothOk IsCovered (begun Read line (Some (One b t l))) (cond o (Ok (Some (Several c (m + 1)))) (Err (TooMany c)))) (sym (lt-ltb m max_overlap room)) (let two : 2 ≤ m + 1 = omega arith in two)
begun_covered line other (Some (Several b n)) None room h = absurd h
begun_covered line other (Some (Several b n)) (Some (One c u l)) room h = absurd h
begun_covered line other (Some (Several b n)) (Some (Several c m)) room h =
    subst (λ (o : Bool). BothOk IsCovered (begun Read line (Some (Several b n))) (cond o (Ok (Some (Several c (m + 1)))) (Err (TooMany c)))) (sym (lt-ltb m max_overlap room)) (either (nat_lt n max_overlap))
  where
    either : (o : Bool) → BothOk IsCovered (cond o (Ok (Some (Several b (n + 1)))) (Err (TooMany b))) (Ok (Some (Several c (m + 1))))
    either true = omega arith
    either false = tt

progressed_covered : (seconds line other : ℕ) (p q : Option Pending) → IsCovered p q → BothOk IsCovered (progressed seconds line p) (progressed seconds other q)
progressed_covered seconds line other None q h = tt
progressed_covered seconds line other (Some (One b t l)) None h = absurd h
progressed_covered seconds line other (Some (One b t l)) (Some (One c u m)) h = subst (λ (x : ℕ). BothOk IsCovered (progressed seconds line (Some (One b t l))) (progressed seconds other (Some (One c x m)))) h (either (nat_lt t seconds))
  where
    either : (o : Bool) → BothOk IsCovered (cond o (Ok (Some (One b seconds line))) (Err (NotLater l))) (cond o (Ok (Some (One c seconds other))) (Err (NotLater m)))
    either true = refl
    either false = tt
progressed_covered seconds line other (Some (One b t l)) (Some (Several c m)) h = either (nat_lt t seconds)
  where
    either : (o : Bool) → BothOk IsCovered (cond o (Ok (Some (One b seconds line))) (Err (NotLater l))) (Ok (Some (Several c m)))
    either true = h
    either false = tt
progressed_covered seconds line other (Some (Several b n)) None h = absurd h
progressed_covered seconds line other (Some (Several b n)) (Some (One c u l)) h = absurd h
progressed_covered seconds line other (Some (Several b n)) (Some (Several c m)) h = h

-- of one open step none is left, and of several there is one less
ended_covered : (seconds : ℕ) (p q : Option Pending) → IsCovered p q → BothOk IsCovered (ended seconds p) (ended seconds q)
ended_covered seconds None q h = tt
ended_covered seconds (Some (One b t l)) None h = absurd h
ended_covered seconds (Some (One b t l)) (Some (One c u m)) h = subst (λ (x : ℕ). BothOk IsCovered (ended seconds (Some (One b t l))) (ended seconds (Some (One c x m)))) h (either (nat_lt seconds t))
  where
    either : (o : Bool) → BothOk IsCovered (cond o (Err (NotLater l)) (Ok None)) (cond o (Err (NotLater m)) (Ok None))
    either true = tt
    either false = tt
ended_covered seconds (Some (One b t l)) (Some (Several c m)) h = either (nat_lt seconds t) (nat_lt 1 m)
  where
    either : (o r : Bool) → BothOk IsCovered (cond o (Err (NotLater l)) (Ok None)) (cond r (Ok (Some (Several c (m - 1)))) (Ok None))
    either true r = tt
    either false true = tt
    either false false = tt
ended_covered seconds (Some (Several b n)) None h = absurd h
ended_covered seconds (Some (Several b n)) (Some (One c u l)) h = absurd h
ended_covered seconds (Some (Several b n)) (Some (Several c m)) h = either (nat_lt 1 n) (nat_lt 1 m) (ltb-true 1 n) (λ more. lt-ltb 1 m more)
  where
    either : (o r : Bool) → (o ≡ true → 1 < n) → (1 < m → r ≡ true) → BothOk IsCovered (cond o (Ok (Some (Several b (n - 1)))) (Ok None)) (cond r (Ok (Some (Several c (m - 1)))) (Ok None))
    either true true first second = omega arith
    either true false first second = let some = first refl in let more : 1 < m = omega arith in let no = second more in absurd cc
    either false true first second = tt
    either false false first second = tt

-- the open steps cover those that the answer leaves open, if the answer is no fault
abbrev pub Covers : Option Pending → Result (Option Pending) Fault → Type 0
Covers q (Ok p) = IsCovered p q
Covers q (Err fault) = Unit {0}

-- a read whose end has no message
pub left_covered : (seconds : ℕ) (p q : Option Pending) → IsCovered p q → Covers q (ended seconds p)
left_covered seconds None q h = tt
left_covered seconds (Some (One b t l)) q h = either (nat_lt seconds t)
  where
    either : (o : Bool) → Covers q (cond o (Err (NotLater l)) (Ok None))
    either true = tt
    either false = tt
left_covered seconds (Some (Several b n)) None h = absurd h
left_covered seconds (Some (Several b n)) (Some (One c u l)) h = absurd h
left_covered seconds (Some (Several b n)) (Some (Several c m)) h = either (nat_lt 1 n)
  where
    either : (o : Bool) → Covers (Some (Several c m)) (cond o (Ok (Some (Several b (n - 1)))) (Ok None))
    either true = omega arith
    either false = tt

-- there is room for a read more, where one begins
abbrev pub HasRoom : Action → TimedStage → Option Pending → Type 0
HasRoom Read Start q = held q < max_overlap
HasRoom _ _ q = Unit {0}

pub matches_after : (k : Action) (stage : TimedStage) (line other : ℕ) (p q : Option Pending) → HasRoom k stage q → Matches k p q → BothOk (Matches k) (after k stage line p) (after k stage other q)
matches_after Create stage line other p q room h = same_after Create stage line other p q h
matches_after Update stage line other p q room h = same_after Update stage line other p q h
matches_after Delete stage line other p q room h = same_after Delete stage line other p q h
matches_after Refresh stage line other p q room h = same_after Refresh stage line other p q h
matches_after Read Start line other p q room h = begun_covered line other p q room h
matches_after Read (Progress s) line other p q room h = progressed_covered s line other p q h
matches_after Read (Complete s) line other p q room h = ended_covered s p q h
matches_after Read (Errored s) line other p q room h = ended_covered s p q h
