-- What a checker holds open of an action at an address, next to what the changes have under way
-- there.
use Rattle.std.proofs.Common.{◌≡◌, ◌≢◌, ℕ, ◌+◌, ◌-◌, ◌<◌, ◌≤◌, cond, Option, Some, None, true, is_some, Result, Ok, Err, refl, sym, ap, ◌∙◌, ◌⊎◌, ⊎_elim, arith}
use Rattle.std.proofs.lemmas.Bool.{cases_eq, cases_lt, le-ltb, lt-ltb}
use Rattle.std.proofs.lemmas.Option.{same_Some}
use Rattle.stream_check.specs.declared.messages.action.Action.{Action}
use Rattle.stream_check.specs.declared.messages.action.Action.TheVariants.{Delete}
use Rattle.stream_check.specs.declared.rules.fault.Fault.{Fault}
use Rattle.stream_check.specs.declared.rules.fault.Fault.TheVariants.{NotLater, TooMany}
use Rattle.stream_check.specs.declared.rules.pending.Pending.{Pending}
use Rattle.stream_check.specs.declared.rules.pending.Pending.TheVariants.{One, Several}
use Rattle.stream_check.specs.Course.{begun, ended, max_overlap, progressed}
use Rattle.laws_check.proofs.Counting.{changed, counted, at_most, one_at_least, same, two_at_least, weight}

-- the checker holds open what the changes below the limit have under way, with the last elapsed
-- seconds of each
abbrev pub MatchesPending : (limit : ℕ) → Action → (ℕ → Option ℕ) → Option Pending → Type 0
MatchesPending limit k h None = counted h 0 limit ≡ 0
MatchesPending limit k h (Some (One begin elapsed since)) = (counted h 0 limit ≡ 1) × ((c s : ℕ) → c < limit → h c ≡ Some s → s ≡ elapsed)
MatchesPending limit k h (Some (Several begin count)) = (k ≡ Delete) × (counted h 0 limit ≡ count) × (1 ≤ count)

pub fits_same : (limit : ℕ) (k : Action) (h g : ℕ → Option ℕ) (p : Option Pending) → ((c : ℕ) → c < limit → g c ≡ h c) → MatchesPending limit k h p → MatchesPending limit k g p
fits_same limit k h g None e f = same h g 0 limit (λ c above below. e c (omega arith)) ∙ f
fits_same limit k h g (Some (One begin elapsed since)) e f = (same h g 0 limit (λ c above below. e c (omega arith)) ∙ f.0, λ c s less is. f.1 c s less (sym (e c less) ∙ is))
fits_same limit k h g (Some (Several begin count)) e f = (f.0, same h g 0 limit (λ c above below. e c (omega arith)) ∙ f.1, f.2)

pub nothing_fits : (limit : ℕ) (k : Action) (h : ℕ → Option ℕ) (p : Option Pending) → MatchesPending limit k h p → counted h 0 limit ≡ 0 → p ≡ None
nothing_fits limit k h None f none = refl
nothing_fits limit k h (Some (One begin elapsed since)) f none = absurd (let one : counted h 0 limit ≡ 1 = f.0 in omega arith)
nothing_fits limit k h (Some (Several begin count)) f none = absurd (let all : counted h 0 limit ≡ count = f.1 in let some : 1 ≤ count = f.2 in omega arith)

pub something_open : (limit : ℕ) (k : Action) (h : ℕ → Option ℕ) (p : Option Pending) (c s : ℕ) → MatchesPending limit k h p → c < limit → h c ≡ Some s → is_some p ≡ true
something_open limit k h None c s f less is = absurd (let none : counted h 0 limit ≡ 0 = f in let one = one_at_least h c limit s less is in omega arith)
something_open limit k h (Some p) c s f less is = refl

-- the answer to a message, with what stands open then
abbrev pub Answers : (limit : ℕ) → Action → (ℕ → Option ℕ) → Result (Option Pending) Fault → Type 0
Answers limit k g answer = (q : Option Pending) × (answer ≡ Ok q) × MatchesPending limit k g q

module _ (limit c : ℕ) (k : Action) (h g : ℕ → Option ℕ) (known : c < limit) (others : (b : ℕ) → b ≢ c → g b ≡ h b) where
  counts : counted g 0 limit + weight (h c) ≡ counted h 0 limit + weight (g c)
  counts = changed h g c 0 limit others (omega arith) (omega arith)

  -- change c begins: it may, since the action may overlap or none has it under way
  pub begins : (line : ℕ) (p : Option Pending) → limit ≤ max_overlap → h c ≡ None → g c ≡ Some 0
      → (k ≡ Delete) ⊎ (counted h 0 limit ≡ 0) → MatchesPending limit k h p → Answers limit k g (begun k line p)
  begins line None few old new may f =
      let all = counts in
      let was : weight (h c) ≡ 0 = ap weight old in
      let is : weight (g c) ≡ 1 = ap weight new in (
        Some (One line 0 line),
        refl,
        (
          (let none : counted h 0 limit ≡ 0 = f in omega arith),
          λ b s less e. ⊎_elim
              (λ (here : b ≡ c). same_Some s 0 (sym e ∙ ap g here ∙ new))
              (λ elsewhere. absurd (let one = one_at_least h b limit s less (sym (others b elsewhere) ∙ e) in let none : counted h 0 limit ≡ 0 = f in omega arith))
              (cases_eq b c),
        ),
      )
  begins line (Some (One begin elapsed since)) few old new may f =
      let all = counts in
      let was : weight (h c) ≡ 0 = ap weight old in
      let is : weight (g c) ≡ 1 = ap weight new in
      let one : counted h 0 limit ≡ 1 = f.0 in
      ⊎_elim
      (λ (delete : k ≡ Delete). (Some (Several begin 2), ap (λ (l : Action). begun l line (Some (One begin elapsed since))) delete, (delete, omega arith, omega arith)))
      (λ none. absurd (omega arith))
      may
  begins line (Some (Several begin count)) few old new may f =
      let all = counts in
      let was : weight (h c) ≡ 0 = ap weight old in
      let is : weight (g c) ≡ 1 = ap weight new in
      let some : counted h 0 limit ≡ count = f.1 in
      let most = at_most g 0 limit in
      let fewer : count < max_overlap = omega arith in
      (Some (Several begin (count + 1)), ap (λ b. cond b (fine (Some (Several begin (count + 1)))) (Err (TooMany begin))) (lt-ltb count max_overlap fewer), (f.0, omega arith, omega arith))
    where
      fine : Option Pending → Result (Option Pending) Fault
      fine q = Ok q

  -- the action goes on, with more elapsed seconds than before
  pub tells : (t s line : ℕ) (p : Option Pending) → h c ≡ Some t → t < s → g c ≡ Some s → MatchesPending limit k h p → Answers limit k g (progressed s line p)
  tells t s line None old more new f = absurd (let one = one_at_least h c limit t known old in let none : counted h 0 limit ≡ 0 = f in omega arith)
  tells t s line (Some (One begin elapsed since)) old more new f =
      let all = counts in
      let was : weight (h c) ≡ 1 = ap weight old in
      let is : weight (g c) ≡ 1 = ap weight new in
      let one : counted h 0 limit ≡ 1 = f.0 in
      let last : t ≡ elapsed = f.1 c t known old in (
        Some (One begin s line),
        ap (λ b. cond b (fine (Some (One begin s line))) (Err (NotLater since))) (lt-ltb elapsed s (omega arith)),
        (
          omega arith,
          λ b r less e. ⊎_elim
              (λ (here : b ≡ c). same_Some r s (sym e ∙ ap g here ∙ new))
              (λ elsewhere. absurd (let two = two_at_least h b c limit r t less known elsewhere (sym (others b elsewhere) ∙ e) old in omega arith))
              (cases_eq b c),
        ),
      )
    where
      fine : Option Pending → Result (Option Pending) Fault
      fine q = Ok q
  tells t s line (Some (Several begin count)) old more new f =
      let all = counts in
      let was : weight (h c) ≡ 1 = ap weight old in
      let is : weight (g c) ≡ 1 = ap weight new in
      let some : counted h 0 limit ≡ count = f.1 in
      (Some (Several begin count), refl, (f.0, omega arith, f.2))

  -- the action ends, with no fewer than its last elapsed seconds
  pub ends : (t s : ℕ) (p : Option Pending) → h c ≡ Some t → t ≤ s → g c ≡ None → MatchesPending limit k h p → Answers limit k g (ended s p)
  ends t s None old more new f = absurd (let one = one_at_least h c limit t known old in let none : counted h 0 limit ≡ 0 = f in omega arith)
  ends t s (Some (One begin elapsed since)) old more new f =
      let all = counts in
      let was : weight (h c) ≡ 1 = ap weight old in
      let is : weight (g c) ≡ 0 = ap weight new in
      let one : counted h 0 limit ≡ 1 = f.0 in
      let last : t ≡ elapsed = f.1 c t known old in
      (None, ap (λ b. cond b (Err (NotLater since)) (fine None)) (le-ltb s elapsed (omega arith)), omega arith)
    where
      fine : Option Pending → Result (Option Pending) Fault
      fine q = Ok q
  ends t s (Some (Several begin count)) old more new f =
      let all = counts in
      let was : weight (h c) ≡ 1 = ap weight old in
      let is : weight (g c) ≡ 0 = ap weight new in
      let some : counted h 0 limit ≡ count = f.1 in
      ⊎_elim
      (λ (several : 1 < count). (Some (Several begin (count - 1)), ap (λ b. cond b (fine (Some (Several begin (count - 1)))) (fine None)) (lt-ltb 1 count several), (f.0, omega arith, omega arith)))
      (λ (last : count ≤ 1). (None, ap (λ b. cond b (fine (Some (Several begin (count - 1)))) (fine None)) (le-ltb 1 count last), omega arith))
      (cases_lt 1 count)
    where
      fine : Option Pending → Result (Option Pending) Fault
      fine q = Ok q
