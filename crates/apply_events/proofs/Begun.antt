-- The steps that are begun, from the one at hand on.
use Rattle.std.proofs.Common.{◌≡◌, ℕ, zero, suc, Bool, true, false, ◌&&◌, List, [], ◌∷◌, ◌++◌, drop, take, refl, ap, ◌∙◌}
use Rattle.std.specs.List.{list_all}
use Rattle.apply_events.specs.ChangeEvents.{begun}
use Rattle.apply_events.specs.Step.{Step}
use Rattle.apply_events.specs.StepEvents.{goes_on}

pub take_more : (steps : List Step) (k : ℕ) (s : Step) (rest : List Step) → drop k steps ≡ s ∷ rest → take (suc k) steps ≡ take k steps ++ s ∷ []
take_more [] zero s rest h = cc
take_more [] (suc k) s rest h = cc
take_more (x ∷ xs) zero s rest h = let e : x ≡ s = cc in rw e refl
take_more (x ∷ xs) (suc k) s rest h = ap (λ ys. x ∷ ys) (take_more xs k s rest h)

pub drop_more : (steps : List Step) (k : ℕ) (s : Step) (rest : List Step) → drop k steps ≡ s ∷ rest → drop (suc k) steps ≡ rest
drop_more [] zero s rest h = cc
drop_more [] (suc k) s rest h = cc
drop_more (x ∷ xs) zero s rest h = cc
drop_more (x ∷ xs) (suc k) s rest h = drop_more xs k s rest h

pub and_first : (a b : Bool) → (a && b) ≡ true → a ≡ true
and_first true b h = refl
and_first false b h = cc

pub and_second : (a b : Bool) → (a && b) ≡ true → b ≡ true
and_second true b h = h
and_second false b h = cc

pub and_both : (a b : Bool) → a ≡ true → b ≡ true → (a && b) ≡ true
and_both a b first second = rw (first, second) refl

-- if the first k steps go on, the steps that begin are those and the ones that begin after them
pub begun_from : (steps : List Step) (k : ℕ) → list_all goes_on (take k steps) ≡ true → begun steps ≡ take k steps ++ begun (drop k steps)
begun_from steps zero all = refl
begun_from [] (suc k) all = refl
begun_from (s ∷ steps) (suc k) all =
    rw (and_first (goes_on s) (list_all goes_on (take k steps)) all)
    (ap (λ ys. s ∷ ys) (begun_from steps k (and_second (goes_on s) (list_all goes_on (take k steps)) all)))

all-append : (xs : List Step) (s : Step) → list_all goes_on xs ≡ true → goes_on s ≡ true → list_all goes_on (xs ++ s ∷ []) ≡ true
all-append [] s all here = rw here refl
all-append (x ∷ xs) s all here =
    and_both (goes_on x) (list_all goes_on (xs ++ s ∷ [])) (and_first (goes_on x) (list_all goes_on xs) all) (all-append xs s (and_second (goes_on x) (list_all goes_on xs) all) here)

-- one step more goes on
pub all_more : (steps : List Step) (k : ℕ) (s : Step) (rest : List Step) → drop k steps ≡ s ∷ rest
    → list_all goes_on (take k steps) ≡ true → goes_on s ≡ true → list_all goes_on (take (suc k) steps) ≡ true
all_more steps k s rest h all here = rw (take_more steps k s rest h) (all-append (take k steps) s all here)

-- the step at hand is the last that is begun
pub begun_last : (steps : List Step) (k : ℕ) (s : Step) (rest : List Step) → drop k steps ≡ s ∷ rest
    → list_all goes_on (take k steps) ≡ true → goes_on s ≡ false → begun steps ≡ take (suc k) steps
begun_last steps k s rest h all here =
    begun_from steps k all ∙ rw (h, here, take_more steps k s rest h) refl
