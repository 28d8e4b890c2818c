-- The provisioner that began last.
use Rattle.std.proofs.Common.{◌≡◌, ℕ, ℤ, ◌-◌, ◌<◌, ◌≤◌, List, [], ◌∷◌, Bool, false, ◌+◌, ◌++◌, drop, length, get_or, map, set, suc, take, refl, sym, ap, ◌∙◌, arith}
use Rattle.std.specs.Prelude.{is_none}
use Rattle.std.proofs.lemmas.List.Edits.{map_over_more}
use Rattle.stream_timeline.specs.Steps.{ProvisionerRead, ended_provisioner, ended_with_step, last_is_open, with_last_ended}

one_down : (n : ℕ) → suc n - 1 ≡ n
one_down n = omega arith

step_down : (n : ℕ) → suc (suc n) - 1 ≡ suc n
step_down n = omega arith

pub last_open_get : (ps : List ProvisionerRead) (d : ProvisionerRead) → 0 < length ps → last_is_open ps ≡ is_none (get_or ps (length ps - 1) d).end
last_open_get [] d l = absurd (omega arith)
last_open_get (p ∷ []) d l = refl
last_open_get (p ∷ (q ∷ ps)) d l =
    rw (step_down (length ps)) (last_open_get (q ∷ ps) d (omega arith) ∙ ap (λ n. is_none (get_or (q ∷ ps) n d).end) (one_down (length ps)))

pub last_ended_get : (time : ℤ) (failed : Bool) (ps : List ProvisionerRead) (d : ProvisionerRead) → 0 < length ps
    → with_last_ended time failed ps ≡ set ps (length ps - 1) (ended_provisioner time failed (get_or ps (length ps - 1) d))
last_ended_get time failed [] d l = absurd (omega arith)
last_ended_get time failed (p ∷ []) d l = refl
last_ended_get time failed (p ∷ (q ∷ ps)) d l =
    rw (step_down (length ps))
    (ap (λ rs. p ∷ rs) (last_ended_get time failed (q ∷ ps) d (omega arith) ∙ ap (λ n. set (q ∷ ps) n (ended_provisioner time failed (get_or (q ∷ ps) n d))) (one_down (length ps))))

-- after a write of what ending makes of the last one
pub last_ended_set : (time : ℤ) (failed : Bool) (ps : List ProvisionerRead) (x y : ProvisionerRead) (n : ℕ) → 0 < length ps → n ≡ length ps - 1
    → x ≡ get_or ps n x → y ≡ ended_provisioner time failed x → with_last_ended time failed ps ≡ set ps n y
last_ended_set time failed ps x y n l at is made =
    last_ended_get time failed ps x l
    ∙ ap (λ m. set ps m (ended_provisioner time failed (get_or ps m x))) (sym at)
    ∙ ap (set ps n) (ap (ended_provisioner time failed) (sym is) ∙ sym made)

pub last_ended_none : (time : ℤ) (failed : Bool) (ps : List ProvisionerRead) → length ps ≤ 0 → with_last_ended time failed ps ≡ ps
last_ended_none time failed [] l = refl
last_ended_none time failed (p ∷ ps) l = absurd (omega arith)

pub last_open_none : (ps : List ProvisionerRead) → length ps ≤ 0 → last_is_open ps ≡ false
last_open_none [] l = refl
last_open_none (p ∷ ps) l = absurd (omega arith)

pub last_open_is : (ps : List ProvisionerRead) (x : ProvisionerRead) (n : ℕ) → 0 < length ps → n ≡ length ps - 1 → x ≡ get_or ps n x → last_is_open ps ≡ is_none x.end
last_open_is ps x n l at is = last_open_get ps x l ∙ ap (λ m. is_none (get_or ps m x).end) (sym at) ∙ ap (λ (p : ProvisionerRead). is_none p.end) (sym is)

-- one more is ended with its step
pub ended_more : (end : ℤ) (xs ys : List ProvisionerRead) (i : ℕ) (x y : ProvisionerRead) → i < length xs → ys ≡ map (ended_with_step end) (take i xs) ++ drop i xs
    → x ≡ get_or ys i x → y ≡ ended_with_step end x → set ys i y ≡ map (ended_with_step end) (take (i + 1) xs) ++ drop (i + 1) xs
ended_more end xs ys i x y l so is made = ap (set ys i) made ∙ map_over_more (ended_with_step end) xs ys i x l so is
