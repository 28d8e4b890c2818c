-- The steps of an entry, as a reader stores them.
use Rattle.std.proofs.Common.{◌≡◌, ℕ, ◌+◌, ◌<◌, ◌≤◌, true, false, List, [], ◌∷◌, length, map, take, get_or, refl, sym, ap, ◌∙◌, arith}
use Rattle.std.specs.Prelude.{sum_by}
use Rattle.std.proofs.lemmas.Bool.{le-ltb, lt-ltb}
use Rattle.std.proofs.lemmas.List.{take_all}
use Rattle.std.proofs.lemmas.List.Sums.{sum_by-cons, sum_by_more, sum_by_more_le}
use Rattle.apply_model.specs.declared.script.provisioner.Provisioner.{Provisioner}
use Rattle.apply_plan.specs.declared.script.raw_outcome.RawOutcome.{RawOutcome}
use Rattle.apply_plan.specs.declared.script.raw_provisioner.RawProvisioner.{RawProvisioner}
use Rattle.apply_model.specs.Script.Limits.{max_seconds}
use Rattle.apply_model.specs.Script.Outcome.{is_too_long, seconds_of_all}
use Rattle.apply_plan.specs.Script.RawView.{outcome_view, provisioner_view}

abbrev pub raw_seconds : List RawProvisioner → ℕ
raw_seconds provisioners = sum_by (λ provisioner. provisioner.seconds) provisioners

seen_seconds : (provisioners : List RawProvisioner) → seconds_of_all (map provisioner_view provisioners) ≡ raw_seconds provisioners
seen_seconds [] = refl
seen_seconds (p ∷ ps) =
    sum_by-cons (λ (q : Provisioner). q.seconds) (provisioner_view p) (map provisioner_view ps) ∙ ap (λ n. p.seconds + n) (seen_seconds ps)
    ∙ sym (sum_by-cons (λ (q : RawProvisioner). q.seconds) p ps)

pub in_tree : (provisioners : List RawProvisioner) (i : ℕ) (p : RawProvisioner) → i < length provisioners → p ≡ get_or provisioners i p
    → raw_seconds (take i provisioners) + p.seconds ≤ raw_seconds provisioners
in_tree provisioners i p below is =
    let f = λ (q : RawProvisioner). q.seconds in
    omega (arith, sum_by_more_le f provisioners i p below, ap f is)

pub more_raw_seconds : (provisioners : List RawProvisioner) (i : ℕ) (p : RawProvisioner) → i < length provisioners → p ≡ get_or provisioners i p
    → raw_seconds (take (i + 1) provisioners) ≡ raw_seconds (take i provisioners) + p.seconds
more_raw_seconds provisioners i p below is =
    let f = λ (q : RawProvisioner). q.seconds in
    omega (arith, sum_by_more f provisioners i p below, ap f is)

pub all_raw_seconds : (provisioners : List RawProvisioner) (i : ℕ) → length provisioners ≤ i → raw_seconds (take i provisioners) ≡ raw_seconds provisioners
all_raw_seconds provisioners i past = ap raw_seconds (take_all i provisioners past)

pub too_long : (step : RawOutcome) → max_seconds < step.seconds + raw_seconds step.provisioners.items → is_too_long (outcome_view step) ≡ true
too_long step over = rw (seen_seconds step.provisioners.items) (lt-ltb _ _ over)

pub not_too_long : (step : RawOutcome) → step.seconds + raw_seconds step.provisioners.items ≤ max_seconds → is_too_long (outcome_view step) ≡ false
not_too_long step under = rw (seen_seconds step.provisioners.items) (le-ltb _ _ under)
