-- The events of a step between its start and its end: what holds of all of them, when they come, and
-- how many there are.
use Rattle.std.proofs.Common.{◌≡◌, ℕ, suc, ◌+◌, ◌*◌, ◌≤◌, All, List, [], ◌∷◌, ◌++◌, length, length-append, map, refl, arith}
use Rattle.std.proofs.lemmas.List.{length-map}
use Rattle.std.proofs.lemmas.List.Elements.{All-append, All-cons, All-head, All-nil, All-tail}
use Rattle.std.proofs.lemmas.List.Sums.{sum_by-cons}
use Rattle.apply_model.specs.declared.script.provisioner.Provisioner.{Provisioner}
use Rattle.apply_model.specs.declared.script.timed_text.TimedText.{TimedText}
use Rattle.apply_model.specs.Script.Outcome.{seconds_of_all}
use Rattle.apply_events.specs.declared.what.What.{What}
use Rattle.apply_events.specs.declared.what.What.TheVariants.{Progress, ProvisionOutput, ProvisionStart}
use Rattle.apply_events.specs.Provisions.{along, output_at, progress, provision_end, times_within, emitted_by}
use Rattle.apply_events.proofs.ProgressTimes.{few_within, times_rise, times_up_to, up_to_end}
use Rattle.apply_events.proofs.Rising.{Rises, Rises-append}

all-map : {X Y : Type 0} (P : Y → Type 0) (g : X → Y) (xs : List X) → ((x : X) → P (g x)) → All P (map g xs)
all-map P g [] h = All-nil P
all-map P g (x ∷ xs) h = All-cons P (g x) (map g xs) (h x) (all-map P g xs h)

-- ---- what holds of each thing that can happen holds of all

all_emitted : (P : ℕ × What → Type 0) (d after i j since until : ℕ) (end : What) (outputs : List TimedText)
    → ((t : ℕ) → P (t, Progress t)) → ((j t : ℕ) → P (t, ProvisionOutput i j)) → P (until, end) → All P (emitted_by d after i j since until end outputs)
all_emitted P d after i j since until end [] time output ends =
    All-append P (progress d after until) ((until, end) ∷ []) (all-map P (λ (t : ℕ). (t, Progress t)) (times_within d after until) time)
    (All-cons P (until, end) [] ends (All-nil P))
all_emitted P d after i j since until end (o ∷ os) time output ends =
    let at = output_at after since until o in
    let rest = emitted_by d at i (j + 1) since until end os in
    All-append P (progress d after at) ((at, ProvisionOutput i j) ∷ rest) (all-map P (λ (t : ℕ). (t, Progress t)) (times_within d after at) time)
    (All-cons P (at, ProvisionOutput i j) rest (output j at) (all_emitted P d at i (j + 1) since until end os time output ends))

pub all_along : (P : ℕ × What → Type 0) (d after i since : ℕ) (ps : List Provisioner)
    → ((t : ℕ) → P (t, Progress t)) → ((i : ℕ) (p : Provisioner) (since : ℕ) → P (since, ProvisionStart i))
    → ((i : ℕ) (p : Provisioner) (j since : ℕ) → P (since, ProvisionOutput i j)) → ((i : ℕ) (p : Provisioner) (since : ℕ) → P (since, provision_end i p))
    → All P (along d after i since ps)
all_along P d after i since [] time start output end = all-map P (λ (t : ℕ). (t, Progress t)) (times_within d after d) time
all_along P d after i since (p ∷ ps) time start output end =
    let until = since + p.seconds in
    let emitted = emitted_by d since i 0 since until (provision_end i p) p.output in
    let rest = along d until (i + 1) until ps in
    All-append P (progress d after since) ((since, ProvisionStart i) ∷ (emitted ++ rest))
    (all-map P (λ (t : ℕ). (t, Progress t)) (times_within d after since) time)
    (All-cons P (since, ProvisionStart i) (emitted ++ rest) (start i p since)
    (All-append P emitted rest
    (all_emitted P d since i 0 since until (provision_end i p) p.output time (output i p) (end i p until))
    (all_along P d until (i + 1) until ps time start output end)))

-- ---- when it happens

abbrev pub time_of : ℕ × What → ℕ
time_of x = x.0

progress_rises-list : (low high : ℕ) (ts : List ℕ) → Rises (λ t. t) low high ts → Rises time_of low high (map (λ (t : ℕ). (t, Progress t)) ts)
progress_rises-list low high [] h = h
progress_rises-list low high (t ∷ ts) h = (h.0, progress_rises-list t high ts h.1)

progress_rises : (d a b : ℕ) → a ≤ b → Rises time_of a b (progress d a b)
progress_rises d a b le = progress_rises-list a b (times_within d a b) (times_rise d a b le)

emitted_rises : (d after i j since until : ℕ) (end : What) (outputs : List TimedText) → after ≤ until → Rises time_of after until (emitted_by d after i j since until end outputs)
emitted_rises d after i j since until end [] low =
    Rises-append time_of after until until (progress d after until) ((until, end) ∷ []) (progress_rises d after until low) (omega arith, omega arith)
emitted_rises d after i j since until end (o ∷ os) low =
    let at = output_at after since until o in
    let first : after ≤ at = omega arith in
    let last : at ≤ until = omega arith in
    Rises-append time_of after at until (progress d after at) ((at, ProvisionOutput i j) ∷ emitted_by d at i (j + 1) since until end os)
    (progress_rises d after at first) (omega arith, emitted_rises d at i (j + 1) since until end os last)

pub along_rises : (d after i since : ℕ) (ps : List Provisioner) → after ≤ since → since + seconds_of_all ps ≤ d → Rises time_of after d (along d after i since ps)
along_rises d after i since [] low high = progress_rises d after d (let none : seconds_of_all [] ≡ 0 = refl in omega arith)
along_rises d after i since (p ∷ ps) low high =
    let until = since + p.seconds in
    let emitted = emitted_by d since i 0 since until (provision_end i p) p.output in
    let rest = along d until (i + 1) until ps in
    let sum = sum_by-cons (λ (q : Provisioner). q.seconds) p ps in
    Rises-append time_of after since d (progress d after since) ((since, ProvisionStart i) ∷ (emitted ++ rest))
    (progress_rises d after since low) (
      omega arith,
      Rises-append time_of since until d emitted rest (emitted_rises d since i 0 since until (provision_end i p) p.output (omega arith))
          (along_rises d until (i + 1) until ps (omega arith) (omega arith)),
    )

-- ---- how much it is

few_emitted : (d after i j since until : ℕ) (end : What) (outputs : List TimedText) → after ≤ until
    → length (emitted_by d after i j since until end outputs) + times_up_to d after ≤ length outputs + 1 + times_up_to d until
few_emitted d after i j since until end [] low =
    let times = few_within d after until low in
    let as_times : length (progress d after until) ≡ length (times_within d after until) = length-map (times_within d after until) (λ (t : ℕ). (t, Progress t)) in
    let all : length (progress d after until ++ (until, end) ∷ []) ≡ length (progress d after until) + 1 = length-append (progress d after until) ((until, end) ∷ []) in
    omega arith
few_emitted d after i j since until end (o ∷ os) low =
    let at = output_at after since until o in
    let first : after ≤ at = omega arith in
    let last : at ≤ until = omega arith in
    let times = few_within d after at first in
    let rest = emitted_by d at i (j + 1) since until end os in
    let as_times : length (progress d after at) ≡ length (times_within d after at) = length-map (times_within d after at) (λ (t : ℕ). (t, Progress t)) in
    let later = few_emitted d at i (j + 1) since until end os last in
    let all : length (progress d after at ++ (at, ProvisionOutput i j) ∷ rest) ≡ length (progress d after at) + suc (length rest) = length-append (progress d after at) ((at, ProvisionOutput i j) ∷ rest) in
    omega arith

few_each : (d after i since : ℕ) (ps : List Provisioner) → All (λ p. length p.output ≤ 100) ps → after ≤ since → since + seconds_of_all ps ≤ d
    → length (along d after i since ps) + times_up_to d after ≤ 102 * length ps + times_up_to d d
few_each d after i since [] few low high =
    let none : seconds_of_all [] ≡ 0 = refl in
    let times = few_within d after d (omega arith) in
    let as_times : length (progress d after d) ≡ length (times_within d after d) = length-map (times_within d after d) (λ (t : ℕ). (t, Progress t)) in
    omega arith
few_each d after i since (p ∷ ps) few low high =
    let until = since + p.seconds in
    let before = progress d after since in
    let emitted = emitted_by d since i 0 since until (provision_end i p) p.output in
    let rest = along d until (i + 1) until ps in
    let sum = sum_by-cons (λ (q : Provisioner). q.seconds) p ps in
    let later = few_each d until (i + 1) until ps (All-tail (λ (q : Provisioner). length q.output ≤ 100) p ps few) (omega arith) (omega arith) in
    let here : length p.output ≤ 100 = All-head (λ (q : Provisioner). length q.output ≤ 100) p ps few in
    let many = few_emitted d since i 0 since until (provision_end i p) p.output (omega arith) in
    let first = few_within d after since low in
    let as_first : length before ≡ length (times_within d after since) = length-map (times_within d after since) (λ (t : ℕ). (t, Progress t)) in
    let later_events : length (emitted ++ rest) ≡ length emitted + length rest = length-append emitted rest in
    let all : length (before ++ (since, ProvisionStart i) ∷ (emitted ++ rest)) ≡ length before + suc (length (emitted ++ rest)) = length-append before ((since, ProvisionStart i) ∷ (emitted ++ rest)) in
    omega arith

-- up to the end of a day, with few provisioners
pub few_along : (d since : ℕ) (ps : List Provisioner) → All (λ p. length p.output ≤ 100) ps → length ps ≤ 8 → since + seconds_of_all ps ≤ d → d ≤ 86400
    → length (along d 0 0 since ps) ≤ 9455
few_along d since ps little few whole short =
    let all = few_each d 0 0 since ps little (omega arith) whole in
    let last = up_to_end d in
    omega arith
