-- Which failures are unexplained after some messages: those at addresses that no later error names.
use Rattle.std.proofs.Common.{◌≡◌, ℕ, ◌+◌, ◌-◌, ◌≤◌, List, [], ◌∷◌, ◌++◌, length, cond, count_by, Bool, true, false, Option, Some, None, Result, Ok, Err, refl, sym, ap, ap₂, ◌∙◌, subst, bytes_eq, arith, lt-ltb}
use Rattle.std.specs.Prelude.{◌||◌, not}
use Rattle.std.specs.List.{list_any}
use Rattle.std.specs.Option.{option_map_or}
use Rattle.std.proofs.lemmas.Bool.{or_parts}
use Rattle.std.proofs.lemmas.List.Sums.{sum_by-cons}
use Rattle.stream_check.specs.declared.messages.action.Action.{Action}
use Rattle.stream_check.specs.declared.messages.action.Action.TheVariants.{Create, Update, Delete, Read, Refresh}
use Rattle.stream_message.specs.declared.stage.Stage.{Stage}
use Rattle.stream_check.specs.declared.messages.timed_stage.TimedStage.{TimedStage}
use Rattle.stream_check.specs.declared.messages.timed_stage.TimedStage.TheVariants.{Start, Progress, Complete, Errored}
use Rattle.stream_check.specs.declared.rules.address_state.Failures.{Failures}
use Rattle.stream_check.specs.declared.rules.fault.Fault.{Fault}
use Rattle.stream_check.specs.declared.rules.fault.Fault.TheVariants.{NoStep}
use Rattle.stream_check.specs.declared.rules.pending.Pending.{Pending}
use Rattle.stream_check.specs.declared.rules.address_state.AddressState.{AddressState}
use Rattle.stream_check.specs.Limits.{max_lines}
use Rattle.stream_check.specs.Lines.{next}
use Rattle.stream_check.specs.Message.{Message, version, step, provision, planned, plan_summary, summary, diagnostic, outputs, other, foreign}
use Rattle.stream_check.specs.Results.{◌>>=◌}
use Rattle.stream_check.specs.AddressState.{failures_cleared, may_fail, may_provision, one_failure_more, or_as_before, pending_at, provision_on, provisioned, state_of}
use Rattle.stream_check.specs.Tally.{failure_count, failures_left, is_error, line_of}
use Rattle.stream_check.proofs.WholeStream.{bind_ok, one_next}
use Rattle.laws_check.specs.Passing.{with_all}
use Rattle.laws_check.proofs.FormMatches.{was_stepped}
use Rattle.laws_check.proofs.Moves.{by_address}
use Rattle.laws_check.proofs.Standings.{IsNoFailure, diagnostic_elsewhere, explained_keeps, failures_same, same_text, step_elsewhere, step_in, step_is, step_there}
use Rattle.laws_check.proofs.Turning.{followed_by}

-- ---- counts

pub count_most : {X : Type 0} (p q : X → Bool) → ((x : X) → cond {A = ℕ} (p x) 1 0 ≤ cond (q x) 1 0) → (xs : List X) → count_by p xs ≤ count_by q xs
count_most p q each [] = omega arith
count_most p q each (x ∷ xs) =
    let here = each x in
    let rest = count_most p q each xs in
    let one = sum_by-cons (λ y. cond (p y) 1 0) x xs in
    let other = sum_by-cons (λ y. cond (q y) 1 0) x xs in
    omega arith

count_split : {X : Type 0} (p q r : X → Bool) → ((x : X) → cond {A = ℕ} (p x) 1 0 ≤ cond (q x) 1 0 + cond (r x) 1 0) → (xs : List X) → count_by p xs ≤ count_by q xs + count_by r xs
count_split p q r each [] = omega arith
count_split p q r each (x ∷ xs) =
    let here = each x in
    let rest = count_split p q r each xs in
    let one = sum_by-cons (λ y. cond (p y) 1 0) x xs in
    let other = sum_by-cons (λ y. cond (q y) 1 0) x xs in
    let third = sum_by-cons (λ y. cond (r y) 1 0) x xs in
    omega arith

-- ---- messages of failures

-- the address of a message's failure that needs an error
abbrev pub failure_of : Message → Option (List ℕ)
failure_of (step a k (Errored s)) = cond (may_fail k) (Some a) None
failure_of _ = None

-- the message is a failure at an address that passes the test
abbrev pub fails_where : (List ℕ → Bool) → Message → Bool
fails_where p m = option_map_or p (failure_of m) false

abbrev pub nowhere : List ℕ → Bool
nowhere a = false

abbrev pub anywhere : List ℕ → Bool
anywhere a = true

of_failures : (p q r : List ℕ → Bool) → ((a : List ℕ) → cond {A = ℕ} (p a) 1 0 ≤ cond (q a) 1 0 + cond (r a) 1 0) → (m : Message) → cond {A = ℕ} (fails_where p m) 1 0 ≤ cond (fails_where q m) 1 0 + cond (fails_where r m) 1 0
of_failures p q r each m = of_option (failure_of m)
  where
    of_option : (o : Option (List ℕ)) → cond {A = ℕ} (option_map_or p o false) 1 0 ≤ cond (option_map_or q o false) 1 0 + cond (option_map_or r o false) 1 0
    of_option None = omega arith
    of_option (Some a) = each a

of_fewer : (p q : List ℕ → Bool) → ((a : List ℕ) → cond {A = ℕ} (p a) 1 0 ≤ cond (q a) 1 0) → (m : Message) → cond {A = ℕ} (fails_where p m) 1 0 ≤ cond (fails_where q m) 1 0
of_fewer p q each m = of_option (failure_of m)
  where
    of_option : (o : Option (List ℕ)) → cond {A = ℕ} (option_map_or p o false) 1 0 ≤ cond (option_map_or q o false) 1 0
    of_option None = omega arith
    of_option (Some a) = each a

at_most_one : (b : Bool) → cond {A = ℕ} b 1 0 ≤ 1
at_most_one true = omega arith
at_most_one false = omega arith

-- the failures stand: no error named their addresses
pub record AllStand (ms : List Message) : Type 0 where
  pub left : failures_left ms ≡ count_by (fails_where anywhere) ms
  pub there : (a : List ℕ) → failure_count (state_of a ms).failures ≡ count_by (fails_where (λ b. bytes_eq b a)) ms

pub at_version : AllStand (version ∷ [])
unfolding state_of failures_left
at_version = record { left = refl; there = λ a. refl }

-- ---- one message more, which is no error

-- the message changes no failures
plainly : (m : Message) (ms : List Message) → failures_left (m ∷ ms) ≡ failures_left ms → ((a : List ℕ) → (state_of a (m ∷ ms)).failures ≡ (state_of a ms).failures) → failure_of m ≡ None → AllStand ms → AllStand (m ∷ ms)
plainly m ms left there none stand = record {
  left = left ∙ stand.left ∙ sym (still anywhere);
  there = λ a. ap failure_count (there a) ∙ stand.there a ∙ sym (still (λ b. bytes_eq b a));
}
  where
    still : (p : List ℕ → Bool) → count_by (fails_where p) (m ∷ ms) ≡ count_by (fails_where p) ms
    still p =
        let here : cond {A = ℕ} (fails_where p m) 1 0 ≡ 0 = ap (λ (o : Option (List ℕ)). cond (option_map_or p o false) 1 0) none in
        let all = sum_by-cons (λ x. cond (fails_where p x) 1 0) m ms in
        omega arith

-- a step without a failure
quiet_step : (a : List ℕ) (k : Action) (stage : TimedStage) (ms later : List Message) → next ms (step a k stage) ≡ Ok later → IsNoFailure stage → (b : List ℕ) → (state_of b (step a k stage ∷ ms)).failures ≡ (state_of b ms).failures
quiet_step a k stage ms later e quiet =
    let was = was_stepped a k stage ms later e in
    by_address (λ b. (state_of b (step a k stage ∷ ms)).failures ≡ (state_of b ms).failures) a
    (ap (λ (s : AddressState). s.failures) (step_there a k stage (step_in k stage (length ms + 1) was.pending (state_of a ms)) ms (step_is k stage (length ms + 1) was.pending (state_of a ms) was.within was.is))
    ∙ failures_same k stage (length ms + 1) was.pending (state_of a ms) quiet)
    (λ b no. ap (λ (s : AddressState). s.failures) (step_elsewhere a k stage ms b no))

-- one failure more
one_more : (line : ℕ) (o : Option Failures) → failure_count o + 1 ≤ max_lines → failure_count (Some (one_failure_more line o)) ≡ failure_count o + 1
one_more line None room = refl
one_more line (Some f) room = ap (λ (b : Bool). (cond b (record f { count = f.count + 1 }) f).count) (lt-ltb f.count max_lines (omega (arith, room)))

failed_count : (k : Action) (seconds line : ℕ) (q : Option Pending) (s : AddressState) → failure_count s.failures + cond (may_fail k) 1 0 ≤ max_lines
    → failure_count (step_in k (Errored seconds) line q s).failures ≡ failure_count s.failures + cond (may_fail k) 1 0
failed_count Create seconds line q s room = one_more line s.failures room
failed_count Update seconds line q s room = one_more line s.failures room
failed_count Delete seconds line q s room = one_more line s.failures room
failed_count Read seconds line q s room = omega arith
failed_count Refresh seconds line q s room = omega arith

failing : (a : List ℕ) (k : Action) (seconds : ℕ) (ms later : List Message) → next ms (step a k (Errored seconds)) ≡ Ok later → count_by (fails_where anywhere) (step a k (Errored seconds) ∷ ms) ≤ max_lines → AllStand ms → AllStand (step a k (Errored seconds) ∷ ms)
unfolding failures_left
failing a k seconds ms later e few stand = record {
  left = let now = counted anywhere in let before = stand.left in let one = one_left (may_fail k) (failures_left ms) in let here = of_test anywhere (may_fail k) in omega arith;
  there = by_address (λ b. failure_count (state_of b (step a k (Errored seconds) ∷ ms)).failures ≡ count_by (fails_where (λ c. bytes_eq c b)) (step a k (Errored seconds) ∷ ms)) a
      (let was = was_stepped a k (Errored seconds) ms later e in
      let here : cond {A = ℕ} (option_map_or (λ c. bytes_eq c a) (cond (may_fail k) (Some a) None) false) 1 0 ≡ cond (may_fail k) 1 0 = of_test (λ c. bytes_eq c a) (may_fail k) ∙ ap (λ (b : Bool). cond (may_fail k) (cond {A = ℕ} b 1 0) 0) (same_text a) in
      let now = counted (λ c. bytes_eq c a) in
      let before = stand.there a in
      let some = counted anywhere in
      let all_here = of_test anywhere (may_fail k) in
      let most = count_most (fails_where (λ c. bytes_eq c a)) (fails_where anywhere) (of_fewer (λ c. bytes_eq c a) anywhere (λ c. at_most_one (bytes_eq c a))) ms in
      let stood = ap (λ (s : AddressState). failure_count s.failures) (step_there a k (Errored seconds) (step_in k (Errored seconds) (length ms + 1) was.pending (state_of a ms)) ms (step_is k (Errored seconds) (length ms + 1) was.pending (state_of a ms) was.within was.is)) in
      let more = failed_count k seconds (length ms + 1) was.pending (state_of a ms) (omega arith) in
      omega arith)
      (λ b no.
      let here : cond {A = ℕ} (option_map_or (λ c. bytes_eq c b) (cond (may_fail k) (Some a) None) false) 1 0 ≡ 0 = of_test (λ c. bytes_eq c b) (may_fail k) ∙ ap (λ (t : Bool). cond (may_fail k) (cond {A = ℕ} t 1 0) 0) no ∙ none (may_fail k) in
      let now = counted (λ c. bytes_eq c b) in
      let before = stand.there b in
      let stood = ap (λ (s : AddressState). failure_count s.failures) (step_elsewhere a k (Errored seconds) ms b no) in
      omega arith);
}
  where
    one_left : (b : Bool) (n : ℕ) → cond b (n + 1) n ≡ n + cond b 1 0
    one_left true n = refl
    one_left false n = omega arith

    none : (b : Bool) → cond {A = ℕ} b 0 0 ≡ 0
    none true = refl
    none false = refl

    of_test : (p : List ℕ → Bool) (b : Bool) → cond {A = ℕ} (option_map_or p (cond b (Some a) None) false) 1 0 ≡ cond b (cond (p a) 1 0) 0
    of_test p true = refl
    of_test p false = refl

    counted : (p : List ℕ → Bool) → count_by (fails_where p) (step a k (Errored seconds) ∷ ms) ≡ cond (option_map_or p (cond (may_fail k) (Some a) None) false) 1 0 + count_by (fails_where p) ms
    counted p = sum_by-cons (λ m. cond (fails_where p m) 1 0) (step a k (Errored seconds)) ms

-- a provisioner leaves failures as they are
pub provision_keeps : (a : List ℕ) (stage : Stage) (ms : List Message) (b : List ℕ) → (state_of b (provision a stage ∷ ms)).failures ≡ (state_of b ms).failures
unfolding state_of
provision_keeps a stage ms b = of_test (bytes_eq a b)
  where
    of_answer : (s : AddressState) (r : Result (Option ℕ) Fault) → (or_as_before s (r >>= λ running. Ok (record s { provisioner = running }))).failures ≡ s.failures
    of_answer s (Ok running) = refl
    of_answer s (Err fault) = refl

    of_guard : (s : AddressState) (t : Bool) → (or_as_before s (cond t (provisioned stage (length ms + 1) s.provisioner >>= λ running. Ok (record s { provisioner = running })) (Err NoStep))).failures ≡ s.failures
    of_guard s true = of_answer s (provisioned stage (length ms + 1) s.provisioner)
    of_guard s false = refl

    of_test : (t : Bool) → (cond t (or_as_before (state_of b ms) (provision_on stage (length ms + 1) (state_of b ms))) (state_of b ms)).failures ≡ (state_of b ms).failures
    of_test true = of_guard (state_of b ms) (may_provision (state_of b ms))
    of_test false = refl

one_stands : (m : Message) (ms later : List Message) → next ms m ≡ Ok later → is_error m ≡ false → count_by (fails_where anywhere) (m ∷ ms) ≤ max_lines → AllStand ms → AllStand (m ∷ ms)
unfolding state_of failures_left
one_stands version ms later e fine few stand = plainly version ms refl (λ a. refl) refl stand
one_stands (step a k Start) ms later e fine few stand = plainly (step a k Start) ms refl (quiet_step a k Start ms later e tt) refl stand
one_stands (step a k (Progress s)) ms later e fine few stand = plainly (step a k (Progress s)) ms refl (quiet_step a k (Progress s) ms later e tt) refl stand
one_stands (step a k (Complete s)) ms later e fine few stand = plainly (step a k (Complete s)) ms refl (quiet_step a k (Complete s) ms later e tt) refl stand
one_stands (step a k (Errored s)) ms later e fine few stand = failing a k s ms later e few stand
one_stands (provision a stage) ms later e fine few stand = plainly (provision a stage) ms refl (provision_keeps a stage ms) refl stand
one_stands (planned intent o) ms later e fine few stand = plainly (planned intent o) ms refl (λ a. refl) refl stand
one_stands (plan_summary t) ms later e fine few stand = plainly (plan_summary t) ms refl (λ a. refl) refl stand
one_stands (summary t) ms later e fine few stand = plainly (summary t) ms refl (λ a. refl) refl stand
one_stands (diagnostic true o) ms later e fine few stand = absurd cc
one_stands (diagnostic false None) ms later e fine few stand = plainly (diagnostic false None) ms refl (λ a. refl) refl stand
one_stands (diagnostic false (Some a)) ms later e fine few stand = plainly (diagnostic false (Some a)) ms refl (λ b. either (bytes_eq a b) (state_of b ms)) refl stand
  where
    either : (t : Bool) (s : AddressState) → (cond t (failures_cleared false s) s).failures ≡ s.failures
    either true s = refl
    either false s = refl
one_stands outputs ms later e fine few stand = plainly outputs ms refl (λ a. refl) refl stand
one_stands other ms later e fine few stand = plainly other ms refl (λ a. refl) refl stand
one_stands foreign ms later e fine few stand = plainly foreign ms refl (λ a. refl) refl stand

-- messages that are no errors
pub all_stand : (xs ms later : List Message) → with_all ms xs ≡ Ok later → list_any is_error xs ≡ false → count_by (fails_where anywhere) ms + count_by (fails_where anywhere) xs ≤ max_lines → AllStand ms → AllStand (followed_by ms xs)
all_stand [] ms later e none few stand = stand
all_stand (x ∷ xs) ms later e none few stand =
    let first = bind_ok (next ms x) (λ now. with_all now xs) later e in
    let added : first.0 ≡ x ∷ ms = sym (one_next ms x first.0 first.1) in
    let none_of = or_parts (is_error x) (list_any is_error xs) none in
    let here = sum_by-cons (λ m. cond (fails_where anywhere m) 1 0) x ms in
    let there = sum_by-cons (λ m. cond (fails_where anywhere m) 1 0) x xs in
    all_stand xs (x ∷ ms) later (subst (λ (l : List Message). with_all l xs ≡ Ok later) added first.2) none_of.1 (omega arith)
    (one_stands x ms first.0 first.1 none_of.0 (omega arith) stand)

-- ---- diagnostics

abbrev pub AreDiagnostics : List Message → Type 0
AreDiagnostics [] = Unit {0}
AreDiagnostics (m ∷ ms) = ((severe : Bool) × (o : Option (List ℕ)) × (m ≡ diagnostic severe o)) × AreDiagnostics ms

pub diagnostics_both : (xs ys : List Message) → AreDiagnostics xs → AreDiagnostics ys → AreDiagnostics (xs ++ ys)
diagnostics_both [] ys h k = k
diagnostics_both (x ∷ xs) ys h k = (h.0, diagnostics_both xs ys h.1 k)

-- the message is an error that names the address
abbrev pub names : Message → List ℕ → Bool
names (diagnostic true (Some a)) b = bytes_eq a b
names _ b = false

-- one of the messages names the address, or the address was named before
abbrev pub all_named : (List ℕ → Bool) → List Message → List ℕ → Bool
all_named named [] = named
all_named named (m ∷ ms) = all_named (λ a. names m a || named a) ms

pub not_named : (named : List ℕ → Bool) (xs : List Message) (a : List ℕ) → all_named named xs a ≡ false → (named a ≡ false) × (list_any (λ m. names m a) xs ≡ false)
not_named named [] a e = (e, refl)
not_named named (m ∷ ms) a e =
    let rest = not_named (λ b. names m b || named b) ms a e in
    let both = or_parts (names m a) (named a) rest.0 in
    (both.1, ap (λ (b : Bool). b || list_any (λ x. names x a) ms) both.0 ∙ rest.1)

-- no more failures are left than of addresses that were not named, and at these all stand
record AreLeft (named : List ℕ → Bool) (first ms : List Message) : Type 0 where
  left : failures_left ms ≤ count_by (fails_where (λ b. not (named b))) first
  there : (a : List ℕ) → named a ≡ false → count_by (fails_where (λ b. bytes_eq b a)) first ≤ failure_count (state_of a ms).failures

error_named : (a : List ℕ) (named : List ℕ → Bool) (first ms : List Message) → AreLeft named first ms → AreLeft (λ b. bytes_eq a b || named b) first (diagnostic true (Some a) ∷ ms)
unfolding failures_left
error_named a named first ms are = record {
  left = either (named a) refl;
  there = λ b no.
      let apart = or_parts (bytes_eq a b) (named b) no in
      let same = ap (λ (s : AddressState). failure_count s.failures) (diagnostic_elsewhere a true ms b apart.0) in
      let stand = are.there b apart.1 in
      omega arith;
}
  where
    -- nothing changes for another address
    elsewhere : (b : List ℕ) → bytes_eq a b ≡ false → cond {A = ℕ} (not (named b)) 1 0 ≡ cond (not (bytes_eq a b || named b)) 1 0
    elsewhere b apart = ap (λ (t : Bool). cond {A = ℕ} (not (t || named b)) 1 0) (sym apart)

    either : (t : Bool) → named a ≡ t → (let n : ℕ = failures_left ms in n - failure_count (state_of a ms).failures) ≤ count_by (fails_where (λ b. not (bytes_eq a b || named b))) first
    either true before =
        let most = count_most (fails_where (λ b. not (named b))) (fails_where (λ b. not (bytes_eq a b || named b)))
        (of_fewer (λ b. not (named b)) (λ b. not (bytes_eq a b || named b))
        (by_address (λ b. cond {A = ℕ} (not (named b)) 1 0 ≤ cond (not (bytes_eq a b || named b)) 1 0) a
        (let none : cond {A = ℕ} (not (named a)) 1 0 ≡ 0 = ap (λ (t : Bool). cond (not t) 1 0) before in omega arith)
        (λ b no. let same = elsewhere b no in omega arith))) first in
        let left = are.left in
        omega arith
    either false new =
        let split = count_split (fails_where (λ b. not (named b))) (fails_where (λ b. not (bytes_eq a b || named b))) (fails_where (λ b. bytes_eq b a))
        (of_failures (λ b. not (named b)) (λ b. not (bytes_eq a b || named b)) (λ b. bytes_eq b a)
        (by_address (λ b. cond {A = ℕ} (not (named b)) 1 0 ≤ cond (not (bytes_eq a b || named b)) 1 0 + cond (bytes_eq b a) 1 0) a
        (let here : cond {A = ℕ} (bytes_eq a a) 1 0 ≡ 1 = ap (λ (t : Bool). cond t 1 0) (same_text a) in let most = at_most_one (not (named a)) in omega arith)
        (λ b no. let same = elsewhere b no in omega arith))) first in
        let left = are.left in
        let stand = are.there a new in
        omega arith

-- a diagnostic more
one_told : (severe : Bool) (o : Option (List ℕ)) (named : List ℕ → Bool) (first ms : List Message) → AreLeft named first ms → AreLeft (λ a. names (diagnostic severe o) a || named a) first (diagnostic severe o ∷ ms)
unfolding state_of failures_left
one_told true (Some a) named first ms are = error_named a named first ms are
one_told true None named first ms are = record { left = are.left; there = are.there }
one_told false None named first ms are = record { left = are.left; there = are.there }
one_told false (Some a) named first ms are = record {
  left = are.left;
  there = λ b no. let stand = are.there b no in let same = either (bytes_eq a b) (state_of b ms) in omega arith;
}
  where
    either : (t : Bool) (s : AddressState) → failure_count (cond t (failures_cleared false s) s).failures ≡ failure_count s.failures
    either true s = refl
    either false s = refl

events_read_back : (named : List ℕ → Bool) (first xs ms : List Message) → AreDiagnostics xs → AreLeft named first ms → AreLeft (all_named named xs) first (followed_by ms xs)
events_read_back named first [] ms h are = are
events_read_back named first (x ∷ xs) ms h are =
    events_read_back (λ a. names x a || named a) first xs (x ∷ ms) h.1
    (subst (λ (m : Message). AreLeft (λ a. names m a || named a) first (m ∷ ms)) (sym h.0.2) (one_told h.0.0 h.0.1 named first ms are))

-- after messages without errors and then diagnostics, unexplained failures are at addresses that no
-- diagnostic names
pub left_at_end : (first xs : List Message) → AllStand first → AreDiagnostics xs → failures_left (followed_by first xs) ≤ count_by (fails_where (λ a. not (all_named nowhere xs a))) first
left_at_end first xs stand h =
    (events_read_back nowhere first xs first h (record { left = let same = stand.left in omega arith; there = λ a no. let same = stand.there a in omega arith })).left

-- what stands open they leave open
pub diagnostics_keep : (k : Action) (a : List ℕ) (xs ms : List Message) → AreDiagnostics xs → pending_at k (state_of a (followed_by ms xs)) ≡ pending_at k (state_of a ms)
unfolding state_of
diagnostics_keep k a [] ms h = refl
diagnostics_keep k a (x ∷ xs) ms h =
    diagnostics_keep k a xs (x ∷ ms) h.1
    ∙ ap (λ (m : Message). pending_at k (state_of a (m ∷ ms))) h.0.2
    ∙ of_one h.0.0 h.0.1
  where
    of_one : (severe : Bool) (o : Option (List ℕ)) → pending_at k (state_of a (diagnostic severe o ∷ ms)) ≡ pending_at k (state_of a ms)
    of_one severe None = refl
    of_one severe (Some b) = elim (bytes_eq b a) as (λ t. pending_at k (cond t (failures_cleared severe (state_of a ms)) (state_of a ms)) ≡ pending_at k (state_of a ms)) [ true ↦ explained_keeps k severe (state_of a ms) | false ↦ refl ]

-- diagnostics change no line that is looked for
pub lines_keep : (q : Message → Bool) → ((severe : Bool) (o : Option (List ℕ)) → q (diagnostic severe o) ≡ false) → (xs ms : List Message) → AreDiagnostics xs → line_of q (followed_by ms xs) ≡ line_of q ms
lines_keep q none [] ms h = refl
lines_keep q none (x ∷ xs) ms h =
    lines_keep q none xs (x ∷ ms) h.1
    ∙ ap (λ (b : Bool). cond b (Some (length ms + 1)) (line_of q ms)) (ap q h.0.2 ∙ none h.0.0 h.0.1)

pub none_told : (q : Message → Bool) → ((severe : Bool) (o : Option (List ℕ)) → q (diagnostic severe o) ≡ false) → (xs : List Message) → AreDiagnostics xs → count_by q xs ≡ 0
none_told q none [] h = refl
none_told q none (x ∷ xs) h =
    let here : cond {A = ℕ} (q x) 1 0 ≡ 0 = ap (λ (b : Bool). cond b 1 0) (ap q h.0.2 ∙ none h.0.0 h.0.1) in
    let rest = none_told q none xs h.1 in
    let all = sum_by-cons (λ m. cond (q m) 1 0) x xs in
    omega arith

-- an error that names an address is an error
pub no_error_names : (a : List ℕ) (ms : List Message) → list_any is_error ms ≡ false → list_any (λ m. names m a) ms ≡ false
no_error_names a [] none = refl
no_error_names a (m ∷ ms) none =
    let both = or_parts (is_error m) (list_any is_error ms) none in
    ap₂ (λ (b c : Bool). b || c) (one m both.0) (no_error_names a ms both.1)
  where
    one : (m : Message) → is_error m ≡ false → names m a ≡ false
    one version fine = refl
    one (step b k stage) fine = refl
    one (provision b stage) fine = refl
    one (planned intent o) fine = refl
    one (plan_summary t) fine = refl
    one (summary t) fine = refl
    one (diagnostic true o) fine = absurd cc
    one (diagnostic false None) fine = refl
    one (diagnostic false (Some b)) fine = refl
    one outputs fine = refl
    one other fine = refl
    one foreign fine = refl

-- what stands before messages that are accepted is accepted
pub first_accepted : (xs ys ms later : List Message) → with_all ms (xs ++ ys) ≡ Ok later → (now : List Message) × (with_all ms xs ≡ Ok now)
first_accepted [] ys ms later e = (ms, refl)
first_accepted (x ∷ xs) ys ms later e =
    let first = bind_ok (next ms x) (λ now. with_all now (xs ++ ys)) later e in
    let rest = first_accepted xs ys first.0 later first.2 in
    (rest.0, ap (λ (r : Result (List Message) Fault). r >>= λ now. with_all now xs) first.1 ∙ rest.1)
