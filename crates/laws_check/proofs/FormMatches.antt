-- What is accepted in the default form is accepted in Terraform's form, if the checker's open steps
-- match.
use Rattle.std.proofs.Common.{◌≡◌, ℕ, ◌+◌, ◌-◌, ◌≤◌, ◌∙◌, List, ◌∷◌, length, Bool, true, false, cond, Option, Some, None, Result, Ok, Err, refl, sym, ap, ap₂, subst, ◌⊎◌, inl, inr, ⊎_elim, is_some, count_by, nat_lt, arith}
use Rattle.std.specs.Prelude.{◌||◌, ◌&&◌}
use Rattle.std.specs.Option.{option_map_or}
use Rattle.std.proofs.lemmas.Bool.{cases_Bool}
use Rattle.std.proofs.lemmas.List.Sums.{sum_by-cons}
use Rattle.stream_check.specs.declared.messages.action.Action.{Action}
use Rattle.stream_check.specs.declared.messages.action.Action.TheVariants.{Create, Delete, Read}
use Rattle.stream_check.specs.declared.messages.timed_stage.TimedStage.{TimedStage}
use Rattle.stream_check.specs.declared.messages.timed_stage.TimedStage.TheVariants.{Start, Progress, Complete, Errored}
use Rattle.stream_check.specs.declared.rules.fault.Fault.{Fault}
use Rattle.stream_check.specs.declared.rules.fault.Fault.TheVariants.{AfterSummary, LeavesProvisioner, NoVersion, NotLater, NotPlanned, TooMany}
use Rattle.stream_check.specs.declared.rules.pending.Pending.{Pending}
use Rattle.stream_check.specs.declared.rules.pending.Pending.TheVariants.{One, Several}
use Rattle.stream_check.specs.declared.rules.address_state.AddressState.{AddressState}
use Rattle.stream_check.specs.Course.{after, begun, ended, max_overlap, progressed}
use Rattle.stream_check.specs.Lines.{after_version, is_beyond_plan, next, within_plan}
use Rattle.stream_check.specs.Message.{Message, diagnostic, step}
use Rattle.stream_check.specs.Results.{◌>>=◌}
use Rattle.stream_check.specs.AddressState.{failures_cleared, may_provision, pending_at, state_of, step_on, unless_provisioner_left, failed_by, with_pending}
use Rattle.stream_check.specs.Tally.{begins, is_begin, is_summary, is_version, line_of}
use Rattle.stream_check.specs.Words.{same_action}
use Rattle.stream_check.proofs.Actions.{same_is}
use Rattle.stream_check.proofs.WholeStream.{bind_ok}
use Rattle.laws_check.proofs.FormPendings.{BothOk, Covers, HasRoom, IsCovered, IsSame, Matches, held, left_covered, matches_after}
use Rattle.laws_check.proofs.Moves.{by_address}
use Rattle.laws_check.proofs.Standings.{diagnostic_elsewhere, diagnostic_there, explained_keeps, next_after, pending_other, pending_same, provisioner_verbatim, provisioner_same, step_elsewhere, step_in, step_is, step_there}

-- what stands open at an address in both forms
pub record AreMatched (s t : AddressState) : Type 0 where
  pub pending : (k : Action) → Matches k (pending_at k s) (pending_at k t)
  pub provisioner : is_some s.provisioner ≡ is_some t.provisioner

-- ---- a step that was accepted

-- a message of this stage was accepted for action k: what is pending then, and no provisioner is
-- left
pub record WasStepped (k : Action) (stage : TimedStage) (line : ℕ) (s : AddressState) : Type 0 where
  pub pending : Option Pending
  pub is : after k stage line (pending_at k s) ≡ Ok pending
  pub within : is_some s.provisioner ≡ true → may_provision (step_in k stage line pending s) ≡ true

pub stepped_by : (k : Action) (stage : TimedStage) (line : ℕ) (s t : AddressState) → step_on k stage line s ≡ Ok t → WasStepped k stage line s
stepped_by k stage line s t e = of_after (after k stage line (pending_at k s)) refl e
  where
    of_left : (p : Option Pending) (o : Option ℕ) → unless_provisioner_left o (step_in k stage line p s) ≡ Ok t → is_some o ≡ true → may_provision (step_in k stage line p s) ≡ true
    of_left p None f some = absurd cc
    of_left p (Some begin) f some = of_test (may_provision (step_in k stage line p s)) f
      where
        of_test : (b : Bool) → cond b (Ok (step_in k stage line p s)) (Err (LeavesProvisioner begin)) ≡ Ok t → b ≡ true
        of_test true g = refl
        of_test false g = absurd cc

    of_after : (r : Result (Option Pending) Fault) → after k stage line (pending_at k s) ≡ r → (r >>= λ pending. unless_provisioner_left s.provisioner (failed_by k stage line (with_pending k pending s))) ≡ Ok t → WasStepped k stage line s
    of_after (Ok p) is f = record { pending = p; is = is; within = of_left p s.provisioner f }
    of_after (Err fault) is f = absurd cc

-- the answer to a message that has to come after the version and before a summary
pub behind_version : {A E : Type 0} (o : Option ℕ) (f : ℕ → Result A E) (fault : E) (x : A) → option_map_or f o (Err fault) ≡ Ok x → (first : ℕ) × (f first ≡ Ok x)
behind_version None f fault x e = absurd cc
behind_version (Some first) f fault x e = (first, e)

pub before_end : (o : Option ℕ) (answer : Result (List Message) Fault) (later : List Message) → option_map_or (λ line. Err (AfterSummary line)) o answer ≡ Ok later → answer ≡ Ok later
before_end None answer later e = e
before_end (Some line) answer later e = absurd cc

-- a step's message that was accepted
pub was_stepped : (a : List ℕ) (k : Action) (stage : TimedStage) (ms later : List Message) → next ms (step a k stage) ≡ Ok later → WasStepped k stage (length ms + 1) (state_of a ms)
was_stepped a k stage ms later e =
    let s = state_of a ms in
    let there = behind_version (line_of is_version ms) (λ first. after_version ms first (step a k stage)) NoVersion later e in
    let answer = before_end (line_of is_summary ms) (step_on k stage (length ms + 1) s >>= λ state. within_plan k stage ms (fine (step a k stage ∷ ms))) later there.1 in
    let stood = bind_ok (step_on k stage (length ms + 1) s) (λ state. within_plan k stage ms (fine (step a k stage ∷ ms))) later answer in
    stepped_by k stage (length ms + 1) s stood.0 stood.1
  where
    fine : List Message → Result (List Message) Fault
    fine l = Ok l

-- ---- the messages so far

-- the messages in the default form and in Terraform's form, the latest first
pub record AreAlike (ms ns : List Message) : Type 0 where
  pub begun : is_some (line_of is_version ns) ≡ true
  pub unsummed : line_of is_summary ns ≡ None
  pub state : (a : List ℕ) → AreMatched (state_of a ms) (state_of a ns)
  pub reads : (a : List ℕ) → held (state_of a ns).read ≤ count_by (begins Read) ns

both_ok : (k : Action) (p : Option Pending) (r : Result (Option Pending) Fault) → BothOk (Matches k) (Ok p) r → (q : Option Pending) × (r ≡ Ok q) × Matches k p q
both_ok k p (Ok q) h = (q, refl, h)
both_ok k p (Err fault) h = absurd h

some_same : (k : Action) → (k ≡ Create) ⊎ (k ≡ Delete) → (p q : Option Pending) → Matches k p q → is_some p ≡ is_some q
some_same k holds p q h =
    ⊎_elim
    (λ (creates : k ≡ Create). at p q (subst (λ (m : Action). Matches m p q) creates h))
    (λ (deletes : k ≡ Delete). at p q (subst (λ (m : Action). Matches m p q) deletes h))
    holds
  where
    at : (p q : Option Pending) → IsSame p q → is_some p ≡ is_some q
    at None None h = refl
    at None (Some q) h = absurd h
    at (Some p) None h = absurd h
    at (Some p) (Some q) h = refl

pub may_same : (s t : AddressState) → ((k : Action) → Matches k (pending_at k s) (pending_at k t)) → may_provision s ≡ may_provision t
may_same s t h = ap₂ (λ (a b : Bool). a || b) (some_same Create (inl refl) s.create t.create (h Create)) (some_same Delete (inr refl) s.delete t.delete (h Delete))

and_true : (b : Bool) → (b && true) ≡ b
and_true true = refl
and_true false = refl

-- an answer that leaves so many open at most
abbrev LeavesMost : ℕ → Result (Option Pending) Fault → Type 0
LeavesMost n (Ok q) = held q ≤ n
LeavesMost n (Err fault) = Unit {0}

none_more : (seconds : ℕ) (p : Option Pending) → LeavesMost (held p + 0) (ended seconds p)
none_more seconds None = tt
none_more seconds (Some (One b t l)) = either (nat_lt seconds t)
  where
    either : (o : Bool) → LeavesMost (1 + 0) (cond o (Err (NotLater l)) (Ok None))
    either true = tt
    either false = omega arith
none_more seconds (Some (Several b n)) = either (nat_lt 1 n)
  where
    either : (o : Bool) → LeavesMost (n + 0) (cond o (Ok (Some (Several b (n - 1)))) (Ok None))
    either true = omega arith
    either false = omega arith

one_begun : (line : ℕ) (p : Option Pending) → LeavesMost (held p + 1) (begun Read line p)
one_begun line None = omega arith
one_begun line (Some (One b t l)) = omega arith
one_begun line (Some (Several b n)) = either (nat_lt n max_overlap)
  where
    either : (o : Bool) → LeavesMost (n + 1) (cond o (Ok (Some (Several b (n + 1)))) (Err (TooMany b)))
    either true = omega arith
    either false = tt

none_progressed : (seconds line : ℕ) (p : Option Pending) → LeavesMost (held p + 0) (progressed seconds line p)
none_progressed seconds line None = tt
none_progressed seconds line (Some (One b t l)) = either (nat_lt t seconds)
  where
    either : (o : Bool) → LeavesMost (1 + 0) (cond o (Ok (Some (One b seconds line))) (Err (NotLater l)))
    either true = omega arith
    either false = tt
none_progressed seconds line (Some (Several b n)) = omega arith

-- one read more stands open at most, where one begins
pub grown_by : (stage : TimedStage) (line : ℕ) (p q : Option Pending) → after Read stage line p ≡ Ok q → held q ≤ held p + cond (is_begin stage) 1 0
grown_by stage line p q e = of_answer (after Read stage line p) e (at stage)
  where
    of_answer : (r : Result (Option Pending) Fault) → r ≡ Ok q → LeavesMost (held p + cond (is_begin stage) 1 0) r → held q ≤ held p + cond (is_begin stage) 1 0
    of_answer (Ok x) f h = subst (λ (o : Option Pending). held o ≤ held p + cond (is_begin stage) 1 0) (let same : x ≡ q = cc in same) h
    of_answer (Err fault) f h = absurd cc

    at : (stage : TimedStage) → LeavesMost (held p + cond (is_begin stage) 1 0) (after Read stage line p)
    at Start = one_begun line p
    at (Progress s) = none_progressed s line p
    at (Complete s) = none_more s p
    at (Errored s) = none_more s p

module _ (a : List ℕ) (k : Action) (stage : TimedStage) (ms ns : List Message) (alike : AreAlike ms ns) (was : WasStepped k stage (length ms + 1) (state_of a ms)) (room : HasRoom k stage (pending_at k (state_of a ns))) where
  stepped_too : (q : Option Pending) × (after k stage (length ns + 1) (pending_at k (state_of a ns)) ≡ Ok q) × Matches k was.pending q
  stepped_too =
      both_ok k was.pending (after k stage (length ns + 1) (pending_at k (state_of a ns)))
      (subst (λ (r : Result (Option Pending) Fault). BothOk (Matches k) r (after k stage (length ns + 1) (pending_at k (state_of a ns)))) was.is
      (matches_after k stage (length ms + 1) (length ns + 1) (pending_at k (state_of a ms)) (pending_at k (state_of a ns)) room ((alike.state a).pending k)))

  matched_here : (q : Option Pending) → Matches k was.pending q → (l : Action) → Matches l (pending_at l (step_in k stage (length ms + 1) was.pending (state_of a ms))) (pending_at l (step_in k stage (length ns + 1) q (state_of a ns)))
  matched_here q h l =
      ⊎_elim
      (λ yes.
      let here : Matches k (pending_at k (step_in k stage (length ms + 1) was.pending (state_of a ms))) (pending_at k (step_in k stage (length ns + 1) q (state_of a ns))) =
      subst (λ (o : Option Pending). Matches k o (pending_at k (step_in k stage (length ns + 1) q (state_of a ns)))) (sym (pending_same k stage (length ms + 1) was.pending (state_of a ms)))
      (subst (λ (o : Option Pending). Matches k was.pending o) (sym (pending_same k stage (length ns + 1) q (state_of a ns))) h) in
      subst (λ (m : Action). Matches m (pending_at m (step_in k stage (length ms + 1) was.pending (state_of a ms))) (pending_at m (step_in k stage (length ns + 1) q (state_of a ns)))) (same_is k l yes) here)
      (λ no.
      subst (λ (o : Option Pending). Matches l o (pending_at l (step_in k stage (length ns + 1) q (state_of a ns)))) (sym (pending_other k l stage (length ms + 1) was.pending (state_of a ms) no))
      (subst (λ (o : Option Pending). Matches l (pending_at l (state_of a ms)) o) (sym (pending_other k l stage (length ns + 1) q (state_of a ns) no)) ((alike.state a).pending l)))
      (cases_Bool (same_action k l))

  step_here : (q : Option Pending) → after k stage (length ns + 1) (pending_at k (state_of a ns)) ≡ Ok q → Matches k was.pending q → step_on k stage (length ns + 1) (state_of a ns) ≡ Ok (step_in k stage (length ns + 1) q (state_of a ns))
  step_here q is h =
      step_is k stage (length ns + 1) q (state_of a ns)
      (λ some.
      sym (may_same (step_in k stage (length ms + 1) was.pending (state_of a ms)) (step_in k stage (length ns + 1) q (state_of a ns)) (matched_here q h))
      ∙ was.within ((alike.state a).provisioner ∙ some))
      is

  -- what stands open then, at each address
  stands : (q : Option Pending) → after k stage (length ns + 1) (pending_at k (state_of a ns)) ≡ Ok q → Matches k was.pending q → (b : List ℕ) → AreMatched (state_of b (step a k stage ∷ ms)) (state_of b (step a k stage ∷ ns))
  stands q is h =
      by_address (λ b. AreMatched (state_of b (step a k stage ∷ ms)) (state_of b (step a k stage ∷ ns))) a
      (let one = step_there a k stage (step_in k stage (length ms + 1) was.pending (state_of a ms)) ms (step_is k stage (length ms + 1) was.pending (state_of a ms) was.within was.is) in
      let other = step_there a k stage (step_in k stage (length ns + 1) q (state_of a ns)) ns (step_here q is h) in
      subst (λ (x : AddressState). AreMatched x (state_of a (step a k stage ∷ ns))) (sym one)
      (subst (λ (x : AddressState). AreMatched (step_in k stage (length ms + 1) was.pending (state_of a ms)) x) (sym other)
      (record {
        pending = matched_here q h;
        provisioner = ap is_some (provisioner_same k stage (length ms + 1) was.pending (state_of a ms)) ∙ (alike.state a).provisioner ∙ sym (ap is_some (provisioner_same k stage (length ns + 1) q (state_of a ns)));
      })))
      (λ b no.
      subst (λ (x : AddressState). AreMatched x (state_of b (step a k stage ∷ ns))) (sym (step_elsewhere a k stage ms b no))
      (subst (λ (x : AddressState). AreMatched (state_of b ms) x) (sym (step_elsewhere a k stage ns b no)) (alike.state b)))

  -- the message is accepted
  next_step : is_beyond_plan k stage ns ≡ false → (q : Option Pending) → after k stage (length ns + 1) (pending_at k (state_of a ns)) ≡ Ok q → Matches k was.pending q → next ns (step a k stage) ≡ Ok (step a k stage ∷ ns)
  next_step fits q is h =
      let later = step a k stage ∷ ns in
      next_after ns (step a k stage) alike.begun (λ first.
      ap (λ (o : Option ℕ). option_map_or (λ line. Err (AfterSummary line)) o (step_on k stage (length ns + 1) (state_of a ns) >>= λ state. within_plan k stage ns (fine later))) alike.unsummed
      ∙ ap (λ (r : Result AddressState Fault). r >>= λ state. within_plan k stage ns (fine later)) (step_here q is h)
      ∙ ap (λ (b : Bool). cond b (Err NotPlanned) (fine later)) fits)
    where
      fine : List Message → Result (List Message) Fault
      fine l = Ok l

  -- reads that stand open have begun
  reads_here : (q : Option Pending) → after k stage (length ns + 1) (pending_at k (state_of a ns)) ≡ Ok q → Matches k was.pending q → (b : List ℕ) → held (state_of b (step a k stage ∷ ns)).read ≤ count_by (begins Read) (step a k stage ∷ ns)
  reads_here q is h =
      by_address (λ b. held (state_of b (step a k stage ∷ ns)).read ≤ count_by (begins Read) (step a k stage ∷ ns)) a
      (subst (λ (x : AddressState). held x.read ≤ count_by (begins Read) (step a k stage ∷ ns)) (sym (step_there a k stage (step_in k stage (length ns + 1) q (state_of a ns)) ns (step_here q is h)))
      (⊎_elim
      (λ (yes : same_action k Read ≡ true).
      let reads : k ≡ Read = same_is k Read yes in
      let there : held (step_in k stage (length ns + 1) q (state_of a ns)).read ≡ held q = ap held (ap (λ (m : Action). pending_at m (step_in k stage (length ns + 1) q (state_of a ns))) (sym reads) ∙ pending_same k stage (length ns + 1) q (state_of a ns)) in
      let before : held (state_of a ns).read ≤ count_by (begins Read) ns = alike.reads a in
      let grown = grown_by stage (length ns + 1) (state_of a ns).read q (ap (λ (m : Action). after m stage (length ns + 1) (pending_at m (state_of a ns))) (sym reads) ∙ is) in
      let all = sum_by-cons (λ m. cond (begins Read m) 1 0) (step a k stage) ns in
      let first : cond {A = ℕ} (begins Read (step a k stage)) 1 0 ≡ cond (is_begin stage) 1 0 = ap (λ (b : Bool). cond b 1 0) (ap (λ (b : Bool). is_begin stage && b) yes ∙ and_true (is_begin stage)) in
      omega arith)
      (λ (no : same_action k Read ≡ false).
      let there : held (step_in k stage (length ns + 1) q (state_of a ns)).read ≡ held (state_of a ns).read = ap held (pending_other k Read stage (length ns + 1) q (state_of a ns) no) in
      let before : held (state_of a ns).read ≤ count_by (begins Read) ns = alike.reads a in
      let all = sum_by-cons (λ m. cond (begins Read m) 1 0) (step a k stage) ns in
      omega arith)
      (cases_Bool (same_action k Read))))
      (λ b no.
      let there : held (state_of b (step a k stage ∷ ns)).read ≡ held (state_of b ns).read = ap (λ (x : AddressState). held x.read) (step_elsewhere a k stage ns b no) in
      let before : held (state_of b ns).read ≤ count_by (begins Read) ns = alike.reads b in
      let all = sum_by-cons (λ m. cond (begins Read m) 1 0) (step a k stage) ns in
      omega arith)

  -- a message about a step that both forms have
  pub both_step : is_beyond_plan k stage ns ≡ false → (next ns (step a k stage) ≡ Ok (step a k stage ∷ ns)) × AreAlike (step a k stage ∷ ms) (step a k stage ∷ ns)
  both_step fits =
      let too = stepped_too in (
        next_step fits too.0 too.1 too.2,
        record { begun = alike.begun; unsummed = alike.unsummed; state = stands too.0 too.1 too.2; reads = reads_here too.0 too.1 too.2 },
      )

-- ---- a read that failed: only the default form has its end

pub silent_step : (a : List ℕ) (seconds : ℕ) (ms ns : List Message) → AreAlike ms ns → WasStepped Read (Errored seconds) (length ms + 1) (state_of a ms) → AreAlike (step a Read (Errored seconds) ∷ ms) ns
silent_step a seconds ms ns alike was = record {
  begun = alike.begun;
  unsummed = alike.unsummed;
  reads = alike.reads;
  state = by_address (λ b. AreMatched (state_of b (step a Read (Errored seconds) ∷ ms)) (state_of b ns)) a
      (subst (λ (x : AddressState). AreMatched x (state_of a ns)) (sym (step_there a Read (Errored seconds) new ms (step_is Read (Errored seconds) (length ms + 1) was.pending (state_of a ms) was.within was.is)))
      (record {
        pending = λ l. ⊎_elim
            (λ yes. subst (λ (m : Action). Matches m (pending_at m new) (pending_at m (state_of a ns))) (same_is Read l yes)
            (subst (λ (o : Option Pending). IsCovered o (state_of a ns).read) (sym (pending_same Read (Errored seconds) (length ms + 1) was.pending (state_of a ms)))
            (left_over (after Read (Errored seconds) (length ms + 1) (state_of a ms).read) was.is (left_covered seconds (state_of a ms).read (state_of a ns).read ((alike.state a).pending Read)))))
            (λ no. subst (λ (o : Option Pending). Matches l o (pending_at l (state_of a ns))) (sym (pending_other Read l (Errored seconds) (length ms + 1) was.pending (state_of a ms) no)) ((alike.state a).pending l))
            (cases_Bool (same_action Read l));
        provisioner = ap is_some (provisioner_same Read (Errored seconds) (length ms + 1) was.pending (state_of a ms)) ∙ (alike.state a).provisioner;
      }))
      (λ b no. subst (λ (x : AddressState). AreMatched x (state_of b ns)) (sym (step_elsewhere a Read (Errored seconds) ms b no)) (alike.state b));
}
  where
    new : AddressState
    new = step_in Read (Errored seconds) (length ms + 1) was.pending (state_of a ms)

    left_over : (r : Result (Option Pending) Fault) → r ≡ Ok was.pending → Covers (state_of a ns).read r → IsCovered was.pending (state_of a ns).read
    left_over (Ok p) e h = subst (λ (o : Option Pending). IsCovered o (state_of a ns).read) (let same : p ≡ was.pending = cc in same) h
    left_over (Err fault) e h = absurd cc

-- ---- a diagnostic, whose address Terraform's form may leave out

-- the diagnostic explains failures at the address, or changes nothing
abbrev IsExplained : Bool → AddressState → AddressState → Type 0
IsExplained e s t = (t ≡ s) ⊎ (t ≡ failures_cleared e s)

pub both_diagnostic : (a : List ℕ) (e : Bool) (noted : Option (List ℕ)) (ms ns : List Message) → AreAlike ms ns → (next ns (diagnostic e noted) ≡ Ok (diagnostic e noted ∷ ns)) × AreAlike (diagnostic e (Some a) ∷ ms) (diagnostic e noted ∷ ns)
unfolding state_of
both_diagnostic a e noted ms ns alike = (
  next_after ns (diagnostic e noted) alike.begun (λ first. refl),
  record {
    begun = alike.begun;
    unsummed = alike.unsummed;
    state = λ b. explained_both b (seen_default b) (seen_form noted b);
    reads = λ b. let before = alike.reads b in let same = read_same noted b in let all = sum_by-cons (λ m. cond (begins Read m) 1 0) (diagnostic e noted) ns in omega arith;
  },
)
  where
    seen_default : (b : List ℕ) → IsExplained e (state_of b ms) (state_of b (diagnostic e (Some a) ∷ ms))
    seen_default b = by_address (λ b. IsExplained e (state_of b ms) (state_of b (diagnostic e (Some a) ∷ ms))) a (inr (diagnostic_there a e ms)) (λ b no. inl (diagnostic_elsewhere a e ms b no)) b

    seen_form : (noted : Option (List ℕ)) (b : List ℕ) → IsExplained e (state_of b ns) (state_of b (diagnostic e noted ∷ ns))
    seen_form None b = inl refl
    seen_form (Some c) b = by_address (λ b. IsExplained e (state_of b ns) (state_of b (diagnostic e (Some c) ∷ ns))) c (inr (diagnostic_there c e ns)) (λ b no. inl (diagnostic_elsewhere c e ns b no)) b

    preserved : (k : Action) (s t : AddressState) → IsExplained e s t → pending_at k t ≡ pending_at k s
    preserved k s t (inl same) = ap (pending_at k) same
    preserved k s t (inr is) = ap (pending_at k) is ∙ explained_keeps k e s

    verbatim_provisioner : (s t : AddressState) → IsExplained e s t → is_some t.provisioner ≡ is_some s.provisioner
    verbatim_provisioner s t (inl same) = ap (λ (x : AddressState). is_some x.provisioner) same
    verbatim_provisioner s t (inr is) = ap (λ (x : AddressState). is_some x.provisioner) is ∙ ap is_some (provisioner_verbatim e s)

    read_same : (noted : Option (List ℕ)) (b : List ℕ) → held (state_of b (diagnostic e noted ∷ ns)).read ≡ held (state_of b ns).read
    read_same noted b = ap held (preserved Read (state_of b ns) (state_of b (diagnostic e noted ∷ ns)) (seen_form noted b))

    explained_both : (b : List ℕ) → IsExplained e (state_of b ms) (state_of b (diagnostic e (Some a) ∷ ms)) → IsExplained e (state_of b ns) (state_of b (diagnostic e noted ∷ ns))
        → AreMatched (state_of b (diagnostic e (Some a) ∷ ms)) (state_of b (diagnostic e noted ∷ ns))
    explained_both b one other = record {
      pending = λ k.
          subst (λ (o : Option Pending). Matches k o (pending_at k (state_of b (diagnostic e noted ∷ ns)))) (sym (preserved k (state_of b ms) (state_of b (diagnostic e (Some a) ∷ ms)) one))
          (subst (λ (o : Option Pending). Matches k (pending_at k (state_of b ms)) o) (sym (preserved k (state_of b ns) (state_of b (diagnostic e noted ∷ ns)) other)) ((alike.state b).pending k));
      provisioner = verbatim_provisioner (state_of b ms) (state_of b (diagnostic e (Some a) ∷ ms)) one ∙ (alike.state b).provisioner
          ∙ sym (verbatim_provisioner (state_of b ns) (state_of b (diagnostic e noted ∷ ns)) other);
    }
