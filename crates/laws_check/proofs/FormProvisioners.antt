-- Provisioners in two streams that are alike: what one checker accepts of them, the other does.
use Rattle.std.proofs.Common.{◌≡◌, ℕ, ◌+◌, ◌≤◌, ◌∙◌, List, ◌∷◌, length, Bool, true, false, cond, Option, Some, None, Result, Ok, Err, refl, sym, ap, subst, is_some, count_by, arith}
use Rattle.std.specs.Option.{option_map_or}
use Rattle.std.proofs.lemmas.List.Sums.{sum_by-cons}
use Rattle.stream_check.specs.declared.messages.action.Action.TheVariants.{Read}
use Rattle.stream_message.specs.declared.stage.Stage.{Stage}
use Rattle.stream_message.specs.declared.stage.Stage.TheVariants as stage
use Rattle.stream_check.specs.declared.rules.fault.Fault.{Fault}
use Rattle.stream_check.specs.declared.rules.fault.Fault.TheVariants.{AfterSummary, NoStep, NoVersion}
use Rattle.stream_check.specs.declared.rules.pending.Pending.{Pending}
use Rattle.stream_check.specs.declared.rules.address_state.AddressState.{AddressState}
use Rattle.stream_check.specs.Lines.{after_version, next}
use Rattle.stream_check.specs.Message.{Message, provision}
use Rattle.stream_check.specs.Results.{◌>>=◌}
use Rattle.stream_check.specs.AddressState.{may_provision, pending_at, provision_on, provisioned, state_of}
use Rattle.stream_check.specs.Tally.{begins, is_summary, is_version, line_of}
use Rattle.stream_check.proofs.WholeStream.{bind_ok}
use Rattle.laws_check.proofs.FormMatches.{AreAlike, AreMatched, before_end, behind_version, may_same}
use Rattle.laws_check.proofs.FormPendings.{Matches, held}
use Rattle.laws_check.proofs.Moves.{by_address}
use Rattle.laws_check.proofs.Standings.{next_after, pending_still, provision_elsewhere, provision_is, provision_there, provisioner_in}

-- what runs then
pub record WasProvisioned (stage : Stage) (line : ℕ) (s : AddressState) : Type 0 where
  running : Option ℕ
  may : may_provision s ≡ true
  is : provisioned stage line s.provisioner ≡ Ok running

provisioned_by : (stage : Stage) (line : ℕ) (s t : AddressState) → provision_on stage line s ≡ Ok t → WasProvisioned stage line s
provisioned_by stage line s t e = of_test (may_provision s) refl e
  where
    of_test : (b : Bool) → may_provision s ≡ b → cond b (provisioned stage line s.provisioner >>= λ running. Ok (provisioner_in running s)) (Err NoStep) ≡ Ok t → WasProvisioned stage line s
    of_test true is f = let first = bind_ok (provisioned stage line s.provisioner) (λ running. Ok (provisioner_in running s)) t f in record { running = first.0; may = is; is = first.1 }
    of_test false is f = absurd cc

pub was_provisioned : (a : List ℕ) (stage : Stage) (ms later : List Message) → next ms (provision a stage) ≡ Ok later → WasProvisioned stage (length ms + 1) (state_of a ms)
was_provisioned a stage ms later e =
    let s = state_of a ms in
    let there = behind_version (line_of is_version ms) (λ first. after_version ms first (provision a stage)) NoVersion later e in
    let answer = before_end (line_of is_summary ms) (provision_on stage (length ms + 1) s >>= λ state. fine (provision a stage ∷ ms)) later there.1 in
    let stood = bind_ok (provision_on stage (length ms + 1) s) (λ state. fine (provision a stage ∷ ms)) later answer in
    provisioned_by stage (length ms + 1) s stood.0 stood.1
  where
    fine : List Message → Result (List Message) Fault
    fine l = Ok l

-- a provisioner that runs or does not in both forms goes on alike
goes_alike : (given : Stage) (line other : ℕ) (o p r : Option ℕ) → is_some o ≡ is_some p → provisioned given line o ≡ Ok r → (q : Option ℕ) × (provisioned given other p ≡ Ok q) × (is_some r ≡ is_some q)
goes_alike stage.Start line other None None r h e = (Some other, refl, let same : Some line ≡ r = cc in sym (ap is_some same))
goes_alike stage.Start line other (Some b) p r h e = absurd cc
goes_alike stage.Start line other None (Some c) r h e = absurd cc
goes_alike stage.Progress line other None p r h e = absurd cc
goes_alike stage.Progress line other (Some b) None r h e = absurd cc
goes_alike stage.Progress line other (Some b) (Some c) r h e = (Some c, refl, let same : Some b ≡ r = cc in sym (ap is_some same))
goes_alike stage.Complete line other None p r h e = absurd cc
goes_alike stage.Complete line other (Some b) None r h e = absurd cc
goes_alike stage.Complete line other (Some b) (Some c) r h e = (None, refl, let same : None ≡ r = cc in sym (ap is_some same))
goes_alike stage.Errored line other None p r h e = absurd cc
goes_alike stage.Errored line other (Some b) None r h e = absurd cc
goes_alike stage.Errored line other (Some b) (Some c) r h e = (None, refl, let same : None ≡ r = cc in sym (ap is_some same))

pub both_provision : (a : List ℕ) (given : Stage) (ms ns : List Message) → AreAlike ms ns → WasProvisioned given (length ms + 1) (state_of a ms)
    → (next ns (provision a given) ≡ Ok (provision a given ∷ ns)) × AreAlike (provision a given ∷ ms) (provision a given ∷ ns)
both_provision a given ms ns alike was =
    let s = state_of a ms in
    let t = state_of a ns in
    let too = goes_alike given (length ms + 1) (length ns + 1) s.provisioner t.provisioner was.running (alike.state a).provisioner was.is in
    let may : may_provision t ≡ true = sym (may_same s t (alike.state a).pending) ∙ was.may in
    let on : provision_on given (length ns + 1) t ≡ Ok (provisioner_in too.0 t) = provision_is given (length ns + 1) t t.provisioner too.0 may refl too.1 in
    let was_on : provision_on given (length ms + 1) s ≡ Ok (provisioner_in was.running s) = provision_is given (length ms + 1) s s.provisioner was.running was.may refl was.is in
    let one = provision_there a given (provisioner_in was.running s) ms was_on in
    let other = provision_there a given (provisioner_in too.0 t) ns on in (
      next_after ns (provision a given) alike.begun (λ first.
          ap (λ (o : Option ℕ). option_map_or (λ line. Err (AfterSummary line)) o (provision_on given (length ns + 1) t >>= λ state. fine (provision a given ∷ ns))) alike.unsummed
          ∙ ap (λ (r : Result AddressState Fault). r >>= λ state. fine (provision a given ∷ ns)) on),
      record {
        begun = alike.begun;
        unsummed = alike.unsummed;
        state = by_address (λ b. AreMatched (state_of b (provision a given ∷ ms)) (state_of b (provision a given ∷ ns))) a
            (subst (λ (x : AddressState). AreMatched x (state_of a (provision a given ∷ ns))) (sym one)
            (subst (λ (x : AddressState). AreMatched (provisioner_in was.running s) x) (sym other)
            (record {
              pending = λ k.
                  subst (λ (o : Option Pending). Matches k o (pending_at k (provisioner_in too.0 t))) (sym (pending_still k was.running s))
                  (subst (λ (o : Option Pending). Matches k (pending_at k s) o) (sym (pending_still k too.0 t)) ((alike.state a).pending k));
              provisioner = too.2;
            })))
            (λ b no.
            subst (λ (x : AddressState). AreMatched x (state_of b (provision a given ∷ ns))) (sym (provision_elsewhere a given ms b no))
            (subst (λ (x : AddressState). AreMatched (state_of b ms) x) (sym (provision_elsewhere a given ns b no)) (alike.state b)));
        reads = by_address (λ b. held (state_of b (provision a given ∷ ns)).read ≤ count_by (begins Read) (provision a given ∷ ns)) a
            (let there : held (state_of a (provision a given ∷ ns)).read ≡ held t.read = ap (λ (x : AddressState). held x.read) other in
            let before = alike.reads a in let all = sum_by-cons (λ m. cond (begins Read m) 1 0) (provision a given) ns in omega arith)
            (λ b no.
            let there : held (state_of b (provision a given ∷ ns)).read ≡ held (state_of b ns).read = ap (λ (x : AddressState). held x.read) (provision_elsewhere a given ns b no) in
            let before = alike.reads b in let all = sum_by-cons (λ m. cond (begins Read m) 1 0) (provision a given) ns in omega arith);
      },
    )
  where
    fine : List Message → Result (List Message) Fault
    fine l = Ok l
