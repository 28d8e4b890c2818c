-- One event more: the checker accepts its message, and stands where the changes stand.
use Rattle.std.proofs.Common.{◌≡◌, ◌≢◌, ℕ, ◌+◌, ◌<◌, List, ◌∷◌, length, Bool, true, false, cond, Option, Some, None, Ok, refl, sym, ap, ◌∙◌, subst, ◌⊎◌, ⊎_elim, bytes_eq, is_some}
use Rattle.std.proofs.lemmas.Bool.{both_ways, cases_Bool, cases_eq}
use Rattle.std.proofs.lemmas.Option.{cond_some}
use Rattle.std.proofs.lemmas.Slice.Eq.{bytes_eq-Decides}
use Rattle.stream_check.specs.declared.messages.action.Action.{Action}
use Rattle.stream_check.specs.declared.messages.action.Action.TheVariants.{Delete}
use Rattle.stream_message.specs.declared.stage.Stage.{Stage}
use Rattle.stream_check.specs.declared.rules.pending.Pending.{Pending}
use Rattle.stream_check.specs.declared.rules.address_state.AddressState.{AddressState}
use Rattle.stream_check.specs.declared.messages.timed_stage.TimedStage.{TimedStage}
use Rattle.stream_check.specs.Course.{after}
use Rattle.stream_check.specs.Lines.{next}
use Rattle.stream_check.specs.Message.{Message, step, provision, diagnostic}
use Rattle.stream_check.specs.AddressState.{failures_cleared, may_provision, pending_at, provision_on, state_of, step_on}
use Rattle.stream_check.specs.Words.{same_action}
use Rattle.stream_check.proofs.Actions.{same_is}
use Rattle.laws_check.proofs.Fitting.{MatchesPending, fits_same, something_open}
use Rattle.laws_check.proofs.Phases.{IsProvisioning, Phase, between, under_way, unexplained, put, put_elsewhere, put_here, seconds_in, shown, shown_same}
use Rattle.laws_check.proofs.Standings.{IsAmid, IsNoFailure, diagnostic_elsewhere, diagnostic_there, explained_keeps, failures_same, may_hold, next_diagnostic, next_provision, next_step, pending_other, pending_same, pending_still, provision_elsewhere, provision_there, provisioner_in, provisioner_verbatim, provisioner_same, same_itself, same_text, step_elsewhere, step_in, step_is, step_there}

-- after the messages the checker's state at each of these addresses matches the changes below the
-- limit
pub record Agrees (limit : ℕ) (addresses : ℕ → List ℕ) (Within : List ℕ → Type 0) (Does : ℕ → Action → Type 0) (Provides : ℕ → Type 0) (phases : ℕ → Phase) (ms : List Message) : Type 0 where
  pub open_steps : (a : List ℕ) (k : Action) → Within a → MatchesPending limit k (shown addresses phases a k) (pending_at k (state_of a ms))
  -- a provisioner is under way at an address exactly where it is in a change of that address
  pub provisioners : (a : List ℕ) → Within a → is_some (state_of a ms).provisioner ≡ true → (c : ℕ) × (c < limit) × (addresses c ≡ a) × IsProvisioning (phases c)
  pub provisioning : (c : ℕ) → c < limit → Within (addresses c) → IsProvisioning (phases c) → is_some (state_of (addresses c) ms).provisioner ≡ true
  pub failures : (a : List ℕ) → Within a → is_some (state_of a ms).failures ≡ true → (c : ℕ) × (c < limit) × (addresses c ≡ a) × (phases c ≡ unexplained)
  pub does : (c t : ℕ) (k : Action) (b : Bool) → phases c ≡ under_way k t b → Does c k
  pub provides : (c : ℕ) → IsProvisioning (phases c) → Provides c
  pub amid : IsAmid ms

-- two changes of one address have the same action only if the action is a delete
abbrev pub Apart : (addresses : ℕ → List ℕ) (Does : ℕ → Action → Type 0) → Type 0
Apart addresses Does = (b c : ℕ) (k : Action) → addresses b ≡ addresses c → Does b k → Does c k → b ≢ c → k ≡ Delete

-- at most one change of an address may have provisioners
abbrev pub Sole : (addresses : ℕ → List ℕ) (Provides : ℕ → Type 0) → Type 0
Sole addresses Provides = (b c : ℕ) → addresses b ≡ addresses c → Provides b → Provides c → b ≡ c

-- ---- words of phases

pub by_address : (Q : List ℕ → Type 0) (a : List ℕ) → Q a → ((b : List ℕ) → bytes_eq a b ≡ false → Q b) → (b : List ℕ) → Q b
by_address Q a here elsewhere b = ⊎_elim (λ yes. subst Q ((bytes_eq-Decides a b).0 yes) here) (λ no. elsewhere b no) (cases_Bool (bytes_eq a b))

pub running : (k : Action) (t : ℕ) (p : Bool) → seconds_in k (under_way k t p) ≡ Some t
running k t p = ap (λ (b : Bool). cond b (some t) None) (same_itself k)
  where
    some : ℕ → Option ℕ
    some n = Some n

pub not_running : (k l : Action) (t : ℕ) (p : Bool) → same_action k l ≡ false → seconds_in l (under_way k t p) ≡ None
not_running k l t p apart = ap (λ (b : Bool). cond b (some t) None) apart
  where
    some : ℕ → Option ℕ
    some n = Some n

seconds_are : (k : Action) (p : Phase) (x : ℕ) → seconds_in k p ≡ Some x → (b : Bool) × (p ≡ under_way k x b)
seconds_are k between x e = absurd cc
seconds_are k unexplained x e = absurd cc
seconds_are k (under_way l t b) x e =
    let located = cond_some (same_action l k) t x e in
    (b, ap (λ (m : Action). under_way m t b) (same_is l k located.0) ∙ ap (λ (n : ℕ). under_way k n b) located.1)

pub shown_is : (addresses : ℕ → List ℕ) (phases : ℕ → Phase) (a : List ℕ) (k : Action) (b x : ℕ) → shown addresses phases a k b ≡ Some x → (addresses b ≡ a) × (t : Bool) × (phases b ≡ under_way k x t)
shown_is addresses phases a k b x e =
    let located = guarded (bytes_eq (addresses b) a) (seconds_in k (phases b)) x e in
    let is = seconds_are k (phases b) x located.1 in
    ((bytes_eq-Decides (addresses b) a).0 located.0, is.0, is.1)
  where
    guarded : (t : Bool) (o : Option ℕ) (x : ℕ) → cond t o None ≡ Some x → (t ≡ true) × (o ≡ Some x)
    guarded true o x e = (refl, e)
    guarded false o x e = absurd cc

pub shown_here : (addresses : ℕ → List ℕ) (phases : ℕ → Phase) (k : Action) (c : ℕ) → shown addresses phases (addresses c) k c ≡ seconds_in k (phases c)
shown_here addresses phases k c = ap (λ (t : Bool). cond t (seconds_in k (phases c)) None) (same_text (addresses c))

shown_nowhere : (addresses : ℕ → List ℕ) (phases : ℕ → Phase) (a : List ℕ) (k : Action) (c : ℕ) → bytes_eq (addresses c) a ≡ false → shown addresses phases a k c ≡ None
shown_nowhere addresses phases a k c away = ap (λ (t : Bool). cond t (seconds_in k (phases c)) None) away

-- where change c does not have the action, nothing changes
shown_verbatim : (addresses : ℕ → List ℕ) (phases : ℕ → Phase) (c : ℕ) (q : Phase) (a : List ℕ) (l : Action) → seconds_in l q ≡ seconds_in l (phases c)
    → (b : ℕ) → shown addresses (put phases c q) a l b ≡ shown addresses phases a l b
shown_verbatim addresses phases c q a l e b =
    ⊎_elim
    (λ (here : b ≡ c).
    let at_c : shown addresses (put phases c q) a l c ≡ shown addresses phases a l c = ap (λ (o : Option ℕ). cond (bytes_eq (addresses c) a) o None) (ap (seconds_in l) (put_here phases c q) ∙ e) in
    subst (λ (x : ℕ). shown addresses (put phases c q) a l x ≡ shown addresses phases a l x) (sym here) at_c)
    (λ elsewhere. shown_same addresses phases (put phases c q) a l b (put_elsewhere phases c q b elsewhere))
    (cases_eq b c)

shown_elsewhere : (addresses : ℕ → List ℕ) (phases : ℕ → Phase) (c : ℕ) (q : Phase) (a : List ℕ) (l : Action) → bytes_eq (addresses c) a ≡ false
    → (b : ℕ) → shown addresses (put phases c q) a l b ≡ shown addresses phases a l b
shown_elsewhere addresses phases c q a l away b =
    ⊎_elim
    (λ (here : b ≡ c).
    let at_c : shown addresses (put phases c q) a l c ≡ shown addresses phases a l c = shown_nowhere addresses (put phases c q) a l c away ∙ sym (shown_nowhere addresses phases a l c away) in
    subst (λ (x : ℕ). shown addresses (put phases c q) a l x ≡ shown addresses phases a l x) (sym here) at_c)
    (λ elsewhere. shown_same addresses phases (put phases c q) a l b (put_elsewhere phases c q b elsewhere))
    (cases_eq b c)

module _ (limit : ℕ) (addresses : ℕ → List ℕ) (Within : List ℕ → Type 0) (Does : ℕ → Action → Type 0) (Provides : ℕ → Type 0) where
  -- the message is accepted, and the checker stands where the changes stand then
  abbrev pub Moves : (ℕ → Phase) → List Message → (c : ℕ) → Phase → Message → Type 0
  Moves phases ms c q m = (next ms m ≡ Ok (m ∷ ms)) × Agrees limit addresses Within Does Provides (put phases c q) (m ∷ ms)

  still_does : (phases : ℕ → Phase) (c : ℕ) (q : Phase) → ((b t : ℕ) (l : Action) (p : Bool) → phases b ≡ under_way l t p → Does b l) → ((t : ℕ) (l : Action) (p : Bool) → q ≡ under_way l t p → Does c l)
      → (b t : ℕ) (l : Action) (p : Bool) → put phases c q b ≡ under_way l t p → Does b l
  still_does phases c q old new b t l p e =
      ⊎_elim
      (λ (here : b ≡ c). subst (λ (x : ℕ). Does x l) (sym here) (new t l p (sym (put_here phases c q) ∙ ap (put phases c q) (sym here) ∙ e)))
      (λ elsewhere. old b t l p (sym (put_elsewhere phases c q b elsewhere) ∙ e))
      (cases_eq b c)

  -- the failure of a change that stays unexplained
  still_failed : (phases : ℕ → Phase) (c : ℕ) (q : Phase) (a : List ℕ) → ((b : ℕ) × (b < limit) × (addresses b ≡ a) × (phases b ≡ unexplained)) → ((b : ℕ) → addresses b ≡ a → phases b ≡ unexplained → b ≢ c)
      → (b : ℕ) × (b < limit) × (addresses b ≡ a) × (put phases c q b ≡ unexplained)
  still_failed phases c q a located other = (located.0, located.1, located.2, put_elsewhere phases c q located.0 (other located.0 located.2 located.3) ∙ located.3)

  other_address : (c b : ℕ) (a : List ℕ) → bytes_eq (addresses c) a ≡ false → addresses b ≡ a → b ≢ c
  other_address c b a away there e = both_ways (bytes_eq (addresses c) a) away ((bytes_eq-Decides (addresses c) a).1 (ap addresses (sym e) ∙ there))

  -- a change of the address has a provisioner under way
  abbrev pub Has : (ℕ → Phase) → List ℕ → Type 0
  Has phases a = (d : ℕ) × (d < limit) × (addresses d ≡ a) × IsProvisioning (phases d)

  still_has : (phases : ℕ → Phase) (c : ℕ) (q : Phase) (a : List ℕ) → (IsProvisioning (phases c) → IsProvisioning q) → Has phases a → Has (put phases c q) a
  still_has phases c q a preserved located = (
    located.0,
    located.1,
    located.2,
    ⊎_elim
        (λ (here : located.0 ≡ c). subst IsProvisioning (sym (ap (put phases c q) here ∙ put_here phases c q)) (preserved (subst IsProvisioning (ap phases here) located.3)))
        (λ elsewhere. subst IsProvisioning (sym (put_elsewhere phases c q located.0 elsewhere)) located.3)
        (cases_eq located.0 c),
  )

  had : (phases : ℕ → Phase) (c : ℕ) (q : Phase) (d : ℕ) → (IsProvisioning q → IsProvisioning (phases c)) → IsProvisioning (put phases c q d) → IsProvisioning (phases d)
  had phases c q d back is =
      ⊎_elim
      (λ (here : d ≡ c). subst IsProvisioning (ap phases (sym here)) (back (subst IsProvisioning (ap (put phases c q) here ∙ put_here phases c q) is)))
      (λ elsewhere. subst IsProvisioning (put_elsewhere phases c q d elsewhere) is)
      (cases_eq d c)

  -- then a step stands open there in which it may run
  holder_open : (phases : ℕ → Phase) (a : List ℕ) (s : AddressState) → ((l : Action) → MatchesPending limit l (shown addresses phases a l) (pending_at l s)) → Has phases a → may_provision s ≡ true
  holder_open phases a s fits located =
      let k = located.3.1 in
      may_hold k s located.3.3
      (something_open limit k (shown addresses phases a k) (pending_at k s) located.0 located.3.0 (fits k) located.1
      (ap (λ (x : List ℕ). shown addresses phases x k located.0) (sym located.2) ∙ shown_here addresses phases k located.0 ∙ ap (seconds_in k) located.3.2 ∙ running k located.3.0 true))

  pub stepped : (phases : ℕ → Phase) (ms : List Message) (c : ℕ) (k : Action) (stage : TimedStage) (q : Phase) (p : Option Pending)
      → Agrees limit addresses Within Does Provides phases ms → c < limit → Within (addresses c)
      → after k stage (length ms + 1) (pending_at k (state_of (addresses c) ms)) ≡ Ok p
      → MatchesPending limit k (shown addresses (put phases c q) (addresses c) k) p
      → ((l : Action) → same_action k l ≡ false → seconds_in l q ≡ seconds_in l (phases c))
      → ((t : ℕ) (l : Action) (b : Bool) → q ≡ under_way l t b → Does c l)
      → (IsNoFailure stage × (phases c ≢ unexplained)) ⊎ (q ≡ unexplained)
      → (IsProvisioning (phases c) → IsProvisioning q) → (IsProvisioning q → IsProvisioning (phases c))
      → Moves phases ms c q (step (addresses c) k stage)
  stepped phases ms c k stage q p agrees less within e fit preserved does fails on back =
      let a = addresses c in
      let s = state_of a ms in
      let line = length ms + 1 in
      let fits : (l : Action) → MatchesPending limit l (shown addresses (put phases c q) a l) (pending_at l (step_in k stage line p s)) = λ l.
      ⊎_elim
      (λ yes.
      let at_k : MatchesPending limit k (shown addresses (put phases c q) a k) (pending_at k (step_in k stage line p s)) = subst (MatchesPending limit k (shown addresses (put phases c q) a k)) (sym (pending_same k stage line p s)) fit in
      subst (λ (m : Action). MatchesPending limit m (shown addresses (put phases c q) a m) (pending_at m (step_in k stage line p s))) (same_is k l yes) at_k)
      (λ no.
      subst (MatchesPending limit l (shown addresses (put phases c q) a l)) (sym (pending_other k l stage line p s no))
      (fits_same limit l (shown addresses phases a l) (shown addresses (put phases c q) a l) (pending_at l s) (λ b _. shown_verbatim addresses phases c q a l (preserved l no) b) (agrees.open_steps a l within)))
      (cases_Bool (same_action k l)) in
      let is : step_on k stage line s ≡ Ok (step_in k stage line p s) =
      step_is k stage line p s (λ some. holder_open (put phases c q) a (step_in k stage line p s) fits (still_has phases c q a on (agrees.provisioners a within some))) e in
      let there : state_of a (step a k stage ∷ ms) ≡ step_in k stage line p s = step_there a k stage (step_in k stage line p s) ms is in (
        next_step a k stage (step_in k stage line p s) ms agrees.amid is,
        record {
          open_steps = λ b l w. by_address (λ b. Within b → MatchesPending limit l (shown addresses (put phases c q) b l) (pending_at l (state_of b (step a k stage ∷ ms)))) a
              (λ _. subst (λ (t : AddressState). MatchesPending limit l (shown addresses (put phases c q) a l) (pending_at l t)) (sym there) (fits l))
              (λ b no w.
              subst (λ (t : AddressState). MatchesPending limit l (shown addresses (put phases c q) b l) (pending_at l t)) (sym (step_elsewhere a k stage ms b no))
              (fits_same limit l (shown addresses phases b l) (shown addresses (put phases c q) b l) (pending_at l (state_of b ms)) (λ d _. shown_elsewhere addresses phases c q b l no d) (agrees.open_steps b l w)))
              b w;
          provisioners = by_address (λ b. Within b → is_some (state_of b (step a k stage ∷ ms)).provisioner ≡ true → Has (put phases c q) b) a
              (λ _ some. still_has phases c q a on (agrees.provisioners a within (sym (ap is_some (ap (λ (t : AddressState). t.provisioner) there ∙ provisioner_same k stage line p s)) ∙ some)))
              (λ b no w some. still_has phases c q b on (agrees.provisioners b w (sym (ap is_some (ap (λ (t : AddressState). t.provisioner) (step_elsewhere a k stage ms b no))) ∙ some)));
          provisioning = λ d l w provisions. by_address (λ b. is_some (state_of b ms).provisioner ≡ true → is_some (state_of b (step a k stage ∷ ms)).provisioner ≡ true) a
              (λ before. ap is_some (ap (λ (t : AddressState). t.provisioner) there ∙ provisioner_same k stage line p s) ∙ before)
              (λ b no before. ap is_some (ap (λ (t : AddressState). t.provisioner) (step_elsewhere a k stage ms b no)) ∙ before)
              (addresses d) (agrees.provisioning d l w (had phases c q d back provisions));
          failures = by_address (λ b. Within b → is_some (state_of b (step a k stage ∷ ms)).failures ≡ true → (d : ℕ) × (d < limit) × (addresses d ≡ b) × (put phases c q d ≡ unexplained)) a
              (λ _ some.
              ⊎_elim
              (λ fine.
              let before : is_some s.failures ≡ true = sym (ap is_some (ap (λ (t : AddressState). t.failures) there ∙ failures_same k stage line p s fine.0)) ∙ some in
              still_failed phases c q a (agrees.failures a within before) (λ d _ u same. fine.1 (ap phases (sym same) ∙ u)))
              (λ failed. (c, less, refl, put_here phases c q ∙ failed))
              fails)
              (λ b no w some.
              let before : is_some (state_of b ms).failures ≡ true = sym (ap is_some (ap (λ (t : AddressState). t.failures) (step_elsewhere a k stage ms b no))) ∙ some in
              still_failed phases c q b (agrees.failures b w before) (λ d there u. other_address c d b no there));
          does = still_does phases c q agrees.does does;
          provides = λ d is. agrees.provides d (had phases c q d back is);
          amid = agrees.amid;
        },
      )

  -- a provisioner begins, goes on or ends
  pub provisioned : (phases : ℕ → Phase) (ms : List Message) (c : ℕ) (stage : Stage) (q : Phase) (r : Option ℕ)
      → Agrees limit addresses Within Does Provides phases ms → c < limit → Within (addresses c)
      → provision_on stage (length ms + 1) (state_of (addresses c) ms) ≡ Ok (provisioner_in r (state_of (addresses c) ms))
      → ((l : Action) → seconds_in l q ≡ seconds_in l (phases c))
      → ((t : ℕ) (l : Action) (b : Bool) → q ≡ under_way l t b → Does c l)
      → phases c ≢ unexplained
      → (is_some r ≡ true → Has (put phases c q) (addresses c))
      → ((d : ℕ) → addresses d ≡ addresses c → IsProvisioning (put phases c q d) → is_some r ≡ true)
      → (IsProvisioning q → Provides c)
      → Moves phases ms c q (provision (addresses c) stage)
  provisioned phases ms c stage q r agrees less within e preserved does explained_before on back provides =
      let a = addresses c in
      let s = state_of a ms in
      let there : state_of a (provision a stage ∷ ms) ≡ provisioner_in r s = provision_there a stage (provisioner_in r s) ms e in (
        next_provision a stage (provisioner_in r s) ms agrees.amid e,
        record {
          open_steps = λ b l w. by_address (λ b. Within b → MatchesPending limit l (shown addresses (put phases c q) b l) (pending_at l (state_of b (provision a stage ∷ ms)))) a
              (λ _. subst (MatchesPending limit l (shown addresses (put phases c q) a l)) (sym (ap (pending_at l) there ∙ pending_still l r s))
              (fits_same limit l (shown addresses phases a l) (shown addresses (put phases c q) a l) (pending_at l s) (λ d _. shown_verbatim addresses phases c q a l (preserved l) d) (agrees.open_steps a l within)))
              (λ b no w.
              subst (λ (t : AddressState). MatchesPending limit l (shown addresses (put phases c q) b l) (pending_at l t)) (sym (provision_elsewhere a stage ms b no))
              (fits_same limit l (shown addresses phases b l) (shown addresses (put phases c q) b l) (pending_at l (state_of b ms)) (λ d _. shown_elsewhere addresses phases c q b l no d) (agrees.open_steps b l w)))
              b w;
          provisioners = by_address (λ b. Within b → is_some (state_of b (provision a stage ∷ ms)).provisioner ≡ true → Has (put phases c q) b) a
              (λ _ some. on (sym (ap is_some (ap (λ (t : AddressState). t.provisioner) there)) ∙ some))
              (λ b no w some.
              let located = agrees.provisioners b w (sym (ap is_some (ap (λ (t : AddressState). t.provisioner) (provision_elsewhere a stage ms b no))) ∙ some) in
              (located.0, located.1, located.2, subst IsProvisioning (sym (put_elsewhere phases c q located.0 (other_address c located.0 b no located.2))) located.3));
          provisioning = λ d l w provisions. by_address (λ b. addresses d ≡ b → is_some (state_of b (provision a stage ∷ ms)).provisioner ≡ true) a
              (λ same. ap is_some (ap (λ (t : AddressState). t.provisioner) there) ∙ back d same provisions)
              (λ b no same.
              ap is_some (ap (λ (t : AddressState). t.provisioner) (provision_elsewhere a stage ms b no))
              ∙ subst (λ (x : List ℕ). is_some (state_of x ms).provisioner ≡ true) same (agrees.provisioning d l w (subst IsProvisioning (put_elsewhere phases c q d (other_address c d b no same)) provisions)))
              (addresses d) refl;
          failures = by_address (λ b. Within b → is_some (state_of b (provision a stage ∷ ms)).failures ≡ true → (d : ℕ) × (d < limit) × (addresses d ≡ b) × (put phases c q d ≡ unexplained)) a
              (λ _ some.
              let before : is_some s.failures ≡ true = sym (ap is_some (ap (λ (t : AddressState). t.failures) there)) ∙ some in
              still_failed phases c q a (agrees.failures a within before) (λ d _ u same. explained_before (ap phases (sym same) ∙ u)))
              (λ b no w some.
              let before : is_some (state_of b ms).failures ≡ true = sym (ap is_some (ap (λ (t : AddressState). t.failures) (provision_elsewhere a stage ms b no))) ∙ some in
              still_failed phases c q b (agrees.failures b w before) (λ d same u. other_address c d b no same));
          does = still_does phases c q agrees.does does;
          provides = λ d is.
              ⊎_elim
              (λ (here : d ≡ c). subst Provides (sym here) (provides (subst IsProvisioning (ap (put phases c q) here ∙ put_here phases c q) is)))
              (λ elsewhere. agrees.provides d (subst IsProvisioning (put_elsewhere phases c q d elsewhere) is))
              (cases_eq d c);
          amid = agrees.amid;
        },
      )

  -- a note changes nothing but the failures at its address
  pub noted : (phases : ℕ → Phase) (ms : List Message) (c : ℕ) (e : Bool) (q : Phase)
      → Agrees limit addresses Within Does Provides phases ms → c < limit → Within (addresses c)
      → ((l : Action) → seconds_in l q ≡ seconds_in l (phases c))
      → ((t : ℕ) (l : Action) (b : Bool) → q ≡ under_way l t b → Does c l)
      → (IsProvisioning (phases c) → IsProvisioning q) → (IsProvisioning q → IsProvisioning (phases c))
      → (e ≡ true) ⊎ (q ≡ phases c)
      → Moves phases ms c q (diagnostic e (Some (addresses c)))
  noted phases ms c e q agrees less within same does on back explains =
      let a = addresses c in
      let s = state_of a ms in
      let there : state_of a (diagnostic e (Some a) ∷ ms) ≡ failures_cleared e s = diagnostic_there a e ms in
      let preserved = λ (b : List ℕ) (l : Action). shown_verbatim addresses phases c q b l (same l) in (
        next_diagnostic a e ms agrees.amid,
        record {
          open_steps = λ b l w. by_address (λ b. Within b → MatchesPending limit l (shown addresses (put phases c q) b l) (pending_at l (state_of b (diagnostic e (Some a) ∷ ms)))) a
              (λ _. subst (λ (t : AddressState). MatchesPending limit l (shown addresses (put phases c q) a l) (pending_at l t)) (sym there)
              (subst (MatchesPending limit l (shown addresses (put phases c q) a l)) (sym (explained_keeps l e s))
              (fits_same limit l (shown addresses phases a l) (shown addresses (put phases c q) a l) (pending_at l s) (λ b _. preserved a l b) (agrees.open_steps a l within))))
              (λ b no w.
              subst (λ (t : AddressState). MatchesPending limit l (shown addresses (put phases c q) b l) (pending_at l t)) (sym (diagnostic_elsewhere a e ms b no))
              (fits_same limit l (shown addresses phases b l) (shown addresses (put phases c q) b l) (pending_at l (state_of b ms)) (λ d _. preserved b l d) (agrees.open_steps b l w)))
              b w;
          provisioners = by_address (λ b. Within b → is_some (state_of b (diagnostic e (Some a) ∷ ms)).provisioner ≡ true → Has (put phases c q) b) a
              (λ _ some. still_has phases c q a on (agrees.provisioners a within (sym (ap is_some (ap (λ (t : AddressState). t.provisioner) there ∙ provisioner_verbatim e s)) ∙ some)))
              (λ b no w some. still_has phases c q b on (agrees.provisioners b w (sym (ap is_some (ap (λ (t : AddressState). t.provisioner) (diagnostic_elsewhere a e ms b no))) ∙ some)));
          provisioning = λ d l w provisions. by_address (λ b. is_some (state_of b ms).provisioner ≡ true → is_some (state_of b (diagnostic e (Some a) ∷ ms)).provisioner ≡ true) a
              (λ before. ap is_some (ap (λ (t : AddressState). t.provisioner) there ∙ provisioner_verbatim e s) ∙ before)
              (λ b no before. ap is_some (ap (λ (t : AddressState). t.provisioner) (diagnostic_elsewhere a e ms b no)) ∙ before)
              (addresses d) (agrees.provisioning d l w (had phases c q d back provisions));
          failures = by_address (λ b. Within b → is_some (state_of b (diagnostic e (Some a) ∷ ms)).failures ≡ true → (d : ℕ) × (d < limit) × (addresses d ≡ b) × (put phases c q d ≡ unexplained)) a
              (λ _ some.
              let now : is_some (failures_cleared e s).failures ≡ true = sym (ap is_some (ap (λ (t : AddressState). t.failures) there)) ∙ some in
              failed_then e explains now)
              (λ b no w some.
              let before : is_some (state_of b ms).failures ≡ true = sym (ap is_some (ap (λ (t : AddressState). t.failures) (diagnostic_elsewhere a e ms b no))) ∙ some in
              still_failed phases c q b (agrees.failures b w before) (λ d there u. other_address c d b no there));
          does = still_does phases c q agrees.does does;
          provides = λ d is. agrees.provides d (had phases c q d back is);
          amid = agrees.amid;
        },
      )
    where
      failed_then : (e : Bool) → (e ≡ true) ⊎ (q ≡ phases c) → is_some (failures_cleared e (state_of (addresses c) ms)).failures ≡ true
          → (d : ℕ) × (d < limit) × (addresses d ≡ addresses c) × (put phases c q d ≡ unexplained)
      failed_then true explains now = absurd cc
      failed_then false explains now =
          let located = agrees.failures (addresses c) within now in
          let same_phase : q ≡ phases c = ⊎_elim (λ no. absurd cc) (λ yes. yes) explains in
          (located.0, located.1, located.2, ⊎_elim (λ (here : located.0 ≡ c). ap (put phases c q) here ∙ put_here phases c q ∙ same_phase ∙ ap phases (sym here) ∙ located.3) (λ elsewhere. put_elsewhere phases c q located.0 elsewhere ∙ located.3) (cases_eq located.0 c))
