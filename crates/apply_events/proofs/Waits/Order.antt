-- Lists of events in order of any times. There is one such list for the parts of all lanes.
use Rattle.std.proofs.Common.{◌≡◌, ◌≢◌, ℕ, ◌<◌, ◌≤◌, List, [], ◌∷◌, sym, refl, ap, ◌∙◌, ⊎_elim, arith}
use Rattle.std.proofs.lemmas.Bool.Decides.{eqb_tells}
use Rattle.std.proofs.lemmas.Bool.{cases_lt}
use Rattle.apply_events.specs.Interleaving.{IsInterleaving}
use Rattle.apply_events.specs.declared.event.Event.{Event}
use Rattle.apply_events.specs.OfWorker.{of_worker}
use Rattle.apply_events.specs.declared.lanes.lane_time.LaneTime.{LaneTime}
use Rattle.apply_events.specs.Waits.TimeLine.{InOrder, Precedes}
use Rattle.apply_events.proofs.TimeLines.Order.{elsewhere, here, nobody_else, none_is_one, of_part}
use Rattle.apply_events.proofs.Waits.Moments.{no_later_both}

module _ (when : Event → LaneTime) where
  pub precedes_both : (e f : Event) → Precedes when e f → Precedes when f e → e.worker ≡ f.worker
  precedes_both e f p q =
      let same : when e ≡ when f = no_later_both (when e) (when f) p.0 q.0 in
      let low = p.1 same in let high = q.1 (sym same) in omega arith

  heads : (e : Event) (es : List Event) (f : Event) (fs : List Event) → InOrder when (e ∷ es) → InOrder when (f ∷ fs) → ((w : ℕ) → of_worker w (e ∷ es) ≡ of_worker w (f ∷ fs)) → e ≡ f
  heads e es f fs p q same = ⊎_elim
      (λ (c : _ × (e.worker ≡ f.worker)).
      let one : e ∷ of_worker f.worker es ≡ f ∷ of_worker f.worker fs = sym (here f.worker e es c.1) ∙ same f.worker ∙ here f.worker f fs refl in cc)
      (λ (c : _ × (e.worker ≢ f.worker)).
      let ne = c.1 in
      let forth : of_worker e.worker fs ≡ e ∷ of_worker e.worker es = sym (elsewhere e.worker f fs (λ is. ne (sym is))) ∙ sym (same e.worker) ∙ here e.worker e es refl in
      let back : of_worker f.worker es ≡ f ∷ of_worker f.worker fs = sym (elsewhere f.worker e es ne) ∙ same f.worker ∙ here f.worker f fs refl in
      absurd (ne (precedes_both e f
      (of_part (Precedes when e) f.worker es f (of_worker f.worker fs) back p.0)
      (of_part (Precedes when f) e.worker fs e (of_worker e.worker es) forth q.0))))
      (eqb_tells e.worker f.worker)

  tails : (w : ℕ) (e : Event) (es : List Event) (fs : List Event) → of_worker w (e ∷ es) ≡ of_worker w (e ∷ fs) → of_worker w es ≡ of_worker w fs
  tails w e es fs same = ⊎_elim
      (λ (c : _ × (e.worker ≡ w)).
      let one : e ∷ of_worker w es ≡ e ∷ of_worker w fs = sym (here w e es c.1) ∙ same ∙ here w e fs c.1 in cc)
      (λ (c : _ × (e.worker ≢ w)). sym (elsewhere w e es c.1) ∙ same ∙ elsewhere w e fs c.1)
      (eqb_tells e.worker w)

  same_parts : (es fs : List Event) → InOrder when es → InOrder when fs → ((w : ℕ) → of_worker w es ≡ of_worker w fs) → es ≡ fs
  same_parts [] [] p q same = refl
  same_parts [] (f ∷ fs) p q same = absurd (none_is_one f (of_worker f.worker fs) (same f.worker ∙ here f.worker f fs refl))
  same_parts (e ∷ es) [] p q same = absurd (none_is_one e (of_worker e.worker es) (sym (same e.worker) ∙ here e.worker e es refl))
  same_parts (e ∷ es) (f ∷ fs) p q same =
      let first : e ≡ f = heads e es f fs p q same in
      let rest : es ≡ fs = same_parts es fs p.1 q.1 (λ w. tails w e es fs (same w ∙ ap (λ g. of_worker w (g ∷ fs)) (sym first))) in
      cc

  pub unique : (n : ℕ) (list : ℕ → List Event) (es fs : List Event) → IsInterleaving n list es → IsInterleaving n list fs → InOrder when es → InOrder when fs → es ≡ fs
  unique n list es fs p q ip iq = same_parts es fs ip iq (λ w. ⊎_elim
      (λ (lt : w < n). p.parts w lt ∙ sym (q.parts w lt))
      (λ (le : n ≤ w). nobody_else n es p.named w le ∙ sym (nobody_else n fs q.named w le))
      (cases_lt w n))
