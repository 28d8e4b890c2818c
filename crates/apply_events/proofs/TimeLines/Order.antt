-- Lists of events in order: there is one for the parts of each lane.
use Rattle.std.proofs.Common.{◌≡◌, ◌≢◌, ℕ, ◌<◌, ◌≤◌, List, [], ◌∷◌, All, cond, sym, refl, ap, ◌∙◌, subst, ⊎_elim, arith, eq-eqb, ne_eqb}
use Rattle.std.proofs.lemmas.Bool.Decides.{eqb_tells}
use Rattle.std.proofs.lemmas.Bool.{cases_lt}
use Rattle.std.proofs.lemmas.List.Elements.{All-head, All-tail}
use Rattle.apply_events.specs.Interleaving.{IsInterleaving}
use Rattle.apply_events.specs.declared.event.Event.{Event}
use Rattle.apply_events.specs.OfWorker.{of_worker}
use Rattle.apply_events.specs.Lanes.TimeLine.{Precedes, InOrder}

pub here : (w : ℕ) (e : Event) (es : List Event) → e.worker ≡ w → of_worker w (e ∷ es) ≡ e ∷ of_worker w es
here w e es is = ap (λ b. cond b (e ∷ of_worker w es) (of_worker w es)) (eq-eqb e.worker w is)

pub elsewhere : (w : ℕ) (e : Event) (es : List Event) → e.worker ≢ w → of_worker w (e ∷ es) ≡ of_worker w es
elsewhere w e es is = ap (λ b. cond b (e ∷ of_worker w es) (of_worker w es)) (ne_eqb e.worker w is)

pub none_is_one : (e : Event) (es : List Event) → [] ≢ e ∷ es
none_is_one e es h = cc

-- what holds of each event holds of the first of a part
pub of_part : (P : Event → Type 0) (u : ℕ) (fs : List Event) (e : Event) (rest : List Event) → of_worker u fs ≡ e ∷ rest → All P fs → P e
of_part P u [] e rest same all = absurd (none_is_one e rest same)
of_part P u (f ∷ fs) e rest same all = ⊎_elim
    (λ (c : _ × (f.worker ≡ u)).
    let one : f ∷ of_worker u fs ≡ e ∷ rest = sym (here u f fs c.1) ∙ same in
    let is : f ≡ e = cc in subst P is (All-head P f fs all))
    (λ (c : _ × (f.worker ≢ u)). of_part P u fs e rest (sym (elsewhere u f fs c.1) ∙ same) (All-tail P f fs all))
    (eqb_tells f.worker u)

pub precedes_both : (e f : Event) → Precedes e f → Precedes f e → e.worker ≡ f.worker
precedes_both e f p q =
    let le = p.0 in let ge = q.0 in
    let at : e.at ≡ f.at = omega arith in
    let low = p.1 at in let high = q.1 (sym at) in omega arith

pub heads : (e : Event) (es : List Event) (f : Event) (fs : List Event) → InOrder (e ∷ es) → InOrder (f ∷ fs) → ((w : ℕ) → of_worker w (e ∷ es) ≡ of_worker w (f ∷ fs)) → e ≡ f
heads e es f fs p q same = ⊎_elim
    (λ (c : _ × (e.worker ≡ f.worker)).
    let one : e ∷ of_worker f.worker es ≡ f ∷ of_worker f.worker fs = sym (here f.worker e es c.1) ∙ same f.worker ∙ here f.worker f fs refl in cc)
    (λ (c : _ × (e.worker ≢ f.worker)).
    let ne = c.1 in
    let forth : of_worker e.worker fs ≡ e ∷ of_worker e.worker es = sym (elsewhere e.worker f fs (λ is. ne (sym is))) ∙ sym (same e.worker) ∙ here e.worker e es refl in
    let back : of_worker f.worker es ≡ f ∷ of_worker f.worker fs = sym (elsewhere f.worker e es ne) ∙ same f.worker ∙ here f.worker f fs refl in
    absurd (ne (precedes_both e f
    (of_part (Precedes e) f.worker es f (of_worker f.worker fs) back p.0)
    (of_part (Precedes f) e.worker fs e (of_worker e.worker es) forth q.0))))
    (eqb_tells e.worker f.worker)

tails : (w : ℕ) (e : Event) (es : List Event) (fs : List Event) → of_worker w (e ∷ es) ≡ of_worker w (e ∷ fs) → of_worker w es ≡ of_worker w fs
tails w e es fs same = ⊎_elim
    (λ (c : _ × (e.worker ≡ w)).
    let one : e ∷ of_worker w es ≡ e ∷ of_worker w fs = sym (here w e es c.1) ∙ same ∙ here w e fs c.1 in cc)
    (λ (c : _ × (e.worker ≢ w)). sym (elsewhere w e es c.1) ∙ same ∙ elsewhere w e fs c.1)
    (eqb_tells e.worker w)

-- two lists in order with the same parts are equal
pub same_parts : (es fs : List Event) → InOrder es → InOrder fs → ((w : ℕ) → of_worker w es ≡ of_worker w fs) → es ≡ fs
same_parts [] [] p q same = refl
same_parts [] (f ∷ fs) p q same = absurd (none_is_one f (of_worker f.worker fs) (same f.worker ∙ here f.worker f fs refl))
same_parts (e ∷ es) [] p q same = absurd (none_is_one e (of_worker e.worker es) (sym (same e.worker) ∙ here e.worker e es refl))
same_parts (e ∷ es) (f ∷ fs) p q same =
    let first : e ≡ f = heads e es f fs p q same in
    let rest : es ≡ fs = same_parts es fs p.1 q.1 (λ w. tails w e es fs (same w ∙ ap (λ g. of_worker w (g ∷ fs)) (sym first))) in
    cc

-- unused else is named
pub nobody_else : (n : ℕ) (es : List Event) → All (λ e. e.worker < n) es → (w : ℕ) → n ≤ w → of_worker w es ≡ []
nobody_else n [] h w le = refl
nobody_else n (e ∷ es) h w le =
    let low : e.worker < n = All-head (λ (f : Event). f.worker < n) e es h in
    elsewhere w e es (λ is. omega arith) ∙ nobody_else n es (All-tail (λ (f : Event). f.worker < n) e es h) w le

pub unique : (n : ℕ) (list : ℕ → List Event) (es fs : List Event) → IsInterleaving n list es → IsInterleaving n list fs → InOrder es → InOrder fs → es ≡ fs
unique n list es fs p q ip iq = same_parts es fs ip iq (λ w. ⊎_elim
    (λ (lt : w < n). p.parts w lt ∙ sym (q.parts w lt))
    (λ (le : n ≤ w). nobody_else n es p.named w le ∙ sym (nobody_else n fs q.named w le))
    (cases_lt w n))
