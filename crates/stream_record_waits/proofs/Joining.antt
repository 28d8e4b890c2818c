-- Steps that join the waiters of others.
use Rattle.std.proofs.Common.{◌≡◌, ◌≢◌, ◌∙◌, ◌<◌, ◌+◌, ℕ, List, [], ◌∷◌, ◌++◌, length, set, refl, sym, ap, arith, subst, inl, inr, ⊎_elim}
use Rattle.std.specs.List.{Contains}
use Rattle.std.proofs.lemmas.Bool.{cases_eq}
use Rattle.std.proofs.lemmas.List.{get_or-set_other, get_or-set_same, length-set}
use Rattle.std.proofs.lemmas.List.Elements.{Contains-append_cases, Contains-append_left, Contains-append_right, Contains-push, Contains-push_cases}
use Rattle.stream_record_waits.specs.Course.{Basis}
use Rattle.stream_record_waits.specs.Graph.{waits_at}
use Rattle.stream_record_waits.specs.Waiters.{AreFirstWaiters, Joins, all_waits}
use Rattle.stream_record_waits.proofs.Members.{front_or_further, in_front, no_member}

pub joins_none : (step : ℕ) (lists : List (List ℕ)) → Joins step [] lists lists
joins_none step lists = record {
  each = refl;
  stay = λ wait other c. c;
  joins = λ wait c. absurd (no_member wait c);
  only = λ wait other c. inl c;
}

pub joins_on : (step : ℕ) (first then : List ℕ) (a b c : List (List ℕ)) → Joins step first a b → Joins step then b c → Joins step (first ++ then) a c
joins_on step first then a b c p q = record {
  each = q.each ∙ p.each;
  stay = λ wait other is. q.stay wait other (p.stay wait other is);
  joins = λ wait is. ⊎_elim
      (λ (early : Contains first wait). q.stay wait step (p.joins wait early))
      (λ (late : Contains then wait). q.joins wait late)
      (Contains-append_cases first then wait is);
  only = λ wait other is. ⊎_elim
      (λ (was : Contains (waits_at b wait) other). ⊎_elim
      (λ (before : Contains (waits_at a wait) other). inl before)
      (λ (own : (other ≡ step) × Contains first wait). inr ((own.0, Contains-append_left first then wait own.1)))
      (p.only wait other was))
      (λ (own : (other ≡ step) × Contains then wait). inr ((own.0, Contains-append_right first then wait own.1)))
      (q.only wait other is);
}

pub joins_one : (step wait : ℕ) (lists new : List (List ℕ)) → wait < length lists → new ≡ set lists wait (waits_at lists wait ++ step ∷ []) → Joins step (wait ∷ []) lists new
joins_one step wait lists new inside is = record {
  each = ap length is ∙ length-set lists wait (waits_at lists wait ++ step ∷ []);
  stay = λ other more c. ⊎_elim
      (λ (same : other ≡ wait). subst (λ (list : List ℕ). Contains list more) (sym (here other same)) (Contains-append_left (waits_at lists other) (step ∷ []) more c))
      (λ (ne : other ≢ wait). subst (λ (list : List ℕ). Contains list more) (sym (there other ne)) c)
      (cases_eq other wait);
  joins = λ other c. ⊎_elim
      (λ (same : wait ≡ other). subst (λ (list : List ℕ). Contains list step) (sym (here other (sym same))) (Contains-push (waits_at lists other) step))
      (λ more. absurd (no_member other more))
      (front_or_further wait other [] c);
  only = λ other more c. ⊎_elim
      (λ (same : other ≡ wait). ⊎_elim
      (λ (was : Contains (waits_at lists other) more). inl was)
      (λ (own : step ≡ more). inr ((sym own, subst (λ (w : ℕ). Contains (wait ∷ []) w) (sym same) (in_front wait []))))
      (Contains-push_cases (waits_at lists other) step more (subst (λ (list : List ℕ). Contains list more) (here other same) c)))
      (λ (ne : other ≢ wait). inl (subst (λ (list : List ℕ). Contains list more) (there other ne) c))
      (cases_eq other wait);
}
  where
    here : (other : ℕ) → other ≡ wait → waits_at new other ≡ waits_at lists other ++ step ∷ []
    here other same =
        ap (λ (k : ℕ). waits_at new k) same ∙ ap (λ (all : List (List ℕ)). waits_at all wait) is ∙ get_or-set_same lists wait (waits_at lists wait ++ step ∷ []) [] inside
        ∙ ap (λ (k : ℕ). waits_at lists k ++ step ∷ []) (sym same)

    there : (other : ℕ) → other ≢ wait → waits_at new other ≡ waits_at lists other
    there other ne = ap (λ (all : List (List ℕ)). waits_at all other) is ∙ get_or-set_other lists wait other (waits_at lists wait ++ step ∷ []) [] ne

pub more_waiters : (basis : Basis) (step : ℕ) (old new : List (List ℕ)) → AreFirstWaiters basis step old → Joins step (all_waits basis step) old new → AreFirstWaiters basis (step + 1) new
more_waiters basis step old new are joins = record {
  each = joins.each ∙ are.each;
  complete = λ other wait low c. ⊎_elim
      (λ (same : other ≡ step). subst (λ (s : ℕ). Contains (waits_at new wait) s) (sym same) (joins.joins wait (subst (λ (s : ℕ). Contains (all_waits basis s) wait) same c)))
      (λ (ne : other ≢ step). joins.stay wait other (are.complete other wait (omega (arith, low, ne)) c))
      (cases_eq other step);
  only = λ other wait c. ⊎_elim
      (λ (was : Contains (waits_at old wait) other).
      let one = are.only other wait was in
      let low = one.0 in
      (omega (arith, low), one.1))
      (λ (own : (other ≡ step) × Contains (all_waits basis step) wait).
      let same = own.0 in
      (omega (arith, same), subst (λ (s : ℕ). Contains (all_waits basis s) wait) (sym own.0) own.1))
      (joins.only wait other c);
}
