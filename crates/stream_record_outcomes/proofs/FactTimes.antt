-- The seconds of facts, fact by fact.
use Rattle.std.proofs.Common.{◌≡◌, ◌∙◌, ℕ, ℤ, ◌+◌, ◌-◌, ◌<◌, ◌≤◌, List, [], ◌∷◌, ◌++◌, ap, arith, drop, get_or, length, reverse, sym}
use Rattle.std.proofs.lemmas.Grind.{reverse_onto}
use Rattle.std.proofs.lemmas.List.{drop_more}
use Rattle.stream_record_steps.specs.declared.step_facts.StepFact.{StepFact}
use Rattle.stream_record_outcomes.specs.Times.{TimedFact, bounded, latest_before, own_fact}

module _ (begin : ℤ) (whole : ℕ) (facts : List StepFact) (place : ℕ) (fact : StepFact)
    (inside : 0 < place) (within : place ≤ length facts) (is : fact ≡ get_or facts (place - 1) fact) where
  pub facts_before : drop (place - 1) facts ≡ fact ∷ drop place facts
  facts_before =
      let below : place - 1 < length facts = omega arith in
      let next : place - 1 + 1 ≡ place = omega arith in
      drop_more facts (place - 1) fact below
      ∙ ap (λ (f : StepFact). f ∷ drop (place - 1 + 1) facts) (sym is)
      ∙ ap (λ (n : ℕ). fact ∷ drop n facts) next

  pub latest_more : latest_before whole (drop (place - 1) facts) ≡ latest_before whole (fact ∷ drop place facts)
  latest_more = ap (λ (fs : List StepFact). latest_before whole fs) facts_before

  pub bounded_more : (latest : ℕ) (before after : List TimedFact) (own : TimedFact) → latest ≡ latest_before whole (drop place facts)
      → own ≡ own_fact begin whole latest fact → before ≡ reverse (bounded begin whole (drop place facts)) → after ≡ before ++ own ∷ []
      → after ≡ reverse (bounded begin whole (drop (place - 1) facts))
  bounded_more latest before after own is_latest is_own so_far pushed =
      let others = bounded begin whole (drop place facts) in
      pushed
      ∙ ap (λ (fs : List TimedFact). fs ++ own ∷ []) so_far
      ∙ ap (λ (f : TimedFact). reverse others ++ f ∷ []) (is_own ∙ ap (λ (n : ℕ). own_fact begin whole n fact) is_latest)
      ∙ sym (reverse_onto others (own_fact begin whole (latest_before whole (drop place facts)) fact) [])
      ∙ ap (λ (fs : List StepFact). reverse (bounded begin whole fs)) (sym facts_before)
