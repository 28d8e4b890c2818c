-- What the rule of claims ensures for one drawer of each worker.
use Rattle.std.proofs.Common.{◌≡◌, ℕ, ◌<◌, ◌≤◌, true, List, [], ◌∷◌, All, map, sym, refl, ap, ◌∙◌, subst, subst₂, arith}
use Rattle.std.proofs.lemmas.List.Elements.{All-cons, All-nil}
use Rattle.std.specs.List.{AllByRecursion}
use Rattle.apply_events.specs.Partition.{IsPartition, NamesEachWorkerOnce}
use Rattle.apply_events.proofs.Dealing.{dealt_out, lists}
use Rattle.apply_bus.specs.declared.claims_rule.Share.{Share}
use Rattle.apply_bus.specs.Claims.{ClaimsName, Drawing, lists_drawn, workers_of, IsDealtOut}
use Rattle.apply_bus.specs.ClaimsRule.{hand, IsDealt, AreDealt}
use Rattle.apply_bus.specs.Seats.{drawing_of}

-- the shares, as contracts see them
abbrev drawings : ClaimsName → List Share → List Drawing
drawings claims shares = map (drawing_of claims) shares

pub lists_of_shares : (claims : ClaimsName) (shares : List Share) → map (λ (s : Share). s.drawn) shares ≡ lists_drawn (drawings claims shares)
lists_of_shares claims [] = refl
lists_of_shares claims (s ∷ shares) = ap (λ l. s.drawn ∷ l) (lists_of_shares claims shares)

lists_dealt : (claims : ClaimsName) (who : ℕ → ℕ) (m : ℕ) (shares : List Share) → AllByRecursion (IsDealt who m) shares → lists who m (workers_of (drawings claims shares)) ≡ lists_drawn (drawings claims shares)
lists_dealt claims who m [] h = refl
lists_dealt claims who m (s ∷ shares) h = subst₂ (λ (l : List ℕ) (ls : List (List ℕ)). lists who m (workers_of (drawings claims (s ∷ shares))) ≡ l ∷ ls) (sym h.0.2) (lists_dealt claims who m shares h.1) refl

complete : (claims : ClaimsName) (who : ℕ → ℕ) (m : ℕ) (shares : List Share) → AllByRecursion (IsDealt who m) shares → AllByRecursion (λ (s : Share). (s.limit ≡ claims.limit) × (s.workers ≡ claims.workers)) shares
    → All (λ (d : Drawing). d.met_none ≡ true → m ≡ claims.limit) (drawings claims shares)
complete claims who m [] h same = All-nil (λ (d : Drawing). d.met_none ≡ true → m ≡ claims.limit)
complete claims who m (s ∷ shares) h same = All-cons (λ (d : Drawing). d.met_none ≡ true → m ≡ claims.limit) (drawing_of claims s) (drawings claims shares)
    (λ met. h.0.3 met ∙ same.0.0) (complete claims who m shares h.1 same.1)

pub joined_drawers : (claims : ClaimsName) (shares : List Share) → AllByRecursion (λ (s : Share). (s.limit ≡ claims.limit) × (s.workers ≡ claims.workers)) shares → AreDealt (hand shares) → 0 < claims.workers
    → NamesEachWorkerOnce claims.workers (workers_of (drawings claims shares)) → (m : ℕ) × IsDealtOut claims (drawings claims shares) m
joined_drawers claims [] same dealing some each = absurd (let none : 0 ≡ claims.workers = each.count in omega arith)
joined_drawers claims (s ∷ shares) same dealing some each =
    let m = dealing.1 in
    let falls : (k : ℕ) → k < m → dealing.0 k < claims.workers = λ k lt. subst (λ w. dealing.0 k < w) same.0.1 (dealing.2.0.1 k lt) in (
      m,
      record {
        within = subst (λ limit. m ≤ limit) same.0.0 dealing.2.0.0;
        partition = subst (IsPartition claims.workers m) (lists_dealt claims dealing.0 m (s ∷ shares) dealing.2) (dealt_out dealing.0 claims.workers m (workers_of (drawings claims (s ∷ shares))) falls each);
        complete = complete claims dealing.0 m (s ∷ shares) dealing.2 same;
      },
    )
