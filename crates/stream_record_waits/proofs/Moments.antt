-- The order of times in lanes.
use Rattle.std.proofs.Common.{◌≡◌, ℕ, ◌+◌, ◌<◌, ◌≤◌, Bool, true, false, cond, refl, sym, ap, ◌∙◌, subst, ⊎_elim, ◌⊎◌, inl, inr, arith, eq-eqb, ne_eqb, lt-ltb, le-ltb, ltb, eqb, ◌&&◌, ◌||◌}
use Rattle.std.proofs.lemmas.Bool.{cases_lt, cases_eq}
use Rattle.stream_record_waits.specs.declared.lane_time.LaneTime.{LaneTime}
use Rattle.stream_record_waits.specs.LaneTime.{IsNoLater, is_earlier, later_by, later_of, next_round}

pub same_lane_time : (a b : LaneTime) → a.second ≡ b.second → a.round ≡ b.round → a ≡ b
same_lane_time a b second round =
    ap (λ s. let m : LaneTime = record { second = s; round = a.round } in m) second ∙ ap (λ r. let m : LaneTime = record { second = b.second; round = r } in m) round

pub no_later_refl : (a : LaneTime) → IsNoLater a a
no_later_refl a = (omega arith, λ is. omega arith)

pub no_later_on : (a b c : LaneTime) → IsNoLater a b → IsNoLater b c → IsNoLater a c
no_later_on a b c p q =
    let ab = p.0 in let bc = q.0 in (
      omega arith,
      λ is.
          let low = p.1 (omega arith) in let high = q.1 (omega arith) in omega arith,
    )

pub no_later_both : (a b : LaneTime) → IsNoLater a b → IsNoLater b a → a ≡ b
no_later_both a b p q =
    let le = p.0 in let ge = q.0 in
    let second : a.second ≡ b.second = omega arith in
    let low = p.1 second in let high = q.1 (sym second) in same_lane_time a b second (omega arith)

-- nothing is as early as what is a round earlier
pub not_by_then : (m at : LaneTime) → IsNoLater (next_round m) at → IsNoLater at m → ⊥
not_by_then m at p q =
    let le = p.0 in let ge = q.0 in
    let low = p.1 (omega arith) in let high = q.1 (omega arith) in omega arith

-- what the result of the test means
abbrev pub Emits : LaneTime → LaneTime → Bool → Type 0
Emits a b t = ((t ≡ true) × IsNoLater a b) ⊎ ((t ≡ false) × IsNoLater b a)

pub emits : (a b : LaneTime) → Emits a b (is_earlier a b)
emits a b =
    let rest = eqb a.second b.second && ltb a.round b.round in ⊎_elim
    (λ (lt : a.second < b.second). inl ((ap (λ t. t || rest) (lt-ltb a.second b.second lt), (omega arith, λ is. absurd (omega arith)))))
    (λ (ge : b.second ≤ a.second).
    let late = ap (λ t. t || rest) (le-ltb a.second b.second ge) in ⊎_elim
    (λ (is : a.second ≡ b.second).
    let same = ap (λ t. t && ltb a.round b.round) (eq-eqb a.second b.second is) in ⊎_elim
    (λ (low : a.round < b.round). inl ((late ∙ same ∙ lt-ltb a.round b.round low, (omega arith, λ _. omega arith))))
    (λ (high : b.round ≤ a.round). inr ((late ∙ same ∙ le-ltb a.round b.round high, (omega arith, λ _. high))))
    (cases_lt a.round b.round))
    (λ (ne : a.second ≡ b.second → ⊥). inr ((late ∙ ap (λ t. t && ltb a.round b.round) (ne_eqb a.second b.second ne), (ge, λ is. absurd (ne (sym is))))))
    (cases_eq a.second b.second))
    (cases_lt a.second b.second)

-- one of the two is the later one
pub later_cases : (a b : LaneTime) → ((later_of a b ≡ b) × IsNoLater a b) ⊎ ((later_of a b ≡ a) × IsNoLater b a)
later_cases a b = ⊎_elim
    (λ (c : (is_earlier a b ≡ true) × IsNoLater a b). inl ((ap (λ t. cond t b a) c.0, c.1)))
    (λ (c : (is_earlier a b ≡ false) × IsNoLater b a). inr ((ap (λ t. cond t b a) c.0, c.1)))
    (emits a b)

pub first_no_later : (a b : LaneTime) → IsNoLater a (later_of a b)
first_no_later a b = ⊎_elim
    (λ (c : (later_of a b ≡ b) × IsNoLater a b). subst (IsNoLater a) (sym c.0) c.1)
    (λ (c : (later_of a b ≡ a) × IsNoLater b a). subst (IsNoLater a) (sym c.0) (no_later_refl a))
    (later_cases a b)

pub second_no_later : (a b : LaneTime) → IsNoLater b (later_of a b)
second_no_later a b = ⊎_elim
    (λ (c : (later_of a b ≡ b) × IsNoLater a b). subst (IsNoLater b) (sym c.0) (no_later_refl b))
    (λ (c : (later_of a b ≡ a) × IsNoLater b a). subst (IsNoLater b) (sym c.0) c.1)
    (later_cases a b)

pub later_no_later : (a b c : LaneTime) → IsNoLater a c → IsNoLater b c → IsNoLater (later_of a b) c
later_no_later a b c p q = ⊎_elim
    (λ (d : (later_of a b ≡ b) × IsNoLater a b). subst (λ m. IsNoLater m c) (sym d.0) q)
    (λ (d : (later_of a b ≡ a) × IsNoLater b a). subst (λ m. IsNoLater m c) (sym d.0) p)
    (later_cases a b)

-- ---- so many seconds later

pub later_by_none : (m : LaneTime) (seconds : ℕ) → seconds ≡ 0 → later_by seconds m ≡ m
later_by_none m seconds is = ap (λ t. cond t m (record { second = m.second + seconds; round = 0 })) (eq-eqb seconds 0 is)

pub later_by_some : (m : LaneTime) (seconds : ℕ) → (seconds ≡ 0 → ⊥) → later_by seconds m ≡ record { second = m.second + seconds; round = 0 }
later_by_some m seconds ne = ap (λ t. cond t m (record { second = m.second + seconds; round = 0 })) (ne_eqb seconds 0 ne)

pub later_by_second : (m : LaneTime) (seconds : ℕ) → (later_by seconds m).second ≡ m.second + seconds
later_by_second m seconds = ⊎_elim
    (λ (is : seconds ≡ 0). ap (λ (l : LaneTime). l.second) (later_by_none m seconds is) ∙ omega arith)
    (λ (ne : seconds ≡ 0 → ⊥). ap (λ (l : LaneTime). l.second) (later_by_some m seconds ne))
    (cases_eq seconds 0)

pub later_no_earlier : (m : LaneTime) (seconds : ℕ) → IsNoLater m (later_by seconds m)
later_no_earlier m seconds = ⊎_elim
    (λ (is : seconds ≡ 0). subst (IsNoLater m) (sym (later_by_none m seconds is)) (no_later_refl m))
    (λ (ne : seconds ≡ 0 → ⊥). subst (IsNoLater m) (sym (later_by_some m seconds ne)) (omega arith, λ is. absurd (ne (omega arith))))
    (cases_eq seconds 0)

pub not_before_itself : (a : LaneTime) → is_earlier a a ≡ false
not_before_itself a =
    ap (λ t. t || (eqb a.second a.second && ltb a.round a.round)) (le-ltb a.second a.second (omega arith))
    ∙ ap (λ t. t && ltb a.round a.round) (eq-eqb a.second a.second refl) ∙ le-ltb a.round a.round (omega arith)
