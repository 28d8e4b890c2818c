-- The turn that is ready first: of mirrored turns, and of some of the turns.
use Rattle.std.proofs.Common.{◌≡◌, Bool, true, false, List, [], ◌∷◌, Option, Some, None, cond, map, refl, sym, ap, ◌∙◌, subst, ⊎_elim, ◌⊎◌, inl, inr}
use Rattle.std.specs.Prelude.{option_map}
use Rattle.std.specs.List.{Contains, filter}
use Rattle.std.proofs.lemmas.Bool.{cases_Bool, true≢false}
use Rattle.apply_events.specs.Step.{Work}
use Rattle.apply_events.specs.declared.lanes.lane_time.LaneTime.{LaneTime}
use Rattle.apply_events.specs.declared.lanes.turn.StartedTurn.{StartedTurn}
use Rattle.apply_events.specs.declared.lanes.turn.Turn.{Turn}
use Rattle.apply_events.specs.Waits.Done.{ready_at}
use Rattle.apply_events.specs.Waits.LaneTime.{IsNoLater, is_earlier}
use Rattle.apply_events.specs.Waits.Schedule.{Ready, earlier_of, first_ready, is_started, next_of, ready_turn}
use Rattle.apply_events.proofs.Waits.Earliest.{earlier_is, no_earlier_is}
use Rattle.apply_events.proofs.Waits.Members.{in_head, in_tail}
use Rattle.apply_events.proofs.Waits.Merge.{not_before_itself}
use Rattle.apply_events.proofs.Waits.Moments.{no_later_both, no_later_on, no_later_refl}

-- ---- two answers

-- the cases of the earlier of two
pub either_earlier : (a b : Option Ready) (ready : Ready) → earlier_of a b ≡ Some ready → (a ≡ Some ready) ⊎ (b ≡ Some ready)
either_earlier None b ready is = inr is
either_earlier (Some a) None ready is = inl is
either_earlier (Some a) (Some b) ready is = by_test (is_earlier b.at a.at) is
  where
    by_test : (t : Bool) → cond t (Some b) (Some a) ≡ Some ready → (Some a ≡ Some ready) ⊎ (Some b ≡ Some ready)
    by_test true is = inr is
    by_test false is = inl is

pub earlier_none : (a b : Option Ready) → earlier_of a b ≡ None → (a ≡ None) × (b ≡ None)
earlier_none None b is = (refl, is)
earlier_none (Some a) None is = (is, refl)
earlier_none (Some a) (Some b) is = by_test (is_earlier b.at a.at) is
  where
    by_test : (t : Bool) → cond t (Some b) (Some a) ≡ None → (Some a ≡ None) × (Some b ≡ None)
    by_test true is = absurd cc
    by_test false is = absurd cc

-- ---- mirrored turns

-- the turn is another one; the time stays
abbrev pub with_turn : (Turn → Turn) → Ready → Ready
with_turn m ready = record { turn = m ready.turn; at = ready.at }

earlier_mirrored : (m : Turn → Turn) (a b : Option Ready) → earlier_of (option_map (with_turn m) a) (option_map (with_turn m) b) ≡ option_map (with_turn m) (earlier_of a b)
earlier_mirrored m None b = refl
earlier_mirrored m (Some a) None = refl
earlier_mirrored m (Some a) (Some b) =
    elim (is_earlier b.at a.at) as (λ t. cond t (Some (with_turn m b)) (Some (with_turn m a)) ≡ option_map (with_turn m) (cond t (Some b) (Some a))) [ true ↦ refl | false ↦ refl ]

-- where the mirrored turns are ready at the same times, the mirrored turn of the first is the first
pub first_mirrored : (w v : Work) (before after : List StartedTurn) (m : Turn → Turn) (ts : List Turn)
    → ((turn : Turn) → Contains ts turn → next_of v after (m turn) ≡ option_map (with_turn m) (next_of w before turn))
    → first_ready v after (map m ts) ≡ option_map (with_turn m) (first_ready w before ts)
first_mirrored w v before after m [] same = refl
first_mirrored w v before after m (turn ∷ ts) same =
    ap (λ a. earlier_of a (first_ready v after (map m ts))) (same turn (in_head turn ts))
    ∙ ap (earlier_of (option_map (with_turn m) (next_of w before turn))) (first_mirrored w v before after m ts (λ other there. same other (in_tail turn ts other there)))
    ∙ earlier_mirrored m (next_of w before turn) (first_ready w before ts)

pub first_same : (w : Work) (before after : List StartedTurn) (ts : List Turn) → ((turn : Turn) → Contains ts turn → next_of w after turn ≡ next_of w before turn)
    → first_ready w after ts ≡ first_ready w before ts
first_same w before after [] same = refl
first_same w before after (turn ∷ ts) same =
    ap (λ a. earlier_of a (first_ready w after ts)) (same turn (in_head turn ts))
    ∙ ap (earlier_of (next_of w before turn)) (first_same w before after ts (λ other there. same other (in_tail turn ts other there)))

-- ---- some of the turns

next_turn : (w : Work) (started : List StartedTurn) (turn : Turn) (ready : Ready) → next_of w started turn ≡ Some ready → turn ≡ ready.turn
next_turn w started turn ready is = by_test (is_started started turn) (ready_at w started turn) is
  where
    by_test : (t : Bool) (answer : Option LaneTime) → cond t None (option_map (ready_turn turn) answer) ≡ Some ready → turn ≡ ready.turn
    by_test true answer is = absurd cc
    by_test false None is = absurd cc
    by_test false (Some at) is = let one : ready_turn turn at ≡ ready = cc in ap (λ (r : Ready). r.turn) one

module _ (w : Work) (started : List StartedTurn) (p : Turn → Bool) where
  filter_yes : (turn : Turn) (ts : List Turn) → p turn ≡ true → filter p (turn ∷ ts) ≡ turn ∷ filter p ts
  filter_yes turn ts its = ap (λ t. cond t (turn ∷ filter p ts) (filter p ts)) its

  filter_not : (turn : Turn) (ts : List Turn) → p turn ≡ false → filter p (turn ∷ ts) ≡ filter p ts
  filter_not turn ts its = ap (λ t. cond t (turn ∷ filter p ts) (filter p ts)) its

  pub none_of_some : (ts : List Turn) → first_ready w started ts ≡ None → first_ready w started (filter p ts) ≡ None
  none_of_some [] none = refl
  none_of_some (turn ∷ ts) none =
      let both = earlier_none (next_of w started turn) (first_ready w started ts) none in
      let rest = none_of_some ts both.1 in ⊎_elim
      (λ (yes : p turn ≡ true). ap (first_ready w started) (filter_yes turn ts yes) ∙ ap (λ a. earlier_of a (first_ready w started (filter p ts))) both.0 ∙ rest)
      (λ (no : p turn ≡ false). ap (first_ready w started) (filter_not turn ts no) ∙ rest)
      (cases_Bool (p turn))

  -- what the answer for some of them is, in view of the answer for all
  abbrev IsNoEarlier : Option Ready → Option Ready → Type 0
  IsNoEarlier all None = Unit {0}
  IsNoEarlier None (Some some) = ⊥
  IsNoEarlier (Some all) (Some some) = IsNoLater all.at some.at

  later_itself : (a : Option Ready) → IsNoEarlier a a
  later_itself None = tt
  later_itself (Some a) = no_later_refl a.at

  later_added : (a all some : Option Ready) → IsNoEarlier all some → IsNoEarlier (earlier_of a all) some
  later_added None all some h = h
  later_added (Some a) None None h = tt
  later_added (Some a) None (Some some) h = absurd h
  later_added (Some a) (Some all) None h = by_test (is_earlier all.at a.at)
    where
      by_test : (t : Bool) → IsNoEarlier (cond t (Some all) (Some a)) None
      by_test true = tt
      by_test false = tt
  later_added (Some a) (Some all) (Some some) h = by_test (is_earlier all.at a.at) refl
    where
      by_test : (t : Bool) → is_earlier all.at a.at ≡ t → IsNoEarlier (cond t (Some all) (Some a)) (Some some)
      by_test true is = h
      by_test false is = no_later_on a.at all.at some.at (no_earlier_is all.at a.at is) h

  before_head : (a all : Ready) (t : Bool) → is_earlier all.at a.at ≡ t → IsNoEarlier (cond t (Some all) (Some a)) (Some a)
  before_head a all true is = earlier_is all.at a.at is
  before_head a all false is = no_later_refl a.at

  later_both : (a all some : Option Ready) → IsNoEarlier all some → IsNoEarlier (earlier_of a all) (earlier_of a some)
  later_both None all some h = h
  later_both (Some a) None None h = later_itself (Some a)
  later_both (Some a) None (Some some) h = absurd h
  later_both (Some a) (Some all) None h = before_head a all (is_earlier all.at a.at) refl
  later_both (Some a) (Some all) (Some some) h = by_test (is_earlier some.at a.at)
    where
      by_test : (t : Bool) → IsNoEarlier (earlier_of (Some a) (Some all)) (cond t (Some some) (Some a))
      by_test true = later_added (Some a) (Some all) (Some some) h
      by_test false = before_head a all (is_earlier all.at a.at) refl

  no_earlier : (ts : List Turn) → IsNoEarlier (first_ready w started ts) (first_ready w started (filter p ts))
  no_earlier [] = tt
  no_earlier (turn ∷ ts) = ⊎_elim
      (λ (yes : p turn ≡ true). subst (λ l. IsNoEarlier (first_ready w started (turn ∷ ts)) (first_ready w started l)) (sym (filter_yes turn ts yes))
      (later_both (next_of w started turn) (first_ready w started ts) (first_ready w started (filter p ts)) (no_earlier ts)))
      (λ (no : p turn ≡ false). subst (λ l. IsNoEarlier (first_ready w started (turn ∷ ts)) (first_ready w started l)) (sym (filter_not turn ts no))
      (later_added (next_of w started turn) (first_ready w started ts) (first_ready w started (filter p ts)) (no_earlier ts)))
      (cases_Bool (p turn))

  -- one that is before all stays before some
  head_stays : (a all some : Option Ready) (ready : Ready) → a ≡ Some ready → earlier_of a all ≡ Some ready → IsNoEarlier all some → ((all ≡ Some ready) → some ≡ Some ready) → earlier_of a some ≡ Some ready
  head_stays None all some ready its is h keeps = absurd cc
  head_stays (Some a) all None ready its is h keeps = its
  head_stays (Some a) None (Some some) ready its is h keeps = absurd h
  head_stays (Some a) (Some all) (Some some) ready its is h keeps = by_test (is_earlier some.at a.at) (is_earlier all.at a.at) refl refl is
    where
      by_test : (t u : Bool) → is_earlier some.at a.at ≡ t → is_earlier all.at a.at ≡ u → cond u (Some all) (Some a) ≡ Some ready → cond t (Some some) (Some a) ≡ Some ready
      by_test false u st su its_cond = its
      by_test true true st su its_cond = keeps its_cond
      by_test true false st su its_cond =
          -- a is no later than all, all no later than some, some no later than a
          let same : some.at ≡ a.at = no_later_both some.at a.at (earlier_is some.at a.at st) (no_later_on a.at all.at some.at (no_earlier_is all.at a.at su) h) in
          absurd (true≢false (sym st ∙ ap (λ m. is_earlier m a.at) same ∙ not_before_itself a.at))

  -- the first of all turns is the first of some of them, where it is among them
  pub first_of_some : (ts : List Turn) (ready : Ready) → first_ready w started ts ≡ Some ready → p ready.turn ≡ true → first_ready w started (filter p ts) ≡ Some ready
  first_of_some [] ready is among = absurd cc
  first_of_some (turn ∷ ts) ready is among =
      let a = next_of w started turn in
      let all = first_ready w started ts in
      let some = first_ready w started (filter p ts) in
      let keeps : all ≡ Some ready → some ≡ Some ready = λ its. first_of_some ts ready its among in ⊎_elim
      (λ (yes : p turn ≡ true). ap (first_ready w started) (filter_yes turn ts yes) ∙ ⊎_elim
      (λ (its : a ≡ Some ready). head_stays a all some ready its is (no_earlier ts) keeps)
      (λ (its : all ≡ Some ready). ap (earlier_of a) (keeps its ∙ sym its) ∙ is)
      (either_earlier a all ready is))
      (λ (no : p turn ≡ false). ap (first_ready w started) (filter_not turn ts no) ∙ ⊎_elim
      (λ (its : a ≡ Some ready). absurd (true≢false (sym among ∙ ap p (sym (next_turn w started turn ready its)) ∙ no)))
      keeps
      (either_earlier a all ready is))
      (cases_Bool (p turn))
