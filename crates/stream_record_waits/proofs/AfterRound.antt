-- What a round leaves: the course goes on, and what is done stays done.
use Rattle.std.proofs.Common.{◌≡◌, ◌≢◌, ◌∙◌, ◌+◌, ◌&&◌, ℕ, List, [], ◌∷◌, Bool, true, false, cond, Option, None, Some, refl, sym, ap, arith, subst, ◌⊎◌, inl, inr, ⊎_elim}
use Rattle.std.specs.Prelude.{is_some, option_map}
use Rattle.std.specs.List.{Contains}
use Rattle.std.proofs.lemmas.Bool.{and_parts, cases_Bool, cases_eq}
use Rattle.std.proofs.lemmas.List.{get_or-set_other}
use Rattle.stream_record_waits.specs.declared.course.LaneEnd.{LaneEnd}
use Rattle.stream_record_waits.specs.declared.course.Mark.{Mark}
use Rattle.stream_record_waits.specs.declared.course.ReadyTurn.{ReadyTurn}
use Rattle.stream_record_waits.specs.declared.lane_time.LaneTime.{LaneTime}
use Rattle.stream_record_waits.specs.Basis.{AreMarks}
use Rattle.stream_record_waits.specs.Course.{Basis, Course, done_at, done_by, earlier_of, end_at, first_ready, goes_on, is_joined, is_put_back, later_if_both, next_of, ready_at, ready_turn, seconds_at, with_end, with_next, with_pin, with_turn}
use Rattle.stream_record_waits.specs.LaneTime.{is_earlier, later_by, next_round}
use Rattle.stream_record_waits.proofs.Members.{further, in_front}

-- what is done stays done
abbrev pub StaysDone : Basis → (old new : Course) → Type 0
StaysDone basis old new = (step : ℕ) (at : LaneTime) → done_at basis old step ≡ Some at → done_at basis new step ≡ Some at

module _ (basis : Basis) (old new : Course) (stays : StaysDone basis old new) where
  both : (a a' b b' : Option LaneTime) → ((x : LaneTime) → a ≡ Some x → a' ≡ Some x) → ((x : LaneTime) → b ≡ Some x → b' ≡ Some x) → (x : LaneTime) → later_if_both a b ≡ Some x → later_if_both a' b' ≡ Some x
  both None a' b b' keeps also x is = cc
  both (Some y) a' None b' keeps also x is = cc
  both (Some y) a' (Some z) b' keeps also x is = rw (keeps y refl, also z refl) is

  next : (o o' : Option LaneTime) → ((x : LaneTime) → o ≡ Some x → o' ≡ Some x) → (x : LaneTime) → option_map next_round o ≡ Some x → option_map next_round o' ≡ Some x
  next None o' keeps x is = cc
  next (Some y) o' keeps x is = rw (keeps y refl) is

  pub all_stay_done : (steps : List ℕ) (at : LaneTime) → done_by basis old steps ≡ Some at → done_by basis new steps ≡ Some at
  all_stay_done [] at is = is
  all_stay_done (step ∷ steps) at is =
      both (option_map next_round (done_at basis old step)) (option_map next_round (done_at basis new step)) (done_by basis old steps) (done_by basis new steps)
      (next (done_at basis old step) (done_at basis new step) (λ x here. stays step x here)) (λ x here. all_stay_done steps x here) at is

  pub marks_stay : (marks : List Mark) → AreMarks basis old marks → AreMarks basis new marks
  marks_stay marks are = record {
    each = are.each;
    are = λ step within. ((are.are step within).0, all_stay_done _ _ (are.are step within).1);
  }

-- a step that has no end gets one
module _ (basis : Basis) (course : Course) (step : ℕ) (at : LaneTime) (lane : ℕ) (none : end_at course step ≡ None) where
  pub other_ends : (other : ℕ) → other ≢ step → end_at (with_end course step at lane) other ≡ end_at course other
  other_ends other ne = get_or-set_other course.ends step other (Some (record { at = at; lane = lane })) None ne

  done_keeps : (goes : Bool) (o o' : Option LaneEnd) → o ≡ o' → (let f : LaneEnd → LaneTime = λ end. end.at in (x : LaneTime) → cond goes (option_map f o) None ≡ Some x → cond goes (option_map f o') None ≡ Some x)
  done_keeps goes o o' same x is = subst (λ (e : Option LaneEnd). cond goes (option_map (λ (end : LaneEnd). end.at) e) None ≡ Some x) same is

  not_yet : (goes : Bool) (o : Option LaneEnd) (x : LaneTime) → o ≡ None → cond goes (option_map (λ (end : LaneEnd). end.at) o) None ≡ Some x → ⊥
  not_yet true None x none is = cc
  not_yet true (Some end) x none is = cc
  not_yet false o x none is = cc

  pub end_stays : StaysDone basis course (with_end course step at lane)
  end_stays other x is = ⊎_elim
      (λ (same : other ≡ step). absurd (not_yet (goes_on basis other) (end_at course other) x (ap (end_at course) same ∙ none) is))
      (λ (ne : other ≢ step). done_keeps (goes_on basis other) (end_at course other) (end_at (with_end course step at lane) other) (sym (other_ends other ne)) x is)
      (cases_eq other step)

stays_on : (basis : Basis) (a b c : Course) → StaysDone basis a b → StaysDone basis b c → StaysDone basis a c
stays_on basis a b c first second step at is = second step at (first step at is)

-- a turn starts
module _ (basis : Basis) (course : Course) (step : ℕ) (begin : LaneTime) (lane : ℕ) (none : end_at course step ≡ None)
    (follow : is_joined basis (step + 1) ≡ true → end_at course (step + 1) ≡ None) where
  first_end : LaneTime
  first_end = later_by (seconds_at basis step) begin

  second_stays : (b : Bool) → (b ≡ true → is_joined basis (step + 1) ≡ true) → (at : LaneTime)
      → StaysDone basis (with_end course step at lane) (cond b (with_end (with_end course step at lane) (step + 1) (later_by (seconds_at basis (step + 1)) at) lane) (with_end course step at lane))
  second_stays true joined at = end_stays basis (with_end course step at lane) (step + 1) (later_by (seconds_at basis (step + 1)) at) lane
      (other_ends basis course step at lane none (step + 1) (λ is. omega (arith, is)) ∙ follow (joined refl))
  second_stays false joined at = λ other x is. is

  pub turn_stays : StaysDone basis course (with_turn basis course step begin lane)
  turn_stays = stays_on basis course (with_end course step (later_by (seconds_at basis step) begin) lane) (with_turn basis course step begin lane)
      (end_stays basis course step (later_by (seconds_at basis step) begin) lane none)
      (second_stays (goes_on basis step && is_joined basis (step + 1)) (λ is. (and_parts (goes_on basis step) (is_joined basis (step + 1)) is).1) (later_by (seconds_at basis step) begin))

-- a turn that is ready is put back, or starts
pub next_stays : (basis : Basis) (course : Course) (begin : LaneTime) (lane step : ℕ) → end_at course step ≡ None → (is_joined basis (step + 1) ≡ true → end_at course (step + 1) ≡ None)
    → StaysDone basis course (with_next basis course begin lane step)
next_stays basis course begin lane step none follow = elim (is_put_back basis course step begin lane) as (λ b. StaysDone basis course (cond b (with_pin course step) (with_turn basis course step begin lane))) [
  | true ↦ λ other x is. is
  | false ↦ turn_stays basis course step begin lane none follow
]

-- ---- the turn that is ready first

pub record IsNextTurn (basis : Basis) (course : Course) (turns : List ℕ) (turn : ReadyTurn) : Type 0 where
  pub among : Contains turns turn.step
  pub none : end_at course turn.step ≡ None
  pub ready : ready_at basis course turn.step ≡ Some turn.at

pub earlier_is : (a b : Option ReadyTurn) (turn : ReadyTurn) → earlier_of a b ≡ Some turn → (a ≡ Some turn) ⊎ (b ≡ Some turn)
earlier_is None b turn is = inr is
earlier_is (Some a) None turn is = inl is
earlier_is (Some a) (Some b) turn is = ⊎_elim
    (λ (yes : is_earlier b.at a.at ≡ true). inr (sym (ap (λ t. cond t (Some b) (Some a)) yes) ∙ is))
    (λ (no : is_earlier b.at a.at ≡ false). inl (sym (ap (λ t. cond t (Some b) (Some a)) no) ∙ is))
    (cases_Bool (is_earlier b.at a.at))

pub next_is : (step : ℕ) (end : Option LaneEnd) (ready : Option LaneTime) (turn : ReadyTurn) → cond (is_some end) None (option_map (ready_turn step) ready) ≡ Some turn
    → (end ≡ None) × (ready ≡ Some turn.at) × (turn.step ≡ step)
next_is step (Some end) ready turn is = cc
next_is step None None turn is = cc
next_is step None (Some at) turn is =
    let same : ready_turn step at ≡ turn = cc in
    (refl, ap (λ (t : ReadyTurn). Some t.at) same, sym (ap (λ (t : ReadyTurn). t.step) same))

pub next_turn : (basis : Basis) (course : Course) (turns : List ℕ) (turn : ReadyTurn) → first_ready basis course turns ≡ Some turn → IsNextTurn basis course turns turn
next_turn basis course [] turn is = cc
next_turn basis course (step ∷ steps) turn is = ⊎_elim
    (λ (here : next_of basis course step ≡ Some turn).
    let found = next_is step (end_at course step) (ready_at basis course step) turn here in
    record {
      among = subst (λ (s : ℕ). Contains (step ∷ steps) s) (sym found.2) (in_front step steps);
      none = ap (end_at course) found.2 ∙ found.0;
      ready = ap (ready_at basis course) found.2 ∙ found.1;
    })
    (λ (more : first_ready basis course steps ≡ Some turn).
    let found = next_turn basis course steps turn more in
    record { among = further step turn.step steps found.among; none = found.none; ready = found.ready })
    (earlier_is (next_of basis course step) (first_ready basis course steps) turn is)
