-- Started turns in the order of their starts. The definitions have the last start first.
use Rattle.std.proofs.Common.{◌≡◌, ℕ, List, [], ◌∷◌, ◌++◌, All, cond, reverse, refl, sym, ap, ◌∙◌, subst, eqb}
use Rattle.std.proofs.lemmas.List.{append-nil, append_assoc, reverse-append, reverse-reverse}
use Rattle.std.proofs.lemmas.List.Elements.{All-append, All-cons, All-head, All-nil, All-tail}
use Rattle.apply_events.specs.declared.lanes.turn.StartedTurn.{StartedTurn}
use Rattle.apply_events.specs.Lanes.LaneState.{emitted_by}
use Rattle.apply_events.specs.Step.{Work}
use Rattle.apply_events.specs.Waits.TimeLine.{lane_turns, turn_events}

reverse-cons : {X : Type 0} (x : X) (xs : List X) → reverse (x ∷ xs) ≡ reverse xs ++ x ∷ []
reverse-cons x xs = reverse-append (x ∷ []) xs

pub All-reverse : {X : Type 0} (P : X → Type 0) (xs : List X) → All P xs → All P (reverse xs)
All-reverse P [] all = All-nil P
All-reverse P (x ∷ xs) all =
    subst (All P) (sym (reverse-cons x xs)) (All-append P (reverse xs) (x ∷ []) (All-reverse P xs (All-tail P x xs all)) (All-cons P x [] (All-head P x xs all) (All-nil P)))

-- the events of the turn that started first come first
turns_append : (w : Work) (lane : ℕ) (later before : List StartedTurn) → lane_turns w (later ++ before) lane ≡ lane_turns w before lane ++ lane_turns w later lane
turns_append w lane [] before = sym (append-nil (lane_turns w before lane))
turns_append w lane (one ∷ later) before =
    let here = cond (eqb one.lane lane) (turn_events w one) [] in
    ap (λ es. es ++ here) (turns_append w lane later before) ∙ append_assoc (lane_turns w before lane) (lane_turns w later lane) here

pub emitted_is : (w : Work) (lane : ℕ) (started : List StartedTurn) → lane_turns w (reverse started) lane ≡ emitted_by w lane started
emitted_is w lane [] = refl
emitted_is w lane (one ∷ started) =
    let here = cond (eqb one.lane lane) (turn_events w one) [] in
    ap (λ l. lane_turns w l lane) (reverse-cons one started) ∙ turns_append w lane (reverse started) (one ∷ [])
    ∙ ap (λ es. here ++ es) (emitted_is w lane started)

pub emitted_of : (w : Work) (lane : ℕ) (started schedule : List StartedTurn) → started ≡ reverse schedule → emitted_by w lane started ≡ lane_turns w schedule lane
emitted_of w lane started schedule is =
    sym (emitted_is w lane started) ∙ ap (λ l. lane_turns w (reverse l) lane) is ∙ ap (λ l. lane_turns w l lane) (reverse-reverse schedule)
