-- What is told of the front of the lines.
use Rattle.std.proofs.Common.{◌≡◌, ◌∙◌, ℕ, List, [], ◌∷◌, ◌++◌, Bool, ap, append_assoc, refl, sym}
use Rattle.stream_watch.specs.State.{State}
use Rattle.stream_watch.specs.Stream.{lines_told}
use Rattle.stream_watch.specs.Telling.{text_told}
use Rattle.stream_watch.specs.declared.looks.Looks.{Looks}

pub front_bytes : (looks : Looks) (find : Bool) (front rest : List (List ℕ)) (state : State)
    → (lines_told looks find (front ++ rest) state).bytes
    ≡ (lines_told looks find front state).bytes ++ (lines_told looks find rest (lines_told looks find front state).state).bytes
front_bytes looks find [] rest state = refl
front_bytes looks find (line ∷ front) rest state =
    let told = text_told looks state find line in
    ap (λ more. told.bytes ++ more) (front_bytes looks find front rest told.state)
    ∙ sym (append_assoc told.bytes (lines_told looks find front told.state).bytes _)

pub front_state : (looks : Looks) (find : Bool) (front rest : List (List ℕ)) (state : State)
    → (lines_told looks find (front ++ rest) state).state
    ≡ (lines_told looks find rest (lines_told looks find front state).state).state
front_state looks find [] rest state = refl
front_state looks find (line ∷ front) rest state = front_state looks find front rest (text_told looks state find line).state
