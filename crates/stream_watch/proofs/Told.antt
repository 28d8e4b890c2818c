-- What is told, one after the other.
use Rattle.std.proofs.Common.{◌≡◌, ◌∙◌, ℕ, List, [], ◌∷◌, ◌++◌, ap, append-nil, subst, sym}
use Rattle.std.proofs.lemmas.Grind.{flat_map-append}
use Rattle.term_words.proofs.Appended.{text_as, text_then}
use Rattle.stream_watch.specs.FurtherLines.{TellsFurther, further_lines}
use Rattle.stream_watch.specs.State.{State, Tells, Told, further_line, looks_of, state_of}
use Rattle.stream_watch.specs.declared.looks.Looks.{Looks}
use Rattle.stream_watch.specs.declared.mark.Mark.{Mark}
use Rattle.stream_watch.specs.declared.watcher.Watcher.{Watcher}

-- ---- what is told, and the state behind it

abbrev pub told : List ℕ → State → Told
told bytes state = record { bytes = bytes; state = state }

pub tells_as : (a b : Watcher) (v w : List ℕ) (s : State) → v ≡ w → Tells a b (told v s) → Tells a b (told w s)
tells_as a b v w s is more = subst (λ (bytes : List ℕ). Tells a b (told bytes s)) is more

pub tells_to : (a b : Watcher) (v w : List ℕ) (s : State) → Tells a b (told v s) → v ≡ w → Tells a b (told w s)
tells_to a b v w s more is = tells_as a b v w s is more

-- ---- further lines

pub further_one : (a b : Watcher) (mark : Mark) (text : List ℕ) → Tells a b (told (further_line (looks_of a) mark text) (state_of a))
    → TellsFurther a b mark (text ∷ [])
further_one a b mark text one = record {
  looks = one.looks;
  find = one.find;
  state = one.state;
  bytes = text_as a.printer.printed b.printer.printed _ _ (sym (append-nil (further_line (looks_of a) mark text))) one.bytes;
}

pub further_then : (a b c : Watcher) (mark : Mark) (xs ys : List (List ℕ)) → TellsFurther a b mark xs → TellsFurther b c mark ys
    → TellsFurther a c mark (xs ++ ys)
further_then a b c mark xs ys first second = record {
  looks = second.looks ∙ first.looks;
  find = second.find ∙ first.find;
  state = second.state ∙ first.state;
  bytes = text_as a.printer.printed c.printer.printed _ _
      (ap (λ (looks : Looks). further_lines (looks_of a) mark xs ++ further_lines looks mark ys) first.looks
      ∙ sym (flat_map-append (further_line (looks_of a) mark) xs ys))
      (text_then a.printer.printed b.printer.printed c.printer.printed _ _ first.bytes second.bytes);
}

pub further_as : (a b : Watcher) (mark : Mark) (xs ys : List (List ℕ)) → xs ≡ ys → TellsFurther a b mark xs → TellsFurther a b mark ys
further_as a b mark xs ys is more = subst (λ (texts : List (List ℕ)). TellsFurther a b mark texts) is more

pub further_to : (a b : Watcher) (mark : Mark) (xs ys : List (List ℕ)) → TellsFurther a b mark xs → xs ≡ ys → TellsFurther a b mark ys
further_to a b mark xs ys more is = further_as a b mark xs ys is more

-- ---- more behind what was told

-- further texts
pub told_further : (a b c : Watcher) (mark : Mark) (v : List ℕ) (s : State) (xs : List (List ℕ)) → Tells a b (told v s) → TellsFurther b c mark xs
    → Tells a c (told (v ++ further_lines (looks_of a) mark xs) s)
told_further a b c mark v s xs first second = record {
  looks = second.looks ∙ first.looks;
  find = second.find ∙ first.find;
  state = second.state ∙ first.state;
  bytes = text_then a.printer.printed b.printer.printed c.printer.printed v (further_lines (looks_of a) mark xs) first.bytes
      (text_as b.printer.printed c.printer.printed _ _ (ap (λ (looks : Looks). further_lines looks mark xs) first.looks) second.bytes);
}

-- what depends on looks and state
pub told_more : (a b c : Watcher) (f : Looks → State → List ℕ) (v : List ℕ) (s : State) → Tells a b (told v s)
    → Tells b c (told (f (looks_of b) (state_of b)) (state_of b)) → Tells a c (told (v ++ f (looks_of a) s) s)
told_more a b c f v s first second = record {
  looks = second.looks ∙ first.looks;
  find = second.find ∙ first.find;
  state = second.state ∙ first.state;
  bytes = text_as a.printer.printed c.printer.printed _ _
      (ap (λ (looks : Looks). v ++ f looks (state_of b)) first.looks ∙ ap (λ (state : State). v ++ f (looks_of a) state) first.state)
      (text_then a.printer.printed b.printer.printed c.printer.printed v (f (looks_of b) (state_of b)) first.bytes second.bytes);
}

-- another state
pub told_changed : (a b c : Watcher) (g : State → State) (v : List ℕ) (s : State) → Tells a b (told v s) → Tells b c (told [] (g (state_of b)))
    → Tells a c (told v (g s))
told_changed a b c g v s first second = record {
  looks = second.looks ∙ first.looks;
  find = second.find ∙ first.find;
  state = second.state ∙ ap g first.state;
  bytes = text_as a.printer.printed c.printer.printed _ _ (append-nil v)
      (text_then a.printer.printed b.printer.printed c.printer.printed v [] first.bytes second.bytes);
}
