-- Results that may be errors: in sequence, and for a whole list.
use Rattle.std.specs.Prelude.{◌≡◌, ◌≢◌, List, [], ◌∷◌, map, take, Option, Some, None, Result, Ok, Err}
use Rattle.std.specs.List.{enumerate_from}

infixl 10 ◌>>=◌
abbrev pub ◌>>=◌ : {A B E : Type 0} → Result A E → (A → Result B E) → Result B E
(Ok x) >>= f = f x
(Err e) >>= f = Err e

-- the value, or the error if there is none
abbrev pub or_refuse : {A E : Type 0} → E → Option A → Result A E
or_refuse refusal None = Err refusal
or_refuse refusal (Some x) = Ok x

-- the value, unless there is an error
abbrev pub unless_refused : {A E : Type 0} → Option E → A → Result A E
unless_refused None x = Ok x
unless_refused (Some refusal) x = Err refusal

-- all values, or the first error among them
abbrev pub all_or_first : {A E : Type 0} → List (Result A E) → Result (List A) E
all_or_first [] = Ok []
all_or_first (answer ∷ answers) = do
  x ← answer
  xs ← all_or_first answers
  Ok (x ∷ xs)

-- the result for each element of a list, given all elements before it
abbrev pub each_with_earlier : {D A : Type 0} → (List D → D → A) → List D → List A
each_with_earlier answer ds = map (λ p. answer (take p.0 ds) p.1) (enumerate_from 0 ds)

-- the result, as `view` shows it, is the defined one
abbrev pub IsExactly : {X Y E : Type 0} → (X → Y) → Result X E → Result Y E → Type 0
IsExactly view (Ok x) defined = defined ≡ Ok (view x)
IsExactly view (Err e) defined = defined ≡ Err e

-- the result, as `view` shows it, is the defined one, unless memory was refused
abbrev pub Gives : {X Y E : Type 0} → E → (X → Y) → Result X E → Result Y E → Type 0
Gives memory view (Ok x) defined = defined ≡ Ok (view x)
Gives memory view (Err e) defined = e ≢ memory → defined ≡ Err e
