-- One result after another, where both may be faults.
use Rattle.std.proofs.Common.{◌≡◌, Result, Ok, Err, refl, sym, ap, ◌∙◌}
use Rattle.std.specs.Result.{result_and}
use Rattle.stream_check.specs.declared.rules.fault.Fault.{Fault}
use Rattle.stream_check.specs.Results.{◌>>=◌, mapped}

bind_after : {A B C : Type 0} (r : Result A Fault) (s : Result B Fault) (f : B → Result C Fault) → ((r >>= λ a. s) >>= f) ≡ (r >>= λ a. s >>= f)
bind_after (Ok a) s f = refl
bind_after (Err fault) s f = refl

module _ {A X Y : Type 0} (view : X → Y) where
  joined : (first : Result A Fault) (second : Result X Fault) → mapped view (result_and first second) ≡ (first >>= λ a. mapped view second)
  joined (Ok a) second = refl
  joined (Err fault) second = refl

  module _ (first held : Result A Fault) (second : Result X Fault) (second_held : Result Y Fault) (both : Result X Fault) (is : both ≡ result_and first second) (one : first ≡ held) (other : mapped view second ≡ second_held) where
    -- it is what is defined of both
    pub joined_at : mapped view both ≡ (held >>= λ a. second_held)
    joined_at = ap (mapped view) is ∙ joined first second ∙ ap (λ r. r >>= λ a. mapped view second) one ∙ ap (λ r. held >>= λ a. r) other

    -- and its fault is that of what is made of both
    pub fault_of_both : {Z : Type 0} (fault : Fault) (f : Y → Result Z Fault) → both ≡ Err fault → Err fault ≡ (held >>= λ a. second_held >>= f)
    fault_of_both fault f faulty = ap (λ r. mapped view r >>= f) (sym faulty) ∙ ap (λ r. r >>= f) joined_at ∙ bind_after held second_held f
