-- Members that were put, one after another.
use Rattle.std.proofs.Common.{◌≡◌, ◌∙◌, ℕ, List, Result, Ok, Err, false, ap, subst}
use Rattle.std.specs.Prelude.{IfOk, OnErr}
use Rattle.std.specs.declared.alloc.AllocError.{AllocError}
use Rattle.serde_json.specs.Data.{Data, Members, put as with_member}
use Rattle.serde_json.specs.View.{view}
use Rattle.serde_json.specs.declared.value.Value.{Value}
use Rattle.stream_check.specs.Putting.{Holds, Puts}
use Rattle.stream_check.specs.declared.command.members.Members as putting

pub puts_then : (a b c : putting.Members) (f g : Members → Members) → Puts a b f → Puts b c g → Puts a c (λ ms. g (f ms))
puts_then a b c f g first second whole =
    let later = second whole in
    let sooner = first later.0 in
    (sooner.0, later.1 ∙ ap g sooner.1)

-- after known members
pub puts_all : (a b : putting.Members) (f : Members → Members) (ms : Members) → Holds a ms → Puts a b f → Holds b (f ms)
puts_all a b f ms held more whole = let all = more whole in all.1 ∙ ap f (held all.0)

-- a value that was made, where memory sufficed
pub puts_made : (r : Result Value AllocError) (a b : putting.Members) (name : List ℕ) (d : Data) → IfOk r (λ made. Puts a b (with_member name (view made)))
    → OnErr r (b.is_whole ≡ false) → IfOk r (λ made. view made ≡ d) → Puts a b (with_member name d)
puts_made (Ok made) a b name d puts refused is = subst (λ (e : Data). Puts a b (with_member name e)) is puts
puts_made (Err fault) a b name d puts refused is = λ whole. absurd cc
