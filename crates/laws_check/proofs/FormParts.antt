-- Parts of the messages of a whole stream in Terraform's form.
use Rattle.std.proofs.Common.{◌≡◌, ◌≢◌, ℕ, ◌+◌, List, [], ◌∷◌, cond, count_by, filter, length, map, Bool, true, false, Option, Some, None, refl, ap, ◌∙◌, arith}
use Rattle.std.specs.Prelude.{◌||◌, nat_lt, not}
use Rattle.std.specs.List.{list_any}
use Rattle.std.proofs.lemmas.List.Sums.{sum_by-cons}
use Rattle.apply_model.specs.declared.details.note.Note.{Note}
use Rattle.stream_check.specs.declared.messages.action.Action.{Action}
use Rattle.stream_check.specs.declared.messages.action.Action.TheVariants.{Create, Update, Delete, Read, Refresh}
use Rattle.stream_check.specs.declared.rules.pending.Pending.{Pending}
use Rattle.stream_check.specs.Message.{Message}
use Rattle.stream_check.specs.Tally.{is_error, line_of}
use Rattle.apply_events.specs.declared.event.Event.{Event}
use Rattle.apply_events.specs.Diagnostics.{is_note}
use Rattle.apply_text.specs.Order.{hook_messages_of}
use Rattle.apply_writer.specs.Stream.Terraform as form
use Rattle.laws_check.specs.ReadBackInForm.{diagnostic_read_back}
use Rattle.laws_check.proofs.Errors.{any_counted}
use Rattle.laws_check.proofs.FormFailures.{AreDiagnostics}
use Rattle.laws_check.proofs.FormPendings.{Matches}
use Rattle.laws_check.proofs.Parts.{Each, each_weaker}

pub notes_are_errors : (notes : List Note) → AreDiagnostics (map diagnostic_read_back notes)
notes_are_errors [] = tt
notes_are_errors (note ∷ notes) = ((form.is_error note, note.address, refl), notes_are_errors notes)

pub notes_err : (notes : List Note) → list_any is_error (map diagnostic_read_back notes) ≡ list_any form.is_error notes
notes_err [] = refl
notes_err (note ∷ notes) = ap (λ (b : Bool). form.is_error note || b) (notes_err notes)

pub none_counted : {X : Type 0} (q : X → Bool) (xs : List X) → count_by q xs ≡ 0 → list_any q xs ≡ false
none_counted q xs none = any_counted q xs ∙ ap (nat_lt 0) none

-- a message that is not there has no line
pub none_on : (q : Message → Bool) (ms : List Message) → count_by q ms ≡ 0 → line_of q ms ≡ None
none_on q [] none = refl
none_on q (m ∷ ms) none =
    let all = sum_by-cons (λ x. cond (q x) 1 0) m ms in
    let rest : line_of q ms ≡ None = none_on q ms (omega arith) in
    first (q m) rest (omega arith)
  where
    first : (b : Bool) → line_of q ms ≡ None → cond {A = ℕ} b 1 0 ≡ 0 → cond b (Some (length ms + 1)) (line_of q ms) ≡ None
    first true rest e = absurd (omega arith)
    first false rest e = rest

pub none_too : (k : Action) → k ≢ Read → (p q : Option Pending) → Matches k p q → p ≡ None → q ≡ None
none_too k other (Some p) q h e = absurd cc
none_too k other None None h e = refl
none_too Create other None (Some q) h e = absurd h
none_too Update other None (Some q) h e = absurd h
none_too Delete other None (Some q) h e = absurd h
none_too Refresh other None (Some q) h e = absurd h
none_too Read other None (Some q) h e = absurd (other refl)

pub not_true : (b : Bool) → not b ≡ true → b ≡ false
not_true true e = absurd cc
not_true false e = refl

-- what a test keeps passes it
pub each_verbatim : (t : Event → Bool) (es : List Event) → Each (λ e. t e ≡ true) (filter t es)
each_verbatim t [] = tt
each_verbatim t (e ∷ es) = at (each_verbatim t es) (t e) refl
  where
    at : Each (λ e. t e ≡ true) (filter t es) → (b : Bool) → t e ≡ b → Each (λ e. t e ≡ true) (cond b (e ∷ filter t es) (filter t es))
    at rest true is = (is, rest)
    at rest false is = rest

pub hooks_filtered : (es : List Event) → Each (λ e. is_note e.what ≡ false) (hook_messages_of es)
hooks_filtered es = each_weaker (λ e. not (is_note e.what) ≡ true) (λ e. is_note e.what ≡ false) (λ e is. not_true (is_note e.what) is) (hook_messages_of es) (each_verbatim (λ e. not (is_note e.what)) es)
