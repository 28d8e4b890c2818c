-- Texts that are written into an empty buffer.
use Rattle.std.proofs.Common.{◌≡◌, ℕ, List, [], ◌++◌, codes, decimal, Option, ap, ◌∙◌, append_assoc}
use Rattle.apply_model.specs.declared.plan.step_kind.StepKind.{StepKind}
use Rattle.apply_model.specs.Plan.ResourceChange.{ResourceChange}
use Rattle.apply_hooks.specs.declared.phase.Phase.{Phase}
use Rattle.apply_text.specs.Elapsed.{elapsed_of}
use Rattle.apply_text.specs.Message.{complete_message, halt_of, id_suffix, provision_complete_message, provision_errored_message}
use Rattle.apply_text.specs.Words.{action_word, noun_word, phase_words}

pub cleared : (old new text : List ℕ) → old ≡ [] → new ≡ old ++ text → new ≡ text
cleared old new text empty grown = grown ∙ ap (λ s. s ++ text) empty

-- the pieces of the text of a completion
pub complete_text : (change : ResourceChange) (step : StepKind) (seconds : ℕ) (address noun : List ℕ) (id id₂ : Option (List ℕ)) → address ≡ change.address → noun ≡ noun_word step → id ≡ id₂
    → address ++ (codes ": " ++ (noun ++ (codes " complete after " ++ (elapsed_of seconds ++ id_suffix id)))) ≡ (complete_message change step seconds id₂).text
complete_text change step seconds address noun id id₂ addresses nouns ids = rw (addresses, nouns, ids) (simp append_assoc)

-- the pieces of the text of a halt
pub halt_text : (step : StepKind) (phase : Phase) (hook : ℕ) (phases action : List ℕ) → phases ≡ phase_words phase → action ≡ action_word step
    → codes "Hook " ++ (decimal hook ++ (codes " answered Halt " ++ (phases ++ (codes " " ++ (action ++ codes "."))))) ≡ (halt_of step phase hook).detail
halt_text step phase hook phases action same_phases same_action = rw (same_phases, same_action) (simp append_assoc)

-- the pieces of the texts of a provisioner's end
pub provision_complete_text : (change : ResourceChange) (address name name₂ : List ℕ) → address ≡ change.address → name ≡ name₂
    → address ++ (codes ": (" ++ (name ++ codes ") Provisioning complete")) ≡ (provision_complete_message change name₂).text
provision_complete_text change address name name₂ addresses names = rw (addresses, names) (simp append_assoc)

pub provision_errored_text : (change : ResourceChange) (address name name₂ : List ℕ) → address ≡ change.address → name ≡ name₂
    → address ++ (codes ": (" ++ (name ++ codes ") Provisioning errored")) ≡ (provision_errored_message change name₂).text
provision_errored_text change address name name₂ addresses names = rw (addresses, names) (simp append_assoc)
