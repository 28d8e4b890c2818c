-- What holds of each reading: of a saved plan in each form, and of what a command plans itself.
use Rattle.std.proofs.Common.{◌≡◌, ◌≤◌, ◌<◌, ◌⊎◌, ◌↔◌, ◌||◌, ℕ, zero, suc, Bool, false, IsTrue, List, Option, Some, length, nat_lt, Ok, Err, sym, ap, ◌∙◌, subst, arith, ⊎_elim}
use Rattle.std.proofs.lemmas.Bool.{lt-ltb}
use Rattle.apply_plan.specs.declared.plan.plan_error.PlanError.{PlanError}
use Rattle.apply_plan.specs.declared.plan.plan_error.PlanError.TheVariants as plan_error
use Rattle.apply_plan.specs.Bytes.{max_bytes}
use Rattle.apply_plan.specs.Plan.SavedPlan.{SavedPlan, plan_of}
use Rattle.apply_events.specs.declared.counts.Counts.{Counts}
use Rattle.apply_text_terraform.specs.declared.command.Command.{Command}
use Rattle.apply_text_terraform.specs.declared.command.Command.TheVariants.{Saved, Plan, Apply, Destroy}
use Rattle.apply_text_terraform.specs.declared.form.Form.{Form}
use Rattle.apply_text_terraform.specs.declared.form.Form.TheVariants.{Applystream, Terraform}
use Rattle.apply_run.specs.Bytes.{Inputs, given_script}
use Rattle.apply_run.specs.FromBytes.{IsReadFor, IsUnreadFor, ReadFor, Reading, ReportsError, applied_for, reading_of}
use Rattle.apply_run.specs.Read.{WasNotRead}
use Rattle.apply_run.specs.declared.refusal.Refusal.{Refusal}
use Rattle.apply_run.specs.declared.refusal.Refusal.TheVariants as refusal
use Rattle.apply_writer.specs.Stream.Terraform.{contains_error}
use Rattle.apply_command.specs.Reading.{AreUnstated, IsMisplanned, planned_reading}
use Rattle.apply_cli.specs.declared.job.Job.{Job}
use Rattle.apply_cli.specs.Invocation.{job_reading, lanes_of, reading_for}
use Rattle.apply_cli.specs.Status.{refusal_status_of, unfinished}
use Rattle.apply_cli.proofs.Front.{small_script, too_large}

-- what the command needs of a reading
pub record IsSound (reading : Reading) : Type 0 where
  -- what was read is a plan
  pub plan_read : (given : Inputs) (read : reading.Read) → reading.IsRead given read → (plan : SavedPlan) × (plan_of given.plan ≡ Ok plan)
  -- and its script, where there is one, has not too many bytes
  pub script_fits : (given : Inputs) (bytes : List ℕ) (read : reading.Read) → given.script ≡ Some bytes → reading.IsRead given read → length bytes ≤ max_bytes
  -- too many bytes of a plan are not read, with 2
  pub unread_large : (given : Inputs) (r : Refusal) → reading.IsUnread given r → max_bytes < length given.plan → refusal_status_of r ≡ 2
  -- the report says whether an error is reported
  pub status : (read : reading.Read) (counts : Counts) (contains : Bool) (status : ℕ) → contains ≡ contains_error (reading.notes read) counts
      → (status ≡ 1) ↔ IsTrue contains → (status ≡ 1) ↔ reading.ReportsError read counts

-- what was read has not too many bytes
pub not_large : {P : Type 0} (reading : Reading) (sound : IsSound reading) (given : Inputs) (read : reading.Read) → reading.IsRead given read → max_bytes < length given.plan → P
not_large reading sound given read is long = let refused = too_large given.plan long in let plan = sound.plan_read given read is in let known = plan.1 in absurd cc

-- in the default form a stream reports an error if and only if a step failed or was halted
status_by : (contains : Bool) (n status : ℕ) → contains ≡ (nat_lt 0 n || false) → (status ≡ 1) ↔ IsTrue contains → (status ≡ 1) ↔ (0 < n)
status_by contains zero status is status_is = ((λ e. let no = sym is ∙ status_is.0 e in absurd cc), (λ l. absurd (omega arith)))
status_by contains (suc n) status is status_is =
    ((λ _. omega arith), (λ _. status_is.1 (is ∙ ap (λ b. b || false) (lt-ltb 0 (suc n) (omega arith)))))

status_for : (form : Form) (read : ReadFor form) (counts : Counts) (contains : Bool) (status : ℕ) → contains ≡ contains_error (applied_for form read).extras.notes counts
    → (status ≡ 1) ↔ IsTrue contains → (status ≡ 1) ↔ ReportsError form read counts
status_for Applystream read counts contains status is status_is = status_by contains (unfinished counts) status is status_is
status_for Terraform read counts contains status is status_is = subst (λ (b : Bool). (status ≡ 1) ↔ IsTrue b) is status_is

-- what was read is a plan
plan_read : (form : Form) (given : Inputs) (read : ReadFor form) → IsReadFor form given read → (plan : SavedPlan) × (plan_of given.plan ≡ Ok plan)
plan_read Applystream given read is = (read.plan, is.plan_is)
plan_read Terraform given read is = (read.plan, is.plan_is)

plan_large : (given : Inputs) (r : PlanError) → ((r ≡ plan_error.Memory) × (length given.plan ≤ max_bytes)) ⊎ (plan_of given.plan ≡ Err r) → max_bytes < length given.plan → refusal_status_of (refusal.Plan r) ≡ 2
plan_large given r h long =
    let refused = too_large given.plan long in
    ⊎_elim
    (λ (m : (r ≡ plan_error.Memory) × (length given.plan ≤ max_bytes)). let short = m.1 in absurd (omega arith))
    (λ (is : plan_of given.plan ≡ Err r). let same : r ≡ plan_error.TooLarge = let both = sym is ∙ refused in cc in ap (λ (e : PlanError). refusal_status_of (refusal.Plan e)) same)
    h

-- too many bytes are not read, with 2
unread_large : (form : Form) (given : Inputs) (r : Refusal) → IsUnreadFor form given r → max_bytes < length given.plan → refusal_status_of r ≡ 2
unread_large Applystream given (refusal.Plan r) h long = plan_large given r h long
unread_large Applystream given (refusal.Script r) h long = let refused = too_large given.plan long in let read = h.1 in absurd cc
unread_large Applystream given refusal.Waits h long = absurd h
unread_large Applystream given refusal.Size h long = absurd h
unread_large Applystream given (refusal.Fault fault) h long = absurd h
unread_large Terraform given (refusal.Plan r) h long = plan_large given r h long
unread_large Terraform given (refusal.Script r) h long = let refused = too_large given.plan long in let read = h.1 in absurd cc
unread_large Terraform given refusal.Waits h long = absurd h
unread_large Terraform given refusal.Size h long = absurd h
unread_large Terraform given (refusal.Fault fault) h long = absurd h

script_fits : (form : Form) (given : Inputs) (bytes : List ℕ) (read : ReadFor form) → given.script ≡ Some bytes → IsReadFor form given read → length bytes ≤ max_bytes
script_fits Applystream given bytes read is h = small_script read.plan read.script bytes (subst (λ s. given_script read.plan s ≡ Ok read.script) is h.script_is)
script_fits Terraform given bytes read is h = small_script read.plan read.script bytes (subst (λ s. given_script read.plan s ≡ Ok read.script) is h.script_is)

pub form_sound : (form : Form) → IsSound (reading_of form)
form_sound form = record {
  plan_read = plan_read form;
  script_fits = script_fits form;
  unread_large = unread_large form;
  status = status_for form;
}

-- of what a command plans itself
command_unread_large : (command : Command) (refresh : Bool) (given : Inputs) (r : Refusal) → AreUnstated command refresh given r → max_bytes < length given.plan → refusal_status_of r ≡ 2
command_unread_large command refresh given (refusal.Plan r) h long = plan_large given r h long
command_unread_large command refresh given (refusal.Script r) h long =
    let refused = too_large given.plan long in
    ⊎_elim
    (λ (unread : WasNotRead given.plan given.script (refusal.Script r)). let read = unread.1 in absurd cc)
    (λ (unplanned : IsMisplanned command refresh given r). let read = unplanned.stated_is.plan_is in absurd cc)
    h
command_unread_large command refresh given refusal.Waits h long = absurd h
command_unread_large command refresh given refusal.Size h long = absurd h
command_unread_large command refresh given (refusal.Fault fault) h long = absurd h

pub command_sound : (command : Command) (refresh : Bool) (lanes : ℕ) → IsSound (planned_reading command refresh lanes)
command_sound command refresh lanes = record {
  plan_read = λ given read is. (read.stated.plan, is.stated.plan_is);
  script_fits = λ given bytes read is_given is. small_script read.stated.plan read.stated.script bytes (subst (λ s. given_script read.stated.plan s ≡ Ok read.stated.script) is_given is.stated.script_is);
  unread_large = command_unread_large command refresh;
  status = λ read counts contains status is status_is. subst (λ (b : Bool). (status ≡ 1) ↔ IsTrue b) is status_is;
}

pub sound_for : (form : Form) (command : Command) (refresh : Bool) (parallelism : Option ℕ) → IsSound (reading_for form command refresh parallelism)
sound_for form Saved refresh parallelism = form_sound form
sound_for form Plan refresh parallelism = command_sound Plan refresh (lanes_of parallelism)
sound_for form Apply refresh parallelism = command_sound Apply refresh (lanes_of parallelism)
sound_for form Destroy refresh parallelism = command_sound Destroy refresh (lanes_of parallelism)

pub job_sound : {a b : _} {g : _} (job : Job a b g) (parallelism : Option ℕ) → IsSound (job_reading job parallelism)
job_sound job parallelism = sound_for job.form job.command job.refresh parallelism
