-- Each member with a known name counts for a run: with some value of it, the run reads another
-- thing.
use Rattle.std.proofs.Common.{◌≢◌, ℕ, List, codes, All, Some, None}
use Rattle.std.proofs.lemmas.List.Elements.{All-from_recursion}
use Rattle.serde_json.specs.Data.{Data, number, string, array, no_items, Members, no_members, member, unsigned}
use Rattle.apply_plan.specs.Script.Entry.{diag_from, ending_of, entry_of, failure_from, output_from, output_of_members, provisioner_from, step_from, wait_from, wait_of_members}
use Rattle.input_validate.specs.ScriptFindings.{diagnostic_names, entry_names, failure_names, output_names, provisioner_names, step_names, wait_names}
use Rattle.laws_validate.specs.Reading.{Counts}

-- ---- something is read with the member alone, or without it alone

there : {A : Type 0} (x : A) → Some x ≢ None
there x e = absurd cc

gone : {A : Type 0} (x : A) → None ≢ Some x
gone x e = absurd cc

-- ---- values, and members next to one

abbrev one : Data
one = number (unsigned 1)

abbrev a : Data
a = string (codes "a")

abbrev alone : (name : List ℕ) → Data → Members
alone name d = member name d no_members

pub entry_counts : All (Counts entry_of) entry_names
unfolding entry_of
entry_counts = All-from_recursion (Counts entry_of) entry_names (
  (alone (codes "steps") (array no_items), a, there _),
  (
    (member (codes "address") a (alone (codes "steps") (array no_items)), one, gone _),
    (
      (alone (codes "address") a, array no_items, there _),
      tt,
    ),
  ),
)

pub step_counts : All (Counts step_from) step_names
unfolding step_from ending_of
step_counts = All-from_recursion (Counts step_from) step_names (
  (no_members, one, there _),
  (
    (alone (codes "seconds") one, one, gone _),
    (
      (alone (codes "seconds") one, one, gone _),
      (
        (alone (codes "seconds") one, one, gone _),
        (
          (alone (codes "seconds") one, one, gone _),
          (
            (alone (codes "seconds") one, one, gone _),
            (
              (alone (codes "seconds") one, one, gone _),
              tt,
            ),
          ),
        ),
      ),
    ),
  ),
)

pub diagnostic_counts : All (Counts diag_from) diagnostic_names
diagnostic_counts = All-from_recursion (Counts diag_from) diagnostic_names (
  (no_members, a, there _),
  (
    (alone (codes "summary") a, one, gone _),
    (
      (alone (codes "summary") a, one, gone _),
      (
        (alone (codes "summary") a, one, gone _),
        tt,
      ),
    ),
  ),
)

pub failure_counts : All (Counts failure_from) failure_names
failure_counts = All-from_recursion (Counts failure_from) failure_names (
  (no_members, a, there _),
  (
    (alone (codes "summary") a, one, gone _),
    (
      (alone (codes "summary") a, one, gone _),
      (
        (alone (codes "summary") a, one, gone _),
        (
          (alone (codes "summary") a, one, gone _),
          tt,
        ),
      ),
    ),
  ),
)

pub provisioner_counts : All (Counts provisioner_from) provisioner_names
unfolding provisioner_from
provisioner_counts = All-from_recursion (Counts provisioner_from) provisioner_names (
  (alone (codes "seconds") one, a, there _),
  (
    (alone (codes "provisioner") a, one, there _),
    (
      (member (codes "provisioner") a (alone (codes "seconds") one), one, gone _),
      (
        (member (codes "provisioner") a (alone (codes "seconds") one), one, gone _),
        (
          (member (codes "provisioner") a (alone (codes "seconds") one), one, gone _),
          tt,
        ),
      ),
    ),
  ),
)

pub output_counts : All (Counts output_from) output_names
unfolding output_of_members
output_counts = All-from_recursion (Counts output_from) output_names (
  (alone (codes "text") a, a, gone _),
  (
    (no_members, a, there _),
    tt,
  ),
)

pub wait_counts : All (Counts wait_from) wait_names
unfolding wait_of_members
wait_counts = All-from_recursion (Counts wait_from) wait_names (
  (no_members, a, there _),
  (
    (alone (codes "address") a, one, gone _),
    (
      (alone (codes "address") a, a, gone _),
      tt,
    ),
  ),
)
