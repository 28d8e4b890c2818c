-- Steps and provisioners of a stream, and how messages change them.
use Rattle.std.specs.Prelude.{ℕ, zero, suc, ◌+◌, ℤ, List, [], ◌∷◌, ◌++◌, map, Bool, true, false, ◌&&◌, if◌then◌else◌, Option, Some, None, is_none}
use Rattle.std.specs.Int.{int_max}
use Rattle.std.specs.Str.{bytes_eq}

pub record ProvisionerRead : Type 0 where
  pub name : List ℕ
  -- microseconds since the start of 1970
  pub begin : ℤ
  pub end : Option ℤ
  pub failed : Bool

pub record StepRead : Type 0 where
  -- the number of the line that begins the step, counted from 1
  pub line : ℕ
  pub address : List ℕ
  pub action : List ℕ
  pub begin : ℤ
  pub end : Option ℤ
  pub failed : Bool
  pub provisioners : List ProvisionerRead

-- ---- the steps that a message is about

abbrev pub is_open : StepRead → Bool
is_open step = is_none step.end

abbrev pub is_open_at : (address : List ℕ) → StepRead → Bool
is_open_at address step = is_open step && bytes_eq step.address address

abbrev pub is_open_with : (address action : List ℕ) → StepRead → Bool
is_open_with address action step = is_open_at address step && bytes_eq step.action action

-- the places of the elements that pass, in order, counted from `n`
abbrev pub places_from : {A : Type 0} → ℕ → (A → Bool) → List A → List ℕ
places_from n test [] = []
places_from n test (x ∷ xs) = if test x then n ∷ places_from (n + 1) test xs else places_from (n + 1) test xs

abbrev pub places : {A : Type 0} → (A → Bool) → List A → List ℕ
places test xs = places_from 0 test xs

abbrev pub first_of : {A : Type 0} → List A → Option A
first_of [] = None
first_of (x ∷ xs) = Some x

abbrev pub last_of : {A : Type 0} → List A → Option A
last_of [] = None
last_of (x ∷ []) = Some x
last_of (x ∷ (y ∷ xs)) = last_of (y ∷ xs)

-- the list with the element at a place changed
abbrev pub at_place : {A : Type 0} → ℕ → (A → A) → List A → List A
at_place n change [] = []
at_place zero change (x ∷ xs) = change x ∷ xs
at_place (suc n) change (x ∷ xs) = x ∷ at_place n change xs

-- the element at a place passes
abbrev pub passes_at : {A : Type 0} → ℕ → (A → Bool) → List A → Bool
passes_at n test [] = false
passes_at zero test (x ∷ xs) = test x
passes_at (suc n) test (x ∷ xs) = passes_at n test xs

-- ---- changes of a provisioner

abbrev pub begun_provisioner : (name : List ℕ) → ℤ → ProvisionerRead
begun_provisioner name time = record { name = name; begin = time; end = None; failed = false }

-- a provisioner ends, but not before its begin
abbrev pub ended_provisioner : ℤ → (failed : Bool) → ProvisionerRead → ProvisionerRead
ended_provisioner time failed p = record p { end = Some (int_max p.begin time); failed = failed }

-- the end of a step ends a provisioner that has no end
abbrev pub ended_with_step : ℤ → ProvisionerRead → ProvisionerRead
ended_with_step time p = if is_none p.end then record p { end = Some (int_max p.begin time) } else p

abbrev pub last_is_open : List ProvisionerRead → Bool
last_is_open [] = false
last_is_open (p ∷ []) = is_none p.end
last_is_open (p ∷ (q ∷ ps)) = last_is_open (q ∷ ps)

abbrev pub with_last_ended : ℤ → (failed : Bool) → List ProvisionerRead → List ProvisionerRead
with_last_ended time failed [] = []
with_last_ended time failed (p ∷ []) = ended_provisioner time failed p ∷ []
with_last_ended time failed (p ∷ (q ∷ ps)) = p ∷ with_last_ended time failed (q ∷ ps)

-- ---- changes of a step

abbrev pub begun_step : (line : ℕ) → (address action : List ℕ) → ℤ → StepRead
begun_step line address action time = record {
  line = line;
  address = address;
  action = action;
  begin = time;
  end = None;
  failed = false;
  provisioners = [];
}

-- a step ends, but not before its begin, and its open provisioners end with it
abbrev pub ended : ℤ → (failed : Bool) → StepRead → StepRead
ended time failed step = record step {
  end = Some (int_max step.begin time);
  failed = failed;
  provisioners = map (ended_with_step (int_max step.begin time)) step.provisioners;
}

abbrev pub with_provisioner : (name : List ℕ) → ℤ → StepRead → StepRead
with_provisioner name time step =
    record step { provisioners = step.provisioners ++ begun_provisioner name time ∷ [] }

abbrev pub has_open_provisioner : StepRead → Bool
has_open_provisioner step = last_is_open step.provisioners

abbrev pub with_provisioner_ended : ℤ → (failed : Bool) → StepRead → StepRead
with_provisioner_ended time failed step =
    record step { provisioners = with_last_ended time failed step.provisioners }

abbrev pub marked : StepRead → StepRead
marked step = record step { failed = true }

-- an error with an address marks each step that is open there
abbrev pub marked_by_error : (address : Option (List ℕ)) → StepRead → StepRead
marked_by_error None step = step
marked_by_error (Some address) step = if is_open_at address step then marked step else step
