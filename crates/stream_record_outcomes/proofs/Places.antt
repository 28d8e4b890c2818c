-- The first place that passes a test.
use Rattle.std.proofs.Common.{◌≡◌, ◌∙◌, ℕ, ◌≤◌, ◌++◌, List, Option, None, Some, Bool, true, false, cond, ap, arith, drop, length, sym, refl, take}
use Rattle.std.specs.Prelude.{if◌then◌else◌, nat_lt, not, option_map, position, slice_get}
use Rattle.std.specs.List.{before_first, filter_map, find, position_or_len}
use Rattle.std.specs.Option.{option_map_or}
use Rattle.std.proofs.Math.Seq.{take-append_seam}
use Rattle.std.proofs.lemmas.Bool.Decides.{nat_tests}
use Rattle.std.proofs.lemmas.List.{append-nil, drop_all, take_all}
use Rattle.std.proofs.lemmas.List.Folds.{find_at}
use Rattle.std.proofs.lemmas.List.Sums.{prefix_len-le-length}
use Rattle.std.proofs.lemmas.Option.{slice_get_past}
use Rattle.apply_model.specs.declared.script.timed_text.TimedText.{TimedText}
use Rattle.stream_record_outcomes.specs.Provisioners.{ProvisionerRun, begins, end_second, run_from, until_of}
use Rattle.stream_record_outcomes.specs.Times.{TimedFact}

-- ---- the place, if there is one

some_place : (b : Bool) (m n : ℕ) → Some n ≡ cond b (Some m) None → m ≡ n
some_place true m n is = cc
some_place false m n is = cc

no_place : (b : Bool) (m l : ℕ) → nat_lt m l ≡ b → m ≤ l → (let o : Option ℕ = None in o) ≡ cond b (Some m) None → m ≡ l
no_place true m l test within is = cc
no_place false m l test within is = grind (arith, nat_tests)

pub place_found : {X : Type 0} (p : X → Bool) (xs : List X) (n : ℕ) → Some n ≡ position p xs → position_or_len p xs ≡ n
place_found p xs n is = some_place (nat_lt (position_or_len p xs) (length xs)) (position_or_len p xs) n is

pub place_missing : {X : Type 0} (p : X → Bool) (xs : List X) → None ≡ position p xs → position_or_len p xs ≡ length xs
place_missing p xs is =
    no_place (nat_lt (position_or_len p xs) (length xs)) (position_or_len p xs) (length xs) refl (prefix_len-le-length (λ x. not (p x)) xs) is

pub found_at : {X : Type 0} (p : X → Bool) (xs : List X) (n : ℕ) → Some n ≡ position p xs → find p xs ≡ slice_get xs n
found_at p xs n is = find_at p xs ∙ ap (λ (m : ℕ). slice_get xs m) (place_found p xs n is)

pub found_none : {X : Type 0} (p : X → Bool) (xs : List X) → None ≡ position p xs → find p xs ≡ None
found_none p xs is =
    find_at p xs ∙ ap (λ (m : ℕ). slice_get xs m) (place_missing p xs is) ∙ slice_get_past xs (length xs) (omega arith)

-- ---- a provisioner that began

mapped : (o : Option TimedFact) (second d : ℕ) → Some second ≡ option_map (λ fact. fact.second) o → option_map_or (λ fact. fact.second) o d ≡ second
mapped None second d is = cc
mapped (Some fact) second d is = cc

module _ (to_own_end : Bool) (whole begin : ℕ) (facts : List TimedFact) (name : List ℕ) where
  -- the provisioner, with its end and its facts
  abbrev run_with : ℕ → List TimedFact → ProvisionerRun
  run_with until own = record { name = name; begin = begin; until = until; facts = own }

  pub run_at : (n second : ℕ) (own : List TimedFact) → own ≡ take n facts → Some n ≡ position begins facts
      → Some second ≡ option_map (λ fact. fact.second) (slice_get facts n) → run_with second own ≡ run_from to_own_end whole begin facts name
  run_at n second own front is at =
      let last : ℕ = if to_own_end then end_second whole facts else whole in
      let until : until_of to_own_end whole facts ≡ second =
      ap (λ (o : Option TimedFact). option_map_or (λ fact. fact.second) o last) (found_at begins facts n is)
      ∙ mapped (slice_get facts n) second last at
      in
      let cut : before_first begins facts ≡ own = ap (λ (m : ℕ). take m facts) (place_found begins facts n is) ∙ sym front in
      sym (ap (λ (u : ℕ). run_with u (before_first begins facts)) until ∙ ap (λ (fs : List TimedFact). run_with second fs) cut)

  pub run_to_end : (second : ℕ) → None ≡ position begins facts → second ≡ (if to_own_end then end_second whole facts else whole)
      → run_with second facts ≡ run_from to_own_end whole begin facts name
  run_to_end second is at =
      let last : ℕ = if to_own_end then end_second whole facts else whole in
      let until : until_of to_own_end whole facts ≡ second =
      ap (λ (o : Option TimedFact). option_map_or (λ fact. fact.second) o last) (found_none begins facts is) ∙ sym at
      in
      let cut : before_first begins facts ≡ facts =
      ap (λ (m : ℕ). take m facts) (place_missing begins facts is) ∙ take_all (length facts) facts (omega arith)
      in
      sym (ap (λ (u : ℕ). run_with u (before_first begins facts)) until ∙ ap (λ (fs : List TimedFact). run_with second fs) cut)

-- ---- the first outputs

pub outputs_all : (n i : ℕ) (h : TimedFact → Option TimedText) (texts : List TimedText) (facts : List TimedFact) → length texts ≤ n → length facts ≤ i
    → take n (texts ++ filter_map h (drop i facts)) ≡ texts
outputs_all n i h texts facts few ends =
    ap (λ (fs : List TimedFact). take n (texts ++ filter_map h fs)) (drop_all i facts ends)
    ∙ ap (λ (ts : List TimedText). take n ts) (append-nil texts)
    ∙ take_all n texts few

pub outputs_full : (n : ℕ) (texts others : List TimedText) → length texts ≡ n → take n (texts ++ others) ≡ texts
outputs_full n texts others full = ap (λ (m : ℕ). take m (texts ++ others)) (sym full) ∙ take-append_seam texts others
