-- What follows of a stream that was read: no line was too long, and the answer is what was read.
use Rattle.std.proofs.Common.{◌≡◌, ℕ, ◌+◌, ◌≤◌, Bool, true, false, List, [], ◌∷◌, length, cond, Ok, Err, refl, nat_lt}
use Rattle.std.specs.Prelude.{Result}
use Rattle.std.specs.List.{AllByRecursion}
use Rattle.std.proofs.lemmas.Bool.{ltb-false}
use Rattle.apply_model.specs.Plan.SavedPlan.{SavedPlan}
use Rattle.stream_lines.specs.Limits.{max_bytes}
use Rattle.stream_record_stream.specs.Reading.{Known, either, read_after, version_again, with_line}
use Rattle.stream_record_stream.specs.Streams.{StreamRead}
use Rattle.stream_record_stream.specs.declared.stream_fault.StreamFault.{StreamFault}
use Rattle.stream_record_stream.specs.declared.stream_fault.StreamFault.TheVariants as fault

pub same_read : (refused : Bool) (why : StreamFault) (stream read : StreamRead) → cond refused (Err why) (Ok stream) ≡ Ok read → read ≡ stream
same_read true why stream read is = absurd cc
same_read false why stream read is = cc

abbrev AreShort : List (List ℕ) → Type 0
AreShort lines = AllByRecursion (λ (line : List ℕ). length line ≤ max_bytes) lines

module _ (plan : SavedPlan) where
  -- what is read of the lines after one
  abbrev next : (number : ℕ) → (lines : List (List ℕ)) → Result Known ℕ → Result StreamRead StreamFault
  next number lines result = either result (λ more. read_after plan false (number + 1) more lines) (λ first. Err (version_again false number first lines))

  of_result : (number : ℕ) (lines : List (List ℕ)) (read : StreamRead) (result : Result Known ℕ) → ((more : Known) → read_after plan false (number + 1) more lines ≡ Ok read → AreShort lines)
      → next number lines result ≡ Ok read → AreShort lines
  of_result number lines read (Ok more) others is = others more is
  of_result number lines read (Err first) others is = absurd cc

  of_length : (number : ℕ) (line : List ℕ) (lines : List (List ℕ)) (read : StreamRead) (result : Result Known ℕ) (long : Bool) → nat_lt max_bytes (length line) ≡ long
      → (next number lines result ≡ Ok read → AreShort lines) → cond long (Err (fault.TooLong number)) (next number lines result) ≡ Ok read → AreShort (line ∷ lines)
  of_length number line lines read result true long others is = absurd cc
  of_length number line lines read result false short others is = (ltb-false max_bytes (length line) short, others is)

  pub short_lines : (number : ℕ) (known : Known) (lines : List (List ℕ)) (read : StreamRead) → read_after plan false number known lines ≡ Ok read
      → AllByRecursion (λ (line : List ℕ). length line ≤ max_bytes) lines
  short_lines number known [] read is = tt
  short_lines number known (line ∷ lines) read is =
      let result = with_line plan false number line known in
      of_length number line lines read result (nat_lt max_bytes (length line)) refl
      (of_result number lines read result (λ more is. short_lines (number + 1) more lines read is)) is
