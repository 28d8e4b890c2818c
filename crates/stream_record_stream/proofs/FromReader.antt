-- A stream that is read line by line.
use Rattle.std.proofs.Common.{◌≡◌, ◌≢◌, ◌+◌, ◌<◌, ◌≤◌, ℕ, Bool, true, false, List, [], ◌∷◌, length, Option, Some, None, Ok, Err, refl, sym, ap, ◌∙◌, subst, inl, inr, ⊎_elim, arith}
use Rattle.std.specs.Prelude.{IfSome, Result, nat_lt, not, ◌⊎◌}
use Rattle.std.specs.Io.BufRead.{drop_through}
use Rattle.std.proofs.lemmas.Bool.{cases_Bool}
use Rattle.apply_model.specs.Plan.SavedPlan.{SavedPlan}
use Rattle.stream_lines.specs.Cut.{cut_lines, first_line}
use Rattle.stream_lines.specs.Limits.{max_bytes}
use Rattle.stream_lines.specs.Reading.{Gives}
use Rattle.stream_lines.specs.declared.line.LineEnd.{LineEnd}
use Rattle.stream_lines.specs.declared.line.LineEnd.TheVariants as next
use Rattle.stream_lines.proofs.FirstLine.{cut_first}
use Rattle.stream_record_stream.specs.Answers.{IsFault, IsReadOf, IsUnanswered, max_lines}
use Rattle.stream_record_stream.specs.Reading.{Known, at_end, either, is_of_another_plan, nothing_known, read_after, read_of, version_again, with_line}
use Rattle.stream_record_stream.specs.Streams.{StreamRead}
use Rattle.stream_record_stream.specs.declared.stream_fault.StreamFault.{StreamFault}
use Rattle.stream_record_stream.specs.declared.stream_fault.StreamFault.TheVariants as fault

less : (a b : ℕ) → a < b → nat_lt a b ≡ true
less a b many = grind (arith, many)

not_less : (a b : ℕ) → b ≤ a → nat_lt a b ≡ false
not_less a b few = grind (arith, few)

-- ---- the first of the lines that are left

-- the answer, by what the first line makes of what is known
abbrev turned : SavedPlan → (find : Bool) → (number : ℕ) → (lines : List (List ℕ)) → Result Known ℕ → Result StreamRead StreamFault
turned plan find number lines known =
    either known (λ more. read_after plan find (number + 1) more lines) (λ first. Err (version_again find number first lines))

short_line : (plan : SavedPlan) (find : Bool) (number : ℕ) (known : Known) (line : List ℕ) (lines : List (List ℕ)) → length line ≤ max_bytes
    → read_after plan find number known (line ∷ lines) ≡ turned plan find number lines (with_line plan find number line known)
short_line plan find number known line lines few = rw (not_less max_bytes (length line) few) refl

long_line : (plan : SavedPlan) (find : Bool) (number : ℕ) (known : Known) (line : List ℕ) (lines : List (List ℕ)) → max_bytes < length line
    → read_after plan find number known (line ∷ lines) ≡ Err (fault.TooLong number)
long_line plan find number known line lines many = rw (less max_bytes (length line) many) refl

-- so with the first line of bytes
short_first : (plan : SavedPlan) (find : Bool) (number : ℕ) (known : Known) (xs line : List ℕ) → xs ≢ [] → line ≡ first_line xs → length line ≤ max_bytes
    → read_after plan find number known (cut_lines xs) ≡ turned plan find number (cut_lines (drop_through 10 xs)) (with_line plan find number line known)
short_first plan find number known [] line some is few = absurd (some refl)
short_first plan find number known (x ∷ xs) line some is few =
    ap (read_after plan find number known) (cut_first x xs)
    ∙ ap (λ (l : List ℕ). read_after plan find number known (l ∷ cut_lines (drop_through 10 (x ∷ xs)))) (sym is)
    ∙ short_line plan find number known line (cut_lines (drop_through 10 (x ∷ xs))) few

long_first : (plan : SavedPlan) (find : Bool) (number : ℕ) (known : Known) (xs : List ℕ) → xs ≢ [] → max_bytes < length (first_line xs)
    → read_after plan find number known (cut_lines xs) ≡ Err (fault.TooLong number)
long_first plan find number known [] some many = absurd (some refl)
long_first plan find number known (x ∷ xs) some many =
    ap (read_after plan find number known) (cut_first x xs)
    ∙ long_line plan find number known (first_line (x ∷ xs)) (cut_lines (drop_through 10 (x ∷ xs))) many

counted : (xs : List ℕ) → xs ≢ [] → length (cut_lines xs) ≡ length (cut_lines (drop_through 10 xs)) + 1
counted [] some = absurd (some refl)
counted (x ∷ xs) some = ap length (cut_first x xs) ∙ omega arith

-- ---- the rest of the input leads to the whole of it

-- So many lines of the input were read, and this is known of them. The rest leads to the answer.
pub record LeadsTo (plan : SavedPlan) (find : Bool) (before : ℕ) (bytes rest : List ℕ) (number : ℕ) (known : Known) : Type 0 where
  pub after : read_after plan find (number + 1) known (cut_lines rest) ≡ read_of plan find before (cut_lines bytes)
  pub count : before + length (cut_lines bytes) ≡ number + length (cut_lines rest)

abbrev pub Leads : SavedPlan → (find : Bool) → (before : ℕ) → (all left : Option (List ℕ)) → (number : ℕ) → Known → Type 0
Leads plan find before all left number known =
    IfSome all (λ bytes. (rest : List ℕ) × (left ≡ Some rest) × LeadsTo plan find before bytes rest number known)

abbrev pub Answers : SavedPlan → (find : Bool) → (before : ℕ) → (all : Option (List ℕ)) → Result StreamRead StreamFault → Type 0
Answers plan find before all result = IfSome all (λ bytes. IsReadOf plan find before bytes result)

pub starts : (plan : SavedPlan) (find : Bool) (before : ℕ) (all : Option (List ℕ)) (known : Known) → known ≡ nothing_known plan → Leads plan find before all all before known
starts plan find before None known is = tt
starts plan find before (Some bytes) known is =
    (bytes, refl, record { after = ap (λ (k : Known). read_after plan find (before + 1) k (cut_lines bytes)) is; count = refl })

given : (left rest : Option (List ℕ)) (which : LineEnd) (line xs : List ℕ) → left ≡ Some xs → IfSome left (Gives which line rest) → Gives which line rest xs
given left rest which line xs is gives = subst (λ (o : Option (List ℕ)). IfSome o (Gives which line rest)) is gives

-- after a line
pub leads_on : (plan : SavedPlan) (find : Bool) (before : ℕ) (all left rest : Option (List ℕ)) (number : ℕ) (old new : Known) (line : List ℕ) (feed : Bool)
    → Leads plan find before all left number old → IfSome left (Gives (next.Line feed) line rest) → with_line plan find (number + 1) line old ≡ Ok new
    → Leads plan find before all rest (number + 1) new
leads_on plan find before None left rest number old new line feed h gives more = tt
leads_on plan find before (Some bytes) left rest number old new line feed h gives more =
    let k = given left rest (next.Line feed) line h.0 h.1 gives in
    let e = short_first plan find (number + 1) old h.0 line k.0 k.1 k.4 ∙ ap (turned plan find (number + 1) (cut_lines (drop_through 10 h.0))) more in
    (drop_through 10 h.0, k.2, record { after = sym e ∙ h.2.after; count = let n = counted h.0 k.0 in omega (arith, h.2.count, n) })

-- ---- where it ends

unanswered : (plan : SavedPlan) (find : Bool) (before : ℕ) (bytes : List ℕ) (why : StreamFault) → IsUnanswered why → IsReadOf plan find before bytes (Err why)
unanswered plan find before bytes (fault.VersionAgain line first runs) none = absurd none
unanswered plan find before bytes (fault.NoMessage is_log) none = absurd none
unanswered plan find before bytes fault.NoStepOfPlan none = absurd none
unanswered plan find before bytes (fault.TooLong line) none = absurd none
unanswered plan find before bytes fault.TooMany none = absurd none
unanswered plan find before bytes (fault.Unread failed) none = tt
unanswered plan find before bytes fault.Memory none = tt

-- where a read failed or memory was refused
pub leads_nowhere : (plan : SavedPlan) (find : Bool) (before : ℕ) (all : Option (List ℕ)) (why : StreamFault) → IsUnanswered why → Answers plan find before all (Err why)
leads_nowhere plan find before None why none = tt
leads_nowhere plan find before (Some bytes) why none = unanswered plan find before bytes why none

-- at a line that repeats the version
pub leads_again : (plan : SavedPlan) (find : Bool) (before : ℕ) (all left rest : Option (List ℕ)) (number first : ℕ) (known : Known) (line : List ℕ) (feed : Bool) (why : StreamFault)
    → Leads plan find before all left number known → IfSome left (Gives (next.Line feed) line rest) → with_line plan find (number + 1) line known ≡ Err first
    → IfSome rest (λ later. IsFault (version_again find (number + 1) first (cut_lines later)) why) → Answers plan find before all (Err why)
leads_again plan find before None left rest number first known line feed why h gives again is = tt
leads_again plan find before (Some bytes) left rest number first known line feed why h gives again is =
    let k = given left rest (next.Line feed) line h.0 h.1 gives in
    let later = drop_through 10 h.0 in
    let e = short_first plan find (number + 1) known h.0 line k.0 k.1 k.4 ∙ ap (turned plan find (number + 1) (cut_lines later)) again in
    let which : IsFault (version_again find (number + 1) first (cut_lines later)) why = subst (λ (o : Option (List ℕ)). IfSome o (λ later. IsFault (version_again find (number + 1) first (cut_lines later)) why)) k.2 is in
    ⊎_elim (λ (same : why ≡ version_again find (number + 1) first (cut_lines later)). subst (λ (f : StreamFault). IsReadOf plan find before bytes (Err f)) (sym same) (sym h.2.after ∙ e))
    (λ (none : IsUnanswered why). unanswered plan find before bytes why none)
    which

-- at a line that is too long
pub leads_too_long : (plan : SavedPlan) (find : Bool) (before : ℕ) (all left rest : Option (List ℕ)) (number : ℕ) (known : Known) (line : List ℕ)
    → Leads plan find before all left number known → IfSome left (Gives next.TooLong line rest) → Answers plan find before all (Err (fault.TooLong (number + 1)))
leads_too_long plan find before None left rest number known line h gives = tt
leads_too_long plan find before (Some bytes) left rest number known line h gives =
    let k = given left rest next.TooLong line h.0 h.1 gives in
    sym h.2.after ∙ long_first plan find (number + 1) known h.0 k.0 k.1

-- after more lines than there may be
pub leads_too_far : (plan : SavedPlan) (find : Bool) (before : ℕ) (all left : Option (List ℕ)) (number : ℕ) (known : Known)
    → Leads plan find before all left number known → max_lines < number → Answers plan find before all (Err fault.TooMany)
leads_too_far plan find before None left number known h many = tt
leads_too_far plan find before (Some bytes) left number known h many = omega (arith, h.2.count, many)

-- at the end
pub leads_out : (plan : SavedPlan) (find : Bool) (before : ℕ) (all left rest : Option (List ℕ)) (number : ℕ) (known : Known) (line : List ℕ)
    → Leads plan find before all left number known → IfSome left (Gives next.End line rest)
    → IfSome all (λ bytes. read_of plan find before (cut_lines bytes) ≡ at_end find known)
leads_out plan find before None left rest number known line h gives = tt
leads_out plan find before (Some bytes) left rest number known line h gives =
    let none : h.0 ≡ [] = (given left rest next.End line h.0 h.1 gives).0 in
    sym h.2.after ∙ ap (λ (xs : List ℕ). read_after plan find (number + 1) known (cut_lines xs)) none

-- ---- the answer at the end

-- too many lines are found before the end
few_at_end : (find : Bool) (known : Known) → Err fault.TooMany ≡ at_end find known → ⊥
few_at_end find known is =
    ⊎_elim
    (λ (some : not known.has_message ≡ false).
    ⊎_elim (λ (foreign : is_of_another_plan known.stream.begun ≡ true). let e = rw (some, foreign) at is in cc)
    (λ (own : is_of_another_plan known.stream.begun ≡ false). let e = rw (some, own) at is in cc)
    (cases_Bool (is_of_another_plan known.stream.begun)))
    (λ (none : not known.has_message ≡ true). let e = rw none at is in cc)
    (swapped (cases_Bool (not known.has_message)))
  where
    swapped : {P Q : Type 0} → P ⊎ Q → Q ⊎ P
    swapped h = ⊎_elim (λ p. inr p) (λ q. inl q) h

ended : (plan : SavedPlan) (find : Bool) (before : ℕ) (bytes : List ℕ) (known : Known) (result : Result StreamRead StreamFault) → result ≡ at_end find known
    → read_of plan find before (cut_lines bytes) ≡ at_end find known → IsReadOf plan find before bytes result
ended plan find before bytes known (Ok stream) is all = all ∙ sym is
ended plan find before bytes known (Err (fault.VersionAgain line first runs)) is all = all ∙ sym is
ended plan find before bytes known (Err (fault.NoMessage is_log)) is all = all ∙ sym is
ended plan find before bytes known (Err fault.NoStepOfPlan) is all = all ∙ sym is
ended plan find before bytes known (Err (fault.TooLong line)) is all = all ∙ sym is
ended plan find before bytes known (Err fault.TooMany) is all = absurd (few_at_end find known is)
ended plan find before bytes known (Err (fault.Unread failed)) is all = tt
ended plan find before bytes known (Err fault.Memory) is all = tt

pub as_ended : (plan : SavedPlan) (find : Bool) (before : ℕ) (all : Option (List ℕ)) (known : Known) (result : Result StreamRead StreamFault) → result ≡ at_end find known
    → IfSome all (λ bytes. read_of plan find before (cut_lines bytes) ≡ at_end find known) → Answers plan find before all result
as_ended plan find before None known result is h = tt
as_ended plan find before (Some bytes) known result is h = ended plan find before bytes known result is h
