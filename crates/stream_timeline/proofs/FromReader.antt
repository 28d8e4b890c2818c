-- A stream that is read line by line.
use Rattle.std.proofs.Common.{◌≡◌, ◌≢◌, ◌<◌, ◌≤◌, ℕ, suc, ◌+◌, ◌-◌, List, [], ◌∷◌, length, get_or, take, drop, map, fold, Bool, true, false, Option, Some, None, Result, Ok, Err, refl, sym, ap, ◌∙◌, subst, ⊎_elim, arith, below_more}
use Rattle.std.specs.Prelude.{IfErr, IfOk, IfSome, count_by}
use Rattle.std.specs.Io.BufRead.{drop_through}
use Rattle.std.proofs.lemmas.List.Sums.{fold_more}
use lib.ListN.{length-map}
use Rattle.std.proofs.lemmas.Bool.{cases_lt}
use Rattle.std.proofs.lemmas.List.{drop_more, get_or_default, length-drop, length-take-le, take_all}
use Rattle.stream_lines.specs.Cut.{after_lines, cut_lines, first_line, line_at}
use Rattle.stream_lines.specs.Limits.{max_bytes}
use Rattle.stream_lines.specs.Reading.{Gives}
use Rattle.stream_lines.proofs.FirstLine.{cut_first}
use Rattle.stream_lines.specs.declared.line.LineEnd.{LineEnd}
use Rattle.stream_lines.specs.declared.line.LineEnd.TheVariants as next
use Rattle.stream_message.specs.Runs.{begins_run}
use Rattle.stream_timeline.specs.declared.reading.timeline_fault.TimelineFault.{TimelineFault}
use Rattle.stream_timeline.specs.declared.reading.timeline_fault.TimelineFault.TheVariants as fault
use Rattle.stream_timeline.specs.declared.reading.builder.TimelineBuilder.{TimelineBuilder}
use Rattle.stream_timeline.specs.Lines.{AreRead, IsReadOf, log_line, timeline_in}
use Rattle.stream_timeline.specs.TimelineRead.{TimelineRead, empty_timeline, max_lines, max_steps, with_line}
use Rattle.stream_timeline.specs.Building.{ReadsMore, HasRead}
use Rattle.stream_timeline.proofs.BeginningRuns.{all_begun}
use Rattle.stream_timeline.proofs.Counted.{lines_read}

module _ (find : Bool) where
  -- ---- the lines of a log

  -- the time line, line by line
  line_by_line : (lines : List (List ℕ)) → timeline_in find lines ≡ fold (λ t line. with_line (log_line find line) t) empty_timeline lines
  line_by_line lines = each lines empty_timeline where
    each : (lines : List (List ℕ)) (t : TimelineRead) → fold (λ t line. with_line line t) t (map (log_line find) lines) ≡ fold (λ t line. with_line (log_line find line) t) t lines
    each [] t = refl
    each (line ∷ lines) t = each lines (with_line (log_line find line) t)

  log_more : (lines : List (List ℕ)) (n : ℕ) → n < length lines → timeline_in find (take (n + 1) lines) ≡ with_line (log_line find (get_or lines n [])) (timeline_in find (take n lines))
  log_more lines n room =
      line_by_line (take (n + 1) lines)
      ∙ fold_more (λ t line. with_line (log_line find line) t) empty_timeline lines n [] room
      ∙ sym (ap (with_line (log_line find (get_or lines n []))) (line_by_line (take n lines)))

  log_lines_read : (lines : List (List ℕ)) → (timeline_in find lines).lines ≡ length lines
  log_lines_read lines = lines_read (map (log_line find) lines) ∙ length-map lines (log_line find)

  runs_read : (lines : List (List ℕ)) → (timeline_in find lines).runs ≡ count_by (begins_run find) lines
  runs_read lines =
      ap (λ (t : TimelineRead). t.runs) (line_by_line lines)
      ∙ (all_begun find lines empty_timeline ∙ (let none_before : 0 + count_by (begins_run find) lines ≡ count_by (begins_run find) lines = omega arith in none_before))

  -- so many lines of the bytes were read, none of them is too long, and the rest is to come
  pub record Follows (bytes rest : List ℕ) (builder : TimelineBuilder) (n : ℕ) : Type 0 where
    pub timeline : HasRead builder (timeline_in find (take n (cut_lines bytes)))
    pub within : n ≤ length (cut_lines bytes)
    pub short : (k : ℕ) → k < n → length (get_or (cut_lines bytes) k []) ≤ max_bytes
    pub left : drop n (cut_lines bytes) ≡ cut_lines rest
    pub place : rest ≡ after_lines n bytes

  -- where it is known what the reader has
  abbrev pub Leads : (all left : Option (List ℕ)) → TimelineBuilder → ℕ → Type 0
  Leads all left builder n = IfSome all (λ bytes. (rest : List ℕ) × (left ≡ Some rest) × Follows bytes rest builder n)

  -- at the start
  pub starts : (all : Option (List ℕ)) (builder : TimelineBuilder) → HasRead builder (timeline_in find []) → Leads all all builder 0
  starts None builder h = tt
  starts (Some bytes) builder h = (bytes, refl, record { timeline = h; within = omega arith; short = λ k l. absurd (omega arith); left = refl; place = refl })

  -- what the reader gives of what is left
  given : (left rest : Option (List ℕ)) (which : LineEnd) (line xs : List ℕ) → left ≡ Some xs → IfSome left (Gives which line rest) → Gives which line rest xs
  given left rest which line xs is gives = subst (λ (o : Option (List ℕ)). IfSome o (Gives which line rest)) is gives

  -- the first of what is left is the next of all
  pub record Ahead (bytes xs : List ℕ) (n : ℕ) : Type 0 where
    pub room : n < length (cut_lines bytes)
    pub line : get_or (cut_lines bytes) n [] ≡ first_line xs
    pub left : drop (n + 1) (cut_lines bytes) ≡ cut_lines (drop_through 10 xs)

  same_parts : (x y : List ℕ) (xs ys : List (List ℕ)) → x ∷ xs ≡ y ∷ ys → (x ≡ y) × (xs ≡ ys)
  same_parts x y xs ys e = (cc, cc)

  ahead : (bytes xs : List ℕ) (builder : TimelineBuilder) (n : ℕ) → xs ≢ [] → Follows bytes xs builder n → Ahead bytes xs n
  ahead bytes [] builder n some h = absurd (some refl)
  ahead bytes (x ∷ xs) builder n some h =
      let cut : drop n (cut_lines bytes) ≡ first_line (x ∷ xs) ∷ cut_lines (drop_through 10 (x ∷ xs)) = h.left ∙ cut_first x xs in
      let count : length (cut_lines bytes) - n ≡ length (cut_lines (drop_through 10 (x ∷ xs))) + 1 = sym (length-drop n (cut_lines bytes)) ∙ (ap length cut ∙ omega arith) in
      let room : n < length (cut_lines bytes) = omega (arith, count) in
      let parts = same_parts _ _ _ _ (sym (drop_more (cut_lines bytes) n [] room) ∙ cut) in
      record { room = room; line = parts.0; left = parts.1 }

  -- ---- one line after another

  -- after a line
  pub leads_on : (all left rest : Option (List ℕ)) (old new : TimelineBuilder) (n : ℕ) (line : List ℕ) (feed : Bool) → Leads all left old n → IfSome left (Gives (next.Line feed) line rest)
      → ((t : TimelineRead) → HasRead old t → HasRead new (with_line (log_line find line) t)) → Leads all rest new (n + 1)
  leads_on None left rest old new n line feed h gives more = tt
  leads_on (Some bytes) left rest old new n line feed h gives more =
      let k = given left rest (next.Line feed) line h.0 h.1 gives in
      let at = ahead bytes h.0 old n k.0 h.2 in
      let is : with_line (log_line find line) (timeline_in find (take n (cut_lines bytes))) ≡ timeline_in find (take (n + 1) (cut_lines bytes)) =
      ap (λ (l : List ℕ). with_line (log_line find l) (timeline_in find (take n (cut_lines bytes)))) (k.1 ∙ sym at.line) ∙ sym (log_more (cut_lines bytes) n at.room) in (
        drop_through 10 h.0,
        k.2,
        record {
          timeline = subst (λ (t : TimelineRead). HasRead new t) is (more (timeline_in find (take n (cut_lines bytes))) h.2.timeline);
          within = let room = at.room in omega arith;
          short = below_more _ _ h.2.short (subst (λ (l : List ℕ). length l ≤ max_bytes) (k.1 ∙ sym at.line) k.4);
          left = at.left;
          place = ap (drop_through 10) h.2.place ∙ ap (λ (m : ℕ). after_lines m bytes) (let e : suc n ≡ n + 1 = omega arith in e);
        },
      )

  -- at a line that is one step too many
  pub leads_too_much : (all left rest : Option (List ℕ)) (builder : TimelineBuilder) (n : ℕ) (line : List ℕ) (feed : Bool) → Leads all left builder n → IfSome left (Gives (next.Line feed) line rest)
      → ((t : TimelineRead) → HasRead builder t → max_steps < (with_line (log_line find line) t).begun) → IfSome all (λ bytes. IsReadOf find bytes (Err fault.TooManySteps))
  leads_too_much None left rest builder n line feed h gives more = tt
  leads_too_much (Some bytes) left rest builder n line feed h gives more =
      let k = given left rest (next.Line feed) line h.0 h.1 gives in
      let at = ahead bytes h.0 builder n k.0 h.2 in
      let is : with_line (log_line find line) (timeline_in find (take n (cut_lines bytes))) ≡ timeline_in find (take (n + 1) (cut_lines bytes)) =
      ap (λ (l : List ℕ). with_line (log_line find l) (timeline_in find (take n (cut_lines bytes)))) (k.1 ∙ sym at.line) ∙ sym (log_more (cut_lines bytes) n at.room) in
      (n + 1, subst (λ (t : TimelineRead). max_steps < t.begun) is (more (timeline_in find (take n (cut_lines bytes))) h.2.timeline))

  -- at a line that is too long
  pub leads_too_long : (all left rest : Option (List ℕ)) (builder : TimelineBuilder) (n : ℕ) (line : List ℕ) → Leads all left builder n → IfSome left (Gives next.TooLong line rest)
      → IfSome all (λ bytes. IsReadOf find bytes (Err (fault.TooLong (n + 1))))
  leads_too_long None left rest builder n line h gives = tt
  leads_too_long (Some bytes) left rest builder n line h gives =
      let k = given left rest next.TooLong line h.0 h.1 gives in
      let at : first_line h.0 ≡ line_at (n + 1) bytes = ap first_line h.2.place ∙ ap (λ (m : ℕ). first_line (after_lines m bytes)) (let e : n ≡ n + 1 - 1 = omega arith in e) in
      subst (λ (l : List ℕ). max_bytes < length l) at k.1

  -- how many lines were consumed
  consumed : (bytes rest : List ℕ) (builder : TimelineBuilder) (n : ℕ) → Follows bytes rest builder n → builder.timeline.lines ≡ n
  consumed bytes rest builder n h =
      ap (λ (t : TimelineRead). t.lines) h.timeline.is ∙ (log_lines_read (take n (cut_lines bytes)) ∙ length-take-le n (cut_lines bytes) h.within)

  -- at a line more than there may be
  pub leads_too_far : (all left rest : Option (List ℕ)) (builder : TimelineBuilder) (n : ℕ) (line : List ℕ) (feed : Bool) → Leads all left builder n → IfSome left (Gives (next.Line feed) line rest)
      → max_lines ≤ builder.timeline.lines → IfSome all (λ bytes. IsReadOf find bytes (Err fault.TooManyLines))
  leads_too_far None left rest builder n line feed h gives full = tt
  leads_too_far (Some bytes) left rest builder n line feed h gives full =
      let k = given left rest (next.Line feed) line h.0 h.1 gives in
      let room : n < length (cut_lines bytes) = (ahead bytes h.0 builder n k.0 h.2).room in
      let lines : builder.timeline.lines ≡ n = consumed bytes h.0 builder n h.2 in
      omega (arith, room, lines, full)

  -- so many lines are never consumed
  pub leads_nowhere : (all left : Option (List ℕ)) (builder : TimelineBuilder) (n : ℕ) (r : Result TimelineRead TimelineFault) → Leads all left builder n → max_lines < n → IfSome all (λ bytes. IsReadOf find bytes r)
  leads_nowhere None left builder n r h many = tt
  leads_nowhere (Some bytes) left builder n r h many =
      let lines : builder.timeline.lines ≡ n = consumed bytes h.0 builder n h.2 in
      let timeline : builder.timeline.lines ≡ (timeline_in find (take n (cut_lines bytes))).lines = ap (λ (t : TimelineRead). t.lines) h.2.timeline.is in
      let few : (timeline_in find (take n (cut_lines bytes))).lines ≤ max_lines = h.2.timeline.lines in
      absurd (omega (arith, lines, timeline, few, many))

  -- when all lines are read, they are within the limits
  all_read : (lines : List (List ℕ)) (builder : TimelineBuilder) → HasRead builder (timeline_in find lines) → ((k : ℕ) → k < length lines → length (get_or lines k []) ≤ max_bytes)
      → AreRead find lines builder.timeline
  all_read lines builder h short = record {
    is = h.is;
    runs = ap (λ (t : TimelineRead). t.runs) h.is ∙ runs_read lines;
    begun = subst (λ (t : TimelineRead). t.begun ≤ max_steps) (sym h.is) h.begun;
    number = let timeline = h.lines in omega (arith, timeline, log_lines_read lines);
    lengths = λ k d l. subst (λ (line : List ℕ). length line ≤ max_bytes) (get_or_default lines k [] d l) (short k l);
  }

  -- at the end
  pub leads_out : (all left rest : Option (List ℕ)) (builder : TimelineBuilder) (n : ℕ) (line : List ℕ) → Leads all left builder n → IfSome left (Gives next.End line rest)
      → IfSome all (λ bytes. AreRead find (cut_lines bytes) builder.timeline)
  leads_out None left rest builder n line h gives = tt
  leads_out (Some bytes) left rest builder n line h gives =
      let none : h.0 ≡ [] = (given left rest next.End line h.0 h.1 gives).0 in
      let left_none : drop n (cut_lines bytes) ≡ [] = h.2.left ∙ ap cut_lines none in
      let count : length (cut_lines bytes) - n ≡ 0 = sym (length-drop n (cut_lines bytes)) ∙ ap length left_none in
      let most : length (cut_lines bytes) ≤ n = omega (arith, count) in
      let timeline : HasRead builder (timeline_in find (cut_lines bytes)) = subst (λ (lines : List (List ℕ)). HasRead builder (timeline_in find lines)) (take_all n (cut_lines bytes) most) h.2.timeline in
      all_read (cut_lines bytes) builder timeline (λ k l. h.2.short k (omega arith))

  -- the result of a builder at the end
  pub as_ended : (all : Option (List ℕ)) (timeline : TimelineRead) (r : Result TimelineRead TimelineFault) → IfOk r (λ t. t ≡ timeline) → IfErr r (λ why. (why ≡ fault.NoMessage) × (timeline.time_range ≡ None))
      → IfSome all (λ bytes. AreRead find (cut_lines bytes) timeline) → IfSome all (λ bytes. IsReadOf find bytes r)
  as_ended None timeline r ok err h = tt
  as_ended (Some bytes) timeline (Ok t) ok err h = subst (λ (t : TimelineRead). AreRead find (cut_lines bytes) t) (sym ok) h
  as_ended (Some bytes) timeline (Err why) ok err h = subst (λ (f : TimelineFault). IsReadOf find bytes (Err f)) (sym err.0) (ap (λ (t : TimelineRead). t.time_range) (sym h.is) ∙ err.1)

  -- why a line is not consumed
  pub as_refused : (all left rest : Option (List ℕ)) (builder new : TimelineBuilder) (n : ℕ) (line consumed : List ℕ) (feed : Bool) (why : TimelineFault) → Leads all left builder n → IfSome left (Gives (next.Line feed) line rest)
      → consumed ≡ log_line find line → ReadsMore (HasRead builder) new (with_line consumed) (Err why) → IfSome all (λ bytes. IsReadOf find bytes (Err why))
  as_refused all left rest builder new n line consumed feed fault.TooManySteps h gives same goes =
      leads_too_much all left rest builder n line feed h gives (λ t timeline. subst (λ (l : List ℕ). max_steps < (with_line l t).begun) same (goes t timeline))
  as_refused None left rest builder new n line consumed feed fault.Memory h gives same goes = tt
  as_refused (Some bytes) left rest builder new n line consumed feed fault.Memory h gives same goes = tt
  as_refused all left rest builder new n line consumed feed fault.TooManyLines h gives same goes = absurd goes
  as_refused all left rest builder new n line consumed feed (fault.TooLong number) h gives same goes = absurd goes
  as_refused all left rest builder new n line consumed feed fault.NoMessage h gives same goes = absurd goes
  as_refused all left rest builder new n line consumed feed (fault.Unread failed) h gives same goes = absurd goes

  -- a full builder has as many lines as there may be
  pub full_lines : (builder : TimelineBuilder) (b : Bool) → (builder.timeline.lines < max_lines → b ≡ false) → b ≡ true → max_lines ≤ builder.timeline.lines
  full_lines builder b room full =
      ⊎_elim (λ (few : builder.timeline.lines < max_lines). absurd (let none = room few in cc)) (λ (many : max_lines ≤ builder.timeline.lines). many) (cases_lt builder.timeline.lines max_lines)
