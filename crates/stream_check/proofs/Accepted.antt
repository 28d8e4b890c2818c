-- Streams that are accepted.
use Rattle.std.proofs.Common.{◌≡◌, ℕ, ◌+◌, List, [], ◌∷◌, length, Bool, true, false, cond, Result, Ok, Err, refl, sym, ap, ◌∙◌, subst}
use Rattle.std.specs.Prelude.{◌&&◌, ◌||◌}
use Rattle.std.specs.List.{list_any}
use Rattle.stream_check.specs.declared.rules.fault.Fault.{Fault}
use Rattle.stream_check.specs.declared.rules.fault.Fault.TheVariants.{Planned, Unended}
use Rattle.stream_check.specs.declared.rules.mode.Mode.{Mode}
use Rattle.stream_check.specs.declared.verdict.finding.Finding.{Finding}
use Rattle.stream_check.specs.declared.verdict.whole.Whole.{Whole}
use Rattle.stream_check.specs.Laws.{IsWhole, StateMessages}
use Rattle.stream_check.specs.Lines.{apply_end, at_line, end_of, is_plan_stream, leaves_planned, line_message, next, no_end_of, read_line, verdict_after, verdict_of, whole_of, whole_plan_of}
use Rattle.stream_check.specs.Message.{Message}
use Rattle.stream_check.specs.Open.{any_open}
use Rattle.stream_check.specs.Tally.{completed_totals, is_error, is_summary, planned_totals}
use Rattle.stream_check.proofs.Balance.{Fit, ends_as_started, in_order}
use Rattle.stream_check.proofs.Summaries.{all_sum_up}
use Rattle.stream_check.proofs.OpenSteps.{all_closed}
use Rattle.stream_check.proofs.WholeStream.{bind_ok, one_next}

at_line_ok : {A : Type 0} (mode : Mode) (ms : List Message) (n : ℕ) (r : Result A Fault) (x : A) → at_line mode ms n r ≡ Ok x → r ≡ Ok x
at_line_ok mode ms n (Ok y) x e = cc
at_line_ok mode ms n (Err d) x e = absurd cc

found_ok : {A B : Type 0} (r : Result A Finding) (f : A → Result B Finding) (y : B) → (let bound : Result B Finding = Rattle.stream_check.specs.Results.◌>>=◌ r f in bound) ≡ Ok y → (x : A) × (r ≡ Ok x) × (f x ≡ Ok y)
found_ok (Ok x) f y e = (x, refl, e)
found_ok (Err d) f y e = absurd cc

-- what an accepted stream consists of
accepted : (mode : Mode) (texts : List (List ℕ)) (earlier : List Message) (t : Whole) → Fit earlier → verdict_after mode earlier texts ≡ Ok t → (messages : List Message) × StateMessages mode.find earlier messages texts × Fit messages × (end_of mode messages ≡ Ok t)
unfolding verdict_after read_line
accepted mode [] earlier t fit e = (earlier, refl, fit, at_line_ok mode earlier (length earlier) (end_of mode earlier) t e)
accepted mode (text ∷ texts) earlier t fit e =
    let line = found_ok (at_line mode earlier (length earlier + 1) (read_line mode.find earlier text)) (λ messages. verdict_after mode messages texts) t e in
    let read = at_line_ok mode earlier (length earlier + 1) (read_line mode.find earlier text) line.0 line.1 in
    let one = bind_ok (line_message mode.find text) (next earlier) line.0 read in
    let same = one_next earlier one.0 line.0 one.2 in
    let rest : verdict_after mode (one.0 ∷ earlier) texts ≡ Ok t = ap (λ (ms : List Message). verdict_after mode ms texts) same ∙ line.2 in
    let others = accepted mode texts (one.0 ∷ earlier) t (fit, (line.0, one.2)) rest in
    (others.0, (one.0, one.1, others.1), others.2, others.3)

abbrev all_of : Whole → Result Whole Fault
all_of t = Ok t

-- what an accepted end is
record Ends (mode : Mode) (ms : List Message) (t : Whole) : Type 0 where
  pub closed : any_open ms ≡ false
  pub plan : t.is_plan ≡ true → (t.totals ≡ planned_totals ms) × (mode.plan ≡ true)
  pub apply : t.is_plan ≡ false → (t.totals ≡ completed_totals ms) × ((list_any is_summary ms || list_any is_error ms) ≡ true)
  pub begun : t.is_plan ≡ false → leaves_planned ms ≡ false
  pub errors : t.has_errors ≡ list_any is_error ms

and_left : (a b : Bool) → (a && b) ≡ true → a ≡ true
and_left true b e = refl
and_left false b e = absurd cc

as_plan : (mode : Mode) (ms : List Message) (t : Whole) → any_open ms ≡ false → mode.plan ≡ true → whole_plan_of mode ms ≡ t → Ends mode ms t
as_plan mode ms t closed asked is = subst (Ends mode ms) is (record {
  closed = closed;
  plan = λ yes. (refl, asked);
  apply = λ no. absurd cc;
  begun = λ no. absurd cc;
  errors = refl;
})

as_apply : (mode : Mode) (ms : List Message) (t : Whole) → any_open ms ≡ false → leaves_planned ms ≡ false → (list_any is_summary ms || list_any is_error ms) ≡ true → whole_of mode ms ≡ t → Ends mode ms t
as_apply mode ms t closed all_begun last is = subst (Ends mode ms) is (record {
  closed = closed;
  plan = λ yes. absurd cc;
  apply = λ no. (refl, last);
  begun = λ no. all_begun;
  errors = refl;
})

same_whole : (x t : Whole) → all_of x ≡ Ok t → x ≡ t
same_whole x t e = cc

at_end : (mode : Mode) (ms : List Message) (t : Whole) → end_of mode ms ≡ Ok t → Ends mode ms t
unfolding end_of
at_end mode ms t e = by_open (any_open ms) refl e where
  by_last : any_open ms ≡ false → leaves_planned ms ≡ false → (c : Bool) → (list_any is_summary ms || list_any is_error ms) ≡ c → cond c (all_of (whole_of mode ms)) (Err (no_end_of ms)) ≡ Ok t → Ends mode ms t
  by_last closed all_begun true is f = as_apply mode ms t closed all_begun is (same_whole (whole_of mode ms) t f)
  by_last closed all_begun false is f = absurd cc

  by_planned : any_open ms ≡ false → (b : Bool) → leaves_planned ms ≡ b → cond b (Err Planned) (cond (list_any is_summary ms || list_any is_error ms) (all_of (whole_of mode ms)) (Err (no_end_of ms))) ≡ Ok t → Ends mode ms t
  by_planned closed true is f = absurd cc
  by_planned closed false is f = by_last closed is (list_any is_summary ms || list_any is_error ms) refl f

  by_plan : any_open ms ≡ false → (b : Bool) → (mode.plan && is_plan_stream ms) ≡ b → cond b (all_of (whole_plan_of mode ms)) (apply_end mode ms) ≡ Ok t → Ends mode ms t
  by_plan closed true is f = as_plan mode ms t closed (and_left mode.plan (is_plan_stream ms) is) (same_whole (whole_plan_of mode ms) t f)
  by_plan closed false is f = by_planned closed (leaves_planned ms) refl f

  by_open : (b : Bool) → any_open ms ≡ b → cond b (Err Unended) (cond (mode.plan && is_plan_stream ms) (all_of (whole_plan_of mode ms)) (apply_end mode ms)) ≡ Ok t → Ends mode ms t
  by_open true is f = absurd cc
  by_open false is f = by_plan is (mode.plan && is_plan_stream ms) refl f

pub is_whole : (mode : Mode) (texts : List (List ℕ)) (t : Whole) → verdict_of mode texts ≡ Ok t → (messages : List Message) × IsWhole mode texts t messages
is_whole mode texts t e =
    let all = accepted mode texts [] t tt e in
    let last = at_end mode all.0 t all.3 in (
      all.0,
      record {
        lines = all.1;
        steps = record { in_order = λ n a k. in_order n a k all.0 all.2; at_last = λ a k no_read no_refresh. ends_as_started _ _ a k no_read no_refresh all.0 all.2 (all_closed all.0 a last.closed) };
        completed = λ no. (last.apply no).0;
        planned = λ yes. (last.plan yes).0;
        summed = all_sum_up all.0 all.2;
        errors = last.errors;
        closed = λ no. (last.apply no).1;
        begun = last.begun;
        asked = λ yes. (last.plan yes).1;
      },
    )

or_left : (a b : Bool) → (a || b) ≡ true → b ≡ false → a ≡ true
or_left true b e none = refl
or_left false b e none = absurd cc

-- without an error there is a summary
pub is_summed : (mode : Mode) (texts : List (List ℕ)) (t : Whole) → verdict_of mode texts ≡ Ok t → t.has_errors ≡ false → t.is_plan ≡ false → (messages : List Message) × StateMessages mode.find [] messages texts × (list_any is_summary messages ≡ true)
is_summed mode texts t e none no_plan =
    let found = is_whole mode texts t e in
    (found.0, found.1.lines, or_left (list_any is_summary found.0) (list_any is_error found.0) (found.1.closed no_plan) (sym found.1.errors ∙ none))
