-- The verdict on lines is the verdict on the messages that are read back from them.
use Rattle.std.proofs.Common.{◌≡◌, ℕ, ◌+◌, ◌≤◌, inl, inr, List, [], ◌∷◌, ◌++◌, append_assoc, cond, length, Bool, false, Result, Ok, Err, sym, ap, ◌∙◌, subst, ⊎_elim, le-ltb}
use Rattle.std.specs.List.{AllByRecursion, concat}
use Rattle.stream_lines.specs.Cut.{cut_lines}
use Rattle.stream_lines.specs.Limits.{max_bytes}
use Rattle.stream_check.specs.declared.rules.fault.Fault.{Fault}
use Rattle.stream_check.specs.declared.rules.fault.Fault.TheVariants.{TooLong}
use Rattle.stream_check.specs.declared.verdict.finding.Finding.{Finding}
use Rattle.stream_check.specs.declared.verdict.whole.Whole.{Whole}
use Rattle.stream_check.specs.Judged.{judged_after, result_fold}
use Rattle.stream_check.specs.Lines.{at_line, end_of, line_message, next, read_line, text_message, verdict_after}
use Rattle.stream_check.specs.Message.{Message}
use Rattle.stream_check.specs.Results.{◌>>=◌}
use Rattle.laws_check.specs.Passing.{plain, with_all}
use Rattle.laws_check.specs.ReadBackInForm.{AreReadBackAs, IsReadBackAs}
use Rattle.laws_check.proofs.Bytes.{cut_off}

abbrev AreShort : List (List ℕ) → Type 0
AreShort texts = AllByRecursion (λ (text : List ℕ). length text ≤ max_bytes) texts

one_read : (text : List ℕ) (m : Message) (earlier : List Message) → text_message false text ≡ Ok m → length text ≤ max_bytes → read_line false earlier text ≡ next earlier m
unfolding read_line line_message
one_read text m earlier says short =
    ap (λ (r : Result Message Fault). r >>= next earlier)
    (ap (λ (b : Bool). cond b (Err TooLong) (text_message false text)) (le-ltb max_bytes (length text) short) ∙ says)

module _ (plans : Bool) where
  -- the end of a stream of these messages, the latest first
  abbrev ended : List Message → Result Whole Finding
  ended all = at_line (plain plans) all (length all) (end_of (plain plans) all)

  -- the rest of the lines leads to these messages, after the lines that were read
  abbrev Leads : (earlier : List Message) → (texts : List (List ℕ)) → (all : List Message) → Type 0
  Leads earlier texts all = (verdict_after (plain plans) earlier texts ≡ ended all) × (judged_after (plain plans) earlier texts ≡ all)

  abbrev lead_to : List (List ℕ) → Result (List Message) Finding → Result Whole Finding
  lead_to texts read = read >>= λ messages. verdict_after (plain plans) messages texts

  abbrev judge_to : List (List ℕ) → (earlier : List Message) → Result (List Message) Fault → List Message
  judge_to texts earlier read = result_fold read earlier (λ messages. judged_after (plain plans) messages texts)

  first_read : (texts : List (List ℕ)) (ms : List Message) (earlier : List Message) (line : ℕ) (all : List Message) (r : Result (List Message) Fault) → ((later : List Message) → with_all later ms ≡ Ok all → Leads later texts all)
      → (r >>= λ later. with_all later ms) ≡ Ok all → (lead_to texts (at_line (plain plans) earlier line r) ≡ ended all) × (judge_to texts earlier r ≡ all)
  first_read texts ms earlier line all (Ok later) rest e = rest later e
  first_read texts ms earlier line all (Err fault) rest e = absurd cc

  none_left : (earlier all : List Message) → with_all earlier [] ≡ Ok all → Leads earlier [] all
  unfolding verdict_after judged_after
  none_left earlier all is = let same : earlier ≡ all = cc in (ap (λ (l : List Message). ended l) same, same)

  lines_lead : (lines : List (List ℕ)) (ms : List Message) (earlier all : List Message) → AreReadBackAs lines ms → AreShort (cut_lines (concat lines)) → with_all earlier ms ≡ Ok all
      → Leads earlier (cut_lines (concat lines)) all
  unfolding verdict_after judged_after
  lines_lead [] ms earlier all none short is =
      none_left earlier all (subst (λ (l : List Message). with_all earlier l ≡ Ok all) none is)
  lines_lead (line ∷ lines) ms earlier all say short is =
      ⊎_elim
      (λ (empty : (line ≡ []) × AreReadBackAs lines ms).
      let same : line ++ concat lines ≡ concat lines = ap (λ (l : List ℕ). l ++ concat lines) empty.0 in
      subst (λ (bytes : List ℕ). Leads earlier (cut_lines bytes) all) (sym same)
      (lines_lead lines ms earlier all empty.1 (subst (λ (bytes : List ℕ). AreShort (cut_lines bytes)) same short) is))
      (λ (one : (message : Message) × (later : List Message) × (ms ≡ message ∷ later) × IsReadBackAs line message × AreReadBackAs lines later).
      let m = one.0 in
      let stated = one.3 in
      let texts = cut_lines (concat lines) in
      let cut : cut_lines (line ++ concat lines) ≡ stated.text ∷ texts =
      ap (λ (l : List ℕ). cut_lines (l ++ concat lines)) stated.line_is ∙ ap cut_lines (append_assoc stated.text (10 ∷ []) (concat lines)) ∙ cut_off stated.text (concat lines) stated.no_feed in
      let shorts : AreShort (stated.text ∷ texts) = subst AreShort cut short in
      let same : with_all earlier (m ∷ one.1) ≡ Ok all = subst (λ (l : List Message). with_all earlier l ≡ Ok all) one.2 is in
      let read : read_line false earlier stated.text ≡ next earlier m = one_read stated.text m earlier stated.says shorts.0 in
      let first = first_read texts one.1 earlier (length earlier + 1) all (next earlier m) (λ later. lines_lead lines one.1 later all one.4 shorts.1) same in
      subst (λ (texts : List (List ℕ)). Leads earlier texts all) (sym cut) (
        ap (λ (r : Result (List Message) Fault). lead_to texts (at_line (plain plans) earlier (length earlier + 1) r)) read ∙ first.0,
        ap (λ (r : Result (List Message) Fault). judge_to texts earlier r) read ∙ first.1,
      ))
      say

  pub lines_judged : (lines : List (List ℕ)) (ms all : List Message) → AreReadBackAs lines ms → AreShort (cut_lines (concat lines)) → with_all [] ms ≡ Ok all → Leads [] (cut_lines (concat lines)) all
  lines_judged lines ms all say short is = lines_lead lines ms [] all say short is

-- ---- lines one after another

pub all_read_back_both : (xs ys : List (List ℕ)) (ms ns : List Message) → AreReadBackAs xs ms → AreReadBackAs ys ns → AreReadBackAs (xs ++ ys) (ms ++ ns)
all_read_back_both [] ys ms ns none others = subst (λ (l : List Message). AreReadBackAs ys (l ++ ns)) (sym none) others
all_read_back_both (x ∷ xs) ys ms ns say others =
    ⊎_elim
    (λ (empty : (x ≡ []) × AreReadBackAs xs ms). inl (empty.0, all_read_back_both xs ys ms ns empty.1 others))
    (λ (one : (message : Message) × (later : List Message) × (ms ≡ message ∷ later) × IsReadBackAs x message × AreReadBackAs xs later).
    inr (one.0, one.1 ++ ns, ap (λ (l : List Message). l ++ ns) one.2, one.3, all_read_back_both xs ys one.1 ns one.4 others))
    say
