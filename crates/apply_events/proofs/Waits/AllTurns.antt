-- All turns, one change after another.
use Rattle.std.proofs.Common.{◌≡◌, ℕ, zero, suc, ◌+◌, ◌&&◌, List, [], ◌∷◌, ◌++◌, cond, length, sym, ap, ◌∙◌, arith, eqb, Bool}
use Rattle.std.specs.List.{flat_map, range_with_len}
use Rattle.std.proofs.lemmas.List.{append-nil, append_assoc}
use Rattle.apply_model.specs.Script.OutcomeMap.{outcome_of}
use Rattle.apply_model.specs.Script.Waits.{names_a_wait}
use Rattle.apply_events.specs.declared.lanes.turn.Turn.{Turn}
use Rattle.apply_events.specs.Step.{Work, kinds_applied}
use Rattle.apply_events.specs.Waits.Turn.{single, turns_of}

-- those of one change more
from_on : (w : Work) (a c : ℕ) → flat_map (turns_of w) (range_with_len a (suc c)) ≡ flat_map (turns_of w) (range_with_len a c) ++ turns_of w (a + c)
from_on w a zero =
    let same : a ≡ a + 0 = omega arith in append-nil (turns_of w a) ∙ ap (turns_of w) same
from_on w a (suc c) =
    let place : a + 1 + c ≡ a + suc c = omega arith in
    ap (λ l. turns_of w a ++ l) (from_on w (a + 1) c ∙ ap (λ k. flat_map (turns_of w) (range_with_len (a + 1) c) ++ turns_of w k) place)
    ∙ sym (append_assoc (turns_of w a) (flat_map (turns_of w) (range_with_len (a + 1) c)) (turns_of w (a + suc c)))

-- the turns of a change of so many steps
pub turns_more : (w : Work) (c count : ℕ) (split : Bool) (before after : List Turn) → count ≡ length (kinds_applied w.plan w.script c)
    → split ≡ (eqb count 2 && names_a_wait (outcome_of w.script c 1))
    → before ≡ flat_map (turns_of w) (range_with_len 0 c)
    → after ≡ before ++ cond split (single c 0 ∷ single c 1 ∷ []) (record { change = c; first = 0; count = count } ∷ [])
    → after ≡ flat_map (turns_of w) (range_with_len 0 (c + 1))
turns_more w c count split before after size test old new =
    let one : Turn = record { change = c; first = 0; count = count } in
    let mine : cond split (single c 0 ∷ single c 1 ∷ []) (one ∷ []) ≡ turns_of w c =
    ap (λ t. cond t (single c 0 ∷ single c 1 ∷ []) (one ∷ [])) test
    ∙ ap (λ n. cond (eqb n 2 && names_a_wait (outcome_of w.script c 1)) (single c 0 ∷ single c 1 ∷ []) ((let t : Turn = record { change = c; first = 0; count = n } in t) ∷ [])) size in
    let next : suc c ≡ c + 1 = omega arith in
    let place : 0 + c ≡ c = omega arith in
    new ∙ ap (λ l. before ++ l) mine ∙ ap (λ l. l ++ turns_of w c) old
    ∙ ap (λ k. flat_map (turns_of w) (range_with_len 0 c) ++ turns_of w k) (sym place)
    ∙ sym (from_on w 0 c) ∙ ap (λ n. flat_map (turns_of w) (range_with_len 0 n)) next
