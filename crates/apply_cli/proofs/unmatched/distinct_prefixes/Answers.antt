use Rattle.std.proofs.Common.{ℕ, List, map, sym, ap, ◌∙◌, Vec, Bor, Global}
use Rattle.apply_cli.specs.Unmatched.{with_new}
use Rattle.apply_cli.proofs.Prefixes.{before_more, inside_more}
use Rattle.apply_cli.proofs.unmatched.distinct_prefixes.Goals as goal
use Rattle.apply_cli.proofs.unmatched.distinct_prefixes.Goals.{in-Inside+in_ok-push_new, in_default}

pub loop-halt-preserved : goal.loop-halt-preserved
loop-halt-preserved c =
    let texts : Vec (Bor (List ℕ)) Global → List (List ℕ) = λ prefixes. map (λ (one : Bor (List ℕ)). one.now) prefixes.items in
    elim c.match-halt.branch [
      | in-Inside+in_ok-push_new w ↦
          ap texts w.prefixes-is
          ∙ w.in_ok-push_new.ensures
          ∙ ap (λ text. with_new (texts c.loop-halt.prefixes) text) w.as_str.ensures
          ∙ ap (λ earlier. with_new earlier w.in-Inside.prefix) c.loop-halt.invariant
          ∙ sym (inside_more c.args.halts.now c.loop-halt.halt-index c.halt-item.result w.in-Inside.prefix c.loop-halt-test.true c.halt-item.is w.in-Inside.is)
      | in_default w ↦
          ap texts w.prefixes-is ∙ c.loop-halt.invariant
          ∙ sym (before_more c.args.halts.now c.loop-halt.halt-index c.halt-item.result w.in_default.field-0 c.loop-halt-test.true c.halt-item.is w.in_default.is)
    ]
