use Rattle.std.proofs.Common.{◌≡◌, ℕ, ◌+◌, ◌-◌, List, drop, length, true, nat_eq, sym, ap, ◌∙◌, arith}
use Rattle.std.specs.Prelude.{codes}
use Rattle.std.specs.List.{starts_with}
use Rattle.std.proofs.lemmas.List.{length-drop, take_all}
use Rattle.input_validate.specs.NearestAddresses.{after_modules}
use Rattle.input_validate.proofs.AfterModules.{module_begun, module_continued}
use Rattle.input_validate.proofs.addresses.after_modules.Goals as goal
use Rattle.input_validate.proofs.addresses.after_modules.Goals.{then-dots-eq0+else-not-begins_with_module, else-dots-eq0}

pub loop-number-preserved : goal.loop-number-preserved
loop-number-preserved c =
    let address = c.args.address.now in
    let n = c.loop-number.number in
    let rest = drop (n + 1) address in
    elim c.if-dots-eq0.branch [
      | then-dots-eq0+else-not-begins_with_module w ↦
          let begins : starts_with nat_eq (drop n address) (codes "module.") ≡ true =
          ap (λ (text : List ℕ). starts_with nat_eq text (codes "module.")) (sym (take_all (length address - n) (drop n address) (omega (arith, length-drop n address))))
          ∙ sym w.begins_with_module.ensures ∙ w.if-not-begins_with_module.false in
          c.loop-number.invariant ∙ ap (λ (k : ℕ). after_modules k (drop n address)) w.if-dots-eq0.true
          ∙ module_begun address n c.loop-number-test.true begins ∙ ap (λ (k : ℕ). after_modules k rest) (sym w.dots-is)
      | else-dots-eq0 w ↦
          c.loop-number.invariant ∙ module_continued address n c.loop-number.dots c.loop-number-test.true w.if-dots-eq0.false
          ∙ ap (λ (k : ℕ). after_modules k rest) (sym w.dots_after-dots.ensures ∙ sym w.dots-is)
    ]
