use Rattle.std.proofs.Common.{◌≡◌, rules, sym, None}
use Rattle.apply_address.specs.Reading.{after_module, last_after_modules, last_in}
use Rattle.std.proofs.Common.{length}
use Rattle.apply_address.proofs.Modules.{left-last, left-more, left-none}
use Rattle.apply_address.proofs.address_parts.last_after_modules.Goals as goal

pub returns-in-Some : goal.returns-in-Some
returns-in-Some c = left-last _ _ _ (sym c.in-Some.ensures) c.loop-last.invariant.left

pub returns-in_err-rest : goal.returns-in_err-rest
returns-in_err-rest c =
    let no_last : last_in c.loop-last.rest.now ≡ None = search rules in
    let no_more : after_module c.loop-last.rest.now ≡ None = search rules in
    let none : None ≡ last_after_modules (length c.args.text.now) c.args.text.now = left-none c.loop-last.rest.now c.args.text.now no_last no_more c.loop-last.invariant.left in
    search (rules, none)

pub loop-last-preserved : goal.loop-last-preserved
loop-last-preserved c =
    let no_last : last_in c.loop-last.rest.now ≡ None = search rules in
    record {
      text = search rules;
      left = left-more _ _ _ no_last (sym c.in_ok-rest.ensures.value) c.in_ok-rest.ensures.shorter c.loop-last.invariant.left;
    }
