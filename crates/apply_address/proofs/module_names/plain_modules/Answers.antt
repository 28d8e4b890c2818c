use Rattle.std.proofs.Common.{◌≡◌, rules, string_bytes, None, sym}
use Rattle.std.specs.Option.{option_copied}
use Rattle.apply_address.specs.Modules.{module_at}
use Rattle.apply_address.proofs.ModuleNames.{left-all, left-done, left-more, left-none, left-smaller, shorter_copied}
use Rattle.apply_address.proofs.module_names.plain_modules.Goals as goal

pub loop-rest-init : goal.loop-rest-init
loop-rest-init c = left-all c.args.text.now (string_bytes c.new-plain.result) c.new-plain.ensures.bytes

pub returns-in_default-module_at : goal.returns-in_default-module_at
returns-in_default-module_at c = let none : module_at c.in-Some.text.now ≡ None = search rules in left-none c.in-Some.text.now (string_bytes c.loop-rest.plain) c.args.text.now none (rw c.in-Some.is at c.loop-rest.invariant)

pub loop-rest-smaller : goal.loop-rest-smaller
loop-rest-smaller c =
    rw c.in-Some.is (left-smaller c.in-Some.text.now (option_copied c.in-Some-module_at.next) (shorter_copied c.in-Some.text.now c.in-Some-module_at.next c.in-Some-module_at.ensures.shorter))

pub loop-rest-preserved : goal.loop-rest-preserved
loop-rest-preserved c =
    left-more c.in-Some.text.now (string_bytes c.loop-rest.plain) c.args.text.now c.in-Some-module_at.name.now (string_bytes c.push_module.new.plain) (option_copied c.in-Some-module_at.next)
    (sym c.in-Some-module_at.ensures.value)
    (shorter_copied c.in-Some.text.now c.in-Some-module_at.next c.in-Some-module_at.ensures.shorter)
    (rw c.in-Some.is at c.loop-rest.invariant) c.in_ok-push_module.ensures

pub returns : goal.returns
returns c = left-done (string_bytes c.loop-rest.plain) c.args.text.now (rw c.in_default.is at c.loop-rest.invariant)
