use Rattle.std.proofs.Common.{Result, Ok, Err, ap, sym, ◌∙◌}
use Rattle.std.specs.Result.{IfOk}
use Rattle.apply_plan_terraform.specs.Texts.{json_of_text}
use Rattle.apply_plan_terraform.proofs.Documents.{json_is, no_json}
use Rattle.apply_plan_terraform.proofs.texts.seeking.read_sections.Goals as goal

abbrev if_ok : {T E : Type 0} {P Q : T → Type 0} (r : Result T E) → ((x : T) → P x → Q x) → IfOk r P → IfOk r Q
if_ok (Ok x) f p = f x p
if_ok (Err e) f p = tt

pub returns-in-Ok-clause-ok : goal.returns-in-Ok-clause-ok
returns-in-Ok-clause-ok c =
    let text = c.in-Ok.ensures in
    if_ok c.read_text.result (λ sections read. (read.0, json_is c.args.bytes.now read.0 text.1 (ap json_of_text (sym text.0) ∙ read.1), read.2)) c.read_text.ensures.ok

pub returns-in-Err-clause-err : goal.returns-in-Err-clause-err
returns-in-Err-clause-err c = λ refused. no_json c.args.bytes.now (λ utf8. absurd (c.in-Err.ensures utf8))
