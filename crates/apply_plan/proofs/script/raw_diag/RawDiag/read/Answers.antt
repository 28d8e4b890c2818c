use Rattle.apply_json.specs.declared.read_fault.ReadFault.TheVariants.{NotJson}
use Rattle.apply_plan.proofs.MadeOfRead.{same_fault}
use Rattle.apply_plan.proofs.script.raw_diag.RawDiag.read.Goals as goal

pub returns-in-Ok : goal.returns-in-Ok
returns-in-Ok c =
    let done = c.in-Ok.ensures.ok in
    record {
      ok = (done.0, done.1, c.of_value.ensures done.0 done.2 done.3);
      shorter = c.in-Ok.ensures.shorter;
      err = λ never. absurd cc;
    }

pub returns-in-Err : goal.returns-in-Err
returns-in-Err c = record { ok = tt; shorter = tt; err = λ same. c.in-Err.ensures.err (same_fault c.in-Err.fault NotJson same) }
