use Rattle.laws_record.proofs.Whole.{read_back, same_script, same_skipped, same_step}
use Rattle.laws_record.proofs.scripts.a_run_reads_back_what_record_writes.Goals as goal

pub returns : goal.returns
returns c = record {
  read = λ plan script outputs notes text is exported noted e. read_back plan script is outputs notes text exported noted e;
  steps = same_step;
  skipped = same_skipped;
  same = same_script;
}
