use Rattle.std.proofs.Common.{◌∙◌}
use Rattle.apply_json.specs.declared.read_fault.ReadFault.TheVariants.{NotJson}
use Rattle.apply_plan.proofs.MadeOfRead as of_read
use Rattle.apply_planning_script.proofs.Items.{item_is}
use Rattle.apply_planning_script.proofs.raw_item.RawItem.read.Goals as goal

pub returns : goal.returns
returns c = record {
  ok = of_read.made _ _ c.read_object-read.result c.of.result c.and.result c.and.ensures c.read_object-read.ensures.ok (λ value done.
      (done.0, done.1, c.of.ensures ∙ item_is c.read_object-read.new.slots done.0 done.3));
  shorter = of_read.shorter _ c.read_object-read.result c.of.result c.and.result c.and.ensures c.read_object-read.ensures.shorter;
  err = of_read.fault _ c.read_object-read.result c.of.result c.and.result NotJson c.and.ensures c.read_object-read.ensures.err;
}
