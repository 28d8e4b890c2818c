-- The texts that a stream shows of an object, for the type that stores them.
use Rattle.std.specs.Prelude.{Option, option_map}
use Rattle.apply_planning_script.specs.declared.told.Texts.{Texts}
use Rattle.apply_planning_script.specs.Items.{Item}
use Rattle.apply_planning_script.specs.Names.{name_of}
use Rattle.apply_planning_script.specs.Told.{Object, failure_of, id_at_end, id_at_start, note_of, stated_id}

abbrev pub texts_of : Object → Option Item → Texts
texts_of object item = record {
  name = name_of object.object;
  id_before = id_at_start object.object.mode object.id_before (stated_id item);
  id_after = id_at_end item object.object.prior_id;
  failure = option_map (note_of object.object.address) (failure_of item);
}
