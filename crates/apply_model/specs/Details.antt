-- What only Terraform's form of a stream shows of a planned change.
use Rattle.std.specs.Prelude.{ℕ, List, codes}
use Rattle.apply_model.specs.declared.details.reason.Reason.{Reason}
use Rattle.apply_model.specs.declared.details.reason.Reason.TheVariants.{CannotUpdate, Tainted, Requested, ReplaceTriggeredBy, DeleteBecauseNoResourceConfig, DeleteBecauseWrongRepetition, DeleteBecauseCountIndex, DeleteBecauseEachKey, DeleteBecauseNoModule, DeleteBecauseNoMoveTarget, ReadBecauseConfigUnknown, ReadBecauseDependencyPending, ReadBecauseCheckNested, Unknown}

-- The word of a stream for the reason of a planned change.
abbrev pub reason_word : Reason → List ℕ
reason_word CannotUpdate = codes "cannot_update"
reason_word Tainted = codes "tainted"
reason_word Requested = codes "requested"
reason_word ReplaceTriggeredBy = codes "replace_triggered_by"
reason_word DeleteBecauseNoResourceConfig = codes "delete_because_no_resource_config"
reason_word DeleteBecauseWrongRepetition = codes "delete_because_wrong_repetition"
reason_word DeleteBecauseCountIndex = codes "delete_because_count_index"
reason_word DeleteBecauseEachKey = codes "delete_because_each_key"
reason_word DeleteBecauseNoModule = codes "delete_because_no_module"
reason_word DeleteBecauseNoMoveTarget = codes "delete_because_no_move_target"
reason_word ReadBecauseConfigUnknown = codes "read_because_config_unknown"
reason_word ReadBecauseDependencyPending = codes "read_because_dependency_pending"
reason_word ReadBecauseCheckNested = codes "read_because_check_nested"
reason_word Unknown = codes "unknown"
