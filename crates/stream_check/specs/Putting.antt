-- The members of an object that is built, as long as memory suffices, for private clauses.
use Rattle.std.specs.Prelude.{◌≡◌, true}
use Rattle.serde_json.specs.Data.{Members}
use Rattle.serde_json.specs.View.{members_view}
use Rattle.stream_check.specs.declared.command.members.Members as putting

abbrev pub Holds : putting.Members → Members → Type 0
Holds builder members = builder.is_whole ≡ true → members_view builder.values.entries ≡ members

-- the members before become the members after by `change`
abbrev pub Puts : (before after : putting.Members) → (Members → Members) → Type 0
Puts before after change =
    after.is_whole ≡ true → (before.is_whole ≡ true) × (members_view after.values.entries ≡ change (members_view before.values.entries))
