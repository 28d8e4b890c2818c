-- What the messages of an object name: `hook`, and the address of its resource.
use Rattle.std.specs.Prelude.{ℕ, List, [], Option, codes, option_map, unwrap_or}
use Rattle.serde_json.specs.Data.{Data}
use Rattle.serde_json.specs.View.{view}
use Rattle.apply_json.specs.Tree.{◌>>=◌, member_of, non_empty_text_of, text_of}
use Rattle.stream_watch.specs.declared.rows.step.HookMessage.{HookMessage}

pub record Hook : Type 0 where
  pub hook : Data
  pub address : List ℕ

abbrev pub hook_of : Data → Option Hook
hook_of tree =
    member_of (codes "hook") tree >>= λ hook. member_of (codes "resource") hook
    >>= λ resource. option_map (λ address. record { hook = hook; address = address }) (non_empty_text_of (codes "addr") resource)

-- what was read of a message
abbrev pub hook_view : HookMessage → Hook
hook_view message = record { hook = view message.hook.now; address = message.address.now }

-- the type of the resource, or nothing
abbrev pub kind_of : (hook : Data) → List ℕ
kind_of hook = unwrap_or (member_of (codes "resource") hook >>= λ resource. text_of (codes "resource_type") resource) []
