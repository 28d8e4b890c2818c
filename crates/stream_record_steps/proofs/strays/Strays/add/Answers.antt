use Rattle.std.proofs.Common.{◌∙◌, ℕ, List, [], ◌∷◌, ◌++◌, Some, Result, Bool, cond, is_ok, unwrap_or, string_bytes, ap}
use Rattle.std.specs.HashMap.{get_by_text}
use Rattle.std.specs.Str.{bytes_eq}
use Rattle.std.proofs.lemmas.Map.Text.{hash_map_updates_text}
use Rattle.stream_record_steps.specs.declared.kinds.Kinds.{Kinds}
use Rattle.stream_record_steps.specs.declared.strays.Stray.{Stray}
use Rattle.stream_record_steps.specs.StrayKinds.{no_kinds}
use Rattle.stream_record_steps.proofs.StrayKinds.{kinds_more}
use Rattle.stream_record_steps.proofs.strays.Strays.add.Goals as goal

pub invariant_of-self-2 : goal.invariant_of-self-2
invariant_of-self-2 c = λ address kind.
    let old = c.self.inside.strays.items in
    kinds_more old c.push.new.self.items c.args.stray address kind (get_by_text c.self.inside.kinds) (get_by_text c.insert.new.self)
    c.kinds_at-kinds.result (c.self.invariant address kind)
    (c.kinds_at-kinds.ensures ∙ ap (λ (text : List ℕ). unwrap_or (get_by_text c.self.inside.kinds text) no_kinds) c.as_str.ensures)
    (hash_map_updates_text (string_bytes c.in_ok-address.address) c.self.inside.kinds c.insert.new.self _ c.in_ok-insert.ensures.updates address
    ∙ ap (λ (text : List ℕ). cond (bytes_eq text address) (Some c.with.result) (get_by_text c.self.inside.kinds address)) (c.in_ok-address.ensures.ok ∙ c.as_str-2.ensures)
    ∙ ap (λ (kinds : Kinds). cond (bytes_eq c.args.stray.address address) (Some kinds) (get_by_text c.self.inside.kinds address)) c.with.ensures)
    (c.push.ensures.items
    ∙ ap (λ r. cond (is_ok r) (c.reserve.new.self.items ++ c.args.stray ∷ []) c.reserve.new.self.items) c.unwrap.ensures
    ∙ ap (λ (list : List Stray). list ++ c.args.stray ∷ []) c.reserve.ensures.items)
