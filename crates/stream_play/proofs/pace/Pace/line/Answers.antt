-- One more line, with a timestamp or without.
use Rattle.std.proofs.Common.{◌≡◌, ℤ, [], ◌∷◌, ◌++◌, max, Option, Some, SFits, of_z, to_z, w64, ap, ap₂, refl, sym, subst, rules, ◌∙◌}
use Rattle.std.specs.Prelude.{unwrap_or}
use Rattle.std.proofs.lemmas.Int.{to_z-of_z}
use Rattle.stream_play.specs.Due.{HasPaced, Pacing, time_of}
use Rattle.stream_play.proofs.Dues.{taken_none, taken_some}
use Rattle.stream_play.proofs.pace.Pace.line.Goals as goal

pub returns-in_default-clause-paced : goal.returns-in_default-clause-paced
returns-in_default-clause-paced c = λ timestamps h.
    subst (λ (o : Option ℤ). HasPaced c.args.self.now (timestamps ++ o ∷ [])) (sym c.in_default.is) (taken_none c.args.self.now timestamps h)

pub returns-clause-paced : goal.returns-clause-paced
returns-clause-paced c = λ timestamps h.
    let m = c.in-Some.timestamp in
    let fits : SFits w64 m = search rules in
    let same : to_z w64 (of_z w64 m) ≡ m = to_z-of_z w64 m fits in
    let first_fits : SFits w64 c.unwrap_or-first.result = search rules in
    let first_same : to_z w64 (of_z w64 c.unwrap_or-first.result) ≡ c.unwrap_or-first.result = to_z-of_z w64 c.unwrap_or-first.result first_fits in
    let old : Pacing = record { speed = c.self.inside.speed; first = c.self.inside.first; due = c.self.inside.due } in
    let first : to_z w64 (of_z w64 c.unwrap_or-first.result) ≡ unwrap_or old.first m = first_same ∙ c.unwrap_or-first.ensures ∙ ap (unwrap_or old.first) same in
    let time : c.time.result ≡ time_of old.speed (Some (unwrap_or old.first m)) (Some m) =
    c.time.ensures ∙ ap₂ (λ (f x : ℤ). time_of old.speed (Some f) (Some x)) first same in
    subst (λ (o : Option ℤ). HasPaced (record { speed = old.speed; first = Some (to_z w64 (of_z w64 c.unwrap_or-first.result)); due = c.max-self-inside.result }) (timestamps ++ o ∷ [])) (sym c.in-Some.is)
    (taken_some old (record { speed = old.speed; first = Some (to_z w64 (of_z w64 c.unwrap_or-first.result)); due = c.max-self-inside.result }) timestamps m
    refl (ap Some first) (c.max-self-inside.ensures ∙ ap (max old.due) time)
    (subst (λ (p : Pacing). HasPaced p timestamps) (sym c.self.view_is) h))
