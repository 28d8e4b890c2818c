use Rattle.std.proofs.Common.{◌≡◌, ◌+◌, ◌-◌, ◌++◌, ◌||◌, ℕ, List, length, min, take, ap, ◌∙◌, rules}
use Rattle.input_validate.specs.declared.findings.finding.Finding.{Finding}
use Rattle.input_validate.specs.Findings.{Reported, most_counted, max_stored, reported}
use Rattle.input_validate.proofs.Collected.{stored_as, reported_then}
use Rattle.input_validate.proofs.findings.list.Findings.then.Goals as goal

pub returns : goal.returns
returns c = λ all more e1 e2.
    let seen : stored_as c.self.inside.stored.items c.self.inside.count c.self.inside.refuses ≡ reported all = cc (c.self.view_is, e1) in
    let others : stored_as c.others.inside.stored.items c.others.inside.count c.others.inside.refuses ≡ reported more = cc (c.others.view_is, e2) in
    let long : c.len.result ≡ length c.self.inside.stored.items = search rules in
    let room : max_stored - c.len.result ≡ max_stored - length (reported all).stored =
    ap (λ (n : ℕ). max_stored - n) (long ∙ ap length (ap (λ (t : Reported). t.stored) seen)) in
    reported_then all more _
    (c.in_ok-append.ensures.items
    ∙ ap (λ (xs : List Finding). c.self.inside.stored.items ++ xs) c.truncate.ensures.items
    ∙ ap (λ (t : Reported). t.stored ++ take (max_stored - c.len.result) c.others.inside.stored.items) seen
    ∙ ap (λ (t : Reported). (reported all).stored ++ take (max_stored - c.len.result) t.stored) others
    ∙ ap (λ (n : ℕ). (reported all).stored ++ take n (reported more).stored) room)
    (c.saturating_add.ensures
    ∙ ap (λ (t : Reported). min (t.count + c.others.inside.count) most_counted) seen
    ∙ ap (λ (t : Reported). min ((reported all).count + t.count) most_counted) others)
    (c.is_either.ensures
    ∙ ap (λ (t : Reported). t.refuses || c.others.inside.refuses) seen
    ∙ ap (λ (t : Reported). (reported all).refuses || t.refuses) others)
