use Rattle.std.proofs.Common.{◌≡◌, [], ◌∷◌, rules}
use Rattle.input_validate.proofs.Collected.{reported_one}
use Rattle.input_validate.proofs.findings.list.Findings.one.Goals as goal

pub returns : goal.returns
returns c =
    let is : c.push.new.self.items ≡ record { path = c.args.path; problem = c.args.problem } ∷ [] = search rules in
    reported_one c.push.new.self.items (record { path = c.args.path; problem = c.args.problem }) c.is_refusal.result is c.is_refusal.ensures
