-- What a receive leaves of the receiver's pass.
use Rattle.std.proofs.Common.{◌≡◌, ℕ, ◌+◌, ◌<◌, [], ◌∷◌, ◌++◌, sym, ap, ◌∙◌, subst, arith, length-append}
use Rattle.std.proofs.lemmas.List.Elements.{All-push}
use Rattle.apply_bus.specs.declared.bus_rule.Knowledge.{Knowledge}
use Rattle.apply_bus.specs.declared.item.Item.{Item}
use Rattle.apply_bus.specs.BusEnds.{IsCounted, IsReceiving, sent_lists_in}
use Rattle.apply_bus.specs.BusRule.{IsTaken}
use Rattle.apply_bus.specs.Items.{close_count, closes, max_taken, worker_of}
use Rattle.apply_bus.proofs.Items.{closes_append}

-- as many closes are left as before, less the one that the item may be
pub receives_on : (left less : ℕ) (v u : Knowledge) (x : Item) → IsReceiving left v → IsTaken v x u → left ≡ less + close_count x → IsReceiving less u
receives_on left less v u x h took goes = subst (IsReceiving less) (sym took.0) record {
  receives = h.receives;
  missing = (let more : closes (v.taken ++ x ∷ []) ≡ closes v.taken + (close_count x + 0) = closes_append v.taken (x ∷ []) in let was = h.missing in omega arith);
  named = All-push (λ (y : Item). worker_of y < v.workers) v.taken x h.named took.1;
}

-- one item more was taken
pub counts_on : (count : ℕ) (v u : Knowledge) (x : Item) → IsCounted count v → IsTaken v x u → count < max_taken → IsCounted (count + 1) u
counts_on count v u x h took room =
    let more = length-append v.taken (x ∷ []) in let was = h.counted in
    subst (IsCounted (count + 1)) (sym took.0) record {
      counted = omega arith;
      few = omega arith;
    }

pub no_sent_lists_yet : (v u : Knowledge) (x : Item) → sent_lists_in v ≡ [] → IsTaken v x u → sent_lists_in u ≡ []
no_sent_lists_yet v u x none took = ap sent_lists_in took.0 ∙ none
