-- Drawers and senders before a run begins.
use Rattle.std.proofs.Common.{◌≡◌, ℕ, zero, suc, false, [], ◌∷◌, length, length-append, sym, refl, subst, arith}
use Rattle.apply_bus.specs.Bus.{BusName, new_senders, Sender}
use Rattle.apply_bus.specs.Claims.{ClaimsName, Drawing, new_drawers}
use Rattle.apply_run.specs.Run.Threads.{EachAt, IsNewDrawer, IsNewSender}
use Rattle.apply_run.proofs.Runs.Places.{each_nil, each_snoc}

pub drawers_count : (claims : ClaimsName) (n : ℕ) → length (new_drawers claims n) ≡ n
drawers_count claims zero = refl
drawers_count claims (suc n) = let d : Drawing = record { claims = claims; worker = n; drawn = []; met_none = false } in omega (arith, length-append (new_drawers claims n) (d ∷ []), drawers_count claims n)

pub drawers_new : (claims : ClaimsName) (n : ℕ) → EachAt (IsNewDrawer claims) (new_drawers claims n)
drawers_new claims zero = each_nil (IsNewDrawer claims)
drawers_new claims (suc n) =
    let d : Drawing = record { claims = claims; worker = n; drawn = []; met_none = false } in
    each_snoc (IsNewDrawer claims) (new_drawers claims n) d (drawers_new claims n) (subst (λ k. IsNewDrawer claims k d) (sym (drawers_count claims n)) refl)

senders_count : (bus : BusName) (capacity n : ℕ) → length (new_senders bus capacity n) ≡ n
senders_count bus capacity zero = refl
senders_count bus capacity (suc n) =
    let s : Sender = record { bus = bus; capacity = capacity; worker = n; sent = [] } in omega (arith, length-append (new_senders bus capacity n) (s ∷ []), senders_count bus capacity n)

pub senders_new : (bus : BusName) (capacity n : ℕ) → EachAt (IsNewSender bus) (new_senders bus capacity n)
senders_new bus capacity zero = each_nil (IsNewSender bus)
senders_new bus capacity (suc n) =
    let s : Sender = record { bus = bus; capacity = capacity; worker = n; sent = [] } in
    each_snoc (IsNewSender bus) (new_senders bus capacity n) s (senders_new bus capacity n) (subst (λ k. IsNewSender bus k s) (sym (senders_count bus capacity n)) (refl, refl, refl))
