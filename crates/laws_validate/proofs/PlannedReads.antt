-- What a run reads of the members of an entry of `planning`, by the parts of its findings.
use Rattle.std.proofs.Common.{◌≡◌, ℕ, List, Bool, true, false, not, ◌&&◌, ◌||◌, is_some, Option, Some, None, unwrap_or, if◌then◌else◌, refl, sym}
use Rattle.std.specs.Prelude.{nat_lt}
use Rattle.apply_json.specs.Tree.{◌>>=◌, unless_empty}
use Rattle.apply_model.specs.Script.Limits.{max_seconds}
use Rattle.apply_plan.specs.Script.Entry.{Failure}
use Rattle.apply_planning_script.specs.Items.{Item, do_clash, item_with}
use Rattle.input_validate.proofs.Options.{and_false}

-- ---- the parts make the whole

-- The parts of the findings. Each member is read; the seconds are not over a day; and nothing stands
-- where it may not.
abbrev pub parts : (address deposed seconds over id failure gone skipped : Bool) → (is_skipped is_gone fails has_seconds has_id : Bool) → Bool
parts a e s over i f g k sk go fa hs hi =
    ((((((((a && (e && ((s && not over) && true))) && not (sk && hs)) && i) && not (sk && hi)) && f) && (not (go && fa) && (not (sk && fa) && true))) && g) && not (sk && go)) && k

-- each member is read, and they go together
abbrev pub whole : (address deposed seconds over id failure gone skipped : Bool) → (is_skipped is_gone fails has_seconds has_id : Bool) → Bool
whole a e s over i f g k sk go fa hs hi =
    (a && (e && (i && (s && (g && (k && f)))))) && not (over || ((go && fa) || (sk && (hs || (hi || (fa || go))))))

-- one part is false
no_id : (x y f p g q k : Bool) → ((((((x && false) && y) && f) && p) && g) && q) && k ≡ false
no_id true y f p g q k = refl
no_id false y f p g q k = refl

no_failure : (x p g q k : Bool) → ((((x && false) && p) && g) && q) && k ≡ false
no_failure true p g q k = refl
no_failure false p g q k = refl

no_gone : (x q k : Bool) → ((x && false) && q) && k ≡ false
no_gone true q k = refl
no_gone false q k = refl

-- what may stand next to what
beside : (sk go fa hs hi : Bool) → ((((((((true && not (sk && hs)) && true) && not (sk && hi)) && true) && (not (go && fa) && (not (sk && fa) && true))) && true) && not (sk && go)) && true)
    ≡ not ((go && fa) || (sk && (hs || (hi || (fa || go)))))
beside false false fa hs hi = refl
beside false true false hs hi = refl
beside false true true hs hi = refl
beside true false false false false = refl
beside true false false false true = refl
beside true false false true false = refl
beside true false false true true = refl
beside true false true false false = refl
beside true false true false true = refl
beside true false true true false = refl
beside true false true true true = refl
beside true true false false false = refl
beside true true false false true = refl
beside true true false true false = refl
beside true true false true true = refl
beside true true true false false = refl
beside true true true false true = refl
beside true true true true false = refl
beside true true true true true = refl

pub parts_whole : (a e s over i f g k sk go fa hs hi : Bool) → parts a e s over i f g k sk go fa hs hi ≡ whole a e s over i f g k sk go fa hs hi
parts_whole false e s over i f g k sk go fa hs hi = refl
parts_whole true false s over i f g k sk go fa hs hi = refl
parts_whole true true false over false f g k sk go fa hs hi = refl
parts_whole true true false over true f g k sk go fa hs hi = refl
parts_whole true true true true i f g k sk go fa hs hi = sym (and_false (i && (g && (k && f))))
parts_whole true true true false false f g k sk go fa hs hi =
    no_id (not (sk && hs)) (not (sk && hi)) f (not (go && fa) && (not (sk && fa) && true)) g (not (sk && go)) k
parts_whole true true true false true false false k sk go fa hs hi =
    no_failure ((not (sk && hs) && true) && not (sk && hi)) (not (go && fa) && (not (sk && fa) && true)) false (not (sk && go)) k
parts_whole true true true false true false true false sk go fa hs hi =
    no_failure ((not (sk && hs) && true) && not (sk && hi)) (not (go && fa) && (not (sk && fa) && true)) true (not (sk && go)) false
parts_whole true true true false true false true true sk go fa hs hi =
    no_failure ((not (sk && hs) && true) && not (sk && hi)) (not (go && fa) && (not (sk && fa) && true)) true (not (sk && go)) true
parts_whole true true true false true true false k sk go fa hs hi =
    no_gone ((((not (sk && hs) && true) && not (sk && hi)) && true) && (not (go && fa) && (not (sk && fa) && true))) (not (sk && go)) k
parts_whole true true true false true true true false sk go fa hs hi =
    and_false (((((((not (sk && hs)) && true) && not (sk && hi)) && true) && (not (go && fa) && (not (sk && fa) && true))) && true) && not (sk && go))
parts_whole true true true false true true true true sk go fa hs hi = beside sk go fa hs hi

-- ---- what is read

same_clash : {over over1 go go1 fa fa1 sk sk1 hs hs1 hi hi1 : Bool} → over ≡ over1 → go ≡ go1 → fa ≡ fa1 → sk ≡ sk1 → hs ≡ hs1 → hi ≡ hi1
    → (over || ((go && fa) || (sk && (hs || (hi || (fa || go)))))) ≡ (over1 || ((go1 && fa1) || (sk1 && (hs1 || (hi1 || (fa1 || go1))))))
same_clash eo eg ef es eh ei = cc

by_clash : {A : Type 0} (b c : Bool) (x : A) → b ≡ c → is_some (let o : Option A = if b then None else Some x in o) ≡ not c
by_clash true c x e = rw (sym e) refl
by_clash false c x e = rw (sym e) refl

-- the item of these members is there
pub reads : (a e : Option (List ℕ)) (s : Option (Option ℕ)) (i : Option (List ℕ)) (f : Option (Option Failure)) (g k : Option Bool) (over sk go fa hs hi : Bool)
    → ((n : Option ℕ) → s ≡ Some n → (nat_lt max_seconds (unwrap_or n 0) ≡ over) × (is_some n ≡ hs))
    → ((z : List ℕ) → i ≡ Some z → is_some (unless_empty z) ≡ hi)
    → ((x : Option Failure) → f ≡ Some x → is_some x ≡ fa)
    → ((x : Bool) → g ≡ Some x → x ≡ go) → ((x : Bool) → k ≡ Some x → x ≡ sk)
    → is_some (a >>= λ address. e >>= λ deposed. i >>= λ id. s >>= λ seconds. g >>= λ is_gone. k >>= λ is_skipped. f >>= λ failure.
    item_with address (unless_empty deposed) (unless_empty id) seconds is_gone is_skipped failure)
    ≡ whole (is_some a) (is_some e) (is_some s) over (is_some i) (is_some f) (is_some g) (is_some k) sk go fa hs hi
reads None e s i f g k over sk go fa hs hi es ei ef eg ek = refl
reads (Some a) None s i f g k over sk go fa hs hi es ei ef eg ek = refl
reads (Some a) (Some e) s None f g k over sk go fa hs hi es ei ef eg ek = refl
reads (Some a) (Some e) None (Some i) f g k over sk go fa hs hi es ei ef eg ek = refl
reads (Some a) (Some e) (Some s) (Some i) f None k over sk go fa hs hi es ei ef eg ek = refl
reads (Some a) (Some e) (Some s) (Some i) f (Some g) None over sk go fa hs hi es ei ef eg ek = refl
reads (Some a) (Some e) (Some s) (Some i) None (Some g) (Some k) over sk go fa hs hi es ei ef eg ek = refl
reads (Some a) (Some e) (Some s) (Some i) (Some f) (Some g) (Some k) over sk go fa hs hi es ei ef eg ek =
    let item : Item = record {
      address = a;
      deposed = unless_empty e;
      seconds = unwrap_or s 0;
      id = unless_empty i;
      failure = f;
      is_gone = g;
      is_skipped = k;
    } in
    by_clash (do_clash s (is_some (unless_empty i)) (is_some f) g k) (over || ((go && fa) || (sk && (hs || (hi || (fa || go)))))) item
    (same_clash (es s refl).0 (eg g refl) (ef f refl) (ek k refl) (es s refl).1 (ei i refl))
