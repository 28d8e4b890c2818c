-- Sequences of results that may be errors.
use Rattle.std.proofs.Common.{◌≡◌, Bool, true, false, cond, Option, Some, None, Result, Ok, Err, refl}
use Rattle.std.specs.Prelude.{◌≢◌, IsErrAnd}
use Rattle.apply_plan.specs.Results.{◌>>=◌, Gives, or_refuse, unless_refused}

pub bind_ok : {A B E : Type 0} (r : Result A E) (f : A → Result B E) (y : B) → (r >>= f) ≡ Ok y → (x : A) × (r ≡ Ok x) × (f x ≡ Ok y)
bind_ok (Ok x) f y e = (x, refl, e)
bind_ok (Err d) f y e = absurd cc

pub or_refuse_ok : {A E : Type 0} (refusal : E) (o : Option A) (x : A) → or_refuse refusal o ≡ Ok x → o ≡ Some x
or_refuse_ok refusal None x e = absurd cc
or_refuse_ok refusal (Some y) x e = cc

-- a test without an error
pub guard_ok : {A E : Type 0} (b : Bool) (d : E) (r : Result A E) (y : A) → cond b (Err d) r ≡ Ok y → (b ≡ false) × (r ≡ Ok y)
guard_ok true d r y e = absurd cc
guard_ok false d r y e = (refl, e)

-- a value without an error
pub unless_refused_ok : {A E : Type 0} (o : Option E) (x y : A) → unless_refused o x ≡ Ok y → (o ≡ None) × (x ≡ y)
unless_refused_ok None x y e = (refl, cc)
unless_refused_ok (Some refusal) x y e = absurd cc

abbrev pub done : {A E : Type 0} → A → Result A E
done x = Ok x

pub ok_is : {A E : Type 0} (x y : A) → done {E = E} x ≡ done y → x ≡ y
ok_is x y e = cc

-- two steps with the same continuation
pub bind_same : {A B E : Type 0} (r : Result A E) (f g : A → Result B E) → ((x : A) → f x ≡ g x) → (r >>= f) ≡ (r >>= g)
bind_same (Ok x) f g same = same x
bind_same (Err e) f g same = refl

-- an error that is handed on
pub gives_refusal : {X Y E : Type 0} (memory : E) (view : X → Y) (answer : Result X E) (refusal : E) (defined : Result Y E) → IsErrAnd answer (λ e. e ≡ refusal) → (refusal ≢ memory → defined ≡ Err refusal) → Gives memory view answer defined
gives_refusal memory view (Ok x) refusal defined never is = absurd never
gives_refusal memory view (Err e) refusal defined same is = rw same is
