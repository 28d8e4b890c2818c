-- A value that is given if a read succeeded: `result_and` of the read and the value.
use Rattle.std.proofs.Common.{◌≡◌, Result, Ok, OnOk, sym, subst}
use Rattle.std.specs.Prelude.{Err, IfOk}
use Rattle.std.specs.Result.{result_and}

pub made : {T U E : Type 0} (P : T → Type 0) (Q : U → Type 0) (read : Result U E) (x : T) (result : Result T E) → result ≡ result_and read (Ok x) → IfOk read Q → ((u : U) → Q u → P x) → IfOk result P
made P Q (Ok u) x result is known gives = subst (λ r. IfOk r P) (sym is) (gives u known)
made P Q (Err e) x result is known gives = subst (λ r. IfOk r P) (sym is) tt

pub shorter : {T U E : Type 0} (A : Type 0) (read : Result U E) (x : T) (result : Result T E) → result ≡ result_and read (Ok x) → OnOk read A → OnOk result A
shorter A (Ok u) x result is known = subst (λ r. OnOk r A) (sym is) known
shorter A (Err e) x result is known = subst (λ r. OnOk r A) (sym is) tt

pub fault : {T U E : Type 0} (A : Type 0) (read : Result U E) (x : T) (result : Result T E) (e : E) → result ≡ result_and read (Ok x) → (read ≡ Err e → A) → result ≡ Err e → A
fault A (Ok u) x result e is known fails = absurd cc
fault A (Err f) x result e is known fails = known (let same : f ≡ e = cc in cc)

-- a fault that is handed on in place of the value
pub same_fault : {T U E : Type 0} (a b : E) → ◌≡◌ {A = Result T E} (Err a) (Err b) → ◌≡◌ {A = Result U E} (Err a) (Err b)
same_fault a b same = cc
