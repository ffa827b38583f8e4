-- What holds of a result whose value or error was handed on.
use Rattle.std.proofs.Common.{◌≡◌, sym, subst, Result, Ok, Err, IfOk, IfErr}
use Rattle.std.specs.Result.{IsErrAnd}

-- what holds of an error that was handed on
pub reported : {T E : Type 0} (r : Result T E) (e : E) (P : E → Type 0) → IsErrAnd r (λ y. y ≡ e) → P e → IfErr r P
reported (Ok x) e P h p = tt
reported (Err y) e P h p = subst P (sym h) p

pub if-ok : {T E : Type 0} (r : Result T E) (P Q : T → Type 0) → ((x : T) → P x → Q x) → IfOk r P → IfOk r Q
if-ok (Ok x) P Q f h = f x h
if-ok (Err y) P Q f h = tt

pub if-err : {T E : Type 0} (r : Result T E) (P Q : E → Type 0) → ((y : E) → P y → Q y) → IfErr r P → IfErr r Q
if-err (Ok x) P Q f h = tt
if-err (Err y) P Q f h = f y h
