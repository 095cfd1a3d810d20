-- What the exit of a `?` answers.
use Rattle.std.proofs.Common.{◌≡◌, Result, Ok, Err, IfErr, sym, ap, subst}
use Rattle.std.specs.Result.{IsErrAnd}

pub err_is : {T E : Type 0} (r : Result T E) (e : E) → IsErrAnd r (λ x. x ≡ e) → r ≡ Err e
err_is (Ok x) e is = absurd is
err_is (Err x) e is = ap Err is

pub if_err : {T E : Type 0} (r : Result T E) (e : E) (P : E → Type 0) → IsErrAnd r (λ x. x ≡ e) → P e → IfErr r P
if_err (Ok x) e P is h = absurd is
if_err (Err x) e P is h = subst P (sym is) h
