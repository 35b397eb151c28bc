-- A text that was put is any text equal to it.
use Rattle.std.proofs.Common.{◌≡◌, subst, List, ℕ}
use Rattle.buffer.specs.Put.{Put}

pub put_as : {out s t out' : List ℕ} {at n : ℕ} → Put out at s out' n → s ≡ t → Put out at t out' n
put_as {out} {s} {t} {out'} {at} {n} p e = subst (λ (x : List ℕ). Put out at x out' n) e p
