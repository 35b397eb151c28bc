-- The digits that are left, put over what stands there, give the whole.
use Rattle.std.proofs.Common.{◌≡◌}
use Rattle.buffer.specs.Put.{puts}
use Rattle.texts.specs.Text.{digits}
use Rattle.texts.proofs.put_digits.Given as goal

abbrev pub invariant-loop-i : goal.invariant-loop-i
invariant-loop-i l = puts l.out l.at (digits l.i l.rest) ≡ puts l.initial.out l.at (digits l.k l.n)
