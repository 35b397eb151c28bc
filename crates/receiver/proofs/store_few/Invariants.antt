-- The loop's invariant: k bytes were stored, none of them SOI or CR.
use Rattle.std.proofs.Common.{length, ◌≤◌, ◌≡◌}
use Rattle.std.proofs.Math.Seq.{paste}
use Rattle.std.specs.List.{position_or_len}
use Rattle.receiver.specs.Pass.{is_end}
use Rattle.receiver.proofs.store_few.Given as goal

abbrev pub invariant-loop-j : goal.invariant-loop-j
invariant-loop-j l = (length l.store ≡ length l.initial.store) × (l.k ≤ l.j) × (l.k ≤ position_or_len is_end l.s) × (l.store ≡ paste l.initial.store l.at l.s l.k)
