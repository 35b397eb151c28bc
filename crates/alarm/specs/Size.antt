-- The length of a 44H record: 10 + M + N.
use Rattle.std.specs.Prelude.{ℕ, ◌+◌}

abbrev pub alarm_size : ℕ → ℕ → ℕ
alarm_size M N = 10 + M + N
