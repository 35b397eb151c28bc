-- The length of a 42H record: 13 + 2M + 2N, or 6 more.
use Rattle.std.specs.Prelude.{cond, ℕ, ◌+◌, ◌*◌, leb}

abbrev pub analog_size : ℕ → ℕ → ℕ → ℕ
analog_size M N total = cond (leb total 65000) (13 + 2 * M + 2 * N) (13 + 2 * M + 2 * N + 6)
