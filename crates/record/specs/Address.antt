-- The address rule: ADR is n + 16 m, n from 2 to 13, m from 0 to 7.
use Rattle.std.specs.Prelude.{Bool, ◌&&◌, ℕ, ◌/◌, ◌%◌, leb}

unfoldable pub is_address : ℕ → Bool
is_address adr = (leb 2 (adr % 16) && leb (adr % 16) 13) && leb (adr / 16) 7
