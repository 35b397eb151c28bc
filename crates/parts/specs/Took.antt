-- What reading a whole INFO hands out of what its format found: after flag and Command the flag and the value, after Command alone the value.
use Rattle.std.specs.Prelude.{ℕ}
use Rattle.record.specs.Infos.{Front}

abbrev pub flagged : {A : Type 0} → Front × A → ℕ × A
flagged x = (x.0.0, x.1)

abbrev pub unflagged : {A : Type 0} → ℕ × A → A
unflagged x = x.1
