-- What the numbers of a record mean.
use Rattle.std.specs.Prelude.{ℤ, pos, ◌*ℤ◌, ◌-ℤ◌}

-- current is a signed number of 100 mA
abbrev pub milliamps_of : ℤ → ℤ
milliamps_of current = current *ℤ pos 100

-- tenths of a degree Celsius = value - 2731
abbrev pub tenths_celsius_of : ℤ → ℤ
tenths_celsius_of raw = raw -ℤ pos 2731
