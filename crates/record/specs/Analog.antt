-- 42H, analog values of a module (V3.3, chapter 3.3; PROTOCOL 9.5): the record without flag and Command.
use Rattle.std.specs.Prelude.{refl, List, ℕ, ℤ}
use Rattle.codec.specs.Codec.{Codec}
use Rattle.codec.specs.Both.{◌then◌}
use Rattle.codec.specs.Seen.{named, Names}
use Rattle.codec.specs.Numbers.{word, signed}
use Rattle.codec.specs.Counted.{counted}
use Rattle.record.specs.declared.Analog.{Analog}
use Rattle.record.specs.Zeros.{zero_signed}
use Rattle.record.specs.Capacities.{Capacities, capacities}

-- a count, and that many signed words
unfoldable pub measured : ℕ → Codec (ℕ × List ℤ)
measured most = counted signed zero_signed most

abbrev pub AnalogRow : Type 0
AnalogRow = (ℕ × List ℤ) × ((ℕ × List ℤ) × (ℤ × (ℕ × Capacities)))

abbrev pub analog_row : Codec AnalogRow
analog_row =
    -- M, then M cells
    measured 16
    -- N, then N temperatures
    then measured 8
    -- current
    then signed
    -- module voltage
    then word
    -- remaining, items, total, cycles
    then capacities

abbrev pub to_analog : AnalogRow → Analog
to_analog x = record {
  cell_count = x.0.0;
  cells = x.0.1;
  temperature_count = x.1.0.0;
  temperatures = x.1.0.1;
  current = x.1.1.0;
  voltage = x.1.1.1.0;
  remaining = x.1.1.1.1.0;
  total = x.1.1.1.1.1.0;
  cycles = x.1.1.1.1.1.1;
}

abbrev pub of_analog : Analog → AnalogRow
of_analog a = ((a.cell_count, a.cells), ((a.temperature_count, a.temperatures), (a.current, (a.voltage, (a.remaining, (a.total, a.cycles))))))

abbrev pub analog_names : Names to_analog of_analog
analog_names = record { in_out = λ b. refl; out_in = λ a. refl }

unfoldable pub analog : Codec Analog
analog = named analog_row to_analog of_analog analog_names
