-- 44H, alarm codes of a module (V3.3, chapter 3.5; PROTOCOL 9.12): the record without flag and Command.
use Rattle.std.specs.Prelude.{refl, List, Bool, ◌||◌, ℕ, leb, eqb}
use Rattle.codec.specs.Codec.{Codec, byte}
use Rattle.codec.specs.Both.{◌then◌}
use Rattle.codec.specs.Tested.{tested}
use Rattle.codec.specs.Seen.{named, Names}
use Rattle.codec.specs.Row.{row}
use Rattle.codec.specs.Counted.{counted}
use Rattle.record.specs.declared.Alarm.{Alarm}
use Rattle.record.specs.Zeros.{zero_byte}

-- an alarm code is 00, 01, 02 or F0, else 20
unfoldable pub is_alarm_code : ℕ → Bool
is_alarm_code b = leb b 2 || eqb b 0xF0

abbrev pub code : Codec ℕ
code = tested is_alarm_code 20 byte

-- a count, and that many codes
unfoldable pub codes : ℕ → Codec (ℕ × List ℕ)
codes most = counted code zero_byte most

-- charge current, module voltage, discharge current
unfoldable pub singles : Codec (ℕ × (ℕ × ℕ))
singles = code then code then code

abbrev pub AlarmRow : Type 0
AlarmRow = (ℕ × List ℕ) × ((ℕ × List ℕ) × ((ℕ × (ℕ × ℕ)) × List ℕ))

abbrev pub alarm_row : Codec AlarmRow
alarm_row =
    -- M, then M cells
    codes 16
    -- N, then N temperatures
    then codes 8
    -- charge current, module voltage, discharge current
    then singles
    -- status 1 to 5
    then row byte 5

abbrev pub to_alarm : AlarmRow → Alarm
to_alarm x = record {
  cell_count = x.0.0;
  cells = x.0.1;
  temperature_count = x.1.0.0;
  temperatures = x.1.0.1;
  charge_current = x.1.1.0.0;
  module_voltage = x.1.1.0.1.0;
  discharge_current = x.1.1.0.1.1;
  status = x.1.1.1;
}

abbrev pub of_alarm : Alarm → AlarmRow
of_alarm a = ((a.cell_count, a.cells), ((a.temperature_count, a.temperatures), ((a.charge_current, (a.module_voltage, a.discharge_current)), a.status)))

abbrev pub alarm_names : Names to_alarm of_alarm
alarm_names = record { in_out = λ b. refl; out_in = λ a. refl }

unfoldable pub alarm : Codec Alarm
alarm = named alarm_row to_alarm of_alarm alarm_names
