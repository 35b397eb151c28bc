-- 92H, charge and discharge management of a module (V3.3, chapter 3.6; PROTOCOL 9.17): the record without Command.
use Rattle.std.specs.Prelude.{refl, ℕ, ℤ}
use Rattle.codec.specs.Codec.{Codec, byte}
use Rattle.codec.specs.Both.{◌then◌}
use Rattle.codec.specs.Seen.{named, Names}
use Rattle.codec.specs.Numbers.{word, signed}
use Rattle.record.specs.declared.Limits.{Limits}

abbrev pub LimitsRow : Type 0
LimitsRow = ℕ × (ℕ × (ℤ × (ℤ × ℕ)))

abbrev pub limits_row : Codec LimitsRow
limits_row =
    -- charge voltage limit, discharge voltage limit
    word
    then word
    -- charge current limit, discharge current limit
    then signed
    then signed
    -- status
    then byte

abbrev pub to_limits : LimitsRow → Limits
to_limits x = record {
  charge_voltage = x.0;
  discharge_voltage = x.1.0;
  charge_current = x.1.1.0;
  discharge_current = x.1.1.1.0;
  status = x.1.1.1.1;
}

abbrev pub of_limits : Limits → LimitsRow
of_limits l = (l.charge_voltage, (l.discharge_voltage, (l.charge_current, (l.discharge_current, l.status))))

abbrev pub limits_names : Names to_limits of_limits
limits_names = record { in_out = λ b. refl; out_in = λ a. refl }

unfoldable pub limits : Codec Limits
limits = named limits_row to_limits of_limits limits_names
