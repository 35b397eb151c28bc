-- 47H, system parameters of a module (V3.3, chapter 3.4; PROTOCOL 9.23): the record without flag.
use Rattle.std.specs.Prelude.{refl, ℕ, ℤ}
use Rattle.codec.specs.Codec.{Codec}
use Rattle.codec.specs.Both.{◌then◌}
use Rattle.codec.specs.Seen.{named, Names}
use Rattle.codec.specs.Numbers.{word, signed}
use Rattle.record.specs.declared.Parameters.{Parameters}

abbrev pub Three : Type 0 → Type 0
Three A = A × (A × A)

abbrev pub thrice : {A : Type 0} → Codec A → Codec (Three A)
thrice c = c then c then c

abbrev pub ParametersRow : Type 0
ParametersRow = Three ℤ × (Three ℤ × (Three ℕ × Three ℤ))

abbrev pub parameters_row : Codec ParametersRow
parameters_row =
    -- of a cell: high voltage limit, low voltage limit (alarm), under voltage limit (protection)
    thrice signed
    -- of charge: high temperature limit, low temperature limit, current limit
    then thrice signed
    -- of the module: high voltage limit, low voltage limit (alarm), under voltage limit (protection)
    then thrice word
    -- of discharge: high temperature limit, low temperature limit, current limit
    then thrice signed

abbrev pub to_parameters : ParametersRow → Parameters
to_parameters x = record {
  cell_high_voltage = x.0.0;
  cell_low_voltage = x.0.1.0;
  cell_under_voltage = x.0.1.1;
  charge_high_temperature = x.1.0.0;
  charge_low_temperature = x.1.0.1.0;
  charge_current = x.1.0.1.1;
  module_high_voltage = x.1.1.0.0;
  module_low_voltage = x.1.1.0.1.0;
  module_under_voltage = x.1.1.0.1.1;
  discharge_high_temperature = x.1.1.1.0;
  discharge_low_temperature = x.1.1.1.1.0;
  discharge_current = x.1.1.1.1.1;
}

abbrev pub of_parameters : Parameters → ParametersRow
of_parameters p = (
  (p.cell_high_voltage, (p.cell_low_voltage, p.cell_under_voltage)),
  (
    (p.charge_high_temperature, (p.charge_low_temperature, p.charge_current)),
    (
      (p.module_high_voltage, (p.module_low_voltage, p.module_under_voltage)),
      (p.discharge_high_temperature, (p.discharge_low_temperature, p.discharge_current)),
    ),
  ),
)

abbrev pub parameters_names : Names to_parameters of_parameters
parameters_names = record { in_out = λ b. refl; out_in = λ a. refl }

unfoldable pub parameters : Codec Parameters
parameters = named parameters_row to_parameters of_parameters parameters_names
