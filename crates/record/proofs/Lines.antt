-- The paper's lines on records, computed: the ends of the currents, the two sides of 65 Ah, 92H and 47H.
use mathlib.Core.Path.{◌≡◌, refl}
use mathlib.Core.List.{[], ◌∷◌}
use lib.ListN.{replicate}
use lib.IntN.{pos, negsuc}
use mir.Syntax.{w16}
use mir.Val.{to_z}
use Rattle.codec.specs.Codec.{no}
use Rattle.codec.specs.Whole.{told}
use Rattle.record.specs.Meanings.{milliamps_of, tenths_celsius_of}
use Rattle.record.specs.Capacities.{capacities}
use Rattle.record.specs.Limits.{limits}
use Rattle.record.specs.Parameters.{parameters}
use Rattle.record.specs.Infos.{limits_info, parameters_info}
use Rattle.record.specs.Nothing.{no_parameters}

-- current 8000: -3,276,800 mA
pub current-8000 : milliamps_of (to_z w16 0x8000) ≡ negsuc 3276799
current-8000 = refl

-- and at FFFF, 0 and 7FFF
pub current-FFFF : milliamps_of (to_z w16 0xFFFF) ≡ negsuc 99
current-FFFF = refl

pub current-0 : milliamps_of (to_z w16 0) ≡ pos 0
current-0 = refl

pub current-7FFF : milliamps_of (to_z w16 0x7FFF) ≡ pos 3276700
current-7FFF = refl

-- total 65,000: items 2
pub total-65000 : capacities.put (64000, (65000, 7)) ≡ 0xFA ∷ 0x00 ∷ 2 ∷ 0xFD ∷ 0xE8 ∷ 0 ∷ 7 ∷ []
unfolding capacities
total-65000 = refl

-- total 65,001: items 4
pub total-65001 : capacities.put (64000, (65001, 7)) ≡ 0xFF ∷ 0xFF ∷ 4 ∷ 0xFF ∷ 0xFF ∷ 0 ∷ 7 ∷ 0x00 ∷ 0xFA ∷ 0x00 ∷ 0x00 ∷ 0xFD ∷ 0xE9 ∷ []
unfolding capacities
total-65001 = refl

-- items 3 as the last byte is 18, not 16
pub items-3 : capacities.get (0xFA ∷ 0x00 ∷ 3 ∷ []) ≡ no 18 []
unfolding capacities
items-3 = refl

-- items 2 with FFFF is 19, after the record's last byte; cut short it is 16
pub items-2-FFFF : capacities.get (0xFF ∷ 0xFF ∷ 2 ∷ 0xFF ∷ 0xFF ∷ 0 ∷ 7 ∷ []) ≡ no 19 []
unfolding capacities
items-2-FFFF = refl

pub items-2-short : capacities.get (0xFF ∷ 0xFF ∷ 2 ∷ 0xFF ∷ 0xFF ∷ 0 ∷ []) ≡ no 16 []
unfolding capacities
items-2-short = refl

-- 92H INFO 02D002B79800FA00FAC0: 53,250 mV, 47,000 mV, 25.0 A twice, status C0
pub limits-line : (limits_info 0x02).get (0x02 ∷ 0xD0 ∷ 0x02 ∷ 0xB7 ∷ 0x98 ∷ 0x00 ∷ 0xFA ∷ 0x00 ∷ 0xFA ∷ 0xC0 ∷ [])
    ≡ told (0x02, record { charge_voltage = 53250; discharge_voltage = 47000; charge_current = pos 250; discharge_current = pos 250; status = 0xC0 })
unfolding limits_info limits
limits-line = refl

pub limits-amps : milliamps_of (pos 250) ≡ pos 25000
limits-amps = refl

-- 47H INFO 000E740BEA0B540C9F0AAB00FAD002B798ADD40D030A47FF06: flag 00H; a cell 3,700, 3,050 and 2,900 mV; charge 50.0 C, 0.0 C and 25.0 A;
-- the module 53,250, 47,000 and 44,500 mV; discharge 60.0 C, -10.0 C and -25.0 A
pub parameters-line : parameters_info.get (0x00 ∷ 0x0E ∷ 0x74 ∷ 0x0B ∷ 0xEA ∷ 0x0B ∷ 0x54 ∷ 0x0C ∷ 0x9F ∷ 0x0A ∷ 0xAB ∷ 0x00 ∷ 0xFA ∷ 0xD0 ∷ 0x02 ∷ 0xB7 ∷ 0x98 ∷ 0xAD ∷ 0xD4 ∷ 0x0D ∷ 0x03 ∷ 0x0A ∷ 0x47 ∷ 0xFF ∷ 0x06 ∷ [])
    ≡ told (
      0x00,
      record {
        cell_high_voltage = pos 3700;
        cell_low_voltage = pos 3050;
        cell_under_voltage = pos 2900;
        charge_high_temperature = pos 3231;
        charge_low_temperature = pos 2731;
        charge_current = pos 250;
        module_high_voltage = 53250;
        module_low_voltage = 47000;
        module_under_voltage = 44500;
        discharge_high_temperature = pos 3331;
        discharge_low_temperature = pos 2631;
        discharge_current = negsuc 249;
      },
    )
unfolding parameters_info parameters
parameters-line = refl

pub parameters-celsius : (tenths_celsius_of (pos 3231) ≡ pos 500) × (tenths_celsius_of (pos 2731) ≡ pos 0) × (tenths_celsius_of (pos 3331) ≡ pos 600) × (tenths_celsius_of (pos 2631) ≡ negsuc 99)
parameters-celsius = (refl, refl, refl, refl)

pub parameters-amps : milliamps_of (negsuc 249) ≡ negsuc 24999
parameters-amps = refl

-- every word FFFFH: nine signed, the module's three unsigned
pub parameters-signs : parameters_info.get (replicate 25 0xFF)
    ≡ told (
      0xFF,
      record {
        cell_high_voltage = negsuc 0;
        cell_low_voltage = negsuc 0;
        cell_under_voltage = negsuc 0;
        charge_high_temperature = negsuc 0;
        charge_low_temperature = negsuc 0;
        charge_current = negsuc 0;
        module_high_voltage = 65535;
        module_low_voltage = 65535;
        module_under_voltage = 65535;
        discharge_high_temperature = negsuc 0;
        discharge_low_temperature = negsuc 0;
        discharge_current = negsuc 0;
      },
    )
unfolding parameters_info parameters
parameters-signs = refl

-- where nothing was read there are zeros
pub no-parameters-zeros : parameters_info.put (0, no_parameters) ≡ replicate 25 0
unfolding parameters_info parameters
no-parameters-zeros = refl
