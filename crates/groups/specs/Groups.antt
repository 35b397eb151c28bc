-- The INFO of a group: flag, FFH, then the records of the members that are on, in rising ADR; with no member on only the flag and FFH.
use Rattle.std.specs.Prelude.{Bool, cond, List, [], ◌∷◌, ℕ, ◌<◌, length, T}
use Rattle.buffer.specs.Writing.{Left, writing}
use Rattle.record.specs.declared.Module.{Module}
use Rattle.record.specs.declared.Analog.{Analog}
use Rattle.record.specs.declared.Alarm.{Alarm}
use Rattle.record.specs.Infos.{analog_group, alarm_group}
use Rattle.codec.specs.Codec.{Codec, byte}
use Rattle.codec.specs.Both.{◌then◌}
use Rattle.codec.specs.Whole.{lead}
use Rattle.codec.specs.Many.{many}
use Rattle.record.specs.Infos.{command}
use Rattle.table.specs.Table.{is_on}

-- a part of each member that is on
unfoldable pub values_on : {A : Type 0} → (Module → A) → List Module → List A
values_on f [] = []
values_on f (m ∷ ms) = cond (is_on m) (f m ∷ values_on f ms) (values_on f ms)

abbrev pub analogs_on : List Module → List Analog
analogs_on ms = values_on (λ m. m.analog) ms

abbrev pub alarms_on : List Module → List Alarm
alarms_on ms = values_on (λ m. m.alarm) ms

-- a group writer of any format: 31 for a table that breaks its rule, then 32
abbrev pub group_writing : {A : Type 0} (c : Codec A) → ((a : A) → T (c.ok a) → 0 < length (c.put a)) → (Module → A) → Bool → ℕ → List Module → List ℕ → Left
group_writing c some part keeps flag ms out =
    writing 31 keeps ((lead (byte then command 0xFF) (λ x. many c some 12)).put ((flag, 0xFF), values_on part ms)) out

-- that of 42H, and that of 44H
abbrev pub analog_group_writing : Bool → ℕ → List Module → List ℕ → Left
analog_group_writing keeps flag ms out = writing 31 keeps (analog_group.put ((flag, 0xFF), analogs_on ms)) out

abbrev pub alarm_group_writing : Bool → ℕ → List Module → List ℕ → Left
alarm_group_writing keeps flag ms out = writing 31 keeps (alarm_group.put ((flag, 0xFF), alarms_on ms)) out
