-- What the reply reader hands back of a reply with 00H that the stand-in sent: the asked fields of the stand-in's records, for 51H its 32 bytes.
use Rattle.std.specs.Prelude.{◌≡◌, cond, List, ℕ, ◌<◌, length, T, eqb}
use Rattle.hex_chars.specs.Hex.{Bytes}
use Rattle.record.specs.declared.Module.{Module}
use Rattle.record.specs.Nothing.{no_maker}
use Rattle.table.specs.declared.Station.{Station}
use Rattle.table.specs.Table.{member_at, count_on}
use Rattle.table.specs.Changes.{replaced, dealt, with_analog, with_alarm, with_limits, with_serial, with_version, with_parameters}
use Rattle.groups.specs.Groups.{analogs_on, alarms_on}
use Rattle.command.specs.declared.Kind.{Kind}
use Rattle.command.specs.declared.Kind.TheVariants.{Analog, AnalogGroup, Alarm, AlarmGroup, Parameters, Protocol, Maker, Limits, Serial, TurnOff, Version, Unserved}
use Rattle.command.specs.Command.{paper}

-- VER and the 32 bytes of 51H are bytes
pub record OfBytes (st : Station) : Type 0 where
  pub ver : st.ver < 256
  pub maker : Bytes st.maker
  pub count : length st.maker ≡ 32

-- the reader's records ms', with the asked fields of the stand-in's records ms: of the record with this ADR, with FFH of each member that is on
unfoldable pub copied : Kind → ℕ → List Module → List Module → List Module
copied Analog adr ms ms' = replaced adr (with_analog (member_at adr ms).analog) ms'
copied AnalogGroup adr ms ms' = dealt with_analog ms' (analogs_on ms)
copied Alarm adr ms ms' = replaced adr (with_alarm (member_at adr ms).alarm) ms'
copied AlarmGroup adr ms ms' = dealt with_alarm ms' (alarms_on ms)
copied Parameters adr ms ms' = replaced adr (with_parameters (member_at adr ms).parameters) ms'
copied Protocol adr ms ms' = ms'
copied Maker adr ms ms' = ms'
copied Limits adr ms ms' = replaced adr (with_limits (member_at adr ms).limits) ms'
copied Serial adr ms ms' = replaced adr (with_serial (member_at adr ms).serial) ms'
copied TurnOff adr ms ms' = ms'
copied Version adr ms ms' = replaced adr (with_version (member_at adr ms).version) ms'
copied Unserved adr ms ms' = ms'

-- the stand-in's 32 bytes for 51H, zeros for every other command
unfoldable pub maker_for : Kind → Station → List ℕ
maker_for kind st = cond (eqb (paper kind).cid2 0x51) st.maker no_maker

-- with FFH, as many members are on in both tables
abbrev pub Alike : Kind → List Module → List Module → Type 0
Alike kind ms ms' = T (paper kind).group → count_on ms ≡ count_on ms'
