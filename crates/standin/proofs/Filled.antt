-- What each command's writer leaves is that command's data: there is a value, and there is room, for the data fit in 816 bytes.
use Rattle.std.proofs.Common.{◌≡◌, refl, sym, ap, ◌∙◌, true, ◌&&◌, List, ◌∷◌, ℕ, ◌+◌, ◌/◌, ◌%◌, ◌≤◌, arith, length, zero-add, leb, leb-true, lt-ltb, eq-eqb}
use Rattle.buffer.specs.Put.{puts}
use Rattle.buffer.specs.Writing.{leaves, wrote}
use Rattle.buffer.proofs.Puts.{puts-front}
use Rattle.buffer.proofs.Writers.{writing-is}
use Rattle.codec.specs.Codec.{Codec, byte}
use Rattle.codec.specs.Both.{◌then◌}
use Rattle.codec.specs.Whole.{lead, ended}
use Rattle.record.specs.declared.Module.{Module}
use Rattle.record.specs.Address.{is_address}
use Rattle.record.specs.Analog.{analog}
use Rattle.record.specs.Alarm.{alarm}
use Rattle.record.specs.Limits.{limits}
use Rattle.record.specs.Parameters.{parameters}
use Rattle.record.specs.Texts.{serial, version}
use Rattle.record.specs.Infos.{command, analog_info, alarm_info, limits_info, serial_info, version_info, analog_group, alarm_group, parameters_info, some_analog, some_alarm}
use Rattle.parts.specs.Records.{record_writing}
use Rattle.table.specs.declared.Station.{Station}
use Rattle.table.specs.declared.Table.{Table}
use Rattle.table.specs.Table.{is_on, member_at, members}
use Rattle.table.specs.Rule.{rule, keeps}
use Rattle.groups.specs.Groups.{group_writing}
use Rattle.command.specs.declared.Kind.{Kind}
use Rattle.command.specs.declared.Kind.TheVariants.{Analog, AnalogGroup, Alarm, AlarmGroup, Parameters, Protocol, Maker, Limits, Serial, TurnOff, Version, Unserved}
use Rattle.standin.specs.Answer.{info_by}
use Rattle.standin.specs.Steps.{filled}
use Rattle.table.proofs.rule.Fine.{Fine, both_true, keeps-parts}
use Rattle.standin.proofs.Short.{Short, analog-short, alarm-short, limits-short, parameters-short, serial-short, version-short, analogs-short, alarms-short}
use Rattle.standin.proofs.Members.{member-adr, member-fine}

-- ---- of any format: the front and a value, which can be written

module _ (adr : ℕ) (address : is_address adr ≡ true) {A : Type 0} (c : Codec A) (a : A) (fine : c.ok a ≡ true) (most : ℕ) (short : Short (c.put a) most) (out : List ℕ) (room : 2 + most ≤ length out) where
  command-ok : (command adr).ok adr ≡ true
  unfolding is_address
  command-ok =
      let low = leb-true (adr / 16) 7 (both_true (leb 2 (adr % 16) && leb (adr % 16) 13) (leb (adr / 16) 7) address).1 in
      simp (eq-eqb adr adr refl, lt-ltb adr 256 (omega arith))

  flagged-filled : record_writing adr (lead (byte then command adr) (λ x. ended c)) ((0, adr), a) out ≡ filled (0 ∷ adr ∷ c.put a) out
  flagged-filled = writing-is 33 (0 ∷ adr ∷ c.put a) out _ (simp (address, command-ok, fine)) (omega (arith, short.fits))

  unflagged-filled : record_writing adr (lead (command adr) (λ x. ended c)) (adr, a) out ≡ filled (adr ∷ c.put a) out
  unflagged-filled = writing-is 33 (adr ∷ c.put a) out _ (simp (address, command-ok, fine)) (omega (arith, short.fits))

  alone-filled : record_writing adr (lead byte (λ x. ended c)) (0, a) out ≡ filled (0 ∷ c.put a) out
  alone-filled = writing-is 33 (0 ∷ c.put a) out _ (simp (address, fine)) (omega (arith, short.fits))

-- ---- of each kind, for a member that is on

module _ (ms : List Module) (kept : rule ms ≡ true) (adr : ℕ) (on : is_on (member_at adr ms) ≡ true) where
  there : Fine (member_at adr ms)
  there = member-fine adr ms on kept

  placed : is_address adr ≡ true
  placed = ap is_address (sym (member-adr adr ms on)) ∙ there.address

  pub info-length : (st : Station) → length st.maker ≡ 32 → (k : Kind) → length (info_by k st ms adr) ≤ 816
  unfolding info_by analog_info alarm_info limits_info serial_info version_info parameters_info analog_group alarm_group
  info-length st e Analog = omega (arith, (analog-short _ there.analog-ok).fits)
  info-length st e AnalogGroup = omega (arith, (analogs-short ms kept).fits)
  info-length st e Alarm = omega (arith, (alarm-short _ there.alarm-ok).fits)
  info-length st e AlarmGroup = omega (arith, (alarms-short ms kept).fits)
  info-length st e Parameters = omega (arith, (parameters-short (member_at adr ms).parameters).fits)
  info-length st e Protocol = omega arith
  info-length st e Maker = omega arith
  info-length st e Limits = omega (arith, (limits-short (member_at adr ms).limits).fits)
  info-length st e Serial = omega (arith, (serial-short _ there.serial-ok).fits)
  info-length st e TurnOff = omega arith
  info-length st e Version = omega (arith, (version-short _ there.version-ok).fits)
  info-length st e Unserved = omega arith

module _ (st : Station) (t : Table) (adr : ℕ) (kept : keeps t ≡ true) (on : is_on (member_at adr (members t)) ≡ true) where
  rules-kept : rule (members t) ≡ true
  rules-kept = (keeps-parts t kept).1

  f : Fine (member_at adr (members t))
  f = there (members t) rules-kept adr on

  address : is_address adr ≡ true
  address = placed (members t) rules-kept adr on

  module _ (out : List ℕ) (room : 816 ≤ length out) where
    pub by-analog : filled (info_by Analog st (members t) adr) out ≡ record_writing adr (lead (byte then command adr) (λ x. ended analog)) ((0, adr), (member_at adr (members t)).analog) out
    unfolding info_by analog_info
    by-analog = sym (flagged-filled adr address analog _ f.analog-ok 67 (analog-short _ f.analog-ok) out (omega arith))

    pub by-analogs : filled (info_by AnalogGroup st (members t) adr) out ≡ group_writing analog some_analog (λ m. m.analog) (keeps t) 0 (members t) out
    unfolding info_by analog_group
    by-analogs = sym (writing-is 31 _ out (keeps t) kept (omega (arith, (analogs-short (members t) rules-kept).fits)))

    pub by-alarm : filled (info_by Alarm st (members t) adr) out ≡ record_writing adr (lead (byte then command adr) (λ x. ended alarm)) ((0, adr), (member_at adr (members t)).alarm) out
    unfolding info_by alarm_info
    by-alarm = sym (flagged-filled adr address alarm _ f.alarm-ok 34 (alarm-short _ f.alarm-ok) out (omega arith))

    pub by-alarms : filled (info_by AlarmGroup st (members t) adr) out ≡ group_writing alarm some_alarm (λ m. m.alarm) (keeps t) 0 (members t) out
    unfolding info_by alarm_group
    by-alarms = sym (writing-is 31 _ out (keeps t) kept (omega (arith, (alarms-short (members t) rules-kept).fits)))

    pub by-parameters : filled (info_by Parameters st (members t) adr) out ≡ record_writing adr (lead byte (λ x. ended parameters)) (0, (member_at adr (members t)).parameters) out
    unfolding info_by parameters_info
    by-parameters = sym (alone-filled adr address parameters _ f.parameters-ok 24 (parameters-short _) out (omega arith))

    pub by-limits : filled (info_by Limits st (members t) adr) out ≡ record_writing adr (lead (command adr) (λ x. ended limits)) (adr, (member_at adr (members t)).limits) out
    unfolding info_by limits_info
    by-limits = sym (unflagged-filled adr address limits _ f.limits-ok 9 (limits-short _) out (omega arith))

    pub by-serial : filled (info_by Serial st (members t) adr) out ≡ record_writing adr (lead (command adr) (λ x. ended serial)) (adr, (member_at adr (members t)).serial) out
    unfolding info_by serial_info
    by-serial = sym (unflagged-filled adr address serial _ f.serial-ok 16 (serial-short _ f.serial-ok) out (omega arith))

    pub by-version : filled (info_by Version st (members t) adr) out ≡ record_writing adr (lead (command adr) (λ x. ended version)) (adr, (member_at adr (members t)).version) out
    unfolding info_by version_info
    by-version = sym (unflagged-filled adr address version _ f.version-ok 5 (version-short _ f.version-ok) out (omega arith))

module _ (st : Station) (ms : List Module) (adr : ℕ) (out : List ℕ) where
  pub by-maker : filled (info_by Maker st ms adr) out ≡ leaves (wrote (0 + length st.maker)) (puts out 0 st.maker)
  unfolding info_by
  by-maker = rw (puts-front, zero-add)

  pub by-protocol : filled (info_by Protocol st ms adr) out ≡ leaves (wrote 0) out
  unfolding info_by
  by-protocol = refl

  pub by-turn_off : filled (info_by TurnOff st ms adr) out ≡ leaves (wrote 0) out
  unfolding info_by
  by-turn_off = refl

  pub by-unserved : filled (info_by Unserved st ms adr) out ≡ leaves (wrote 0) out
  unfolding info_by
  by-unserved = refl

pub ruleset fills = (by-analog, by-analogs, by-alarm, by-alarms, by-parameters, by-limits, by-serial, by-version, by-maker, by-protocol, by-turn_off, by-unserved)
