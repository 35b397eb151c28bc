-- Each command's data can be encoded, are bytes, and are read back: per kind the codec's laws, whose `ok` is what the table's rule says.
use Rattle.std.proofs.Common.{◌≡◌, refl, sym, ap, ◌∙◌, subst, Bool, true, false, cond, List, [], ◌∷◌, ℕ, zero, suc, ◌+◌, ◌≤◌, ◌<◌, arith, length, T, ltb, lt→ltb, eq-eqb, lt-ltb}
use Rattle.std.proofs.Math.Facts.{yes_and}
use Rattle.buffer.proofs.Lists.{by_cond}
use Rattle.hex_chars.specs.Hex.{Bytes}
use Rattle.codec.specs.Codec.{Codec, byte}
use Rattle.codec.specs.Both.{◌then◌}
use Rattle.codec.specs.Row.{row_ok}
use Rattle.codec.specs.Whole.{told, lead, ended}
use Rattle.codec.specs.Many.{many_ok}
use Rattle.codec.proofs.Rows.{row-bytes}
use Rattle.record.specs.declared.Module.{Module}
use Rattle.record.specs.Analog.{analog}
use Rattle.record.specs.Alarm.{alarm}
use Rattle.record.specs.Limits.{limits}
use Rattle.record.specs.Parameters.{parameters}
use Rattle.record.specs.Texts.{serial, version, maker}
use Rattle.record.specs.Infos.{command, analog_info, alarm_info, limits_info, serial_info, version_info, some_analog, some_alarm, analog_group, alarm_group}
use Rattle.record.specs.Infos.{parameters_info, maker_info, empty_info}
use Rattle.table.specs.declared.Station.{Station}
use Rattle.table.specs.Table.{is_on, member_at, one_if, count_on}
use Rattle.table.specs.Rule.{rising, rule}
use Rattle.table.proofs.rule.Fine.{Fine, fine-parts, rising-parts, rule-parts}
use Rattle.groups.specs.Groups.{values_on, analogs_on, alarms_on}
use Rattle.command.specs.declared.Kind.{Kind}
use Rattle.command.specs.declared.Kind.TheVariants.{Analog, AnalogGroup, Alarm, AlarmGroup, Parameters, Protocol, Maker, Limits, Serial, TurnOff, Version, Unserved}
use Rattle.command.specs.Command.{paper, terms_of}
use Rattle.standin.specs.Answer.{info_by}
use Rattle.standin.proofs.Members.{member-fine}
use Rattle.reply.specs.Read.{took}
use Rattle.meet.specs.Copied.{OfBytes, copied, maker_for, Alike}

pub yes : {b : Bool} → b ≡ true → T b
yes e = subst T (sym e) tt

-- ---- after flag 00H and Command, the flag alone, or Command alone, any record that can be encoded
after-flag-alone : {A : Type 0} (c : Codec A) (a : A) → c.ok a ≡ true → T ((lead byte (λ x. ended c)).ok (0, a))
after-flag-alone c a ok = rw ok tt

module _ {A : Type 0} (c : Codec A) (a : A) (ok : c.ok a ≡ true) (adr : ℕ) (small : adr < 256) where
  after-flag : T ((lead (byte then command adr) (λ x. ended c)).ok ((0, adr), a))
  after-flag = rw (eq-eqb adr adr refl, lt-ltb adr 256 small, ok) tt

  after-command : T ((lead (command adr) (λ x. ended c)).ok (adr, a))
  after-command = rw (eq-eqb adr adr refl, lt-ltb adr 256 small, ok) tt

-- ---- the values of the members that are on
module _ {A : Type 0} (f : Module → A) where
  pub on-count : (ms : List Module) → length (values_on f ms) ≡ count_on ms
  unfolding values_on count_on
  on-count [] = refl
  on-count (m ∷ ms) = turn (is_on m) (on-count ms)
    where
      turn : (on : Bool) → length (values_on f ms) ≡ count_on ms → length (cond on (f m ∷ values_on f ms) (values_on f ms)) ≡ one_if on + count_on ms
      turn true e = omega arith
      turn false e = omega arith

  module _ (c : Codec A) (some : (a : A) → T (c.ok a) → 0 < length (c.put a)) (ok : (m : Module) → Fine m → c.ok (f m) ≡ true) where
    on-ok : (group last : ℕ) (ms : List Module) (K : ℕ) → rising group last ms ≡ true → length ms ≤ K → T (many_ok c some K (values_on f ms))
    unfolding values_on
    on-ok group last [] K e h = tt
    on-ok group last (m ∷ ms) zero e h = absurd (omega arith)
    on-ok group last (m ∷ ms) (suc K) e h =
        let p = rising-parts group last m ms e in
        by_cond (λ (l : List A). T (many_ok c some (suc K) l)) (is_on m)
        (λ t. yes_and (c.ok (f m)) (many_ok c some K (values_on f ms)) (yes (ok m (fine-parts m p.0))) (on-ok group m.adr ms K p.3 (omega arith)))
        (λ t. on-ok group m.adr ms (suc K) p.3 (omega arith))

    pub group-ok : (ms : List Module) → rule ms ≡ true → T (many_ok c some 12 (values_on f ms))
    group-ok ms e = let r = rule-parts ms e in on-ok _ 0 ms 12 r.rises r.few

-- ---- the 32 bytes of 51H
bytes-row : (n : ℕ) (l : List ℕ) → Bytes l → length l ≡ n → T (row_ok byte n l)
bytes-row zero [] b e = tt
bytes-row zero (x ∷ l) b e = absurd (omega arith)
bytes-row (suc n) [] b e = absurd (omega arith)
bytes-row (suc n) (x ∷ l) b e = yes_and (ltb x 256) (row_ok byte n l) (lt→ltb x 256 b.0) (bytes-row n l b.1 (omega arith))

pub maker-read : (l : List ℕ) → Bytes l → length l ≡ 32 → maker_info.get l ≡ told l
unfolding maker_info maker
maker-read l b e = ap maker_info.get (sym (row-bytes byte (λ a. refl) l)) ∙ maker_info.there l (bytes-row 32 l b e)

-- ---- of a member that is on, in a table that keeps its rule
module _ (st : Station) (bytes : OfBytes st) (ms : List Module) (keeps : rule ms ≡ true) (adr : ℕ) (small : adr < 256) (on : is_on (member_at adr ms) ≡ true) where
  m : Module
  m = member_at adr ms

  f : Fine m
  unfolding m
  f = member-fine adr ms on keeps

  analog-ok : T ((analog_info adr).ok ((0, adr), (member_at adr ms).analog))
  unfolding analog_info m f
  analog-ok = after-flag analog m.analog f.analog-ok adr small

  alarm-ok : T ((alarm_info adr).ok ((0, adr), (member_at adr ms).alarm))
  unfolding alarm_info m f
  alarm-ok = after-flag alarm m.alarm f.alarm-ok adr small

  parameters-ok : T (parameters_info.ok (0, (member_at adr ms).parameters))
  unfolding parameters_info m f
  parameters-ok = after-flag-alone parameters m.parameters f.parameters-ok

  limits-ok : T ((limits_info adr).ok (adr, (member_at adr ms).limits))
  unfolding limits_info m f
  limits-ok = after-command limits m.limits f.limits-ok adr small

  serial-ok : T ((serial_info adr).ok (adr, (member_at adr ms).serial))
  unfolding serial_info m f
  serial-ok = after-command serial m.serial f.serial-ok adr small

  version-ok : T ((version_info adr).ok (adr, (member_at adr ms).version))
  unfolding version_info m f
  version-ok = after-command version m.version f.version-ok adr small

  analogs-ok : T (analog_group.ok ((0, 0xFF), analogs_on ms))
  unfolding analog_group
  analogs-ok = group-ok (λ x. x.analog) analog some_analog (λ x g. g.analog-ok) ms keeps

  alarms-ok : T (alarm_group.ok ((0, 0xFF), alarms_on ms))
  unfolding alarm_group
  alarms-ok = group-ok (λ x. x.alarm) alarm some_alarm (λ x g. g.alarm-ok) ms keeps

  pub data-bytes : (k : Kind) → Bytes (info_by k st ms adr)
  unfolding info_by
  data-bytes Analog = (analog_info adr).small ((0, adr), (member_at adr ms).analog) analog-ok
  data-bytes AnalogGroup = analog_group.small ((0, 0xFF), analogs_on ms) analogs-ok
  data-bytes Alarm = (alarm_info adr).small ((0, adr), (member_at adr ms).alarm) alarm-ok
  data-bytes AlarmGroup = alarm_group.small ((0, 0xFF), alarms_on ms) alarms-ok
  data-bytes Parameters = parameters_info.small (0, (member_at adr ms).parameters) parameters-ok
  data-bytes Protocol = tt
  data-bytes Maker = bytes.maker
  data-bytes Limits = (limits_info adr).small (adr, (member_at adr ms).limits) limits-ok
  data-bytes Serial = (serial_info adr).small (adr, (member_at adr ms).serial) serial-ok
  data-bytes TurnOff = tt
  data-bytes Version = (version_info adr).small (adr, (member_at adr ms).version) version-ok
  data-bytes Unserved = tt

  -- read into a table ms', with the flag 0
  module _ (ms' : List Module) where
    pub data-read : (k : Kind) → (terms_of k).served ≡ true → Alike k ms ms' → took k ms' adr (info_by k st ms adr) ≡ told (0, (maker_for k st, copied k adr ms ms'))
    unfolding info_by took copied maker_for paper terms_of empty_info
    data-read Analog s a = rw ((analog_info adr).there ((0, adr), (member_at adr ms).analog) analog-ok)
    data-read AnalogGroup s a = rw (analog_group.there ((0, 0xFF), analogs_on ms) analogs-ok, eq-eqb (length (analogs_on ms)) (count_on ms') (on-count (λ x. x.analog) ms ∙ a tt))
    data-read Alarm s a = rw ((alarm_info adr).there ((0, adr), (member_at adr ms).alarm) alarm-ok)
    data-read AlarmGroup s a = rw (alarm_group.there ((0, 0xFF), alarms_on ms) alarms-ok, eq-eqb (length (alarms_on ms)) (count_on ms') (on-count (λ x. x.alarm) ms ∙ a tt))
    data-read Parameters s a = rw (parameters_info.there (0, (member_at adr ms).parameters) parameters-ok)
    data-read Protocol s a = refl
    data-read Maker s a = rw (maker-read st.maker bytes.maker bytes.count)
    data-read Limits s a = rw ((limits_info adr).there (adr, (member_at adr ms).limits) limits-ok)
    data-read Serial s a = rw ((serial_info adr).there (adr, (member_at adr ms).serial) serial-ok)
    data-read TurnOff s a = refl
    data-read Version s a = rw ((version_info adr).there (adr, (member_at adr ms).version) version-ok)
    data-read Unserved s a = cc
