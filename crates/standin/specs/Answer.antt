-- The stand-in's answer: call refusals 32 and 31, silence, or a reply from SOI to CR; an accepted 95H switches its module off.
use Rattle.std.specs.Prelude.{◌≡◌, Bool, cond, ◌&&◌, List, [], ◌++◌, ℕ, length, drop, get_or, set, ltb, eqb, Option, Some, None, Result, Ok, Err}
use Rattle.refusal.specs.Number.{number}
use Rattle.frame.specs.declared.Header.{Header}
use Rattle.frame.specs.Frame.{encode}
use Rattle.record.specs.declared.Module.{Module}
use Rattle.record.specs.Infos.{analog_info, alarm_info, limits_info, serial_info, version_info, analog_group, alarm_group, parameters_info}
use Rattle.table.specs.declared.Station.{Station}
use Rattle.table.specs.Table.{blank, place_of, member_at}
use Rattle.command.specs.declared.Kind.{Kind}
use Rattle.command.specs.declared.Kind.TheVariants.{Analog, AnalogGroup, Alarm, AlarmGroup, Parameters, Protocol, Maker, Limits, Serial, TurnOff, Version, Unserved}
use Rattle.command.specs.Command.{form_of}
use Rattle.command.specs.Heard.{Words, words}
use Rattle.table.specs.Changes.{switched_off}
use Rattle.groups.specs.Groups.{analogs_on, alarms_on}
use Rattle.refusal.specs.declared.Refusal.{Refusal}
use Rattle.standin.specs.declared.Replied.{Replied}
use Rattle.standin.specs.Says.{Speech, Silent, Code, decide}

-- the data of each command; the flag is 00H
unfoldable pub info_by : Kind → Station → List Module → ℕ → List ℕ
info_by Analog st ms adr = (analog_info adr).put ((0, adr), (member_at adr ms).analog)
info_by AnalogGroup st ms adr = analog_group.put ((0, 0xFF), analogs_on ms)
info_by Alarm st ms adr = (alarm_info adr).put ((0, adr), (member_at adr ms).alarm)
info_by AlarmGroup st ms adr = alarm_group.put ((0, 0xFF), alarms_on ms)
info_by Parameters st ms adr = parameters_info.put (0, (member_at adr ms).parameters)
info_by Protocol st ms adr = []
info_by Maker st ms adr = st.maker
info_by Limits st ms adr = (limits_info adr).put (adr, (member_at adr ms).limits)
info_by Serial st ms adr = (serial_info adr).put (adr, (member_at adr ms).serial)
info_by TurnOff st ms adr = []
info_by Version st ms adr = (version_info adr).put (adr, (member_at adr ms).version)
info_by Unserved st ms adr = []

abbrev pub kind_asked : Words → Kind
kind_asked w = form_of w.header.cid2 w.command

-- codes other than 00H carry no INFO
unfoldable pub info_for : Station → List Module → Words → ℕ → List ℕ
info_for st ms w code = cond (eqb code 0) (info_by (kind_asked w) st ms w.header.adr) []

-- a reply has the table's VER, the ADR received, CID1 46H, the code as CID2
abbrev pub reply_header : Station → Words → ℕ → Header
reply_header st w code = record { ver = st.ver; adr = w.header.adr; cid1 = 0x46; cid2 = code }

-- only an accepted 95H changes the table: the place of the module that goes off, and `none` where none does
unfoldable pub off_for : ℕ → List Module → Words → ℕ → ℕ
off_for none ms w code = cond (eqb code 0 && eqb w.header.cid2 0x95) (place_of w.header.adr ms) none

-- the record at that place switched off; past the end nothing changes
unfoldable pub off_at : ℕ → List Module → List Module
off_at place ms = set ms place (switched_off (get_or ms place blank))

-- silence, a reply of so many bytes, or a refusal with its number
pub data Outcome : Type 0 where
  silence : Outcome
  reply : ℕ → Outcome
  refused : ℕ → Outcome

abbrev pub paper : Result (Option ℕ) Refusal → Outcome
paper (Ok None) = silence
paper (Ok (Some n)) = reply n
paper (Err r) = refused (number r)

-- the outcome, the place that goes off, and the lent buffer then
pub record Left : Type 0 where
  pub outcome : Outcome
  pub off : ℕ
  pub out : List ℕ

abbrev pub leaves : Outcome → ℕ → List ℕ → Left
leaves outcome off out = record { outcome = outcome; off = off; out = out }

abbrev pub written : List ℕ → List ℕ → List ℕ
written text out = text ++ drop (length text) out

-- `none` is the table's count, the place past every record of it
unfoldable pub says : ℕ → Station → List Module → Words → Speech → List ℕ → Left
says none st ms w Silent out = leaves silence none out
says none st ms w (Code code) out =
    let text = encode (reply_header st w code) (info_for st ms w code) in
    leaves (reply (length text)) (off_for none ms w code) (written text out)

-- 32 (4,112 bytes), 31, then what is said
unfoldable pub answer : Bool → ℕ → Station → List Module → List ℕ → List ℕ → Left
answer keeps none st ms stretch out =
    cond (ltb (length out) 4112) (leaves (refused 32) none out)
    (cond keeps (says none st ms (words stretch) (decide st ms (words stretch)) out)
    (leaves (refused 31) none out))

-- the contract of the stand-in
abbrev pub Answers : Left → Replied → List ℕ → Type 0
Answers left r out = leaves (paper r.answered) r.off out ≡ left
