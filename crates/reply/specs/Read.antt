-- What reading a reply gives: with code 00H the named fields of the asked record, with FFH of each member that is on, all or none.
use Rattle.std.specs.Prelude.{◌≡◌, Bool, cond, List, ℕ, length, eqb, Option, Some, None, Result, Ok, Err}
use Rattle.refusal.specs.Number.{number}
use Rattle.hex_chars.specs.Hex.{unhexes}
use Rattle.frame.specs.Frame.{info_at}
use Rattle.codec.specs.Whole.{Told, told, refuse, mapped}
use Rattle.record.specs.declared.Module.{Module}
use Rattle.record.specs.Infos.{analog_info, alarm_info, limits_info, serial_info, version_info, analog_group, alarm_group}
use Rattle.record.specs.Infos.{parameters_info, maker_info, empty_info}
use Rattle.record.specs.Nothing.{no_maker}
use Rattle.table.specs.declared.Table.{Table}
use Rattle.table.specs.Table.{members, count_on}
use Rattle.table.specs.Changes.{Kept, replaced, dealt, with_analog, with_alarm, with_limits, with_serial, with_version, with_parameters}
use Rattle.command.specs.declared.Kind.{Kind}
use Rattle.command.specs.declared.Kind.TheVariants.{Analog, AnalogGroup, Alarm, AlarmGroup, Parameters, Protocol, Maker, Limits, Serial, TurnOff, Version, Unserved}
use Rattle.command.specs.Command.{form_of}
use Rattle.command.specs.Heard.{Words, words}
use Rattle.reply.specs.declared.gate.Question.{Question}
use Rattle.refusal.specs.declared.Refusal.{Refusal}
use Rattle.frame.specs.declared.Fault.{Fault}
use Rattle.reply.specs.declared.Reply.{Reply}
use Rattle.reply.specs.declared.Reading.{Reading}
use Rattle.reply.specs.Gate.{Gated, passed, refused as gate_refused, refused_at as gate_refused_at, gate}

-- the flag, the 32 bytes of 51H (zeros for every other command), and the records then
abbrev pub Data : Type 0
Data = ℕ × (List ℕ × List Module)

-- 22 where the number of records differs from the members that are on
abbrev pub for_all : {A : Type 0} → (A → Module → Module) → List Module → Told ((ℕ × ℕ) × List A) → Told Data
for_all f ms (told x) = cond (eqb (length x.1) (count_on ms)) (told (x.0.0, (no_maker, dealt f ms x.1))) (refuse 22)
for_all f ms (refuse k) = refuse k

-- 4FH and 95H carry nothing
abbrev pub took_nothing : List Module → List ℕ → Told Data
took_nothing ms info = mapped (empty_info.get info) (λ x. (0, (no_maker, ms)))

unfoldable pub took : Kind → List Module → ℕ → List ℕ → Told Data
took Analog ms adr info = mapped ((analog_info adr).get info) (λ x. (x.0.0, (no_maker, replaced adr (with_analog x.1) ms)))
took AnalogGroup ms adr info = for_all with_analog ms (analog_group.get info)
took Alarm ms adr info = mapped ((alarm_info adr).get info) (λ x. (x.0.0, (no_maker, replaced adr (with_alarm x.1) ms)))
took AlarmGroup ms adr info = for_all with_alarm ms (alarm_group.get info)
took Parameters ms adr info = mapped (parameters_info.get info) (λ x. (x.0, (no_maker, replaced adr (with_parameters x.1) ms)))
took Protocol ms adr info = took_nothing ms info
took Maker ms adr info = mapped (maker_info.get info) (λ x. (0, (x, ms)))
took Limits ms adr info = mapped ((limits_info adr).get info) (λ x. (0, (no_maker, replaced adr (with_limits x.1) ms)))
took Serial ms adr info = mapped ((serial_info adr).get info) (λ x. (0, (no_maker, replaced adr (with_serial x.1) ms)))
took TurnOff ms adr info = took_nothing ms info
took Version ms adr info = mapped ((version_info adr).get info) (λ x. (0, (no_maker, replaced adr (with_version x.1) ms)))
took Unserved ms adr info = refuse 34

-- VER, code and flag, or a refusal with its number, or with its number and a place
pub data Outcome : Type 0 where
  read : ℕ → ℕ → ℕ → Outcome
  refused : ℕ → Outcome
  refused_at : ℕ → ℕ → Outcome

abbrev pub refusal_outcome : Refusal → Option ℕ → Outcome
refusal_outcome r None = refused (number r)
refusal_outcome r (Some p) = refused_at (number r) p

abbrev pub paper : Result Reply Fault → Outcome
paper (Ok r) = read r.ver r.code r.flag
paper (Err f) = refusal_outcome f.refusal f.place

-- that, the 32 bytes of 51H, and the records then
pub record Left : Type 0 where
  pub outcome : Outcome
  pub maker : List ℕ
  pub modules : List Module

abbrev pub leaves : Outcome → List ℕ → List Module → Left
leaves outcome maker ms = record { outcome = outcome; maker = maker; modules = ms }

abbrev pub given : ℕ → List Module → Told Data → Left
given ver ms (told x) = leaves (read ver 0 x.0) x.1.0 x.1.1
given ver ms (refuse k) = leaves (refused k) no_maker ms

-- codes other than 00H change no record
abbrev pub by_code : List Module → Question → Words → List ℕ → Left
by_code ms q w info =
    cond (eqb w.header.cid2 0)
    (given w.header.ver ms (took (form_of q.cid2 q.command) ms q.adr info))
    (leaves (read w.header.ver w.header.cid2 0) no_maker ms)

-- what the gate refuses changes no record
abbrev pub unless : Gated → List Module → Left → Left
unless passed ms rest = rest
unless (gate_refused k) ms rest = leaves (refused k) no_maker ms
unless (gate_refused_at k p) ms rest = leaves (refused_at k p) no_maker ms

-- 31 first
unfoldable pub read_reply : Bool → List Module → Question → List ℕ → Left
read_reply keeps ms q stretch =
    cond keeps
    (unless (gate ms q (words stretch)) ms (by_code ms q (words stretch) (unhexes (info_at (words stretch).lenid stretch))))
    (leaves (refused 31) no_maker ms)

-- the contract of the reply reader: besides the members nothing of the table changes
pub record Reads (left : Left) (t : Table) (r : Reading) : Type 0 where
  pub is : leaves (paper r.outcome) r.maker (members r.table) ≡ left
  pub kept : Kept t r.table
