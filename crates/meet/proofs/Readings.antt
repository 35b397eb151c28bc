-- Every reading leaves a table that keeps its rule: what a codec read can be encoded, so each kind of change is safe.
use Rattle.std.proofs.Common.{◌≡◌, refl, ap, ◌∙◌, Bool, true, List, [], ◌∷◌, ℕ, zero, suc, ◌<◌, length, T, eqb, le-leb}
use Rattle.std.proofs.Math.Facts.{and_yes}
use Rattle.buffer.proofs.Lists.{by_cond}
use Rattle.hex_chars.specs.Hex.{Bytes, unhexes}
use Rattle.hex_chars.proofs.Laws.{bytes-unhexes}
use Rattle.frame.specs.Frame.{info_at}
use Rattle.codec.specs.Codec.{Codec, byte}
use Rattle.codec.specs.Both.{◌then◌}
use Rattle.codec.specs.Whole.{Told, told, refuse, Whole, mapped}
use Rattle.codec.specs.Many.{many_ok}
use Rattle.record.specs.declared.Module.{Module}
use Rattle.record.specs.Analog.{analog}
use Rattle.record.specs.Alarm.{alarm}
use Rattle.record.specs.Limits.{limits}
use Rattle.record.specs.Parameters.{parameters}
use Rattle.record.specs.Texts.{serial, version}
use Rattle.record.specs.Infos.{command, analog_info, alarm_info, limits_info, serial_info, version_info, some_analog, some_alarm, analog_group, alarm_group}
use Rattle.record.specs.Infos.{parameters_info, maker_info, empty_info}
use Rattle.table.proofs.rule.Rules.{is_true}
use Rattle.table.proofs.rule.Fine.{keeps-parts}
use Rattle.table.specs.declared.Table.{Table}
use Rattle.table.specs.Table.{members, count_on}
use Rattle.table.specs.Rule.{rule, keeps}
use Rattle.table.specs.Changes.{dealt, with_analog, with_alarm, with_limits, with_serial, with_version, with_parameters}
use Rattle.command.specs.declared.Kind.{Kind}
use Rattle.command.specs.declared.Kind.TheVariants.{Analog, AnalogGroup, Alarm, AlarmGroup, Parameters, Protocol, Maker, Limits, Serial, TurnOff, Version, Unserved}
use Rattle.command.specs.Command.{form_of}
use Rattle.command.specs.Heard.{words}
use Rattle.reply.specs.declared.gate.Question.{Question}
use Rattle.reply.specs.declared.Reading.{Reading}
use Rattle.reply.specs.Gate.{gate}
use Rattle.reply.specs.Read.{Data, Left, took, for_all, given, by_code, read_reply, Reads}
use Rattle.reply.proofs.Ways.{by-gate}
use Rattle.meet.proofs.Kept.{Oks, replaced-rule, dealt-rule, analog-safe, alarm-safe, limits-safe, serial-safe, version-safe, parameters-safe}

-- the records that a reading would leave keep the rule
abbrev Kept : Told Data → Type 0
Kept (told x) = rule x.1.1 ≡ true
Kept (refuse k) = Unit {0}

-- ---- over any kind

-- what is found is what a test of the format passed
module _ {X : Type 0} (w : Whole X) (info : List ℕ) (bytes : Bytes info) (to : X → Data) (kept : (x : X) → T (w.ok x) → rule (to x).1.1 ≡ true) where
  one : Kept (mapped (w.get info) to)
  one = go (w.get info) refl
    where
      go : (t : Told X) → w.get info ≡ t → Kept (mapped t to)
      go (told x) e = kept x (w.back info x bytes e).1
      go (refuse k) e = tt

module _ {A : Type 0} (c : Codec A) (some : (a : A) → T (c.ok a) → 0 < length (c.put a)) where
  many-oks : (K : ℕ) (l : List A) → T (many_ok c some K l) → Oks c l
  many-oks K [] t = tt
  many-oks zero (a ∷ l) t = absurd t
  many-oks (suc K) (a ∷ l) t = let p = and_yes (c.ok a) (many_ok c some K l) t in (is_true (c.ok a) p.0, many-oks K l p.1)

module _ {A : Type 0} (w : Whole ((ℕ × ℕ) × List A)) (info : List ℕ) (bytes : Bytes info) (f : A → Module → Module) (ms : List Module) (e : rule ms ≡ true)
    (kept : (x : (ℕ × ℕ) × List A) → T (w.ok x) → rule (dealt f ms x.1) ≡ true) where
  all : Kept (for_all f ms (w.get info))
  all = go (w.get info) refl
    where
      go : (t : Told ((ℕ × ℕ) × List A)) → w.get info ≡ t → Kept (for_all f ms t)
      go (told x) g = by_cond Kept (eqb (length x.1) (count_on ms)) (λ t. kept x (w.back info x bytes g).1) (λ t. tt)
      go (refuse k) g = tt

-- ---- each kind

module _ (ms : List Module) (e : rule ms ≡ true) (adr : ℕ) (info : List ℕ) (bytes : Bytes info) where
  took-rule : (k : Kind) → Kept (took k ms adr info)
  unfolding took analog_info alarm_info limits_info serial_info version_info analog_group alarm_group parameters_info
  took-rule Analog =
      one (analog_info adr) info bytes _
      (λ x t. replaced-rule (with_analog x.1) (analog-safe x.1 (is_true _ (and_yes ((byte then command adr).ok x.0) (analog.ok x.1) t).1)) adr ms e)
  took-rule AnalogGroup =
      all analog_group info bytes with_analog ms e
      (λ x t. dealt-rule analog with_analog analog-safe ms x.1 (many-oks analog some_analog 12 x.1 (and_yes ((byte then command 0xFF).ok x.0) (many_ok analog some_analog 12 x.1) t).1) e)
  took-rule Alarm =
      one (alarm_info adr) info bytes _
      (λ x t. replaced-rule (with_alarm x.1) (alarm-safe x.1 (is_true _ (and_yes ((byte then command adr).ok x.0) (alarm.ok x.1) t).1)) adr ms e)
  took-rule AlarmGroup =
      all alarm_group info bytes with_alarm ms e
      (λ x t. dealt-rule alarm with_alarm alarm-safe ms x.1 (many-oks alarm some_alarm 12 x.1 (and_yes ((byte then command 0xFF).ok x.0) (many_ok alarm some_alarm 12 x.1) t).1) e)
  took-rule Parameters =
      one parameters_info info bytes _
      (λ x t. replaced-rule (with_parameters x.1) (parameters-safe x.1 (is_true _ (and_yes (byte.ok x.0) (parameters.ok x.1) t).1)) adr ms e)
  took-rule Protocol = one empty_info info bytes _ (λ x t. e)
  took-rule Maker = one maker_info info bytes _ (λ x t. e)
  took-rule Limits =
      one (limits_info adr) info bytes _
      (λ x t. replaced-rule (with_limits x.1) (limits-safe x.1 (is_true _ (and_yes ((command adr).ok x.0) (limits.ok x.1) t).1)) adr ms e)
  took-rule Serial =
      one (serial_info adr) info bytes _
      (λ x t. replaced-rule (with_serial x.1) (serial-safe x.1 (is_true _ (and_yes ((command adr).ok x.0) (serial.ok x.1) t).1)) adr ms e)
  took-rule TurnOff = one empty_info info bytes _ (λ x t. e)
  took-rule Version =
      one (version_info adr) info bytes _
      (λ x t. replaced-rule (with_version x.1) (version-safe x.1 (is_true _ (and_yes ((command adr).ok x.0) (version.ok x.1) t).1)) adr ms e)
  took-rule Unserved = tt

-- ---- the whole reader: whatever the stretch and the question

given-rule : (ver : ℕ) (ms : List Module) → rule ms ≡ true → (t : Told Data) → Kept t → rule (given ver ms t).modules ≡ true
given-rule ver ms e (told x) k = k
given-rule ver ms e (refuse n) k = e

pub read-rule : (kept : Bool) (ms : List Module) (q : Question) (stretch : List ℕ) → rule ms ≡ true → rule (read_reply kept ms q stretch).modules ≡ true
unfolding read_reply
read-rule kept ms q stretch e =
    let w = words stretch in
    let info = unhexes (info_at w.lenid stretch) in
    let P : Left → Type 0 = λ l. rule l.modules ≡ true in
    by_cond P kept
    (λ a. by-gate P (gate ms q w) ms (by_code ms q w info)
    (by_cond P (eqb w.header.cid2 0)
    (λ d. given-rule w.header.ver ms e (took (form_of q.cid2 q.command) ms q.adr info) (took-rule ms e q.adr info (bytes-unhexes (info_at w.lenid stretch)) (form_of q.cid2 q.command)))
    (λ d. e))
    (λ why. e))
    (λ a. e)

-- over the reader's contract
pub reading-keeps : (t : Table) (q : Question) (stretch : List ℕ) (r : Reading) → Reads (read_reply (keeps t) (members t) q stretch) t r → keeps t ≡ true → keeps r.table ≡ true
unfolding keeps
reading-keeps t q stretch r reads e =
    let p = keeps-parts t e in
    let kept : rule (members r.table) ≡ true = ap (λ (l : Left). rule l.modules) reads.is ∙ read-rule (keeps t) (members t) q stretch p.1 in
    rw (kept, reads.kept.0, le-leb t.count 12 p.0)
