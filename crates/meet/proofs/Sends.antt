-- Each return code is sent: for each there is a stretch that the master of a group of one answers with it, computed; what is said is then sent whatever the buffer.
use Rattle.std.proofs.Common.{◌≡◌, Option, Some, None, Result, Ok, Err, refl, sym, ap, ◌∙◌, Bool, true, false, ◌||◌, List, [], ◌∷◌, ℕ, zero, suc, ◌≤◌, arith, length, set, replicate, leb, eqb, le-ltb, leb-true, eqb-true}
use Rattle.hex_chars.specs.Hex.{digit_of, is_hex, all_hex, char_of, byte_of, byte_at, word_at, hexes}
use Rattle.frame.specs.Frame.{lchksum, length_of, chksum, packed, seal, chars, encode, between}
use Rattle.frame.specs.Judge.{need, header, lenid, judge}
use Rattle.refusal.specs.declared.Refusal.{Refusal}
use Rattle.record.specs.declared.Module.{Module}
use Rattle.record.specs.Address.{is_address}
use Rattle.record.specs.Analog.{analog, measured}
use Rattle.record.specs.Alarm.{alarm, codes, singles, is_alarm_code}
use Rattle.record.specs.Capacities.{capacities}
use Rattle.record.specs.Limits.{limits}
use Rattle.record.specs.Parameters.{parameters}
use Rattle.record.specs.Texts.{serial, version}
use Rattle.table.specs.declared.Station.{Station}
use Rattle.table.specs.declared.Table.{Table}
use Rattle.table.specs.Table.{blank, members, place_of, member_at, is_master, any_fault}
use Rattle.table.specs.Rule.{encodable, fine, rising, rule, keeps}
use Rattle.command.specs.Command.{kind_of, terms_of}
use Rattle.command.specs.Heard.{Words, number_of, words}
use Rattle.standin.specs.Says.{Code, decide}
use Rattle.standin.specs.Answer as Answer
use Rattle.standin.specs.Answer.{info_for, reply_header, says, answer}
use Rattle.reply.specs.Gate.{is_return_code}
use Rattle.meet.specs.Copied.{OfBytes}
use Rattle.meet.specs.Asked.{asking}
use Rattle.meet.specs.Read.{Sends}
use Rattle.meet.proofs.Meet.{words_of, answer-is-read}
use Rattle.meet.proofs.Vectors.{master, station, of-bytes}

-- ---- what is said is sent

reply-of : (a : Result (Option ℕ) Refusal) (n : ℕ) → Answer.paper a ≡ Answer.reply n → a ≡ Ok (Some n)
reply-of (Ok None) n e = cc
reply-of (Ok (Some m)) n e = cc
reply-of (Err r) n e = cc

module _ (st : Station) (bytes : OfBytes st) (t : Table) (kept : keeps t ≡ true) (s : List ℕ) (code : ℕ) (said : decide st (members t) (words s) ≡ Code code) where
  pub said-is-sent : Sends st code
  unfolding answer says
  said-is-sent = record {
    table = t;
    stretch = s;
    replies = λ out out' r room answers.
        let w = words s in
        let n = length (encode (reply_header st w code) (info_for st (members t) w code)) in
        let is : answer (keeps t) t.count st (members t) s out ≡ says t.count st (members t) w (Code code) out = rw (le-ltb (length out) 4112 room, kept, said) in
        let replied = reply-of r.answered n (ap (λ (l : Answer.Left). l.outcome) (answers ∙ is)) in
        let a = answer-is-read st bytes t s out out' r answers n replied in
        let same : Code a.code ≡ Code code = sym a.said ∙ said in
        let e = a.whole in
        (n, replied, ap (λ (x : Words). x.header.cid2) (sym (words_of (reply_header st w a.code) (info_for st (members t) w a.code) (between n out') e)) ∙ cc);
  }

-- ---- the tables: the master without and with a link fault

abbrev one : Module → Table
one m = record { count = 1; modules = m ∷ replicate 11 blank }

abbrev faulty : Module
faulty = record { adr = 2; on = 1; link_fault = 1; analog = master.analog; alarm = master.alarm; limits = master.limits; serial = master.serial; version = master.version; parameters = master.parameters }

sound-keeps : keeps (one master) ≡ true
unfolding keeps members rule rising fine encodable is_address analog measured capacities alarm codes singles is_alarm_code limits serial version parameters
sound-keeps = refl

faulty-keeps : keeps (one faulty) ≡ true
unfolding keeps members rule rising fine encodable is_address analog measured capacities alarm codes singles is_alarm_code limits serial version parameters
faulty-keeps = refl

-- ---- the stretches

-- at ADR 02
abbrev to-master : ℕ → ℕ → ℕ → List ℕ
to-master ver cid2 command = asking ver (record { adr = 2; cid2 = cid2; command = command })

abbrev answers_with : Module → ℕ → List ℕ → Type 0
answers_with m code s = decide station (members (one m)) (words s) ≡ Code code

-- a 42H to the master, as it should be: with no link fault it would be answered with 00H
abbrev well-asked : List ℕ
well-asked = to-master 0x21 0x42 2

all_said :
    answers_with master 0x00 well-asked
    -- another VER
    × answers_with master 0x01 (to-master 0x20 0x42 2)
    -- a character of CHKSUM, then LCHKSUM, is another
    × answers_with master 0x02 (set well-asked 17 0x33)
    × answers_with master 0x03 (set well-asked 8 0x30)
    -- 94H
    × answers_with master 0x04 (to-master 0x21 0x94 2)
    -- a 42H without Command
    × answers_with master 0x05 (chars (record { ver = 0x21; adr = 2; cid1 = 0x46; cid2 = 0x42 }) [])
    -- FFH with 92H, and Command 03
    × answers_with master 0x06 (to-master 0x21 0x92 0xFF)
    × answers_with master 0x90 (to-master 0x21 0x42 3)
    × answers_with faulty 0x91 well-asked
unfolding decide members words judge need header lenid all_hex is_hex digit_of byte_of byte_at word_at lchksum chksum number_of member_at place_of kind_of terms_of is_master any_fault asking chars seal packed hexes length_of char_of
all_said = (refl, refl, refl, refl, refl, refl, refl, refl, refl)

-- 47H, which has no Command: a link fault does not hinder it, another VER is 01H, and a Command in its INFO 05H
pub parameters-said :
    answers_with faulty 0x00 (to-master 0x21 0x47 0)
    × answers_with master 0x01 (to-master 0x20 0x47 0)
    × answers_with master 0x05 (chars (record { ver = 0x21; adr = 2; cid1 = 0x46; cid2 = 0x47 }) (2 ∷ []))
unfolding decide members words judge need header lenid all_hex is_hex digit_of byte_of byte_at word_at lchksum chksum number_of member_at place_of kind_of terms_of is_master any_fault asking chars seal packed hexes length_of char_of
parameters-said = (refl, refl, refl)

-- ---- each code

sent-by : (m : Module) → keeps (one m) ≡ true → (code : ℕ) (s : List ℕ) → answers_with m code s → Sends station code
sent-by m kept code s said = said-is-sent station of-bytes (one m) kept s code said

low-sent : (code : ℕ) → code ≤ 0x06 → Sends station code
low-sent zero h = sent-by master sound-keeps 0x00 _ all_said.0
low-sent (suc zero) h = sent-by master sound-keeps 0x01 _ all_said.1
low-sent (suc (suc zero)) h = sent-by master sound-keeps 0x02 _ all_said.2
low-sent (suc (suc (suc zero))) h = sent-by master sound-keeps 0x03 _ all_said.3
low-sent (suc (suc (suc (suc zero)))) h = sent-by master sound-keeps 0x04 _ all_said.4
low-sent (suc (suc (suc (suc (suc zero))))) h = sent-by master sound-keeps 0x05 _ all_said.5
low-sent (suc (suc (suc (suc (suc (suc zero)))))) h = sent-by master sound-keeps 0x06 _ all_said.6
low-sent (suc (suc (suc (suc (suc (suc (suc n))))))) h = absurd (omega arith)

pub each-code-is-sent : (code : ℕ) → is_return_code code ≡ true → Sends station code
unfolding is_return_code
each-code-is-sent code known = by-test (leb code 0x06) refl (eqb code 0x90) refl (eqb code 0x91) refl known
  where
    by-test : (low : Bool) → leb code 0x06 ≡ low → (strange : Bool) → eqb code 0x90 ≡ strange → (fault : Bool) → eqb code 0x91 ≡ fault → (low || (strange || fault)) ≡ true → Sends station code
    by-test true l strange x fault f k = low-sent code (leb-true code 0x06 l)
    by-test false l true x fault f k = rw (eqb-true code 0x90 x) (sent-by master sound-keeps 0x90 _ all_said.7)
    by-test false l false x true f k = rw (eqb-true code 0x91 f) (sent-by faulty faulty-keeps 0x91 _ all_said.8)
    by-test false l false x false f k = cc
