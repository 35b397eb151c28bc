-- The nine commands served under CID1 46H: 42, 44, 47, 4F, 51, 92, 93, 95, 96 (hex). LENID is 0 for 47, 4F and 51, otherwise 2.
use Rattle.std.specs.Prelude.{Bool, true, false, cond, ℕ, eqb}
use Rattle.command.specs.declared.Kind.{Kind}
use Rattle.command.specs.declared.Kind.TheVariants.{Analog, AnalogGroup, Alarm, AlarmGroup, Parameters, Protocol, Maker, Limits, Serial, TurnOff, Version, Unserved}
use Rattle.command.specs.declared.Terms.{Terms}

unfoldable pub kind_of : ℕ → Kind
kind_of cid2 =
    cond (eqb cid2 0x42) Analog
    (cond (eqb cid2 0x44) Alarm
    (cond (eqb cid2 0x47) Parameters
    (cond (eqb cid2 0x4F) Protocol
    (cond (eqb cid2 0x51) Maker
    (cond (eqb cid2 0x92) Limits
    (cond (eqb cid2 0x93) Serial
    (cond (eqb cid2 0x95) TurnOff
    (cond (eqb cid2 0x96) Version
    Unserved))))))))

-- 42H and 44H with Command FFH ask for the whole group
unfoldable pub form_of : ℕ → ℕ → Kind
form_of cid2 command =
    cond (eqb command 0xFF)
    (cond (eqb cid2 0x42) AnalogGroup (cond (eqb cid2 0x44) AlarmGroup (kind_of cid2)))
    (kind_of cid2)

-- what a kind is on paper: its CID2, 0 for what is not served, and whether it is the form with Command FFH
pub record Form : Type 0 where
  pub cid2 : ℕ
  pub group : Bool

abbrev form : ℕ → Bool → Form
form cid2 group = record { cid2 = cid2; group = group }

unfoldable pub paper : Kind → Form
paper Analog = form 0x42 false
paper AnalogGroup = form 0x42 true
paper Alarm = form 0x44 false
paper AlarmGroup = form 0x44 true
paper Parameters = form 0x47 false
paper Protocol = form 0x4F false
paper Maker = form 0x51 false
paper Limits = form 0x92 false
paper Serial = form 0x93 false
paper TurnOff = form 0x95 false
paper Version = form 0x96 false
paper Unserved = form 0 false

-- a command with a Command byte, which may be FFH at the master with 42H and 44H
abbrev pub with_command : Bool → Terms
with_command group = record { served = true; same_ver = true; lenid = 2; has_command = true; has_group = group }

-- a command without one; VER is not judged for 4FH
abbrev pub plain_terms : Bool → Bool → Terms
plain_terms served ver = record { served = served; same_ver = ver; lenid = 0; has_command = false; has_group = false }

unfoldable pub terms_of : Kind → Terms
terms_of Analog = with_command true
terms_of AnalogGroup = with_command true
terms_of Alarm = with_command true
terms_of AlarmGroup = with_command true
terms_of Parameters = plain_terms true true
terms_of Protocol = plain_terms true false
terms_of Maker = plain_terms true true
terms_of Limits = with_command false
terms_of Serial = with_command false
terms_of TurnOff = with_command false
terms_of Version = with_command false
terms_of Unserved = plain_terms false true
