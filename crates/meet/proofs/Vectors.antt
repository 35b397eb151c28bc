-- The paper's line 4FH, and a 95H, over a closed table, computed: the theorems' hypotheses can be met.
use Rattle.std.proofs.Common.{◌≡◌, refl, true, List, [], ◌∷◌, ℕ, zero, suc, ◌<◌, arith, replicate, pos, negsuc}
use Rattle.hex_chars.specs.Hex.{digit_of, is_hex, all_hex, char_of, byte_of, byte_at, word_at, hexes, Bytes}
use Rattle.frame.specs.Frame.{lchksum, length_of, chksum, packed, seal, chars, encode}
use Rattle.frame.specs.Judge.{need, header, lenid, judge}
use Rattle.record.specs.declared.Module.{Module}
use Rattle.record.specs.Address.{is_address}
use Rattle.record.specs.Analog.{analog, measured}
use Rattle.record.specs.Alarm.{alarm, codes, singles, is_alarm_code}
use Rattle.record.specs.Capacities.{capacities}
use Rattle.record.specs.Limits.{limits}
use Rattle.record.specs.Parameters.{parameters}
use Rattle.record.specs.Texts.{serial, version}
use Rattle.table.specs.declared.Station.{Station}
use Rattle.table.specs.Table.{place_of, has_member, member_at, is_master, any_fault}
use Rattle.table.specs.Rule.{encodable, fine, rising, rule}
use Rattle.command.specs.Command.{kind_of, form_of, terms_of}
use Rattle.command.specs.Heard.{number_of, words}
use Rattle.standin.specs.Says.{Silent, Code, decide}
use Rattle.table.specs.Changes.{switched_off}
use Rattle.standin.specs.Answer.{info_by, info_for, reply_header, off_for, off_at}
use Rattle.reply.specs.Gate.{asks}
use Rattle.meet.specs.Copied.{OfBytes}

-- the master of a group of one, on, with one cell and one temperature
abbrev pub master : Module
master = record {
  adr = 2;
  on = 1;
  link_fault = 0;
  analog = record {
    cell_count = 1;
    cells = pos 3300 ∷ replicate 15 (pos 0);
    temperature_count = 1;
    temperatures = pos 2986 ∷ replicate 7 (pos 0);
    current = negsuc 39;
    voltage = 53250;
    remaining = 50000;
    total = 65000;
    cycles = 2;
  };
  alarm = record {
    cell_count = 1;
    cells = replicate 16 0;
    temperature_count = 1;
    temperatures = replicate 8 0;
    charge_current = 0;
    module_voltage = 0;
    discharge_current = 0;
    status = replicate 5 0;
  };
  limits = record { charge_voltage = 53250; discharge_voltage = 47000; charge_current = pos 250; discharge_current = pos 250; status = 0xC0 };
  serial = replicate 16 0x41;
  version = replicate 5 1;
  parameters = record {
    cell_high_voltage = pos 3700;
    cell_low_voltage = pos 3050;
    cell_under_voltage = pos 2900;
    charge_high_temperature = pos 3231;
    charge_low_temperature = pos 2731;
    charge_current = pos 250;
    module_high_voltage = 53250;
    module_low_voltage = 47000;
    module_under_voltage = 44500;
    discharge_high_temperature = pos 3331;
    discharge_low_temperature = pos 2631;
    discharge_current = negsuc 249;
  };
}

abbrev pub station : Station
station = record { ver = 0x21; maker = replicate 32 0x50 }

-- the characters of `2002464F0000FD98`
abbrev pub question : List ℕ
question = 50 ∷ 48 ∷ 48 ∷ 50 ∷ 52 ∷ 54 ∷ 52 ∷ 70 ∷ 48 ∷ 48 ∷ 48 ∷ 48 ∷ 70 ∷ 68 ∷ 57 ∷ 56 ∷ []

pub keeps-rule : rule (master ∷ []) ≡ true
unfolding rule rising fine encodable is_address analog measured capacities alarm codes singles is_alarm_code limits serial version parameters
keeps-rule = refl

bytes-all : (n b : ℕ) → b < 256 → Bytes (replicate n b)
bytes-all zero b h = tt
bytes-all (suc n) b h = (h, bytes-all n b h)

pub of-bytes : OfBytes station
of-bytes = record { ver = omega arith; maker = bytes-all 32 0x50 (omega arith); count = refl }

pub says-00 : decide station (master ∷ []) (words question) ≡ Code 0
unfolding decide words judge need header lenid all_hex is_hex digit_of byte_of byte_at word_at lchksum chksum number_of member_at place_of kind_of terms_of is_master any_fault
says-00 = refl

-- `~210246000000FDB1` and CR, 18 bytes
pub the-reply : encode (reply_header station (words question) 0) (info_for station (master ∷ []) (words question) 0)
    ≡ 126 ∷ 50 ∷ 49 ∷ 48 ∷ 50 ∷ 52 ∷ 54 ∷ 48 ∷ 48 ∷ 48 ∷ 48 ∷ 48 ∷ 48 ∷ 70 ∷ 68 ∷ 66 ∷ 49 ∷ 13 ∷ []
unfolding encode chars seal packed hexes length_of lchksum chksum char_of info_for info_by form_of kind_of words judge need header lenid all_hex is_hex digit_of byte_of byte_at word_at
the-reply = refl

-- and the reader takes that question over the same table
pub asked : asks (record { adr = 2; cid2 = 0x4F; command = 0 }) ≡ true
unfolding asks kind_of terms_of is_master
asked = refl

pub there : has_member 2 (master ∷ []) ≡ true
unfolding has_member place_of
there = refl

-- ---- 95H: answered, then silence

-- the characters of `21024695E00202FD2A`
abbrev pub turn-off : List ℕ
turn-off = 50 ∷ 49 ∷ 48 ∷ 50 ∷ 52 ∷ 54 ∷ 57 ∷ 53 ∷ 69 ∷ 48 ∷ 48 ∷ 50 ∷ 48 ∷ 50 ∷ 70 ∷ 68 ∷ 50 ∷ 65 ∷ []

pub off-says-00 : decide station (master ∷ []) (words turn-off) ≡ Code 0
unfolding decide words judge need header lenid all_hex is_hex digit_of byte_of byte_at word_at lchksum chksum number_of member_at place_of kind_of terms_of is_master any_fault
off-says-00 = refl

-- that one module is off, and all else as it was
pub off-after : off_at (off_for 1 (master ∷ []) (words turn-off) 0) (master ∷ []) ≡ switched_off master ∷ []
unfolding off_at off_for words judge need header lenid all_hex is_hex digit_of byte_of byte_at word_at lchksum chksum place_of
off-after = refl

pub then-silent : decide station (switched_off master ∷ []) (words turn-off) ≡ Silent
unfolding decide words judge need header lenid all_hex is_hex digit_of byte_of byte_at word_at lchksum chksum number_of member_at place_of
then-silent = refl
