-- No reply that nobody could send: whatever the stand-in answers is a whole encoding, and the reply reader reads it without a refusal; what was read is answered again as the same bytes.
use Rattle.std.specs.Prelude.{◌≡◌, ◌≢◌, true, List, ℕ, ◌≤◌, length, Some, Ok}
use Rattle.frame.specs.Frame.{Encodes, between}
use Rattle.record.specs.Nothing.{no_maker}
use Rattle.table.specs.declared.Station.{Station}
use Rattle.table.specs.declared.Table.{Table}
use Rattle.table.specs.Table.{members, has_member}
use Rattle.table.specs.Rule.{keeps}
use Rattle.command.specs.declared.Kind.TheVariants.{Maker}
use Rattle.command.specs.Command.{form_of}
use Rattle.command.specs.Heard.{Words, words}
use Rattle.standin.specs.declared.Replied.{Replied}
use Rattle.standin.specs.Says.{Code, decide}
use Rattle.standin.specs.Answer.{kind_asked, info_for, reply_header, answer, Answers}
use Rattle.reply.specs.declared.gate.Question.{Question}
use Rattle.reply.specs.declared.Reading.{Reading}
use Rattle.reply.specs.Gate.{asks}
use Rattle.reply.specs.Read.{Left, leaves, read, paper, read_reply, Reads}
use Rattle.meet.specs.Copied.{copied, maker_for, Alike}

-- a stretch as a question
abbrev pub own_question : Words → Question
own_question w = record { adr = w.header.adr; cid2 = w.header.cid2; command = w.command }

-- a question at an ADR that the reader takes over its table
pub record Takes (t : Table) (q : Question) (adr : ℕ) : Type 0 where
  pub kept : keeps t ≡ true
  pub asked : asks q ≡ true
  pub there : has_member q.adr (members t) ≡ true
  pub at : q.adr ≡ adr

-- whatever the reader's contract allows for these characters is this
abbrev pub ReadsAs : Table → Question → List ℕ → Left → Type 0
ReadsAs t q chars left =
    (reading : Reading) → Reads (read_reply (keeps t) (members t) q chars) t reading → leaves (paper reading.outcome) reading.maker (members reading.table) ≡ left

-- a stretch was answered with these characters between SOI and CR
pub record IsRead (st : Station) (t : Table) (stretch chars : List ℕ) : Type 0 where
  pub code : ℕ
  pub said : decide st (members t) (words stretch) ≡ Code code
  pub whole : Encodes (reply_header st (words stretch) code) (info_for st (members t) (words stretch) code) chars
  -- with 00H the stretch is itself a question that the reader takes, over the table that answered too
  pub own : code ≡ 0 → Takes t (own_question (words stretch)) (words stretch).header.adr
  -- and for each question that asks the same, over any table, it gives the station's VER, 00H, flag 00H and the asked fields
  pub fields : code ≡ 0 → (t' : Table) (q : Question) → Takes t' q (words stretch).header.adr
      → let kind = kind_asked (words stretch) in form_of q.cid2 q.command ≡ kind → Alike kind (members t) (members t')
      → ReadsAs t' q chars (leaves (read st.ver 0 0) (maker_for kind st) (copied kind q.adr (members t) (members t')))
  -- with another code, for every question at that ADR, it gives VER and the code, and changes no record
  pub code_alone : code ≢ 0 → (t' : Table) (q : Question) → Takes t' q (words stretch).header.adr
      → ReadsAs t' q chars (leaves (read st.ver code 0) no_maker (members t'))

-- writing again: a reply was read with 00H and flag 00H, and a stand-in with that VER, and for 51H those 32 bytes, says 00H over the table then to a stretch that asks the same
pub record Again (q : Question) (reading : Reading) (st : Station) (stretch : List ℕ) : Type 0 where
  pub was_read : reading.outcome ≡ Ok (record { ver = st.ver; code = 0; flag = 0 })
  pub same_maker : form_of q.cid2 q.command ≡ Maker → st.maker ≡ reading.maker
  pub same_adr : (words stretch).header.adr ≡ q.adr
  pub same_form : kind_asked (words stretch) ≡ form_of q.cid2 q.command
  pub said : decide st (members reading.table) (words stretch) ≡ Code 0

-- there are a table and a stretch that is answered with this code, whatever buffer is lent
pub record Sends (st : Station) (code : ℕ) : Type 0 where
  pub table : Table
  pub stretch : List ℕ
  pub replies : (out out' : List ℕ) (r : Replied) → 4112 ≤ length out → Answers (answer (keeps table) table.count st (members table) stretch out) r out'
      → (n : ℕ) × (r.answered ≡ Ok (Some n)) × ((words (between n out')).header.cid2 ≡ code)
