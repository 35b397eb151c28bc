-- Before a reply's INFO is read: 34, 23, then 1 and 3 to 9, then 11, 12, 13, 14.
use Rattle.std.specs.Prelude.{Bool, cond, not, ◌&&◌, ◌||◌, List, ℕ, leb, eqb, Option, Some, None, Result, Ok, Err}
use Rattle.refusal.specs.Number.{number}
use Rattle.record.specs.declared.Module.{Module}
use Rattle.frame.specs.Judge.{Told, nothing, frame, refused as judged_refused, refused_at as judged_refused_at}
use Rattle.table.specs.Table.{is_master, has_member}
use Rattle.command.specs.Command.{kind_of, terms_of}
use Rattle.command.specs.Heard.{Words}
use Rattle.reply.specs.declared.gate.Question.{Question}
use Rattle.refusal.specs.declared.Refusal.{Refusal}
use Rattle.frame.specs.declared.Fault.{Fault}

-- return codes are 00H to 06H, 90H and 91H
unfoldable pub is_return_code : ℕ → Bool
is_return_code code = leb code 0x06 || (eqb code 0x90 || eqb code 0x91)

-- a served command; where it has a Command that is ADR, or FFH at the master with 42H or 44H
unfoldable pub asks : Question → Bool
asks q =
    let t = terms_of (kind_of q.cid2) in
    t.served && (not t.has_command || (eqb q.command q.adr || (eqb q.command 0xFF && (t.has_group && is_master q.adr))))

-- the stretch passes, or it is refused with a number, or with a number and a place
pub data Gated : Type 0 where
  passed : Gated
  refused : ℕ → Gated
  refused_at : ℕ → ℕ → Gated

abbrev pub refusal_gated : Refusal → Option ℕ → Gated
refusal_gated r None = refused (number r)
refusal_gated r (Some p) = refused_at (number r) p

abbrev pub paper : Result (Unit {0}) Fault → Gated
paper (Ok u) = passed
paper (Err f) = refusal_gated f.refusal f.place

-- of the gate of a frame, whose refusals have no place
abbrev pub frame_paper : Result (Unit {0}) Refusal → Gated
frame_paper (Ok u) = passed
frame_paper (Err r) = refused (number r)

-- a line of the column: where the test holds, that number, else what follows
infixr 5 ◌refuses◌else◌
abbrev pub ◌refuses◌else◌ : Bool → ℕ → Gated → Gated
test refuses k else rest = cond test (refused k) rest

unfoldable pub frame_gate : Question → Words → Gated
frame_gate q w =
    let code = w.header.cid2 in
    (not (eqb w.header.adr q.adr)) refuses 11 else
    (not (eqb w.header.cid1 0x46)) refuses 12 else
    (not (is_return_code code)) refuses 13 else
    (not (eqb code 0) && not (eqb w.lenid 0)) refuses 14 else
    passed

-- the judge's refusal, else what follows
abbrev pub judged_first : Told → Gated → Gated
judged_first nothing rest = rest
judged_first (frame h n) rest = rest
judged_first (judged_refused k) rest = refused k
judged_first (judged_refused_at k p) rest = refused_at k p

unfoldable pub gate : List Module → Question → Words → Gated
gate ms q w =
    (not (asks q)) refuses 34 else
    (not (has_member q.adr ms)) refuses 23 else
    judged_first w.told (frame_gate q w)
