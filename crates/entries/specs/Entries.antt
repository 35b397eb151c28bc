-- The stand-in and the reply reader over a table by value with a count, their answers as numbers.
use Rattle.std.specs.Prelude.{◌≡◌, Bool, cond, ◌&&◌, ◌||◌, List, ℕ, eqb}
use Rattle.table.specs.declared.Table.{Table}
use Rattle.table.specs.Table.{members}
use Rattle.table.specs.Changes.{Kept}
use Rattle.standin.specs.Answer.{Left}
use Rattle.reply.specs.Read as Read
use Rattle.flat.specs.declared.FlatReply.{FlatReply}
use Rattle.flat.specs.Flat.{answered_of, reply_of}
use Rattle.entries.specs.declared.Served.{Served}
use Rattle.entries.specs.declared.ReadReply.{ReadReply}

-- the stand-in
pub record Serves (left : Left) (r : Served) (out' : List ℕ) : Type 0 where
  pub answered : r.answered ≡ answered_of left.outcome
  pub off : r.off ≡ left.off
  pub out : out' ≡ left.out

-- the replies to 42H, 44H, 47H, 92H, 93H and 96H carry records
unfoldable pub carries_records : ℕ → Bool
carries_records cid2 = eqb cid2 0x42 || (eqb cid2 0x44 || (eqb cid2 0x47 || (eqb cid2 0x92 || (eqb cid2 0x93 || eqb cid2 0x96))))

-- and change them where they are read with code 00H
abbrev pub changes_records : ℕ → FlatReply → Bool
changes_records cid2 r = (eqb r.kind 1 && eqb r.code 0) && carries_records cid2

-- how many records are to be stored: none where none changes
abbrev pub stored_of : ℕ → ℕ → FlatReply → ℕ
stored_of count cid2 r = cond (changes_records cid2 r) count 0

-- the reply reader: besides the members nothing of the table changes
pub record ReadsFlat (left : Read.Left) (cid2 : ℕ) (t : Table) (r : ReadReply) : Type 0 where
  pub told : r.reply ≡ reply_of left.outcome left.maker
  pub stores : r.stored ≡ stored_of t.count cid2 (reply_of left.outcome left.maker)
  pub members_are : members r.table ≡ left.modules
  pub kept : Kept t r.table
