-- The reply reader over a lent table: what it tells, and the table then.
use Rattle.std.specs.Prelude.{◌≡◌, List, ℕ}
use Rattle.record.specs.declared.Module.{Module}
use Rattle.table.specs.Rule.{rule}
use Rattle.reply.specs.declared.gate.Question.{Question}
use Rattle.reply.specs.Read as Read
use Rattle.flat.specs.declared.FlatReply.{FlatReply}
use Rattle.flat.specs.Flat.{reply_of}

-- what is told, and the table
pub record ReadThen : Type 0 where
  pub reply : FlatReply
  pub table : List Module

abbrev pub read_then : Read.Left → ReadThen
read_then left = record { reply = reply_of left.outcome left.maker; table = left.modules }

unfoldable pub reading : List Module → Question → List ℕ → ReadThen
reading ms question stretch = read_then (Read.read_reply (rule ms) ms question stretch)

-- the contract of the reply reader over a lent table
abbrev pub ReplyLeaves : ReadThen → FlatReply → List Module → Type 0
ReplyLeaves left r table = record { reply = r; table = table } ≡ left
