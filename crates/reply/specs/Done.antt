-- Nobody has to believe this file: it has words for contracts of private functions. What was read of a reply, as the reply reader's outcome.
use Rattle.std.specs.Prelude.{Result, Ok, Err}
use Rattle.refusal.specs.Number.{number}
use Rattle.refusal.specs.declared.Refusal.{Refusal}
use Rattle.frame.specs.declared.Fault.{Fault}
use Rattle.record.specs.Nothing.{no_maker}
use Rattle.table.specs.declared.Table.{Table}
use Rattle.table.specs.Table.{members}
use Rattle.table.specs.Changes.{Kept}
use Rattle.reply.specs.declared.Done.{Done}
use Rattle.reply.specs.Read.{Left, leaves, read, refused, refusal_outcome}

-- what was read of the data, or the refusal's number: then the records are as they were
abbrev pub taken_left : Table → Result Done Refusal → Left
taken_left t (Ok d) = leaves (read d.reply.ver d.reply.code d.reply.flag) d.maker (members d.table)
taken_left t (Err r) = leaves (refused (number r)) no_maker (members t)

-- the same of a whole reply, with a place where the refusal has one
abbrev pub done_left : Table → Result Done Fault → Left
done_left t (Ok d) = leaves (read d.reply.ver d.reply.code d.reply.flag) d.maker (members d.table)
done_left t (Err f) = leaves (refusal_outcome f.refusal f.place) no_maker (members t)

-- besides the members nothing of the table has changed
abbrev pub KeptBy : {E : Type 0} → Table → Result Done E → Type 0
KeptBy t (Ok d) = Kept t d.table
KeptBy t (Err e) = Unit {0}
