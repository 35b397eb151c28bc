-- The count, then the values after it.
use Rattle.std.proofs.Common.{[], ◌∷◌, take}
use Rattle.buffer.proofs.Puts.{put_then, room-first}
use Rattle.codec.specs.Row.{row_put}
use Rattle.parts.proofs.list.put_counted.Goals as goal

pub returns : goal.returns
returns g c = put_then (room-first (c.args.count ∷ []) (row_put g.F.Format.codec (take c.args.count c.args.list.now)) c.requires.room) c.put-next.ensures c.put_all.ensures
