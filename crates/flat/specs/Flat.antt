-- What C sees: each answer as a struct of the paper's numbers, 0 where there is none.
use Rattle.std.specs.Prelude.{◌≡◌, cond, List, ℕ, eqb}
use Rattle.buffer.specs.Writing as Writing
use Rattle.frame.specs.Judge as Judge
use Rattle.receiver.specs.declared.Receiver.{Receiver}
use Rattle.receiver.specs.declared.Receiver.TheVariants.{Waiting, Open}
use Rattle.receiver.specs.Step.{After}
use Rattle.receiver.specs.Run.{Run}
use Rattle.standin.specs.Answer as Answer
use Rattle.reply.specs.Read as Read
use Rattle.flat.specs.declared.FlatWritten.{FlatWritten}
use Rattle.flat.specs.declared.FlatEvent.{FlatEvent}
use Rattle.flat.specs.declared.FlatReceiver.{FlatReceiver}
use Rattle.flat.specs.declared.FlatStepped.{FlatStepped}
use Rattle.flat.specs.declared.FlatRan.{FlatRan}
use Rattle.flat.specs.declared.FlatAnswered.{FlatAnswered}
use Rattle.flat.specs.declared.FlatReply.{FlatReply}

-- so many bytes, or the refusal's number
abbrev pub written_of : Writing.Outcome → FlatWritten
written_of (Writing.wrote n) = record { number = 0; length = n }
written_of (Writing.refused k) = record { number = k; length = 0 }

-- a writer's answer and its buffer
abbrev pub FlatWrites : Writing.Left → FlatWritten → List ℕ → Type 0
FlatWrites left r out = (r ≡ written_of left.outcome) × (out ≡ left.out)

-- 0 nothing, 1 a frame, 2 refused
abbrev pub event_of : Judge.Told → FlatEvent
event_of Judge.nothing = record { kind = 0; number = 0; ver = 0; adr = 0; cid1 = 0; cid2 = 0; place = 0; lenid = 0 }
event_of (Judge.frame h n) = record { kind = 1; number = 0; ver = h.ver; adr = h.adr; cid1 = h.cid1; cid2 = h.cid2; place = 0; lenid = n }
event_of (Judge.refused k) = record { kind = 2; number = k; ver = 0; adr = 0; cid1 = 0; cid2 = 0; place = 0; lenid = 0 }
event_of (Judge.refused_at k p) = record { kind = 2; number = k; ver = 0; adr = 0; cid1 = 0; cid2 = 0; place = p; lenid = 0 }

abbrev pub flat_receiver : Receiver → FlatReceiver
flat_receiver Waiting = record { «open» = 0; count = 0 }
flat_receiver (Open n) = record { «open» = 1; count = n }

-- every pair of numbers is a receiver: open 0 is waiting, whatever the count; any other is open
abbrev pub receiver_of : FlatReceiver → Receiver
receiver_of r = cond (eqb r.«open» 0) Waiting (Open r.count)

abbrev pub stepped_of : After → FlatStepped
stepped_of a = record { next = flat_receiver a.next; event = event_of a.told }

abbrev pub ran_of : Run → FlatRan
ran_of a = record { next = flat_receiver a.next; event = event_of a.told; taken = a.taken; held = a.held }

-- 0 silence, 1 a reply of so many bytes, 2 refused
abbrev pub answered_of : Answer.Outcome → FlatAnswered
answered_of Answer.silence = record { kind = 0; number = 0; length = 0 }
answered_of (Answer.reply n) = record { kind = 1; number = 0; length = n }
answered_of (Answer.refused k) = record { kind = 2; number = k; length = 0 }

-- 1 read, 2 refused; and the 32 bytes of 51H
abbrev pub reply_of : Read.Outcome → List ℕ → FlatReply
reply_of (Read.read ver code flag) maker = record { kind = 1; number = 0; ver = ver; code = code; flag = flag; maker = maker; place = 0 }
reply_of (Read.refused k) maker = record { kind = 2; number = k; ver = 0; code = 0; flag = 0; maker = maker; place = 0 }
reply_of (Read.refused_at k p) maker = record { kind = 2; number = k; ver = 0; code = 0; flag = 0; maker = maker; place = p }
