-- The lines of an event and the totals are put by laws of their texts: how long each is, that one block is its lines, that nothing put changes nothing.
use Rattle.std.proofs.lemmas.Bool.Decides.{nat_tests}
use Rattle.buffer.proofs.Puts.{puts-front, puts-nil}
use Rattle.texts.proofs.Texts.{lengths, lines-one}

pub ruleset event_steps = (lengths, lines-one, puts-nil)

pub ruleset totals_steps = (lengths, nat_tests, puts-front)
