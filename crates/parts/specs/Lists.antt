-- What filling a list of places answers: its values or the refusal's number, with the bytes that are left. After a refusal the list may hold anything.
use Rattle.std.specs.Prelude.{List, ℕ, Result, Ok, Err}
use Rattle.refusal.specs.Number.{number}
use Rattle.refusal.specs.declared.Refusal.{Refusal}
use Rattle.codec.specs.Codec.{Got, got, no}

abbrev pub filled : {A : Type 0} → Result (Unit {0}) Refusal → A → List ℕ → Got A
filled (Ok u) list rest = got list rest
filled (Err r) list rest = no (number r) rest
