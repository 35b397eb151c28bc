-- The records of a group: how many, and places for them, `none` in those beyond.
use Rattle.std.specs.Prelude.{List, ℕ, length, take, Result, Ok, Err}
use Rattle.refusal.specs.Number.{number}
use Rattle.refusal.specs.declared.Refusal.{Refusal}
use Rattle.codec.specs.Counted.{pad_to}
use Rattle.codec.specs.Whole.{Told, told, refuse}
use Rattle.record.specs.Infos.{Front}

abbrev pub places : {A : Type 0} → A → ℕ → List A → ℕ × List A
places none most l = (length l, pad_to none most l)

-- after flag and FFH
abbrev pub grouped : {A : Type 0} → A → ℕ → Front × List A → ℕ × (ℕ × List A)
grouped none most x = (x.0.0, places none most x.1)

-- what a reader of a group answered, with what its places hold: the flag, how many records and the places, or the refusal's number
abbrev pub handed : {A : Type 0} → Result (ℕ × ℕ) Refusal → List A → Told (ℕ × (ℕ × List A))
handed (Ok x) held = told (x.0, (x.1, held))
handed (Err r) held = refuse (number r)

-- what a reader of records answered, with those that it put at the front of its places: the records, or the refusal's number
abbrev pub listed : {A : Type 0} → Result ℕ Refusal → List A → Told (List A)
listed (Ok n) held = told (take n held)
listed (Err r) held = refuse (number r)

-- after flag and FFH
abbrev pub led : {A : Type 0} → Result (ℕ × ℕ) Refusal → List A → Told (Front × List A)
led (Ok x) held = told ((x.0, 0xFF), take x.1 held)
led (Err r) held = refuse (number r)
