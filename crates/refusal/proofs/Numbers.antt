-- No two refusals have one number: each is found again by its number.
use Rattle.std.proofs.Common.{◌≡◌, refl, sym, ap, ◌∙◌, ℕ, cond, eqb}
use Rattle.refusal.specs.declared.Refusal.{Refusal}
use Rattle.refusal.specs.declared.Refusal.TheVariants.{TooLong, SoiInside, TooShort, LowerCase, LchksumDiffers, LenidOdd, CountDiffers, ChksumDiffers, NoHexDigit, AdrDiffers, Cid1Differs, CodeUnknown, InfoBesideCode, CountOutOfRange, InfoEnds, BytesLeftOver, ItemsUnknown, CapacitiesBreakRule, AlarmCodeUnknown, CommandDiffers, RecordsDiffer, AdrNotInTable, TableBreaksRule, BufferTooShort, NotEncodable, NotServed, ReceiverBeyondStore}
use Rattle.refusal.specs.Number.{number}

named : ℕ → Refusal
named n =
    cond (eqb n 1) TooLong
    (cond (eqb n 2) SoiInside
    (cond (eqb n 3) TooShort
    (cond (eqb n 4) LowerCase
    (cond (eqb n 5) LchksumDiffers
    (cond (eqb n 6) LenidOdd
    (cond (eqb n 7) CountDiffers
    (cond (eqb n 8) ChksumDiffers
    (cond (eqb n 9) NoHexDigit
    (cond (eqb n 11) AdrDiffers
    (cond (eqb n 12) Cid1Differs
    (cond (eqb n 13) CodeUnknown
    (cond (eqb n 14) InfoBesideCode
    (cond (eqb n 15) CountOutOfRange
    (cond (eqb n 16) InfoEnds
    (cond (eqb n 17) BytesLeftOver
    (cond (eqb n 18) ItemsUnknown
    (cond (eqb n 19) CapacitiesBreakRule
    (cond (eqb n 20) AlarmCodeUnknown
    (cond (eqb n 21) CommandDiffers
    (cond (eqb n 22) RecordsDiffer
    (cond (eqb n 23) AdrNotInTable
    (cond (eqb n 31) TableBreaksRule
    (cond (eqb n 32) BufferTooShort
    (cond (eqb n 33) NotEncodable
    (cond (eqb n 34) NotServed
    ReceiverBeyondStore)))))))))))))))))))))))))

named-number : (r : Refusal) → named (number r) ≡ r
unfolding named
named-number TooLong = refl
named-number SoiInside = refl
named-number TooShort = refl
named-number LowerCase = refl
named-number LchksumDiffers = refl
named-number LenidOdd = refl
named-number CountDiffers = refl
named-number ChksumDiffers = refl
named-number NoHexDigit = refl
named-number AdrDiffers = refl
named-number Cid1Differs = refl
named-number CodeUnknown = refl
named-number InfoBesideCode = refl
named-number CountOutOfRange = refl
named-number InfoEnds = refl
named-number BytesLeftOver = refl
named-number ItemsUnknown = refl
named-number CapacitiesBreakRule = refl
named-number AlarmCodeUnknown = refl
named-number CommandDiffers = refl
named-number RecordsDiffer = refl
named-number AdrNotInTable = refl
named-number TableBreaksRule = refl
named-number BufferTooShort = refl
named-number NotEncodable = refl
named-number NotServed = refl
named-number ReceiverBeyondStore = refl

pub number-injective : (r r' : Refusal) → number r ≡ number r' → r ≡ r'
number-injective r r' e = sym (named-number r) ∙ ap named e ∙ named-number r'
