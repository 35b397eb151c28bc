-- The paper's number of each refusal, in the order of its table.
use Rattle.std.specs.Prelude.{ℕ}
use Rattle.refusal.specs.declared.Refusal.{Refusal}
use Rattle.refusal.specs.declared.Refusal.TheVariants.{TooLong, SoiInside, TooShort, LowerCase, LchksumDiffers, LenidOdd, CountDiffers, ChksumDiffers, NoHexDigit, AdrDiffers, Cid1Differs, CodeUnknown, InfoBesideCode, CountOutOfRange, InfoEnds, BytesLeftOver, ItemsUnknown, CapacitiesBreakRule, AlarmCodeUnknown, CommandDiffers, RecordsDiffer, AdrNotInTable, TableBreaksRule, BufferTooShort, NotEncodable, NotServed, ReceiverBeyondStore}

abbrev pub number : Refusal → ℕ
-- a 4,111th character arrives
number TooLong = 1
-- SOI inside an open frame, also directly after SOI
number SoiInside = 2
-- fewer than 16 characters
number TooShort = 3
-- a character that isn't hex, and the first such is `a` to `f`
number LowerCase = 4
-- LCHKSUM differs
number LchksumDiffers = 5
-- LENID odd
number LenidOdd = 6
-- count is not 16 + LENID
number CountDiffers = 7
-- CHKSUM differs
number ChksumDiffers = 8
-- a character that isn't hex, and the first such is anything else
number NoHexDigit = 9
-- reply's ADR is not the one asked
number AdrDiffers = 11
-- reply's CID1 is not 46H
number Cid1Differs = 12
-- return code other than 00H to 06H, 90H, 91H
number CodeUnknown = 13
-- INFO present with a code other than 00H
number InfoBesideCode = 14
-- cell count not 1 to 16, or temperature count not 1 to 8
number CountOutOfRange = 15
-- INFO ends before a needed byte
number InfoEnds = 16
-- bytes left over, or a thirteenth record
number BytesLeftOver = 17
-- user defined items neither 2 nor 4
number ItemsUnknown = 18
-- capacities break the 65 Ah rule
number CapacitiesBreakRule = 19
-- alarm code not 00, 01, 02 or F0
number AlarmCodeUnknown = 20
-- reply's Command byte differs from the one asked
number CommandDiffers = 21
-- number of records differs from the members that are on
number RecordsDiffer = 22
-- ADR asked is not in the table
number AdrNotInTable = 23
-- table breaks its rule
number TableBreaksRule = 31
-- lent buffer shorter than named
number BufferTooShort = 32
-- value that the rules can't encode
number NotEncodable = 33
-- command asked is not served, or its Command is neither ADR nor FFH at the master with 42H or 44H
number NotServed = 34
-- receiver state with count above 4,110
number ReceiverBeyondStore = 35
