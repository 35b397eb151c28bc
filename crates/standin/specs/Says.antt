-- What the stand-in says: silence, or the code of the first step that applies.
use Rattle.std.specs.Prelude.{Bool, cond, not, ◌&&◌, ◌||◌, List, ℕ, eqb, Option, Some, None}
use Rattle.record.specs.declared.Module.{Module}
use Rattle.table.specs.declared.Station.{Station}
use Rattle.table.specs.Table.{is_on, has_fault, is_master, member_at, any_fault}
use Rattle.command.specs.Command.{kind_of, terms_of}
use Rattle.command.specs.Heard.{Words, number_of}

-- nothing, or a return code
pub data Speech : Type 0 where
  Silent : Speech
  Code : ℕ → Speech

abbrev pub paper : Option ℕ → Speech
paper None = Silent
paper (Some code) = Code code

-- a line of the column: where the test holds, that is said, else what follows
infixr 5 ◌says◌else◌
abbrev pub ◌says◌else◌ : Bool → ℕ → Speech → Speech
test says code else rest = cond test (Code code) rest

infixr 5 ◌silent_else◌
abbrev pub ◌silent_else◌ : Bool → Speech → Speech
test silent_else rest = cond test Silent rest

-- a stretch that is too long, too short or not all hex is not heard at all
abbrev pub unheard : ℕ → Bool
unheard number = (eqb number 1 || eqb number 3) || (eqb number 4 || eqb number 9)

-- The first two lines are the silences. Then the eleven steps; commands without a Command byte are answered before step 8.
unfoldable pub decide : Station → List Module → Words → Speech
decide st ms h =
    let number = number_of h.told in
    let adr = h.header.adr in
    let m = member_at adr ms in
    let t = terms_of (kind_of h.header.cid2) in
    let group = eqb h.command 0xFF in
    (unheard number) silent_else
    (not (is_on m)) silent_else
    (eqb number 5) says 0x03 else
    (eqb number 6 || eqb number 7) says 0x05 else
    (eqb number 8) says 0x02 else
    (not (eqb h.header.cid1 0x46)) says 0x05 else
    (not t.served) says 0x04 else
    (t.same_ver && not (eqb h.header.ver st.ver)) says 0x01 else
    (not (eqb h.lenid t.lenid)) says 0x05 else
    (not t.has_command) says 0x00 else
    (group && not (t.has_group && is_master adr)) says 0x06 else
    (not group && not (eqb h.command adr)) says 0x90 else
    ((group && any_fault ms) || (not group && has_fault m)) says 0x91 else
    Code 0x00
