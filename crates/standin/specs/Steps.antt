-- Nobody has to believe this file: it has the words of the contracts of private functions. They are the column of `decide` in three parts, each given what is said where none of its lines applies, and a text that was written.
use Rattle.std.specs.Prelude.{Bool, not, ◌&&◌, ◌||◌, List, ℕ, length, eqb}
use Rattle.buffer.specs.Writing.{Left, leaves, wrote}
use Rattle.frame.specs.declared.Header.{Header}
use Rattle.command.specs.declared.Terms.{Terms}
use Rattle.standin.specs.Answer.{written}
use Rattle.standin.specs.Says.{Speech, Code, ◌says◌else◌, ◌silent_else◌, unheard}

-- the silences, and steps 1 to 3
abbrev pub by_number : ℕ → Bool → Speech → Speech
by_number number on rest =
    (unheard number) silent_else
    (not on) silent_else
    (eqb number 5) says 0x03 else
    (eqb number 6 || eqb number 7) says 0x05 else
    (eqb number 8) says 0x02 else
    rest

-- steps 4 to 7, and commands without a Command byte
abbrev pub by_header : ℕ → Terms → Header → ℕ → Speech → Speech
by_header ver t h lenid rest =
    (not (eqb h.cid1 0x46)) says 0x05 else
    (not t.served) says 0x04 else
    (t.same_ver && not (eqb h.ver ver)) says 0x01 else
    (not (eqb lenid t.lenid)) says 0x05 else
    (not t.has_command) says 0x00 else
    rest

-- steps 8 to 11
abbrev pub by_command : Bool → Bool → Bool → Bool → Speech
by_command group may own fault =
    (group && not may) says 0x06 else
    (not group && not own) says 0x90 else
    fault says 0x91 else
    Code 0x00

-- a text written to the front of a buffer
abbrev pub filled : List ℕ → List ℕ → Left
filled text out = leaves (wrote (length text)) (written text out)
