-- The codes that the stand-in says are bytes, and of the reply reader's set: down the column, a line after the other.
use Rattle.std.proofs.Common.{◌≡◌, refl, subst, Bool, true, false, cond, not, ◌&&◌, ◌||◌, List, ℕ, ◌<◌, arith, eqb}
use Rattle.record.specs.declared.Module.{Module}
use Rattle.table.specs.declared.Station.{Station}
use Rattle.table.specs.Table.{is_on, has_fault, is_master, member_at, any_fault}
use Rattle.command.specs.Command.{kind_of, terms_of}
use Rattle.command.specs.Heard.{Words, number_of}
use Rattle.standin.specs.Says.{Speech, Silent, Code, decide, unheard}
use Rattle.reply.specs.Gate.{is_return_code}

abbrev pub Known : ℕ → Type 0
Known code = (is_return_code code ≡ true) × (code < 256)

line : (test : Bool) (k : ℕ) (rest : Speech) (code : ℕ) → Known k → (rest ≡ Code code → Known code) → cond test (Code k) rest ≡ Code code → Known code
line true k rest code f g e = let z : k ≡ code = cc in subst Known z f
line false k rest code f g e = g e

hush : (test : Bool) (rest : Speech) (code : ℕ) → (rest ≡ Code code → Known code) → cond test Silent rest ≡ Code code → Known code
hush true rest code g e = cc
hush false rest code g e = g e

pub said-known : (st : Station) (ms : List Module) (w : Words) (code : ℕ) → decide st ms w ≡ Code code → Known code
unfolding decide is_return_code
said-known st ms w code =
    let number = number_of w.told in
    let adr = w.header.adr in
    let m = member_at adr ms in
    let t = terms_of (kind_of w.header.cid2) in
    let group = eqb w.command 0xFF in
    hush (unheard number) _ code
    (hush (not (is_on m)) _ code
    (line (eqb number 5) 0x03 _ code (refl, omega arith)
    (line (eqb number 6 || eqb number 7) 0x05 _ code (refl, omega arith)
    (line (eqb number 8) 0x02 _ code (refl, omega arith)
    (line (not (eqb w.header.cid1 0x46)) 0x05 _ code (refl, omega arith)
    (line (not t.served) 0x04 _ code (refl, omega arith)
    (line (t.same_ver && not (eqb w.header.ver st.ver)) 0x01 _ code (refl, omega arith)
    (line (not (eqb w.lenid t.lenid)) 0x05 _ code (refl, omega arith)
    (line (not t.has_command) 0x00 _ code (refl, omega arith)
    (line (group && not (t.has_group && is_master adr)) 0x06 _ code (refl, omega arith)
    (line (not group && not (eqb w.command adr)) 0x90 _ code (refl, omega arith)
    (line ((group && any_fault ms) || (not group && has_fault m)) 0x91 _ code (refl, omega arith)
    (line true 0x00 Silent code (refl, omega arith) (λ e. cc))))))))))))))
