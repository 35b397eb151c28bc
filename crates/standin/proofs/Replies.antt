-- A reply is the frame around the data of its code, which fit in a buffer of 4,112 bytes; and a code is only said where the member asked is on.
use Rattle.std.proofs.Common.{◌≡◌, ◌≢◌, refl, sym, ap, Bool, true, false, cond, List, [], ◌++◌, ℕ, ◌≤◌, arith, length, length-append, take, drop, take_at, leb, le-leb, eq-eqb, ne_eqb}
use Rattle.std.proofs.lemmas.Bool.{not-false}
use Rattle.buffer.specs.Writing.{wrote, length_written, Left, leaves}
use Rattle.buffer.proofs.Writers.{writing-is}
use Rattle.frame.specs.declared.Header.{Header}
use Rattle.frame.specs.Frame.{encode}
use Rattle.frame.specs.Write.{framed}
use Rattle.frame.proofs.Steps.{length-encode}
use Rattle.record.specs.declared.Module.{Module}
use Rattle.table.specs.declared.Station.{Station}
use Rattle.table.specs.Table.{is_on, member_at}
use Rattle.command.specs.Heard.{Words, number_of}
use Rattle.standin.specs.Says.{Speech, Silent, Code, decide, unheard}
use Rattle.standin.specs.Answer.{info_by, kind_asked, info_for}
use Rattle.standin.specs.Steps.{filled}

-- ---- the data, and the frame around them

pub framed-filled : (h : Header) (info out : List ℕ) → length info ≤ 816 → 4112 ≤ length out → filled (encode h info) out ≡ framed h info out
framed-filled h info out short room =
    sym (writing-is 33 (encode h info) out (leb (length info) 2047) (le-leb (length info) 2047 (omega arith)) (omega (arith, length-encode h info)))

-- data that were written to the front of the 816 bytes for them
pub filled-framed : (h : Header) (text info info' out : List ℕ) (n : ℕ) → length info' ≡ 816 → leaves (wrote n) info' ≡ filled text info → 4112 ≤ length out
    → framed h (take n info') out ≡ filled (encode h text) out
filled-framed h text info info' out n long p room =
    let k : n ≡ length text = ap (λ (l : Left). length_written l.outcome) p in
    let e : info' ≡ text ++ drop (length text) info = ap (λ (l : Left). l.out) p in
    rw (e, take_at text _ n (sym k)) (sym (framed-filled h text out (omega (arith, long, ap length e, length-append text (drop (length text) info))) room))

module _ (st : Station) (ms : List Module) (w : Words) (code : ℕ) where
  pub info-there : code ≡ 0 → info_for st ms w code ≡ info_by (kind_asked w) st ms w.header.adr
  unfolding info_for
  info-there e = simp (eq-eqb code 0 e)

  pub no-info : code ≢ 0 → info_for st ms w code ≡ []
  unfolding info_for
  no-info e = simp (ne_eqb code 0 e)

-- ---- a code is only said where the member asked is on

hush : (test : Bool) (rest : Speech) (k : ℕ) → cond test Silent rest ≡ Code k → (test ≡ false) × (rest ≡ Code k)
hush true rest k e = cc
hush false rest k e = (refl, e)

pub said-on : (st : Station) (ms : List Module) (w : Words) (k : ℕ) → decide st ms w ≡ Code k → is_on (member_at w.header.adr ms) ≡ true
unfolding decide
said-on st ms w k e =
    not-false (is_on (member_at w.header.adr ms)) (hush _ _ k (hush (unheard (number_of w.told)) _ k e).1).0

pub ruleset said = (said-on)

pub ruleset replies = (framed-filled, no-info, filled-framed, info-there)
