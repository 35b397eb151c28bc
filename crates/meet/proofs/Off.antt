-- What the stand-in's table holds after its answer: with an accepted 95H one module is off, after any other answer all is as it was. List work on the place that is set.
use Rattle.std.proofs.Common.{◌≡◌, refl, sym, ap, ◌∙◌, ⊎_elim, Bool, true, false, cond, not, List, [], ◌∷◌, ℕ, le_refl, length, get_or, set, length-set, get_or-set_same, get_or-set_other, ltb, eqb, eq-eqb, ne_eqb}
use Rattle.std.proofs.Math.Bool.{and-false}
use Rattle.std.proofs.Math.ListN.{get_or-eq_default}
use Rattle.std.proofs.Math.Seq.{set_out}
use Rattle.std.proofs.lemmas.Bool.Decides.{leb_tells}
use Rattle.record.specs.declared.Module.{Module}
use Rattle.table.specs.declared.Station.{Station}
use Rattle.table.specs.Table.{blank, is_on, place_of, has_member, member_at}
use Rattle.command.specs.Heard.{Words, number_of}
use Rattle.table.specs.Changes.{switched_off}
use Rattle.standin.specs.Says.{Speech, Silent, decide, unheard}
use Rattle.standin.specs.Answer.{off_for, off_at}
use Rattle.meet.specs.Off.{TurnedOff}
use Rattle.meet.proofs.Kept.{Changed, set-changed, off-safe, off-rule}

-- a module that is off already is the same switched off: only the mark changes
pub off-already : (m : Module) → m.on ≡ 0 → switched_off m ≡ m
off-already m e i = record { adr = m.adr; on = sym e i; link_fault = m.link_fault; analog = m.analog; alarm = m.alarm; limits = m.limits; serial = m.serial; version = m.version; parameters = m.parameters }

changed-place : (adr : ℕ) (ms ns : List Module) → Changed ms ns → place_of adr ns ≡ place_of adr ms
unfolding place_of
changed-place adr [] [] c = refl
changed-place adr [] (n ∷ ns) c = absurd c
changed-place adr (m ∷ ms) [] c = absurd c
changed-place adr (m ∷ ms) (n ∷ ns) c = rw (c.0.0, changed-place adr ms ns c.1)

-- who is in the table stays in it
pub off-has : (adr i : ℕ) (ms : List Module) → has_member adr (off_at i ms) ≡ has_member adr ms
unfolding has_member off_at
off-has adr i ms =
    let x = switched_off (get_or ms i blank) in
    λ k. ltb (changed-place adr ms (set ms i x) (set-changed switched_off off-safe ms i blank) k) (length-set ms i x k)

quiet : (a b : Bool) (rest : Speech) → b ≡ true → cond a Silent (cond b Silent rest) ≡ Silent
quiet true b rest e = refl
quiet false true rest e = refl
quiet false false rest e = ap (λ (t : Bool). cond t Silent rest) e

module _ (adr : ℕ) (ms : List Module) where
  -- where there is no such member, the blank record, which is off
  off-member : member_at adr (off_at (place_of adr ms) ms) ≡ switched_off (member_at adr ms)
  unfolding member_at off_at
  off-member =
      let i = place_of adr ms in
      let x = switched_off (get_or ms i blank) in
      ap (λ (k : ℕ). get_or (set ms i x) k blank) (changed-place adr ms (set ms i x) (set-changed switched_off off-safe ms i blank))
      ∙ ⊎_elim
      (λ h.
      ap (λ (l : List Module). get_or l i blank) (set_out ms i x h.1)
      ∙ get_or-eq_default ms blank h.1 ∙ ap switched_off (sym (get_or-eq_default ms blank h.1)))
      (λ h. get_or-set_same ms i x blank h.1)
      (leb_tells (length ms) i)

  off-silent : (st : Station) (w : Words) → w.header.adr ≡ adr → decide st (off_at (place_of adr ms) ms) w ≡ Silent
  unfolding decide
  off-silent st w e =
      let number = number_of w.told in
      let ns = off_at (place_of adr ms) ms in
      let off : not (is_on (member_at w.header.adr ns)) ≡ true = ap (λ (a : ℕ). not (is_on (member_at a ns))) e ∙ ap (λ (m : Module). not (is_on m)) off-member in
      quiet (unheard number) (not (is_on (member_at w.header.adr ns))) _ off

  pub turned-off : TurnedOff adr ms (off_at (place_of adr ms) ms)
  unfolding off_at
  turned-off =
      let i = place_of adr ms in
      let x = switched_off (get_or ms i blank) in
      record {
        count = length-set ms i x;
        off = off-member;
        others = λ j d n. get_or-set_other ms i j x d n;
        kept = off-rule i ms;
        silent = off-silent;
      }

-- ---- the place that the stand-in's answer names

-- an accepted 95H: the module with that ADR
pub accepted-off : (none : ℕ) (ms : List Module) (w : Words) → w.header.cid2 ≡ 0x95 → TurnedOff w.header.adr ms (off_at (off_for none ms w 0) ms)
unfolding off_for
accepted-off none ms w e = rw (eq-eqb w.header.cid2 0x95 e) (turned-off w.header.adr ms)

-- the count is past every record
pub none-off : (ms : List Module) → off_at (length ms) ms ≡ ms
unfolding off_at
none-off ms = set_out ms (length ms) (switched_off (get_or ms (length ms) blank)) (le_refl (length ms))

-- another code, or another command: no record
pub refused-stays : (ms : List Module) (w : Words) (code : ℕ) → (code ≡ 0 → ⊥) → off_at (off_for (length ms) ms w code) ms ≡ ms
unfolding off_for
refused-stays ms w code n = rw (ne_eqb code 0 n) (none-off ms)

pub other-stays : (ms : List Module) (w : Words) (code : ℕ) → (w.header.cid2 ≡ 0x95 → ⊥) → off_at (off_for (length ms) ms w code) ms ≡ ms
unfolding off_for
other-stays ms w code n = rw (ne_eqb w.header.cid2 0x95 n, and-false (eqb code 0)) (none-off ms)
