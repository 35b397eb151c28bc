-- The records in front, and `none` filled in behind them, are the records in so many places.
use Rattle.std.proofs.Common.{◌≡◌, sym, ◌∙◌, ap, List, append-nil, ℕ, ◌-◌, ◌≤◌, arith, length, take, drop, replicate}
use Rattle.std.proofs.lemmas.List.{length-take-le, length-drop, drop-replicate, drop_all}
use borrow.Rule.Slice.PartMut.{put_mid}
use Rattle.codec.specs.Counted.{pad_to}
use Rattle.codec.specs.Whole.{Told, told, mapped}
use Rattle.codec.proofs.Counts.{padded-front}
use Rattle.record.specs.Infos.{Front}
use Rattle.parts.specs.Groups.{grouped}
use Rattle.parts.proofs.group.take_group.Goals as goal

module _ {A : Type 0} (none : A) (N n : ℕ) (p : List A) (l : length p ≡ N) (h : n ≤ N) where
  front : length (take n p) ≡ n
  front = length-take-le n p (omega arith)

  -- what stands behind them is one part of the list
  rest : length (take (length p - n) (drop n p)) ≡ N - n
  rest = length-take-le (length p - n) (drop n p) (omega (arith, length-drop n p)) ∙ ap (λ (k : ℕ). k - n) l

  behind : put_mid n (length p - n) p (replicate (N - n) none) ≡ pad_to none N (take n p)
  behind =
      let e : length (drop n p) ≤ length p - n = omega (arith, length-drop n p) in
      let f : replicate (N - n) none ≡ drop (length (take n p)) (replicate N none) = rw front (sym (drop-replicate n N none)) in
      rw (drop_all (length p - n) (drop n p) e, append-nil (replicate (N - n) none), f) (padded-front none N (take n p) (omega (arith, front)))

  filled : {flag : ℕ} {held : List A} {t : Told (Front × List A)} → held ≡ replicate (length (take (length p - n) (drop n p))) none
      → told ((flag, 0xFF), take n p) ≡ t → told (flag, (n, put_mid n (length p - n) p held)) ≡ mapped t (grouped none N)
  filled {flag} {held} {t} e f =
      let k : held ≡ replicate (N - n) none = e ∙ ap (λ (m : ℕ). replicate m none) rest in
      (λ i. told (flag, (sym front i, (ap (put_mid n (length p - n) p) k ∙ behind) i))) ∙ ap (λ (x : Told (Front × List A)). mapped x (grouped none N)) f

pub returns-in-Ok-clause-value : goal.returns-in-Ok-clause-value
returns-in-Ok-clause-value g c =
    filled c.args.none (length c.args.places.now) c.in-Ok.count c.read_group.new.places c.read_group.auto.places c.in-Ok.ensures.count c.fill_with.ensures c.in-Ok.ensures.value
