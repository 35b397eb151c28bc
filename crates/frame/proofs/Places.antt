-- A refusal with a place comes of the one test that gives it: it has passed the two before it, and none behind it gives one.
use Rattle.std.proofs.Common.{◌≡◌, ℕ, ◌≤◌, Bool, true, false, cond, T, ◌↔◌, List, ◌∷◌, ◌++◌, length, get_or, sym, refl, ap, ◌∙◌, subst, arith, le→leb, leb→le, length-append, take_at}
use Rattle.std.proofs.Math.Seq.{get_or-append_seam}
use denote.Floats.{is_true}
use Rattle.refusal.specs.declared.Refusal.{Refusal}
use Rattle.refusal.specs.Number.{number}
use Rattle.hex_chars.specs.Hex.{is_hex, all_hex, bad_place, FirstBad}
use Rattle.hex_chars.proofs.Laws.{Hexy, yes-hexy}
use Rattle.hex_chars.proofs.Bad.{bad-place-first, bad-place-one}
use Rattle.frame.specs.declared.Header.{Header}
use Rattle.frame.specs.Judge.{Told, frame, refused_at, need, bad_number, need_hex, header, lenid, judge, Judges}
use Rattle.frame.specs.Place.{Placed}
use Rattle.frame.specs.Answered.{refused_at_by}
use Rattle.frame.proofs.Judging.{need-gives, need-yes}

module _ (k p : ℕ) where
  need-at : (b : Bool) (n : ℕ) (t : Told) → need b n t ≡ refused_at k p → T b × (t ≡ refused_at k p)
  need-at = need-gives (refused_at k p) (λ n e. cc)

  hex-at : (c : List ℕ) (t : Told) → (t ≡ refused_at k p → ⊥) → need_hex c t ≡ refused_at k p → (all_hex c ≡ false) × (refused_at (bad_number (get_or c (bad_place c) 0)) (bad_place c) ≡ refused_at k p)
  hex-at c t none = go (all_hex c) refl
    where
      go : (b : Bool) → all_hex c ≡ b → cond b t (refused_at (bad_number (get_or c (bad_place c) 0)) (bad_place c)) ≡ refused_at k p
          → (all_hex c ≡ false) × (refused_at (bad_number (get_or c (bad_place c) 0)) (bad_place c) ≡ refused_at k p)
      go true h e = absurd (none e)
      go false h e = (h, e)

  frame_at : (h : Header) (n : ℕ) → frame h n ≡ refused_at k p → ⊥
  frame_at h n e = cc

  pub placed : (c : List ℕ) → (judge c ≡ refused_at k p) ↔ Placed c k p
  unfolding judge
  placed c = (there, back)
    where
      there : judge c ≡ refused_at k p → Placed c k p
      there e =
          let a = need-at _ 1 _ e in
          let b = need-at _ 3 _ a.1 in
          let d = hex-at c _ (λ z. frame_at (header c) (lenid c) (need-at _ 8 _ (need-at _ 7 _ (need-at _ 6 _ (need-at _ 5 _ z).1).1).1).1) b.1 in
          let at : bad_place c ≡ p = cc d.1 in
          let is : bad_number (get_or c (bad_place c) 0) ≡ k = cc d.1 in
          record {
            long = leb→le _ _ b.0;
            few = leb→le _ _ a.0;
            first = subst (FirstBad c) at (bad-place-first c d.0);
            number = sym is ∙ ap (λ (q : ℕ). bad_number (get_or c q 0)) at;
          }

      back : Placed c k p → judge c ≡ refused_at k p
      back f =
          let one = bad-place-one c p f.first in
          need-yes _ 1 _ (le→leb _ _ f.few)
          ∙ need-yes _ 3 _ (le→leb _ _ f.long)
          ∙ rw (one.0, one.1) (ap (λ (n : ℕ). refused_at n p) (sym f.number))

-- hex characters, and then one that is not
pub bad-refused : (u : List ℕ) (b : ℕ) (v : List ℕ) → Hexy u → is_hex b ≡ false → 16 ≤ length (u ++ b ∷ v) → length (u ++ b ∷ v) ≤ 4110
    → judge (u ++ b ∷ v) ≡ refused_at (bad_number b) (length u)
bad-refused u b v h odd long few =
    let there : get_or (u ++ b ∷ v) (length u) 0 ≡ b = get_or-append_seam u b v 0 in
    (placed (bad_number b) (length u) (u ++ b ∷ v)).1
    (record {
      long = long;
      few = few;
      first = record {
        inside = omega (arith, length-append u (b ∷ v));
        before = ap all_hex (take_at u (b ∷ v) (length u) refl) ∙ is_true (all_hex u) (yes-hexy u h);
        bad = ap is_hex there ∙ odd;
      };
      number = ap bad_number (sym there);
    })

-- of any answer that the judge's contract allows
pub judges-placed : (c : List ℕ) (r : Refusal) (p : ℕ) → Judges c (refused_at_by r p) ↔ Placed c (number r) p
judges-placed c r p = let e = placed (number r) p c in (λ j. e.0 (sym j), λ f. sym (e.1 f))
