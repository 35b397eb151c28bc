-- What a stretch says is determined: what is told is the judge's, whose contract allows one answer, and the rest are the words themselves.
use Rattle.std.proofs.Common.{◌≡◌, refl, sym, ap, ◌∙◌, Bool, true, false, cond, List, ℕ, length, ltb}
use Rattle.frame.specs.Judge.{Judges, judge}
use Rattle.frame.proofs.Round.{judges-one}
use Rattle.command.specs.declared.Heard.{Heard}
use Rattle.command.specs.Heard.{Words, words, words_of}

either : (b : Bool) (x y : Words) → x.told ≡ y.told → (cond b x y).told ≡ x.told
either true x y e = refl
either false x y e = sym e

pub told_is : (c : List ℕ) → (words c).told ≡ judge c
unfolding words
told_is c = either (ltb (length c) 16) _ _ refl

pub hear-one : (c : List ℕ) (a b : Heard) → words_of a ≡ words c → words_of b ≡ words c → a ≡ b
hear-one c a b p q =
    let e = p ∙ sym q in
    let judges : (h : Heard) → words_of h ≡ words c → Judges c h.judged = λ (h : Heard) (w : words_of h ≡ words c). ap (λ (x : Words). x.told) w ∙ told_is c in
    let j : a.judged ≡ b.judged = judges-one c a.judged b.judged (judges a p) (judges b q) in
    λ i. record { judged = j i; header = (e i).header; lenid = (e i).lenid; command = (e i).command }
