-- A whole INFO: the bytes end with the value; bytes left over are refusal 17.
use Rattle.std.specs.Prelude.{◌≡◌, refl, List, [], ◌∷◌, ◌++◌, Bool, ◌&&◌, ℕ, T}
use Rattle.std.proofs.Common.{sym, ◌∙◌, ap, subst, append-nil}
use Rattle.std.proofs.Math.Facts.{and_yes, yes_and}
use Rattle.hex_chars.specs.Hex.{Bytes}
use Rattle.hex_chars.proofs.Laws.{bytes-join, bytes_cut}
use Rattle.codec.specs.Codec.{Codec, Got, got, no}

-- what reading a whole INFO finds: the value, or a refusal's number
pub data Told (A : Type 0) : Type 0 where
  told : A → Told A
  refuse : ℕ → Told A

pub told_value : {A : Type 0} {a b : A} → ◌≡◌ {A = Told A} (told a) (told b) → a ≡ b
told_value e = cc

pub refuse_told {ℓ} : {A : Type 0} {X : Type ℓ} {a : A} {n : ℕ} → ◌≡◌ {A = Told A} (refuse n) (told a) → X
refuse_told e = cc

pub record Whole (A : Type 0) : Type 0 where
  pub ok : A → Bool
  pub put : A → List ℕ
  pub get : List ℕ → Told A
  pub small : (a : A) → T (ok a) → Bytes (put a)
  pub there : (a : A) → T (ok a) → get (put a) ≡ told a
  pub back : (s : List ℕ) (a : A) → Bytes s → get s ≡ told a → (s ≡ put a) × T (ok a)

-- go on with the value and the rest
abbrev pub onward : {A B : Type 0} → Got A → (A → List ℕ → Told B) → Told B
onward (got a s) k = k a s
onward (no n s) k = refuse n

pub onward_inv : {A B : Type 0} (g : Got A) (k : A → List ℕ → Told B) (b : B) → onward g k ≡ told b → (a : A) × (r : List ℕ) × (g ≡ got a r) × (k a r ≡ told b)
onward_inv (got a r) k b e = (a, r, refl, e)
onward_inv (no n s) k b e = refuse_told e

abbrev pub mapped : {A B : Type 0} → Told A → (A → B) → Told B
mapped (told a) f = told (f a)
mapped (refuse n) f = refuse n

pub mapped_inv : {A B : Type 0} (t : Told A) (f : A → B) (b : B) → mapped t f ≡ told b → (a : A) × (t ≡ told a) × (f a ≡ b)
mapped_inv (told a) f b e = (a, refl, told_value e)
mapped_inv (refuse n) f b e = refuse_told e

-- ---- nothing after it
abbrev pub at_end : {A : Type 0} → A → List ℕ → Told A
at_end a [] = told a
at_end a (x ∷ s) = refuse 17

pub at_end_inv : {A : Type 0} (a b : A) (s : List ℕ) → at_end a s ≡ told b → (s ≡ []) × (a ≡ b)
at_end_inv a b [] e = (refl, told_value e)
at_end_inv a b (x ∷ s) e = refuse_told e

abbrev pub ended : {A : Type 0} → Codec A → Whole A
ended {A} c = record {
  ok = c.ok;
  put = c.put;
  get = λ s. onward (c.get s) at_end;
  small = c.small;
  there = λ a h. rw (sym (append-nil (c.put a)), c.there a [] h);
  back = λ s a h e.
      let u = onward_inv (c.get s) at_end a e in
      let v = at_end_inv u.0 a u.1 u.3 in
      let b = c.back s u.0 u.1 h u.2 in
      subst (λ (y : A). (s ≡ c.put y) × T (c.ok y)) v.1
      (b.0 ∙ ap (λ (r : List ℕ). c.put u.0 ++ r) v.0 ∙ append-nil (c.put u.0), b.1);
}

-- ---- a part, then the rest of the INFO, which may go by it
module _ {A B : Type 0} (c : Codec A) (w : A → Whole B) where
  abbrev pub lead_get : List ℕ → Told (A × B)
  lead_get s = onward (c.get s) (λ a r. mapped ((w a).get r) (λ b. (a, b)))

  pub lead_back : (s : List ℕ) (x : A × B) → Bytes s → lead_get s ≡ told x → (s ≡ c.put x.0 ++ (w x.0).put x.1) × T (c.ok x.0 && (w x.0).ok x.1)
  lead_back s x h e =
      let u = onward_inv (c.get s) (λ a r. mapped ((w a).get r) (λ b. (a, b))) x e in
      let v = mapped_inv ((w u.0).get u.1) (λ b. (u.0, b)) x u.3 in
      let one = c.back s u.0 u.1 h u.2 in
      let two = (w u.0).back u.1 v.0 (bytes_cut (c.put u.0) u.1 (subst Bytes one.0 h)).1 v.1 in
      subst (λ (y : A × B). (s ≡ c.put y.0 ++ (w y.0).put y.1) × T (c.ok y.0 && (w y.0).ok y.1)) v.2
      (one.0 ∙ ap (λ (r : List ℕ). c.put u.0 ++ r) two.0, yes_and (c.ok u.0) ((w u.0).ok v.0) one.1 two.1)

  abbrev pub lead : Whole (A × B)
  lead = record {
    ok = λ x. c.ok x.0 && (w x.0).ok x.1;
    put = λ x. c.put x.0 ++ (w x.0).put x.1;
    get = lead_get;
    small = λ x h.
        let hs = and_yes (c.ok x.0) ((w x.0).ok x.1) h in
        bytes-join (c.put x.0) ((w x.0).put x.1) (c.small x.0 hs.0) ((w x.0).small x.1 hs.1);
    there = λ x h.
        let hs = and_yes (c.ok x.0) ((w x.0).ok x.1) h in
        rw (c.there x.0 ((w x.0).put x.1) hs.0, (w x.0).there x.1 hs.1);
    back = lead_back;
  }
