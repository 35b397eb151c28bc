-- The capacities of 42H, in mAh: remaining 1, items, total 1, cycles, and with items 4 remaining 2 and total 2. Items are no field: they follow from total.
use Rattle.std.specs.Prelude.{◌≡◌, refl, Bool, true, false, cond, ◌&&◌, ◌||◌, ℕ, T, leb, ltb, eqb}
use Rattle.std.proofs.Common.{sym, subst, ⊎_elim, arith, leb→le, ltb→lt, eqb→eq, le-leb, lt-ltb, leb-false}
use Rattle.std.proofs.Math.Facts.{and_yes, yes_and, or_yes}
use Rattle.std.proofs.lemmas.Bool.{lt-leb}
use Rattle.codec.specs.Codec.{Codec, byte}
use Rattle.codec.specs.Both.{both, ◌then◌}
use Rattle.codec.specs.Tested.{tested}
use Rattle.codec.specs.Seen.{seen, Between}
use Rattle.codec.specs.Numbers.{word, three}

-- user defined items: 4 or 2, else 18; the value is whether they are 4
abbrev pub items_of : Bool → ℕ
items_of true = 4
items_of false = 2

abbrev pub known : ℕ → Bool
known i = eqb i 2 || eqb i 4

pub items_between : Between (tested known 18 byte) (λ i. eqb i 4) items_of (λ b. true)
items_between = record {
  in_ok = λ b t. elim b as (λ b. T ((tested known 18 byte).ok (items_of b))) [ false ↦ tt | true ↦ tt ];
  in_out = λ b t. elim b as (λ b. eqb (items_of b) 4 ≡ b) [ false ↦ refl | true ↦ refl ];
  out_ok = λ i t. tt;
  out_in = λ i t.
      ⊎_elim (λ e. let q = eqb→eq i 2 e in subst (λ n. items_of (eqb n 4) ≡ n) (sym q) refl)
      (λ e. let q = eqb→eq i 4 e in subst (λ n. items_of (eqb n 4) ≡ n) (sym q) refl)
      (or_yes (eqb i 2) (eqb i 4) (and_yes (known i) (ltb i 256) t).0);
}

abbrev pub items : Codec Bool
items = seen (tested known 18 byte) (λ i. eqb i 4) items_of (λ b. true) items_between

-- total 1, cycles, remaining 2, total 2; the last two are 0 where they are not there
abbrev pub Body : Type 0
Body = ℕ × (ℕ × (ℕ × ℕ))

abbrev pub with_zeros : ℕ × ℕ → Body
with_zeros x = (x.0, (x.1, (0, 0)))

abbrev pub without_zeros : Body → ℕ × ℕ
without_zeros x = (x.0, x.1.0)

abbrev pub short_ok : Body → Bool
short_ok x = (ltb x.0 65536 && ltb x.1.0 65536) && (eqb x.1.1.0 0 && eqb x.1.1.1 0)

pub short_between : Between (word then word) with_zeros without_zeros short_ok
short_between = record {
  in_ok = λ x t. (and_yes (ltb x.0 65536 && ltb x.1.0 65536) (eqb x.1.1.0 0 && eqb x.1.1.1 0) t).0;
  in_out = λ x t.
      let u = and_yes (ltb x.0 65536 && ltb x.1.0 65536) (eqb x.1.1.0 0 && eqb x.1.1.1 0) t in
      let v = and_yes (eqb x.1.1.0 0) (eqb x.1.1.1 0) u.1 in
      let p = eqb→eq x.1.1.0 0 v.0 in
      let q = eqb→eq x.1.1.1 0 v.1 in
      λ i. (x.0, (x.1.0, (sym p i, sym q i)));
  out_ok = λ x t. yes_and (ltb x.0 65536 && ltb x.1 65536) true t tt;
  out_in = λ x t. refl;
}

abbrev pub body : Bool → Codec Body
body true = word then word then three then three
body false = seen (word then word) with_zeros without_zeros short_ok short_between

-- remaining 1 and items, then the body
abbrev pub Raw : Type 0
Raw = (ℕ × Bool) × Body

abbrev pub raw : Codec Raw
raw = both (word then items) (λ x. body x.1)

-- the 65 Ah rule. Items 2: both at most 65,000. Items 4: both two-byte fields FFFFH, and total 2 above 65,000
abbrev pub fair : Raw → Bool
fair x =
    cond x.0.1
    (eqb x.0.0 0xFFFF && (eqb x.1.0 0xFFFF && ltb 65000 x.1.1.1.1))
    (leb x.0.0 65000 && leb x.1.0 65000)

-- remaining, total, cycles
abbrev pub Capacities : Type 0
Capacities = ℕ × (ℕ × ℕ)

abbrev pub capacities_of : Raw → Capacities
capacities_of x = cond x.0.1 (x.1.1.1.0, (x.1.1.1.1, x.1.1.0)) (x.0.0, (x.1.0, x.1.1.0))

abbrev pub raw_of : Capacities → Raw
raw_of c =
    cond (leb c.1.0 65000)
    ((c.0, false), (c.1.0, (c.1.1, (0, 0))))
    ((0xFFFF, true), (0xFFFF, (c.1.1, (c.0, c.1.0))))

-- what can be written: total and remaining up to 65,000, or a total above it, each in three bytes
abbrev pub capacities_fine : ℕ → ℕ → Bool
capacities_fine r t = cond (leb t 65000) (leb r 65000) (ltb r 16777216 && ltb t 16777216)

abbrev pub capacities_ok : Capacities → Bool
capacities_ok c = capacities_fine c.0 c.1.0 && ltb c.1.1 65536

going_in : (b : Bool) (r t y : ℕ) → leb t 65000 ≡ b → T (capacities_ok (r, (t, y))) → T ((tested fair 19 raw).ok (raw_of (r, (t, y)))) × (capacities_of (raw_of (r, (t, y))) ≡ (r, (t, y)))
going_in true r t y e h =
    let u = and_yes (cond (leb t 65000) (leb r 65000) (ltb r 16777216 && ltb t 16777216)) (ltb y 65536) h in
    let v : T (leb r 65000) = rw e at u.0 in
    let r1 = leb→le r 65000 v in
    let t1 = leb→le t 65000 (subst T (sym e) tt) in
    (simp (e, le-leb r 65000 r1, lt-ltb r 65536 (omega arith), lt-ltb t 65536 (omega arith), lt-ltb y 65536 (ltb→lt y 65536 u.1)) tt, simp e)
going_in false r t y e h =
    let u = and_yes (cond (leb t 65000) (leb r 65000) (ltb r 16777216 && ltb t 16777216)) (ltb y 65536) h in
    let v : T (ltb r 16777216 && ltb t 16777216) = rw e at u.0 in
    (simp (e, lt-ltb 65000 t (leb-false t 65000 e), lt-ltb y 65536 (ltb→lt y 65536 u.1)) v, simp e)

coming_out : (b : Bool) (r t y r2 t2 : ℕ) → T ((tested fair 19 raw).ok ((r, b), (t, (y, (r2, t2))))) → T (capacities_ok (capacities_of ((r, b), (t, (y, (r2, t2)))))) × (raw_of (capacities_of ((r, b), (t, (y, (r2, t2))))) ≡ ((r, b), (t, (y, (r2, t2)))))
coming_out true r t y r2 t2 h =
    let more = ltb r2 16777216 && ltb t2 16777216 in
    let u = and_yes (eqb r 65535 && (eqb t 65535 && ltb 65000 t2)) ((ltb r 65536 && true) && (ltb t 65536 && (ltb y 65536 && more))) h in
    let f = and_yes (eqb r 65535) (eqb t 65535 && ltb 65000 t2) u.0 in
    let g = and_yes (eqb t 65535) (ltb 65000 t2) f.1 in
    let v = and_yes (ltb r 65536 && true) (ltb t 65536 && (ltb y 65536 && more)) u.1 in
    let w = and_yes (ltb t 65536) (ltb y 65536 && more) v.1 in
    let x = and_yes (ltb y 65536) more w.1 in
    let e = lt-leb t2 65000 (ltb→lt 65000 t2 g.1) in
    let er = eqb→eq r 65535 f.0 in
    let et = eqb→eq t 65535 g.0 in
    (simp e (yes_and more (ltb y 65536) x.1 x.0), simp e (λ i. ((sym er i, true), (sym et i, (y, (r2, t2))))))
coming_out false r t y r2 t2 h =
    let u = and_yes (leb r 65000 && leb t 65000) ((ltb r 65536 && true) && short_ok (t, (y, (r2, t2)))) h in
    let f = and_yes (leb r 65000) (leb t 65000) u.0 in
    let v = and_yes (ltb r 65536 && true) (short_ok (t, (y, (r2, t2)))) u.1 in
    let w = and_yes (ltb t 65536 && ltb y 65536) (eqb r2 0 && eqb t2 0) v.1 in
    let x = and_yes (ltb t 65536) (ltb y 65536) w.0 in
    let k = and_yes (eqb r2 0) (eqb t2 0) w.1 in
    let e = le-leb t 65000 (leb→le t 65000 f.1) in
    let er = eqb→eq r2 0 k.0 in
    let et = eqb→eq t2 0 k.1 in
    (simp e (yes_and (leb r 65000) (ltb y 65536) f.0 x.1), simp e (λ i. ((r, false), (t, (y, (sym er i, sym et i))))))

pub capacities_between : Between (tested fair 19 raw) capacities_of raw_of capacities_ok
capacities_between = record {
  in_ok = λ c t. (going_in (leb c.1.0 65000) c.0 c.1.0 c.1.1 refl t).0;
  in_out = λ c t. (going_in (leb c.1.0 65000) c.0 c.1.0 c.1.1 refl t).1;
  out_ok = λ x t. (coming_out x.0.1 x.0.0 x.1.0 x.1.1.0 x.1.1.1.0 x.1.1.1.1 t).0;
  out_in = λ x t. (coming_out x.0.1 x.0.0 x.1.0 x.1.1.0 x.1.1.1.0 x.1.1.1.1 t).1;
}

unfoldable pub capacities : Codec Capacities
capacities = seen (tested fair 19 raw) capacities_of raw_of capacities_ok capacities_between
