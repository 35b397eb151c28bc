-- The judge accepts exactly the whole encodings, with their header and LENID: the seven tests as facts, and the characters laid out for any LENGTH and CHKSUM.
use Rattle.std.proofs.Common.{◌≡◌, ℕ, ◌+◌, ◌*◌, ◌/◌, ◌%◌, ◌<◌, ◌≤◌, Bool, true, false, cond, not, T, ◌≢◌, ◌↔◌, List, [], ◌∷◌, ◌++◌, length, take, sym, refl, ap, ◌∙◌, subst, ap₂, arith, le→leb, eqb→eq, leb→le, length-append, take_at}
use mathlib.Core.List.{Memᴰ as Among}
use Rattle.std.proofs.Math.Facts.{yes_eqb}
use Rattle.buffer.proofs.Lists.{by_cond}
use Rattle.hex_chars.specs.Hex.{all_hex, hexes, word, byte_at, word_at, unhexes, Bytes}
use Rattle.hex_chars.proofs.Laws.{Hexy, hexy-yes, yes-hexy, hexy-join, hexy-hexes, length-hexes, hexes-join, byte_pair, word-pairs, word-hexes, word-seam, bytes_word, bytes_cut, bytes-unhexes, hexes-unhexes}
use Rattle.frame.specs.declared.Header.{Header}
use Rattle.frame.specs.Frame.{lchksum, length_of, chksum, packed, seal, chars, Encodes, Whole, Frames}
use Rattle.frame.specs.Judge.{Told, is_refusal, frame, refused, need, need_hex, header, lenid, judge}

-- ---- the seven tests, as facts

-- what is no refusal without a place comes of what follows a test, and that was passed
pub need-gives : (u : Told) → ((n : ℕ) → refused n ≡ u → ⊥) → (b : Bool) (n : ℕ) (t : Told) → need b n t ≡ u → T b × (t ≡ u)
unfolding need
need-gives u other true n t e = (tt, e)
need-gives u other false n t e = absurd (other n e)

need-frame : (b : Bool) (n : ℕ) (t : Told) (h : Header) (k : ℕ) → need b n t ≡ frame h k → T b × (t ≡ frame h k)
need-frame b n t h k = need-gives (frame h k) (λ n e. cc) b n t

pub need-yes : (b : Bool) (n : ℕ) (t : Told) → T b → need b n t ≡ t
unfolding need
need-yes true n t y = refl
need-yes false n t y = absurd y

need-by : (P : Told → Type 0) (b : Bool) (n : ℕ) (t : Told) → (T b → P t) → (T (not b) → P (refused n)) → P (need b n t)
unfolding need
need-by P true n t f g = f tt
need-by P false n t f g = g tt

pub record Good (c : List ℕ) : Type 0 where
  pub few : length c ≤ 4110
  pub long : 16 ≤ length c
  pub hexy : Hexy c
  pub lchk : word_at c 8 / 4096 ≡ lchksum (lenid c)
  pub even : lenid c % 2 ≡ 0
  pub count : length c ≡ 16 + lenid c
  pub check : word_at c (12 + lenid c) ≡ chksum (take (12 + lenid c) c)

-- the same of the test for hex
cond_yes : (b : Bool) (t u : Told) → T b → cond b t u ≡ t
cond_yes true t u y = refl
cond_yes false t u y = absurd y

hex-frame : (c : List ℕ) (t : Told) (h : Header) (n : ℕ) → need_hex c t ≡ frame h n → T (all_hex c) × (t ≡ frame h n)
hex-frame c t h n = by_cond (λ (u : Told). u ≡ frame h n → T (all_hex c) × (t ≡ frame h n)) (all_hex c) (λ yes e. (yes, e)) (λ no e. cc)

hex-yes : (c : List ℕ) (t : Told) → Hexy c → need_hex c t ≡ t
hex-yes c t h = cond_yes (all_hex c) t _ (yes-hexy c h)

judge-good : (c : List ℕ) (h : Header) (n : ℕ) → judge c ≡ frame h n → Good c × (frame (header c) (lenid c) ≡ frame h n)
unfolding judge
judge-good c h n p =
    let z = need-frame _ 1 _ h n p in
    let a = need-frame _ 3 _ h n z.1 in
    let b = hex-frame c _ h n a.1 in
    let d = need-frame _ 5 _ h n b.1 in
    let e = need-frame _ 6 _ h n d.1 in
    let f = need-frame _ 7 _ h n e.1 in
    let g = need-frame _ 8 _ h n f.1 in (
      record {
        few = leb→le _ _ z.0;
        long = leb→le _ _ a.0;
        hexy = hexy-yes c b.0;
        lchk = eqb→eq _ _ d.0;
        even = eqb→eq _ _ e.0;
        count = eqb→eq _ _ f.0;
        check = eqb→eq _ _ g.0;
      },
      g.1,
    )

pub good-judge : (c : List ℕ) → Good c → judge c ≡ frame (header c) (lenid c)
unfolding judge
good-judge c g =
    need-yes _ 1 _ (le→leb _ _ g.few)
    ∙ need-yes _ 3 _ (le→leb _ _ g.long)
    ∙ hex-yes c _ g.hexy
    ∙ need-yes _ 5 _ (yes_eqb g.lchk)
    ∙ need-yes _ 6 _ (yes_eqb g.even)
    ∙ need-yes _ 7 _ (yes_eqb g.count)
    ∙ need-yes _ 8 _ (yes_eqb g.check)

-- what is not refused is the frame
pub accepted : (c : List ℕ) → is_refusal (judge c) ≡ false → judge c ≡ frame (header c) (lenid c)
unfolding judge
accepted c = passes _ 1 _ (passes _ 3 _ (hexed _ (passes _ 5 _ (passes _ 6 _ (passes _ 7 _ (passes _ 8 _ (λ _. refl)))))))
  where
    Is : Told → Type 0
    Is t = is_refusal t ≡ false → t ≡ frame (header c) (lenid c)

    passes : (b : Bool) (n : ℕ) (t : Told) → Is t → Is (need b n t)
    passes b n t rest = need-by Is b n t (λ _. rest) (λ _ no. cc)

    hexed : (t : Told) → Is t → Is (need_hex c t)
    hexed t rest = by_cond Is (all_hex c) (λ _. rest) (λ _ no. cc)

-- ---- LENGTH and CHKSUM are of sixteen bits

pub length-fits : (n : ℕ) → n < 4096 → length_of n < 65536
unfolding length_of lchksum
length-fits n h = omega arith

length-low : (n : ℕ) → n < 4096 → length_of n % 4096 ≡ n
unfolding length_of lchksum
length-low n h = omega arith

length_high : (n : ℕ) → n < 4096 → length_of n / 4096 ≡ lchksum n
unfolding length_of lchksum
length_high n h = omega arith

pub length_whole : (w : ℕ) → w / 4096 ≡ lchksum (w % 4096) → w ≡ length_of (w % 4096)
unfolding length_of
length_whole w e = omega arith

pub chksum-fits : (c : List ℕ) → chksum c < 65536
unfolding chksum
chksum-fits c = omega arith

-- ---- characters with any LENGTH l and any CHKSUM k: what is read in them

abbrev Four : Header → Type 0
Four h = Bytes (h.ver ∷ h.adr ∷ h.cid1 ∷ h.cid2 ∷ [])

record Laid (h : Header) (l : ℕ) (info : List ℕ) (k : ℕ) (c : List ℕ) : Type 0 where
  four : Four h
  l-fits : l < 65536
  body : Bytes info
  k-fits : k < 65536
  is : c ≡ hexes (packed h l info) ++ hexes (word k)

record Read (h : Header) (l : ℕ) (info : List ℕ) (k : ℕ) (c : List ℕ) : Type 0 where
  hexy : Hexy c
  head : header c ≡ h
  len : word_at c 8 ≡ l
  count : length c ≡ 16 + 2 * length info
  front : take (12 + 2 * length info) c ≡ hexes (packed h l info)
  last : word_at c (12 + 2 * length info) ≡ k

pub bytes_packed : (h : Header) (l : ℕ) (info : List ℕ) → Four h → l < 65536 → Bytes info → Bytes (packed h l info)
unfolding packed
bytes_packed h l info f e b = (f.0, (f.1.0, (f.1.1.0, (f.1.1.1.0, (omega arith, (omega arith, b))))))

read_head : (h : Header) (l : ℕ) (info t : List ℕ) → Four h → header (hexes (packed h l info) ++ t) ≡ h
unfolding header packed hexes byte_at
read_head h l info t f =
    let v = byte_pair h.ver f.0 in
    let a = byte_pair h.adr f.1.0 in
    let c = byte_pair h.cid1 f.1.1.0 in
    let d = byte_pair h.cid2 f.1.1.1.0 in
    λ i. record { ver = v i; adr = a i; cid1 = c i; cid2 = d i }

read-len : (h : Header) (l : ℕ) (info t : List ℕ) → l < 65536 → word_at (hexes (packed h l info) ++ t) 8 ≡ l
unfolding packed hexes word_at byte_at
read-len h l info t e = word-pairs l e

pub length-packed : (h : Header) (l : ℕ) (info : List ℕ) → length (hexes (packed h l info)) ≡ 12 + 2 * length info
unfolding packed
length-packed h l info = omega (arith, length-hexes (packed h l info))

module _ (h : Header) (l : ℕ) (info : List ℕ) (k : ℕ) (c : List ℕ) (a : Laid h l info k c) where
  read : Read h l info k c
  read =
      let s = hexes (packed h l info) in
      let t = hexes (word k) in
      let n = length-packed h l info in
      subst (Read h l info k) (sym a.is)
      (record {
        hexy = hexy-join s t (hexy-hexes (packed h l info) (bytes_packed h l info a.four a.l-fits a.body)) (hexy-hexes (word k) (bytes_word k a.k-fits));
        head = read_head h l info t a.four;
        len = read-len h l info t a.l-fits;
        count = omega (arith, n, length-append s t, length-hexes (word k));
        front = take_at s t (12 + 2 * length info) n;
        last = (rw n at (word-seam s t)) ∙ word-hexes k a.k-fits;
      })

  -- LENGTH and CHKSUM as they should be make it good, and only these
  laid-good : length info ≤ 2047 → l ≡ length_of (2 * length info) → k ≡ chksum (hexes (packed h l info)) → Good c × (lenid c ≡ 2 * length info)
  unfolding lenid
  laid-good s e f =
      let r = read in
      let n : lenid c ≡ 2 * length info = omega (arith, r.len, e, length-low (2 * length info) (omega arith)) in
      let hi : word_at c 8 / 4096 ≡ lchksum (2 * length info) = rw (r.len, e) (length_high (2 * length info) (omega arith)) in (
        record {
          few = omega (arith, r.count);
          long = omega (arith, r.count);
          hexy = r.hexy;
          lchk = hi ∙ ap lchksum (sym n);
          even = omega (arith, n);
          count = omega (arith, n, r.count);
          check = cc (r.last, r.front, f, n);
        },
        n,
      )

  good-laid : Good c → Encodes h info c × (lenid c ≡ 2 * length info)
  unfolding chars seal lenid
  good-laid g =
      let r = read in
      let n : lenid c ≡ 2 * length info = omega (arith, r.count, g.count) in
      let w : word_at c 8 ≡ length_of (lenid c) = length_whole (word_at c 8) g.lchk in
      let e : l ≡ length_of (2 * length info) = sym r.len ∙ w ∙ ap length_of n in
      let f : k ≡ chksum (hexes (packed h l info)) = cc (r.last, r.front, g.check, n) in (
        record {
          head = a.four;
          body = a.body;
          short = omega (arith, n);
          is =
              a.is
              ∙ ap (λ (x : ℕ). hexes (packed h l info) ++ hexes (word x)) f
              ∙ ap (λ (x : ℕ). seal (hexes (packed h x info))) e;
        },
        n,
      )

-- ---- what was written is read back

pub chars-read : (h : Header) (info c : List ℕ) → Encodes h info c → Good c × (header c ≡ h) × (lenid c ≡ 2 * length info)
unfolding chars seal
chars-read h info c e =
    let w = length_of (2 * length info) in
    let b = hexes (packed h w info) in
    let a : Laid h w info (chksum b) c =
    record { four = e.head; l-fits = length-fits (2 * length info) (omega (arith, e.short)); body = e.body; k-fits = chksum-fits b; is = e.is } in
    let g = laid-good h w info (chksum b) c a e.short refl refl in
    (g.0, (read h w info (chksum b) c a).head, g.1)

-- ---- what is accepted was written so: hex characters, 16 or more and an even number, are some frame's but for LENGTH and CHKSUM

abbrev Some : List ℕ → Type 0
Some c = (h : Header) × (l : ℕ) × (info : List ℕ) × (k : ℕ) × Laid h l info k c

last-two : (s : List ℕ) → 2 ≤ length s → (i : List ℕ) × (j : ℕ) × (k : ℕ) × (s ≡ i ++ j ∷ k ∷ [])
last-two [] h = absurd (omega arith)
last-two (x ∷ []) h = absurd (omega arith)
last-two (x ∷ y ∷ []) h = ([], x, y, refl)
last-two (x ∷ y ∷ z ∷ s) h =
    let r = last-two (y ∷ z ∷ s) (omega arith) in
    (x ∷ r.0, r.1, r.2, ap (λ (t : List ℕ). x ∷ t) r.3)

word_of : (l m : ℕ) → m < 256 → l ∷ m ∷ [] ≡ word (l * 256 + m)
word_of l m h = ap₂ (λ (x y : ℕ). x ∷ y ∷ []) (omega arith) (omega arith)

lay : (bs : List ℕ) → Bytes bs → 8 ≤ length bs → Some (hexes bs)
unfolding packed
lay [] b h = absurd (omega arith)
lay (v ∷ []) b h = absurd (omega arith)
lay (v ∷ a ∷ []) b h = absurd (omega arith)
lay (v ∷ a ∷ x ∷ []) b h = absurd (omega arith)
lay (v ∷ a ∷ x ∷ y ∷ []) b h = absurd (omega arith)
lay (v ∷ a ∷ x ∷ y ∷ l ∷ []) b h = absurd (omega arith)
lay (v ∷ a ∷ x ∷ y ∷ l ∷ m ∷ s) (bv, (ba, (bx, (by, (bl, (bm, bs)))))) h =
    let r = last-two s (omega arith) in
    let q = bytes_cut r.0 (r.1 ∷ r.2 ∷ []) (subst Bytes r.3 bs) in
    let hd : Header = record { ver = v; adr = a; cid1 = x; cid2 = y } in
    let p : v ∷ a ∷ x ∷ y ∷ l ∷ m ∷ s ≡ packed hd (l * 256 + m) r.0 ++ word (r.1 * 256 + r.2) =
    ap₂ (λ (w t : List ℕ). v ∷ a ∷ x ∷ y ∷ w ++ t) (word_of l m bm) (r.3 ∙ ap (λ (w : List ℕ). r.0 ++ w) (word_of r.1 r.2 q.1.1.0)) in (
      hd,
      l * 256 + m,
      r.0,
      r.1 * 256 + r.2,
      record {
        four = (bv, (ba, (bx, (by, tt))));
        l-fits = omega arith;
        body = q.0;
        k-fits = omega (arith, q.1.0, q.1.1.0);
        is = ap hexes p ∙ hexes-join (packed hd (l * 256 + m) r.0) (word (r.1 * 256 + r.2));
      },
    )

good-chars : (c : List ℕ) → Good c → (info : List ℕ) × Encodes (header c) info c × (lenid c ≡ 2 * length info)
good-chars c g = go (subst Some back (lay (unhexes c) (bytes-unhexes c) (omega (arith, length-hexes (unhexes c), ap length back, g.long))))
  where
    back : hexes (unhexes c) ≡ c
    back = hexes-unhexes c g.hexy (omega (arith, g.count, g.even))

    go : Some c → (info : List ℕ) × Encodes (header c) info c × (lenid c ≡ 2 * length info)
    go (h, l, info, k, a) =
        let q = good-laid h l info k c a g in
        (info, subst (λ (x : Header). Encodes x info c) (sym (read h l info k c a).head) q.0, q.1)

-- ---- the law of the judge

pub judge-accepts : (c : List ℕ) (h : Header) (n : ℕ) → (judge c ≡ frame h n) ↔ Frames h n c
judge-accepts c h n = (there, back)
  where
    there : judge c ≡ frame h n → Frames h n c
    there p =
        let g = judge-good c h n p in
        let r = good-chars c g.0 in
        let hq : header c ≡ h = cc g.1 in
        let nq : lenid c ≡ n = cc g.1 in
        (r.0, subst (λ (x : Header). Encodes x r.0 c) hq r.1, sym nq ∙ r.2)

    back : Frames h n c → judge c ≡ frame h n
    back r =
        let g = chars-read h r.0 c r.1 in
        good-judge c g.0 ∙ cc (g.1, g.2, r.2)

-- ---- what is told of too few characters, of an odd number of hex characters, of another number than LENGTH asks for

pub short-refused : (c : List ℕ) → length c < 16 → judge c ≡ refused 3
unfolding judge
short-refused c h =
    need-yes _ 1 _ (le→leb (length c) 4110 (omega arith))
    ∙ need-by (λ (t : Told). t ≡ refused 3) _ 3 _ (λ t. absurd (omega (arith, leb→le 16 (length c) t))) (λ t. refl)

-- 5, 6 or 7: what LENGTH asks for is even
abbrev Odd : Told → Type 0
Odd t = (n : ℕ) × Among n (5 ∷ 6 ∷ 7 ∷ []) × (t ≡ refused n)

pub odd_refused : (c : List ℕ) → Hexy c → 16 ≤ length c → length c ≤ 4110 → length c % 2 ≡ 1 → Odd (judge c)
unfolding judge
odd_refused c h long few odd =
    subst Odd (sym (need-yes _ 1 _ (le→leb _ _ few) ∙ need-yes _ 3 _ (le→leb _ _ long) ∙ hex-yes c _ h))
    (need-by Odd _ 5 _
    (λ _. need-by Odd _ 6 _
    (λ even. need-by Odd _ 7 _
    (λ count. absurd (omega (arith, eqb→eq (lenid c % 2) 0 even, eqb→eq (length c) (16 + lenid c) count)))
    (λ _. (7, Among.tail (Among.tail (Among.head refl)), refl)))
    (λ _. (6, Among.tail (Among.head refl), refl)))
    (λ _. (5, Among.head refl, refl)))

-- a right LENGTH that asks for another number of them
pub count-refused : (c : List ℕ) → Hexy c → 16 ≤ length c → length c ≤ 4110 → word_at c 8 / 4096 ≡ lchksum (lenid c) → lenid c % 2 ≡ 0 → length c ≢ 16 + lenid c → judge c ≡ refused 7
unfolding judge
count-refused c h long few lchk even other =
    need-yes _ 1 _ (le→leb _ _ few)
    ∙ need-yes _ 3 _ (le→leb _ _ long)
    ∙ hex-yes c _ h
    ∙ need-yes _ 5 _ (yes_eqb lchk)
    ∙ need-yes _ 6 _ (yes_eqb even)
    ∙ need-by (λ (t : Told). t ≡ refused 7) _ 7 _ (λ t. absurd (other (eqb→eq (length c) (16 + lenid c) t))) (λ t. refl)

-- ---- what is known of whole encodings

pub good-whole : (c : List ℕ) → Good c → Whole c
good-whole c g = let f = (judge-accepts c (header c) (lenid c)).0 (good-judge c g) in (header c, f.0, f.1)

-- as many characters as a frame can have, all hex, and no frame: 5 to 8
module _ (c : List ℕ) (long : 16 ≤ length c) (few : length c ≤ 4110) (none : Whole c → ⊥) where
  pub hex-refused : Hexy c → (n : ℕ) × Among n (5 ∷ 6 ∷ 7 ∷ 8 ∷ []) × (judge c ≡ refused n)
  unfolding judge
  hex-refused hexy =
      subst Broken (sym (need-yes _ 1 _ (le→leb _ _ few) ∙ need-yes _ 3 _ (le→leb _ _ long) ∙ hex-yes c _ hexy))
      (need-by Broken _ 5 _
      (λ lchk. need-by Broken _ 6 _
      (λ even. need-by Broken _ 7 _
      (λ count. need-by Broken _ 8 _
      (λ check. absurd (none (good-whole c (record { few = few; long = long; hexy = hexy; lchk = eqb→eq _ _ lchk; even = eqb→eq _ _ even; count = eqb→eq _ _ count; check = eqb→eq _ _ check }))))
      (λ _. (8, Among.tail (Among.tail (Among.tail (Among.head refl))), refl)))
      (λ _. (7, Among.tail (Among.tail (Among.head refl)), refl)))
      (λ _. (6, Among.tail (Among.head refl), refl)))
      (λ _. (5, Among.head refl, refl)))
    where
      Broken : Told → Type 0
      Broken t = (n : ℕ) × Among n (5 ∷ 6 ∷ 7 ∷ 8 ∷ []) × (t ≡ refused n)

pub whole-good : (c : List ℕ) → Whole c → Good c
whole-good c w = (chars-read w.0 w.1 c w.2).0

pub whole-count : (c : List ℕ) → Whole c → (length c ≡ 16 + lenid c) × (lenid c ≤ 4094) × (lenid c % 2 ≡ 0)
whole-count c w =
    let g = chars-read w.0 w.1 c w.2 in
    (g.0.count, omega (arith, g.2, w.2.short), g.0.even)
