-- What is told of a damaged stretch: over characters an open receiver says nothing, so only its tilde, a character too many and its CR are heard.
use Rattle.std.proofs.Common.{◌≡◌, refl, sym, ap, ◌∙◌, subst, ◌≢◌, Bool, true, false, cond, List, [], ◌∷◌, ◌++◌, append-nil, append_assoc, ℕ, suc, ◌+◌, ◌-◌, ◌%◌, ◌≤◌, ◌<◌, arith, length, get_or, take, drop, set, length-append, take-append-drop, length-take-le, take-take, T, ltb, eqb, ltb→lt, nltb→le, lt-ltb, le-ltb, le-leb, eq-eqb, ne_eqb}
use mathlib.Core.List.{Memᴰ as Among}
use Rattle.std.specs.Prelude.{Some}
use Rattle.std.proofs.Math.Decide.{ℕ_discrete}
use Rattle.std.proofs.Math.Seq.{set_split, append_snoc, slice, length-slice, split_at, drop-append-le, drop-length}
use Rattle.std.proofs.lemmas.Bool.{lt-leb}
use Rattle.buffer.proofs.Lists.{by_cond}
use Rattle.hex_chars.specs.Hex.{is_hex}
use Rattle.hex_chars.proofs.Laws.{said, hex-said, Hexy, hexy-cut, hexy-join}
use Rattle.frame.specs.declared.Header.{Header}
use Rattle.frame.specs.Frame.{SOI, CR}
use Rattle.frame.specs.Judge.{Told, is_refusal, nothing, frame, refused, refused_at, bad_number, judge}
use Rattle.frame.proofs.Judging.{judge-accepts, short-refused, odd_refused, hex-refused}
use Rattle.frame.proofs.Places.{bad-refused}
use Rattle.frame.proofs.Changes.{whole-one-place, prefix-refused}
use Rattle.receiver.specs.declared.Receiver.{Receiver}
use Rattle.receiver.specs.declared.Receiver.TheVariants.{Waiting, Open}
use Rattle.receiver.specs.Step.{Kind, soi, cr, other, kind, After, gives, step_by, step}
use Rattle.receiver.specs.Run.{is_nothing}
use Rattle.receiver.specs.Pass.{Fits}
use Rattle.receiver.specs.Stream.{after, along, Stretch}
use Rattle.receiver.specs.Calls.{Can, Caller, Calls, taken, here}
use Rattle.receiver.specs.Damage.{lost, doubled, exchanged, inside, told_in, ToldOf}
use Rattle.receiver.proofs.Rows.{is-other, step-within, row-idle, row-again}
use Rattle.receiver.proofs.Receive.{Plain, kind-soi, kind-cr, kind-hex, hexy-plain, plain-join, held, holds, after-fits, after-join, step-soi, step-cr, step-more, after-plain}
use Rattle.receiver.proofs.Streams.{cut, cut-stretch, hexy-frame, wire, doubled-at, long, size, span, left, parted, whole, within}
use Rattle.receiver.proofs.Exchanged as X
use Rattle.receiver.proofs.Pieces.{along-join, Took, any-cutting, took-call}

-- ---- an open receiver

hears-soi : (r : Receiver) (store c : List ℕ) → Fits r store → held r store ≡ Some c → step r store SOI ≡ gives (Open 0) store (refused 2)
hears-soi Waiting store c f e = cc
hears-soi (Open n) store c f e = sym (row-again store SOI f.0 n f.1 refl)

counts : (n : ℕ) (store c : List ℕ) → Fits (Open n) store → held (Open n) store ≡ Some c → n ≡ length c
counts n store c f e = let q : take n store ≡ c = cc in sym (length-take-le n store (omega (arith, f.0, f.1))) ∙ ap length q

-- a character: nothing, and 1 where it is the 4,111th
module _ (b : ℕ) (h : kind b ≡ other) where
  hears : (r : Receiver) (store : List ℕ) → Fits r store → step r store b ≡ step_by other r store b
  hears r store f = step-within r store b f.0 f.1 ∙ ap (λ (k : Kind). step_by k r store b) h

  hears-one : (r : Receiver) (store c : List ℕ) → Fits r store → held r store ≡ Some c → length c < 4110 → (step r store b).told ≡ nothing
  unfolding step_by
  hears-one Waiting store c f e l = cc
  hears-one (Open n) store c f e l =
      ap (λ (a : After). a.told) (hears (Open n) store f)
      ∙ by_cond (λ (a : After). a.told ≡ nothing) (ltb n 4110) (λ t. refl) (λ t. absurd (omega (arith, nltb→le n 4110 t, counts n store c f e)))

  hears-more : (r : Receiver) (store c : List ℕ) → Fits r store → held r store ≡ Some c → length c ≡ 4110 → step r store b ≡ gives Waiting store (refused 1)
  unfolding step_by
  hears-more Waiting store c f e l = cc
  hears-more (Open n) store c f e l =
      hears (Open n) store f
      ∙ by_cond (λ (a : After). a ≡ gives Waiting store (refused 1)) (ltb n 4110) (λ t. absurd (omega (arith, ltb→lt n 4110 t, counts n store c f e))) (λ t. refl)

-- ---- what is told from place a to place b

module _ (a b : ℕ) where
  pub silent : (n : ℕ) (store : List ℕ) → inside a b n nothing store ≡ []
  unfolding inside
  silent n store = refl

  early : (n : ℕ) (t : Told) (store : List ℕ) → n ≤ a → inside a b n t store ≡ []
  unfolding inside
  early n t store h = by_cond (λ (l : List (ℕ × Told)). l ≡ []) (is_nothing t) (λ _. refl) (λ _. rw (le-ltb a n h) refl)

  late : (n : ℕ) (t : Told) (store : List ℕ) → suc b < n → inside a b n t store ≡ []
  unfolding inside
  late n t store h =
      by_cond (λ (l : List (ℕ × Told)). l ≡ []) (is_nothing t) (λ _. refl)
      (λ _. by_cond (λ (l : List (ℕ × Told)). l ≡ []) (ltb a n) (λ _. rw (lt-leb n (suc b) h) refl) (λ _. refl))

  pub there : (n : ℕ) (t : Told) (store : List ℕ) → is_nothing t ≡ false → a ≤ n → n ≤ b → inside a b (suc n) t store ≡ (n, t) ∷ []
  unfolding inside
  there n t store e h l = rw (e, lt-ltb a (suc n) (omega arith), le-leb (suc n) (suc b) (omega arith)) (ap (λ (m : ℕ). (m, t) ∷ []) (let q : suc n - 1 ≡ n = omega arith in q))

  along-early : (s : List ℕ) (n : ℕ) (r : Receiver) (store : List ℕ) → n + length s ≤ a → along (inside a b) n r store s ≡ []
  unfolding along
  along-early [] n r store h = refl
  along-early (c ∷ s) n r store h =
      let z = step r store c in
      λ i. early (suc n) z.told z.store (omega arith) i ++ along-early s (suc n) z.next z.store (omega arith) i

  pub along-late : (s : List ℕ) (n : ℕ) (r : Receiver) (store : List ℕ) → b < n → along (inside a b) n r store s ≡ []
  unfolding along
  along-late [] n r store h = refl
  along-late (c ∷ s) n r store h =
      let z = step r store c in
      λ i. late (suc n) z.told z.store (omega arith) i ++ along-late s (suc n) z.next z.store (omega arith) i

  -- over characters nothing
  along-plain : (c d : List ℕ) (n : ℕ) (r : Receiver) (store : List ℕ) → Fits r store → held r store ≡ Some d → Plain c → length d + length c ≤ 4110
      → along (inside a b) n r store c ≡ []
  unfolding along after
  along-plain [] d n r store f e h l = refl
  along-plain (v ∷ c) d n r store f e h l =
      let z = step r store v in
      let quiet = hears-one v h.0 r store d f e (omega arith) in
      let rest =
      along-plain c (d ++ v ∷ []) (suc n) z.next z.store (after-fits (v ∷ []) r store f) (step-more v d r store f e h.0 (omega arith)) h.1 (omega (arith, length-append d (v ∷ []))) in
      (λ i. inside a b (suc n) (quiet i) z.store ++ rest i) ∙ ap (λ (l : List (ℕ × Told)). l ++ []) (silent (suc n) z.store)

  -- at one of these places
  next-told : (p : ℕ) (r : Receiver) (store : List ℕ) (v : ℕ) (rest : List ℕ) (t : Told) → (step r store v).told ≡ t → is_nothing t ≡ false → a ≤ p → p ≤ b
      → along (inside a b) p r store (v ∷ rest) ≡ (p, t) ∷ along (inside a b) (suc p) (step r store v).next (step r store v).store rest
  unfolding along
  next-told p r store v rest t e s h q =
      let z = step r store v in
      let later = along (inside a b) (suc p) z.next z.store rest in
      ap (λ (u : Told). inside a b (suc p) u z.store ++ later) e ∙ ap (λ (l : List (ℕ × Told)). l ++ later) (there p t z.store s h q)

  -- at the last of them, and of those behind it nothing
  last-told : (p : ℕ) (r : Receiver) (store : List ℕ) (v : ℕ) (rest : List ℕ) (t : Told) → (step r store v).told ≡ t → is_nothing t ≡ false → a ≤ p → p ≡ b
      → along (inside a b) p r store (v ∷ rest) ≡ (b, t) ∷ []
  last-told p r store v rest t e s h q =
      let z = step r store v in
      next-told p r store v rest t e s h (omega arith) ∙ (λ i. (q i, t) ∷ along-late rest (suc p) z.next z.store (omega arith) i)

  -- at the last but one, where the receiver waits for the last, which is a CR
  then-cr : (p : ℕ) (r : Receiver) (store : List ℕ) (v : ℕ) (rest : List ℕ) (t : Told) → 4110 ≤ length store → step r store v ≡ gives Waiting store t → is_nothing t ≡ false
      → a ≤ p → suc p ≡ b → along (inside a b) p r store (v ∷ CR ∷ rest) ≡ (p, t) ∷ []
  unfolding along
  then-cr p r store v rest t room e s h q =
      let idle = row-idle store CR room (λ z. omega arith) in
      (λ i. inside a b (suc p) (e i).told (e i).store ++ along (inside a b) (suc p) (e i).next (e i).store (CR ∷ rest))
      ∙ (λ i. there p t store s h (omega arith) i ++ (inside a b (suc (suc p)) (sym idle i).told (sym idle i).store ++ along-late rest (suc (suc p)) (step Waiting store CR).next (step Waiting store CR).store (omega arith) i))
      ∙ ap (λ (l : List (ℕ × Told)). (p, t) ∷ (l ++ [])) (silent (suc (suc p)) store)

  -- what comes behind a tilde at place n and characters is heard by a receiver that holds them
  record Behind (n : ℕ) (c rest : List ℕ) (told all : List (ℕ × Told)) : Type 0 where
    next : Receiver
    store : List ℕ
    fits : Fits next store
    holding : held next store ≡ Some c
    is : all ≡ told ++ along (inside a b) (suc n + length c) next store rest

  opened : (n : ℕ) (r : Receiver) (store : List ℕ) → Fits r store → (c rest : List ℕ) → Plain c → length c ≤ 4110
      → Behind n c rest (inside a b (suc n) (step r store SOI).told (step r store SOI).store) (along (inside a b) n r store (SOI ∷ (c ++ rest)))
  unfolding along after
  opened n r store f c rest h l =
      let z = step r store SOI in
      let w = after z.next z.store c in
      let g = after-fits (SOI ∷ []) r store f in
      let opens = step-soi r store f in
      let told = inside a b (suc n) z.told z.store in
      let behind = along (inside a b) (suc n + length c) w.next w.store rest in
      record {
        next = w.next;
        store = w.store;
        fits = after-fits c z.next z.store g;
        holding = after-plain c [] z.next z.store g opens h (omega arith);
        is =
            ap (λ (l : List (ℕ × Told)). told ++ l)
            (along-join (inside a b) silent c rest (suc n) z.next z.store
            ∙ ap (λ (l : List (ℕ × Told)). l ++ behind) (along-plain c [] (suc n) z.next z.store g opens h (omega arith)));
      }

  module _ (store : List ℕ) (room : 4110 ≤ length store) where
    pub from-fresh : (pre s : List ℕ) → length pre ≤ a
        → along (inside a b) 0 Waiting store (pre ++ s) ≡ along (inside a b) (length pre) (after Waiting store pre).next (after Waiting store pre).store s
    from-fresh pre s h =
        let z = after Waiting store pre in
        let place : 0 + length pre ≡ length pre = omega arith in
        along-join (inside a b) silent pre s 0 Waiting store
        ∙ (λ i. along-early pre 0 Waiting store (omega arith) i ++ along (inside a b) (place i) z.next z.store s)

    -- from behind the tilde that follows pre
    open_told : (pre c rest : List ℕ) → a ≡ suc (length pre) → Plain c → length c ≤ 4110
        → Behind (length pre) c rest [] (along (inside a b) 0 Waiting store (pre ++ SOI ∷ (c ++ rest)))
    open_told pre c rest q h l =
        let z = after Waiting store pre in
        let o = step z.next z.store SOI in
        let g = opened (length pre) z.next z.store (after-fits pre Waiting store (room, omega arith)) c rest h l in
        record {
          next = g.next;
          store = g.store;
          fits = g.fits;
          holding = g.holding;
          is =
              from-fresh pre (SOI ∷ (c ++ rest)) (omega arith)
              ∙ g.is
              ∙ ap (λ (l : List (ℕ × Told)). l ++ along (inside a b) (suc (length pre) + length c) g.next g.store rest) (early (suc (length pre)) o.told o.store (omega arith));
        }

    -- the byte behind the characters tells something
    first-told : (pre c : List ℕ) (v : ℕ) (rest : List ℕ) (at : ℕ) → a ≡ suc (length pre) → suc (length pre) + length c ≡ at → at ≤ b → Plain c → length c ≤ 4110
        → (t : Told) → ((r : Receiver) (store : List ℕ) → Fits r store → held r store ≡ Some c → (step r store v).told ≡ t) → is_nothing t ≡ false
        → (es : List (ℕ × Told)) × (along (inside a b) 0 Waiting store (pre ++ SOI ∷ (c ++ v ∷ rest)) ≡ (at, t) ∷ es)
    first-told pre c v rest at p q o h l t tells s =
        let g = open_told pre c (v ∷ rest) p h l in
        let z = step g.next g.store v in (
          along (inside a b) (suc at) z.next z.store rest,
          g.is
              ∙ ap (λ (n : ℕ). along (inside a b) n g.next g.store (v ∷ rest)) q
              ∙ next-told at g.next g.store v rest t (tells g.next g.store g.fits g.holding) s (omega arith) o,
        )

    judged-told : (pre c post : List ℕ) → a ≡ suc (length pre) → b ≡ length pre + suc (length c) → Plain c → length c ≤ 4110 → (t : Told) → judge c ≡ t → is_nothing t ≡ false
        → along (inside a b) 0 Waiting store (wire pre c post) ≡ (b, t) ∷ []
    unfolding wire
    judged-told pre c post p q h l t e s =
        let g = open_told pre c (CR ∷ post) p h l in
        let heard = step-cr g.next g.store c g.fits g.holding in
        g.is ∙ last-told (suc (length pre) + length c) g.next g.store CR post t (ap (λ (z : After). z.told) heard ∙ e) s (omega arith) (omega arith)

    -- the CR twice
    judged-once : (pre c post : List ℕ) (at : ℕ) → a ≡ suc (length pre) → suc (length pre) + length c ≡ at → suc at ≡ b → Plain c → length c ≤ 4110
        → (t : Told) → judge c ≡ t → is_nothing t ≡ false → along (inside a b) 0 Waiting store (wire pre c (CR ∷ post)) ≡ (at, t) ∷ []
    unfolding wire
    judged-once pre c post at p q o h l t e s =
        let g = open_told pre c (CR ∷ CR ∷ post) p h l in
        let heard = step-cr g.next g.store c g.fits g.holding ∙ ap (gives Waiting g.store) e in
        g.is
        ∙ ap (λ (n : ℕ). along (inside a b) n g.next g.store (CR ∷ CR ∷ post)) q
        ∙ then-cr at g.next g.store CR post t g.fits.0 heard s (omega arith) o

    -- one character more than there is room for
    more-told : (pre c : List ℕ) (v : ℕ) (post : List ℕ) (at : ℕ) → a ≡ suc (length pre) → suc (length pre) + length c ≡ at → suc at ≡ b → Plain c → kind v ≡ other → length c ≡ 4110
        → along (inside a b) 0 Waiting store (wire pre (c ++ v ∷ []) post) ≡ (at, refused 1) ∷ []
    unfolding wire
    more-told pre c v post at p q o h k l =
        let g = open_told pre c (v ∷ CR ∷ post) p h (omega arith) in
        let heard = hears-more v k g.next g.store c g.fits g.holding l in
        ap (λ (s : List ℕ). along (inside a b) 0 Waiting store (pre ++ SOI ∷ s)) (append_snoc c v (CR ∷ post))
        ∙ g.is
        ∙ ap (λ (n : ℕ). along (inside a b) n g.next g.store (v ∷ CR ∷ post)) q
        ∙ then-cr at g.next g.store v post (refused 1) g.fits.0 heard refl (omega arith) o

    -- a tilde instead of the CR
    again-told : (pre c rest : List ℕ) → a ≡ suc (length pre) → b ≡ length pre + suc (length c) → Plain c → length c ≤ 4110
        → along (inside a b) 0 Waiting store (pre ++ SOI ∷ (c ++ SOI ∷ rest)) ≡ (b, refused 2) ∷ []
    again-told pre c rest p q h l =
        let g = open_told pre c (SOI ∷ rest) p h l in
        let heard = hears-soi g.next g.store c g.fits g.holding in
        g.is ∙ last-told (suc (length pre) + length c) g.next g.store SOI rest (refused 2) (ap (λ (z : After). z.told) heard) refl (omega arith) (omega arith)

    -- the tilde twice
    twice-told : (pre c post : List ℕ) → a ≡ suc (length pre) → b ≡ length pre + suc (suc (length c)) → Plain c → length c ≤ 4110 → (t : Told) → judge c ≡ t → is_nothing t ≡ false
        → along (inside a b) 0 Waiting store (wire (pre ++ SOI ∷ []) c post) ≡ (a, refused 2) ∷ (b, t) ∷ []
    unfolding wire after
    twice-told pre c post p q h l t e s =
        let before = pre ++ SOI ∷ [] in
        let size : length before ≡ a = length-append pre (SOI ∷ []) ∙ omega arith in
        let z = after Waiting store before in
        let f = after-fits before Waiting store (room, omega arith) in
        let g = opened (length before) z.next z.store f c (CR ∷ post) h l in
        let opens : holds z ≡ Some [] =
        ap holds (after-join pre (SOI ∷ []) Waiting store) ∙ step-soi (after Waiting store pre).next (after Waiting store pre).store (after-fits pre Waiting store (room, omega arith)) in
        let again = hears-soi z.next z.store [] f opens in
        let heard = step-cr g.next g.store c g.fits g.holding in
        from-fresh before (SOI ∷ (c ++ CR ∷ post)) (omega (arith, size))
        ∙ g.is
        ∙ (λ i. (ap (λ (w : After). inside a b (suc (length before)) w.told w.store) again ∙ there (length before) (refused 2) z.store refl (omega (arith, size)) (omega (arith, size)) ∙ ap (λ (n : ℕ). (n, refused 2) ∷ []) size) i
        ++ last-told (suc (length before) + length c) g.next g.store CR post t (ap (λ (w : After). w.told) heard ∙ e) s (omega (arith, size)) (omega (arith, size)) i)

-- ---- a stretch of a stream, damaged

module _ (s : List ℕ) (i j : ℕ) (h : Header) (n : ℕ) (f : Stretch s i j h n) where
  before-it : length (take i s) ≡ i
  before-it = length-take-le i s (omega (arith, f.order, long s i j h n f))

  few : n ≤ 4094
  few = omega (arith, f.frame.2, f.frame.1.short)

  even : n % 2 ≡ 0
  even = omega (arith, f.frame.2)

  hexy : Hexy (slice (suc i) j s)
  hexy = hexy-frame h n (slice (suc i) j s) f.frame

  judged : judge (slice (suc i) j s) ≡ frame h n
  judged = (judge-accepts (slice (suc i) j s) h n).1 f.frame

  soi-twice : doubled i s ≡ wire (take i s ++ SOI ∷ []) (slice (suc i) j s) (drop (suc j) s)
  unfolding wire
  soi-twice =
      doubled-at s i (omega (arith, f.order, long s i j h n f))
      ∙ (λ t. take i s ++ f.opens t ∷ f.opens t ∷ left s i j h n f (suc i) f.order t)
      ∙ sym (append_snoc (take i s) SOI (SOI ∷ (slice (suc i) j s ++ CR ∷ drop (suc j) s)))

  cr-twice : doubled j s ≡ wire (take i s) (slice (suc i) j s) (CR ∷ drop (suc j) s)
  unfolding wire
  cr-twice =
      doubled-at s j (long s i j h n f)
      ∙ (λ t. cut-stretch s i j h n f t ++ f.closes t ∷ f.closes t ∷ drop (suc j) s)
      ∙ append_assoc (take i s) (SOI ∷ slice (suc i) j s) (CR ∷ CR ∷ drop (suc j) s)

  -- what stands before a place k of it
  module _ (k : ℕ) (behind : i < k) (before : k ≤ j) where
    first-size : length (slice (suc i) k s) ≡ k - suc i
    first-size = length-slice (suc i) k s (omega (arith, long s i j h n f))

    first-hexy : Hexy (slice (suc i) k s)
    first-hexy =
        let t = drop k (take j s) in
        let l = length-take-le k s (omega (arith, long s i j h n f)) in
        let parts : slice (suc i) j s ≡ slice (suc i) k s ++ t =
        ap (drop (suc i)) (sym (take-append-drop k (take j s)) ∙ ap (λ (z : List ℕ). z ++ t) (take-take k j s before)) ∙ drop-append-le (suc i) (take k s) t (omega arith) in
        (hexy-cut (slice (suc i) k s) t (subst Hexy parts hexy)).0

    cut_short : (rest : List ℕ) → take k s ++ rest ≡ take i s ++ SOI ∷ (slice (suc i) k s ++ rest)
    cut_short rest =
        ap (λ (z : List ℕ). z ++ rest) (cut s i k behind (omega (arith, long s i j h n f)) f.opens) ∙ append_assoc (take i s) (SOI ∷ slice (suc i) k s) rest

    cut-cr : (rest : List ℕ) → take k s ++ CR ∷ rest ≡ wire (take i s) (slice (suc i) k s) rest
    unfolding wire
    cut-cr rest = cut_short (CR ∷ rest)

  -- a character of it
  module _ (k : ℕ) (behind : i < k) (before : k < j) where
    parts : (Hexy (slice (suc i) k s) × Hexy (get_or s k 0 ∷ slice (suc k) j s)) × (length (slice (suc i) k s) + suc (length (slice (suc k) j s)) ≡ 16 + n)
    parts =
        let u = slice (suc i) k s in
        let v = get_or s k 0 ∷ slice (suc k) j s in
        let e = parted s i j h n f k behind before in
        (hexy-cut u v (subst Hexy e hexy), omega (arith, size s i j h n f, ap length e, length-append u v))

    -- without it
    without : List ℕ
    without = slice (suc i) k s ++ slice (suc k) j s

    without_is : Hexy without × (length without ≡ 15 + n) × (lost k s ≡ wire (take i s) without (drop (suc j) s))
    unfolding without
    without_is =
        let u = slice (suc i) k s in
        let v = slice (suc k) j s in
        (hexy-join u v parts.0.0 parts.0.1.1, omega (arith, parts.1, length-append u v), within s i j h n f k behind before [])

    -- with it twice
    twice : List ℕ
    twice = slice (suc i) k s ++ get_or s k 0 ∷ get_or s k 0 ∷ slice (suc k) j s

    twice-is : Hexy twice × (length twice ≡ 17 + n) × (doubled k s ≡ wire (take i s) twice (drop (suc j) s))
    unfolding twice
    twice-is =
        let a = get_or s k 0 in
        let u = slice (suc i) k s in
        let v = slice (suc k) j s in (
          hexy-join u (a ∷ a ∷ v) parts.0.0 (parts.0.1.0, parts.0.1),
          omega (arith, parts.1, length-append u (a ∷ a ∷ v)),
          doubled-at s k (omega (arith, long s i j h n f)) ∙ within s i j h n f k behind before (a ∷ a ∷ []),
        )

-- one character fewer than a frame has: too few for any, or an odd number
one_fewer : (c : List ℕ) (n : ℕ) → Hexy c → length c ≡ 15 + n → n ≤ 4094 → n % 2 ≡ 0 → (k : ℕ) × Among k (cond (eqb n 0) (3 ∷ []) (5 ∷ 6 ∷ 7 ∷ [])) × (judge c ≡ refused k)
one_fewer c n h l few even =
    elim (ℕ_discrete n 0) [
      | yes e ↦ rw (eq-eqb n 0 e) (3, Among.head refl, short-refused c (omega arith))
      | no e ↦ rw (ne_eqb n 0 e) (odd_refused c h (omega arith) (omega arith) (omega arith))
    ]

-- the last of some characters, and those before it
last_of : (c : List ℕ) (n : ℕ) → length c ≡ suc n → Hexy c → (d : List ℕ) × (v : ℕ) × (c ≡ d ++ v ∷ []) × (length d ≡ n) × Hexy d × (said v < 16)
last_of c n l h =
    let d = take n c in
    let v = get_or c n 0 in
    let e : c ≡ d ++ v ∷ [] = split_at c n 0 (omega arith) ∙ ap (λ (z : List ℕ). d ++ v ∷ z) (ap (λ (m : ℕ). drop m c) (sym l) ∙ drop-length c) in
    let g = hexy-cut d (v ∷ []) (subst Hexy e h) in
    (d, v, e, length-take-le n c (omega arith), g.0, g.1.0)

-- ---- over calls, of a caller whose calls take bytes as stepping does

module _ (caller : Caller)
    (takes : (a b : ℕ) (r : Receiver) (store stream : List ℕ) (c : caller.Call) → Fits r store → Can (caller.asked c) stream → caller.Keeps r store stream c
    → Took (inside a b) (silent a b) r store stream (caller.leaves c)) where
  -- what stands behind those places does not matter
  pub told_in_lem : (store : List ℕ) → 4110 ≤ length store → (a b : ℕ) (s : List ℕ) (cs : List caller.Call) → Calls caller Waiting store s cs → suc b ≤ taken caller cs
      → told_in a b caller cs ≡ along (inside a b) 0 Waiting store s
  told_in_lem store room a b s cs calls l =
      let m = taken caller cs in
      let k = any-cutting (inside a b) (silent a b) caller (takes a b) cs 0 Waiting store s (room, omega arith) calls in
      let z = after Waiting store (take m s) in
      let first = along (inside a b) 0 Waiting store (take m s) in
      k.1
      ∙ sym
      (ap (along (inside a b) 0 Waiting store) (sym (take-append-drop m s))
      ∙ along-join (inside a b) (silent a b) (take m s) (drop m s) 0 Waiting store
      ∙ ap (λ (l : List (ℕ × Told)). first ++ l) (along-late a b (drop m s) (0 + length (take m s)) z.next z.store (omega (arith, length-take-le m s k.0)))
      ∙ append-nil first)

  pub told_of_lem : (store : List ℕ) → 4110 ≤ length store → ToldOf caller store
  told_of_lem store room =
      record {
        changed_told = λ s i j h n f k b l r ne cs calls m.
            let e = changed s i j h n f k l r b ne (kind b) refl in
            (e.0, e.1, e.2, e.3, told_in_lem store room (suc i) j (set s k b) cs calls m ∙ e.4);
        bad_told = λ s i j h n f k b l r odd ns nc cs calls m.
            told_in_lem store room (suc i) j (set s k b) cs calls m ∙ bad s i j h n f k l r b (is-other b ns nc) odd;
        lost_told = λ s i j h n f k l r cs calls m.
            let v = without s i j h n f k l r in
            let w = without_is s i j h n f k l r in
            let p = span s i j h n f in
            let t = few s i j h n f in
            let o = one_fewer v n w.0 w.1 t (even s i j h n f) in
            let q = before-it s i j h n f in (
              o.0,
              o.1,
              told_in_lem store room (suc i) (j - 1) (lost k s) cs calls (omega (arith, p))
                  ∙ ap (along (inside (suc i) (j - 1)) 0 Waiting store) w.2
                  ∙ judged-told (suc i) (j - 1) store room (take i s) v (drop (suc j) s) (omega (arith, q)) (omega (arith, q, p, w.1)) (hexy-plain v w.0) (omega (arith, w.1)) (refused o.0) o.2 refl,
            );
        doubled_told = λ s i j h n f short k l r cs calls m.
            let v = twice s i j h n f k l r in
            let w = twice-is s i j h n f k l r in
            let p = span s i j h n f in
            let o = odd_refused v w.0 (omega (arith, w.1)) (omega (arith, w.1)) (omega (arith, w.1, even s i j h n f)) in
            let q = before-it s i j h n f in (
              o.0,
              o.1,
              told_in_lem store room (suc i) (suc j) (doubled k s) cs calls m
                  ∙ ap (along (inside (suc i) (suc j)) 0 Waiting store) w.2
                  ∙ judged-told (suc i) (suc j) store room (take i s) v (drop (suc j) s) (omega (arith, q)) (omega (arith, q, p, w.1)) (hexy-plain v w.0) (omega (arith, w.1)) (refused o.0) o.2 refl,
            );
        longest_doubled = λ s i j h f k l r cs calls m.
            let v = twice s i j h 4094 f k l r in
            let w = twice-is s i j h 4094 f k l r in
            let p = span s i j h 4094 f in
            let o = last_of v 4110 w.1 w.0 in
            let q = before-it s i j h 4094 f in
            told_in_lem store room (suc i) (suc j) (doubled k s) cs calls m
            ∙ ap (along (inside (suc i) (suc j)) 0 Waiting store) (w.2 ∙ ap (λ (c : List ℕ). wire (take i s) c (drop (suc j) s)) o.2)
            ∙ more-told (suc i) (suc j) store room (take i s) o.0 o.1 (drop (suc j) s) j (omega (arith, q)) (omega (arith, q, p, o.3)) refl (hexy-plain o.0 o.4) (kind-hex o.1 o.5) o.3;
        doubled_soi = λ s i j h n f cs calls m.
            let c = slice (suc i) j s in
            let z = size s i j h n f in
            let p = span s i j h n f in
            let q = before-it s i j h n f in
            told_in_lem store room (suc i) (suc j) (doubled i s) cs calls m
            ∙ ap (along (inside (suc i) (suc j)) 0 Waiting store) (soi-twice s i j h n f)
            ∙ twice-told (suc i) (suc j) store room (take i s) c (drop (suc j) s) (omega (arith, q)) (omega (arith, q, p, z)) (hexy-plain c (hexy s i j h n f)) (omega (arith, z, few s i j h n f)) (frame h n) (judged s i j h n f) refl;
        doubled_cr = λ s i j h n f cs calls m.
            let c = slice (suc i) j s in
            let z = size s i j h n f in
            let p = span s i j h n f in
            let q = before-it s i j h n f in
            told_in_lem store room (suc i) (suc j) (doubled j s) cs calls m
            ∙ ap (along (inside (suc i) (suc j)) 0 Waiting store) (cr-twice s i j h n f)
            ∙ judged-once (suc i) (suc j) store room (take i s) c (drop (suc j) s) j (omega (arith, q)) (omega (arith, q, p, z)) refl (hexy-plain c (hexy s i j h n f)) (omega (arith, z, few s i j h n f)) (frame h n) (judged s i j h n f) refl;
        cut_off = λ s i j h n f k l r rest cs calls m.
            let p = span s i j h n f in
            let q = before-it s i j h n f in
            let z = first-size s i j h n f k l r in
            told_in_lem store room (suc i) k (take k s ++ SOI ∷ rest) cs calls m
            ∙ ap (along (inside (suc i) k) 0 Waiting store) (cut_short s i j h n f k l r (SOI ∷ rest))
            ∙ again-told (suc i) k store room (take i s) (slice (suc i) k s) rest (omega (arith, q)) (omega (arith, q, z)) (hexy-plain (slice (suc i) k s) (first-hexy s i j h n f k l r)) (omega (arith, z, p, few s i j h n f));
        cut_closed = λ s i j h n f k l r rest cs calls m.
            let c = slice (suc i) k s in
            let b : k ≤ j = omega arith in
            let p = span s i j h n f in
            let q = before-it s i j h n f in
            let z = first-size s i j h n f k l b in
            let e = prefix-refused c (get_or s k 0) (slice (suc k) j s) (whole s i j h n f k l r) ∙ ap (λ (size : ℕ). refused (cond (ltb size 16) 3 7)) z in
            told_in_lem store room (suc i) k (take k s ++ CR ∷ rest) cs calls m
            ∙ ap (along (inside (suc i) k) 0 Waiting store) (cut-cr s i j h n f k l b rest)
            ∙ judged-told (suc i) k store room (take i s) c rest (omega (arith, q)) (omega (arith, q, z)) (hexy-plain c (first-hexy s i j h n f k l b)) (omega (arith, z, p, few s i j h n f)) (refused (cond (ltb (k - suc i) 16) 3 7)) e refl;
        exchanged_told = λ s i j h n f k l r out ne cs calls m.
            let c = X.x s i j h n f k l r ++ X.b s i j h n f k l r ∷ X.a s i j h n f k l r ∷ X.y s i j h n f k l r in
            let p = X.sizes s i j h n f k l r in
            let q = before-it s i j h n f in
            let o = hex-refused c (omega (arith, p)) (omega (arith, p, few s i j h n f)) (X.not-whole s i j h n f k l r out ne) (X.now-hexy s i j h n f k l r) in (
              o.0,
              o.1,
              told_in_lem store room (suc i) j (exchanged k s) cs calls m
                  ∙ ap (along (inside (suc i) j) 0 Waiting store) (X.now s i j h n f k l r)
                  ∙ judged-told (suc i) j store room (take i s) c (drop (suc j) s) (omega (arith, q)) (omega (arith, q, p)) (hexy-plain c (X.now-hexy s i j h n f k l r)) (omega (arith, p, few s i j h n f)) (refused o.0) o.2 refl,
            );
      }
    where
      -- what is told first, where the character at k becomes b
      First : List ℕ → ℕ → ℕ → ℕ → ℕ → Type 0
      First s i j k b = (p : ℕ) × (t : Told) × (is_refusal t ≡ true) × (es : List (ℕ × Told)) × (along (inside (suc i) j) 0 Waiting store (set s k b) ≡ (p, t) ∷ es)

      changed-size : (s : List ℕ) (i j : ℕ) (h : Header) (n : ℕ) (f : Stretch s i j h n) (k : ℕ) (l : i < k) (r : k < j) (b : ℕ) → length (slice (suc i) k s ++ b ∷ slice (suc k) j s) ≡ 16 + n
      changed-size s i j h n f k l r b = omega (arith, (parts s i j h n f k l r).1, length-append (slice (suc i) k s) (b ∷ slice (suc k) j s))

      -- a character that became a byte v at which the others are refused
      at_once : (s : List ℕ) (i j : ℕ) (h : Header) (n : ℕ) (f : Stretch s i j h n) (k : ℕ) (l : i < k) (r : k < j) (b v : ℕ) → b ≡ v → (t : ℕ)
          → ((o : Receiver) (store : List ℕ) → Fits o store → held o store ≡ Some (slice (suc i) k s) → (step o store v).told ≡ refused t)
          → First s i j k b
      at_once s i j h n f k l r b v e t tells =
          let c = slice (suc i) k s in
          let rest = drop (suc k) s in
          let q = before-it s i j h n f in
          let z = first-size s i j h n f k l (omega arith) in
          let g = first-told (suc i) j store room (take i s) c v rest k (omega (arith, q)) (omega (arith, q, z)) (omega arith) (hexy-plain c (first-hexy s i j h n f k l (omega arith)))
          (omega (arith, z, span s i j h n f, few s i j h n f)) (refused t) tells refl in
          let is : set s k b ≡ take i s ++ SOI ∷ (c ++ v ∷ rest) =
          set_split s k b (omega (arith, long s i j h n f)) ∙ ap (λ (w : ℕ). take k s ++ w ∷ rest) e ∙ cut_short s i j h n f k l (omega arith) (v ∷ rest) in
          (k, refused t, refl, g.0, ap (along (inside (suc i) j) 0 Waiting store) is ∙ g.1)

      -- any other: the characters are judged at the CR
      at-cr : (s : List ℕ) (i j : ℕ) (h : Header) (n : ℕ) (f : Stretch s i j h n) (k : ℕ) (l : i < k) (r : k < j) (b : ℕ) → kind b ≡ other → (t : Told)
          → judge (slice (suc i) k s ++ b ∷ slice (suc k) j s) ≡ t → is_nothing t ≡ false → along (inside (suc i) j) 0 Waiting store (set s k b) ≡ (j, t) ∷ []
      at-cr s i j h n f k l r b e t is loud =
          let u = slice (suc i) k s in
          let v = slice (suc k) j s in
          let c = u ++ b ∷ v in
          let p = parts s i j h n f k l r in
          let q = before-it s i j h n f in
          let size = changed-size s i j h n f k l r b in
          ap (along (inside (suc i) j) 0 Waiting store) (set_split s k b (omega (arith, long s i j h n f)) ∙ within s i j h n f k l r (b ∷ []))
          ∙ judged-told (suc i) j store room (take i s) c (drop (suc j) s) (omega (arith, q)) (omega (arith, q, size, span s i j h n f)) (plain-join u (b ∷ v) (hexy-plain u p.0.0) (e, hexy-plain v p.0.1.1)) (omega (arith, size, few s i j h n f)) t is loud

      -- it isn't hex
      bad : (s : List ℕ) (i j : ℕ) (h : Header) (n : ℕ) (f : Stretch s i j h n) (k : ℕ) (l : i < k) (r : k < j) (b : ℕ) → kind b ≡ other → is_hex b ≡ false
          → along (inside (suc i) j) 0 Waiting store (set s k b) ≡ (j, refused_at (bad_number b) (k - suc i)) ∷ []
      bad s i j h n f k l r b e odd =
          let u = slice (suc i) k s in
          let size = changed-size s i j h n f k l r b in
          let at = first-size s i j h n f k l (omega arith) in
          at-cr s i j h n f k l r b e (refused_at (bad_number b) (k - suc i))
          (bad-refused u b (slice (suc k) j s) (parts s i j h n f k l r).0.0 odd (omega (arith, size)) (omega (arith, size, few s i j h n f)) ∙ ap (refused_at (bad_number b)) at) refl

      -- a tilde, a CR, or any other
      changed : (s : List ℕ) (i j : ℕ) (h : Header) (n : ℕ) (f : Stretch s i j h n) (k : ℕ) (l : i < k) (r : k < j) (b : ℕ) → b ≢ get_or s k 0 → (of : Kind) → kind b ≡ of → First s i j k b
      changed s i j h n f k l r b ne soi e = at_once s i j h n f k l r b SOI (kind-soi b e) 2 (λ o t g q. ap (λ (z : After). z.told) (hears-soi o t (slice (suc i) k s) g q))
      changed s i j h n f k l r b ne cr e =
          let c = slice (suc i) k s in
          at_once s i j h n f k l r b CR (kind-cr b e) (cond (ltb (length c) 16) 3 7)
          (λ o t g q. ap (λ (z : After). z.told) (step-cr o t c g q) ∙ prefix-refused c (get_or s k 0) (slice (suc k) j s) (whole s i j h n f k l r))
      changed s i j h n f k l r b ne other e = go (is_hex b) refl
        where
          go : (hex : Bool) → is_hex b ≡ hex → First s i j k b
          go false odd = (j, refused_at (bad_number b) (k - suc i), refl, [], bad s i j h n f k l r b e odd)
          go true is =
              let u = slice (suc i) k s in
              let v = slice (suc k) j s in
              let p = parts s i j h n f k l r in
              let size = changed-size s i j h n f k l r b in
              let hexy = hexy-join u (b ∷ v) p.0.0 (hex-said b (subst T (sym is) tt), p.0.1.1) in
              let o = hex-refused (u ++ b ∷ v) (omega (arith, size)) (omega (arith, size, few s i j h n f)) (λ w. ne (sym (whole-one-place u (get_or s k 0) b v (whole s i j h n f k l r) w))) hexy in
              (j, refused o.0, refl, [], at-cr s i j h n f k l r b e (refused o.0) o.2 refl)

pub damage-told : (store : List ℕ) → 4110 ≤ length store → ToldOf here store
damage-told = told_of_lem here (λ a b. took-call (inside a b) (silent a b))
