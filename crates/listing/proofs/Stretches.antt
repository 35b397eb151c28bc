-- The blocks by places: at each byte the block of what is told there, with the last SOI before it; the receiver's laws say which of them are frames.
use Rattle.std.proofs.Common.{◌≡◌, ℕ, zero, suc, ◌+◌, ◌-◌, ◌<◌, ◌≤◌, ltb, ◌≢◌, ◌⊎◌, List, [], ◌∷◌, ◌++◌, length, get_or, take, replicate, sym, refl, ap, ◌∙◌, subst, inl, inr, append_assoc, append-nil, arith, length-append, length-take-le, get_or-drop, get_or-take, take-suc, get_or-append-add}
use mathlib.Core.List.Memᴰ
use mathlib.Core.List.{Memᴰ as Among}
use native.Mathlib.Decide.{dec_lt}
use lib.ListN.{length-replicate, get_or-append}
use lib.Seq.{take-length, slice, length-slice, get_or-append_seam, append_snoc}
use Rattle.buffer.proofs.Lists.{by_cond}
use Rattle.hex_chars.proofs.Laws.{said, Hexy}
use Rattle.frame.specs.declared.Header.{Header}
use Rattle.frame.specs.Frame.{SOI}
use Rattle.frame.specs.Judge.{Told, nothing, frame, refused, refused_at, judge}
use Rattle.receiver.specs.declared.Receiver.{Receiver}
use Rattle.receiver.specs.declared.Receiver.TheVariants.{Waiting, Open}
use Rattle.receiver.specs.Step.{Kind, soi, cr, other, kind, After, step_by, step}
use Rattle.receiver.specs.Pass.{Fits}
use Rattle.receiver.specs.Stream.{after, told_after, told_at, store_at, Stretch}
use Rattle.receiver.specs.Place.{BadStretch}
use Rattle.receiver.proofs.Rows.{is-soi, step-within}
use Rattle.receiver.proofs.Receive.{kind-soi, after-fits}
use Rattle.receiver.proofs.Streams.{hexy-frame, in_range, cut, cut-stretch, exactly, store_then, info-in-store}
use Rattle.receiver.proofs.Places.{told-bad}
use Rattle.texts.specs.Block.{Block, frame_block, refusal_block, placed_block, block_of, printed}
use Rattle.listing.specs.Stream.{last_soi, blocks_from, blocks_of, listing_of}
use Rattle.listing.specs.Stretches.{Opened, Right, Rising, Tells}
use Rattle.listing.specs.Piece.{fresh, left, closing}
use Rattle.listing.specs.Calls.{Given, text, calls}
use Rattle.listing.proofs.Streams.{fits-step}
use Rattle.listing.proofs.Calls.{any-calls}

-- ---- the last SOI

last_from : ℕ → ℕ → List ℕ → ℕ
last_from last offset [] = last
last_from last offset (b ∷ bs) = last_from (last_soi (kind b) offset last) (suc offset) bs

abbrev NoSoi : List ℕ → Type 0
NoSoi c = (k : ℕ) → k < length c → get_or c k 0 ≢ SOI

-- a byte that is no SOI leaves the last one
passes : (k : Kind) (b offset last : ℕ) → kind b ≡ k → b ≢ SOI → last_soi k offset last ≡ last
passes soi b offset last e n = absurd (n (kind-soi b e))
passes cr b offset last e n = refl
passes other b offset last e n = refl

last-stays : (c : List ℕ) (last offset : ℕ) → NoSoi c → last_from last offset c ≡ last
unfolding last_from
last-stays [] last offset n = refl
last-stays (b ∷ c) last offset n =
    ap (λ (x : ℕ). last_from x (suc offset) c) (passes (kind b) b offset last refl (n 0 (omega arith)))
    ∙ last-stays c last (suc offset) (λ k h. n (suc k) (omega arith))

last-at : (q c : List ℕ) (last offset : ℕ) → NoSoi c → last_from last offset (q ++ SOI ∷ c) ≡ offset + length q
unfolding last_from
last-at [] c last offset n =
    ap (λ (k : Kind). last_from (last_soi k offset last) (suc offset) c) (is-soi SOI refl) ∙ last-stays c offset (suc offset) n ∙ (let e : offset ≡ offset + 0 = omega arith in e)
last-at (b ∷ q) c last offset n = last-at q c (last_soi (kind b) offset last) (suc offset) n ∙ (let e : suc offset + length q ≡ offset + suc (length q) = omega arith in e)

hexy-none : (c : List ℕ) → Hexy c → NoSoi c
unfolding said
hexy-none [] h k l e = omega arith
hexy-none (b ∷ c) h zero l e = omega (arith, h.0, ap said e)
hexy-none (b ∷ c) h (suc k) l e = hexy-none c h.1 k (omega arith) e

-- an opened stretch begins at the last SOI
last-opened : (s : List ℕ) (i j : ℕ) → j ≤ length s → Opened s i j → last_from 0 0 (take j s) ≡ i
last-opened s i j inside o =
    let none : NoSoi (slice (suc i) j s) =
    λ k h e. o.last (suc i + k) (omega arith) (omega (arith, length-slice (suc i) j s inside))
    (sym (get_or-take j s (suc i + k) 0 (omega (arith, length-slice (suc i) j s inside))) ∙ sym (get_or-drop (suc i) (take j s) k 0) ∙ e) in
    ap (last_from 0 0) (cut s i j o.order inside o.soi) ∙ last-at (take i s) (slice (suc i) j s) 0 0 none ∙ (omega (arith, length-take-le i s (omega (arith, o.order))))

last-stretch : (s : List ℕ) (i j : ℕ) (h : Header) (n : ℕ) → Stretch s i j h n → last_from 0 0 (take j s) ≡ i
last-stretch s i j h n f =
    ap (last_from 0 0) (cut-stretch s i j h n f)
    ∙ last-at (take i s) (slice (suc i) j s) 0 0 (hexy-none (slice (suc i) j s) (hexy-frame h n (slice (suc i) j s) f.frame))
    ∙ (omega (arith, length-take-le i s (omega (arith, f.order, in_range s j f.closes))))

last-bad : (s : List ℕ) (i j k p : ℕ) → BadStretch s i j k p → last_from 0 0 (take j s) ≡ i
last-bad s i j k p b =
    last-opened s i j (omega (arith, in_range s j b.closes)) (record { order = b.order; soi = b.opens; last = λ m l r. (b.between m l r).0 })

-- ---- an open receiver holds what came since an SOI

abbrev Since : List ℕ → Type 0
Since p = (q : List ℕ) × (c : List ℕ) × (p ≡ q ++ SOI ∷ c) × NoSoi c

abbrev OpenSince : Receiver → List ℕ → Type 0
OpenSince Waiting p = Unit {0}
OpenSince (Open n) p = Since p

since-more : (p : List ℕ) (b : ℕ) → b ≢ SOI → Since p → Since (p ++ b ∷ [])
since-more p b n (q, c, e, none) = (q, c ++ b ∷ [], ap (λ (x : List ℕ). x ++ b ∷ []) e ∙ append_assoc q (SOI ∷ c) (b ∷ []), still)
  where
    still : NoSoi (c ++ b ∷ [])
    still k h e =
        elim (dec_lt k (length c)) [
          | yes l ↦ none k l (sym (get_or-append c (b ∷ []) 0 k l) ∙ e)
          | no l ↦
              let same : k ≡ length c = omega (arith, length-append c (b ∷ [])) in
              n (sym (get_or-append_seam c b [] 0) ∙ ap (λ (x : ℕ). get_or (c ++ b ∷ []) x 0) (sym same) ∙ e)
        ]

since-by : (k : Kind) (r : Receiver) (store : List ℕ) (b : ℕ) (p : List ℕ) → kind b ≡ k → OpenSince r p → OpenSince (step_by k r store b).next (p ++ b ∷ [])
unfolding step_by
since-by soi Waiting store b p e o = (p, [], ap (λ (x : ℕ). p ++ x ∷ []) (kind-soi b e), λ k h. absurd (omega arith))
since-by cr Waiting store b p e o = tt
since-by other Waiting store b p e o = tt
since-by soi (Open n) store b p e o = (p, [], ap (λ (x : ℕ). p ++ x ∷ []) (kind-soi b e), λ k h. absurd (omega arith))
since-by cr (Open n) store b p e o = tt
since-by other (Open n) store b p e o =
    by_cond (λ (a : After). OpenSince a.next (p ++ b ∷ [])) (ltb n 4110) (λ t. since-more p b (λ s. cc (e, is-soi b s)) o) (λ t. tt)

since-after : (s : List ℕ) (r : Receiver) (store p : List ℕ) → Fits r store → OpenSince r p → OpenSince (after r store s).next (p ++ s)
unfolding after
since-after [] r store p f o = subst (OpenSince r) (sym (append-nil p)) o
since-after (b ∷ s) r store p f o =
    let a = step r store b in
    subst (OpenSince (after a.next a.store s).next) (append_snoc p b s)
    (since-after s a.next a.store (p ++ b ∷ []) (fits-step r store b f)
    (subst (λ (x : After). OpenSince x.next (p ++ b ∷ [])) (sym (step-within r store b f.0 f.1)) (since-by (kind b) r store b p refl o)))

-- only an open receiver refuses
refuses-open : (k : Kind) (r : Receiver) (store : List ℕ) (b n : ℕ) (p : List ℕ) → (step_by k r store b).told ≡ refused n → OpenSince r p → Since p
unfolding step_by
refuses-open soi Waiting store b n p e o = cc
refuses-open cr Waiting store b n p e o = cc
refuses-open other Waiting store b n p e o = cc
refuses-open k (Open m) store b n p e o = o

since-opened : (s : List ℕ) (k : ℕ) → k < length s → Since (take k s) → Opened s (last_from 0 0 (take k s)) k
since-opened s k inside (q, c, e, none) = subst (λ (i : ℕ). Opened s i k) (sym last) opened
  where
    last : last_from 0 0 (take k s) ≡ length q
    last = ap (last_from 0 0) e ∙ last-at q c 0 0 none ∙ (omega arith)

    lengths : k ≡ length q + suc (length c)
    lengths = omega (arith, length-take-le k s (omega arith), ap length e, length-append q (SOI ∷ c))

    here : (m : ℕ) → m < k → get_or s m 0 ≡ get_or (q ++ SOI ∷ c) m 0
    here m h = sym (get_or-take k s m 0 h) ∙ ap (λ (x : List ℕ). get_or x m 0) e

    opened : Opened s (length q) k
    opened =
        record {
          order = omega (arith, lengths);
          soi = here (length q) (omega (arith, lengths)) ∙ get_or-append_seam q SOI c 0;
          last = λ m a b t.
              let d : ℕ = m - suc (length q) in
              let split : m ≡ length q + suc d = omega arith in
              none d (omega (arith, lengths)) (sym (get_or-append-add q (SOI ∷ c) (suc d) 0) ∙ ap (λ (x : ℕ). get_or (q ++ SOI ∷ c) x 0) (sym split) ∙ sym (here m b) ∙ t);
        }

-- ---- the blocks by places

blocks-join : (s t : List ℕ) (r : Receiver) (store : List ℕ) (last offset : ℕ)
    → blocks_from r store last offset (s ++ t)
    ≡ blocks_from r store last offset s ++ blocks_from (after r store s).next (after r store s).store (last_from last offset s) (offset + length s) t
unfolding blocks_from after last_from
blocks-join [] t r store last offset = ap (λ (n : ℕ). blocks_from r store last n t) (let e : offset ≡ offset + 0 = omega arith in e)
blocks-join (b ∷ s) t r store last offset =
    let a = step r store b in
    let block = block_of last a.told a.store in
    let last' = last_soi (kind b) offset last in
    let before = blocks_from a.next a.store last' (suc offset) s in
    let z = after a.next a.store s in
    let place : suc offset + length s ≡ offset + suc (length s) = omega arith in
    ap (λ (x : List Block). block ++ x) (blocks-join s t a.next a.store last' (suc offset))
    ∙ sym (append_assoc block before (blocks_from z.next z.store (last_from last' (suc offset) s) (suc offset + length s) t))
    ∙ ap (λ (n : ℕ). block ++ before ++ blocks_from z.next z.store (last_from last' (suc offset) s) n t) place

abbrev zeros : List ℕ
zeros = replicate 4110 0

room : 4110 ≤ length zeros
room = omega (arith, length-replicate {A = ℕ} 4110 0)

abbrev block_at : List ℕ → ℕ → List Block
block_at s k = block_of (last_from 0 0 (take k s)) (told_at zeros s k) (store_at zeros s k)

blocks_at : (s : List ℕ) (n : ℕ) → n < length s → blocks_of (take (suc n) s) ≡ blocks_of (take n s) ++ block_at s n
unfolding blocks_of blocks_from told_at told_after
blocks_at s n h =
    let a = after Waiting zeros (take n s) in
    let z = step a.next a.store (get_or s n 0) in
    let last = last_from 0 0 (take n s) in
    let before = blocks_of (take n s) in
    ap blocks_of (take-suc s n 0 h)
    ∙ blocks-join (take n s) (get_or s n 0 ∷ []) Waiting zeros 0 0
    ∙ ap (λ (l : List Block). before ++ l) (append-nil (block_of last z.told z.store))
    ∙ ap (λ (x : List ℕ). before ++ block_of last z.told x) (sym (store_then zeros s n h))

only : (s : List ℕ) (n : ℕ) → n ≤ length s → (b : Block) → Among b (blocks_of (take n s)) → (k : ℕ) × (k < n) × Among b (block_at s k)
unfolding blocks_of blocks_from
only s zero h b m = absurd (Memᴰ.not-nil m)
only s (suc n) h b m = go (only s n (omega arith) b) (Memᴰ.append_cases (blocks_of (take n s)) (subst (Among b) (blocks_at s n (omega arith)) m))
  where
    go : (Among b (blocks_of (take n s)) → (k : ℕ) × (k < n) × Among b (block_at s k)) → Among b (blocks_of (take n s)) ⊎ Among b (block_at s n) → (k : ℕ) × (k < suc n) × Among b (block_at s k)
    go before (inl k) = let p = before k in (p.0, omega (arith, p.1), p.2)
    go before (inr k) = (n, omega arith, k)

all : (s : List ℕ) (n : ℕ) → n ≤ length s → (b : Block) (k : ℕ) → k < n → Among b (block_at s k) → Among b (blocks_of (take n s))
all s zero h b k l m = absurd (omega arith)
all s (suc n) h b k l m =
    subst (Among b) (sym (blocks_at s n (omega arith)))
    (elim (dec_lt k n) [
      | yes p ↦ Memᴰ.append_left (block_at s n) (all s n (omega arith) b k p m)
      | no p ↦ Memᴰ.append_right (blocks_of (take n s)) (let e : k ≡ n = omega arith in subst (λ (j : ℕ). Among b (block_at s j)) e m)
    ])

-- ---- the block at a byte is true, and a true block stands at its byte

module _ (s : List ℕ) where
  open_at : (k n : ℕ) → k < length s → told_at zeros s k ≡ refused n → Opened s (last_from 0 0 (take k s)) k
  unfolding told_at told_after
  open_at k n inside e =
      let a = after Waiting zeros (take k s) in
      let f = after-fits (take k s) Waiting zeros (room, omega arith) in
      since-opened s k inside
      (refuses-open (kind (get_or s k 0)) a.next a.store (get_or s k 0) n (take k s)
      (ap (λ (x : After). x.told) (sym (step-within a.next a.store (get_or s k 0) f.0 f.1)) ∙ e)
      (since-after (take k s) Waiting zeros [] (room, omega arith) tt))

  true-at : (k : ℕ) → k < length s → (b : Block) → Among b (block_at s k) → Right s b
  true-at k inside b m = go (told_at zeros s k) refl m
    where
      go : (t : Told) → told_at zeros s k ≡ t → Among b (block_of (last_from 0 0 (take k s)) t (store_at zeros s k)) → Right s b
      go nothing e m = absurd (Memᴰ.not-nil m)
      go (frame h n) e m =
          let f = (exactly zeros s k h n room).0 e in
          let g : Stretch s (last_from 0 0 (take k s)) k h n = subst (λ (i : ℕ). Stretch s i k h n) (sym (last-stretch s f.0 k h n f.1)) f.1 in
          subst (Right s) (sym (Memᴰ.eq_of_singleton m))
          (record { cr = k; lenid = n; stretch = g; is = info-in-store zeros s (last_from 0 0 (take k s)) k h n room g })
      go (refused n) e m =
          subst (Right s) (sym (Memᴰ.eq_of_singleton m)) (record { byte = k; inside = inside; told = e; opened = open_at k n inside e })
      go (refused_at n p) e m =
          let f = (told-bad zeros s room k n p inside).0 e in
          subst (Right s) (sym (Memᴰ.eq_of_singleton m)) (k, subst (λ (i : ℕ). BadStretch s i k n p) (sym (last-bad s f.0 k n p f.1)) f.1)

  there : (b : Block) → Right s b → Among b (blocks_of (take (length s) s))
  there (frame_block i h info) t =
      let k = t.cr in
      let n = t.lenid in
      let f = t.stretch in
      let told = (exactly zeros s k h n room).1 (i, f) in
      let same = t.is ∙ sym (info-in-store zeros s i k h n room f) in
      all s (length s) (omega arith) (frame_block i h info) k (in_range s k f.closes)
      (subst (λ (x : Told). Among (frame_block i h info) (block_of (last_from 0 0 (take k s)) x (store_at zeros s k))) (sym told)
      (Among.head (λ x. frame_block (sym (last-stretch s i k h n f) x) h (same x))))
  there (refusal_block i n) t =
      let k = t.byte in
      all s (length s) (omega arith) (refusal_block i n) k t.inside
      (subst (λ (x : Told). Among (refusal_block i n) (block_of (last_from 0 0 (take k s)) x (store_at zeros s k))) (sym t.told)
      (Among.head (λ x. refusal_block (sym (last-opened s i k (omega (arith, t.inside)) t.opened) x) n)))
  there (placed_block i n p) (k, b) =
      let inside = in_range s k b.closes in
      all s (length s) (omega arith) (placed_block i n p) k inside
      (subst (λ (x : Told). Among (placed_block i n p) (block_of (last_from 0 0 (take k s)) x (store_at zeros s k))) (sym ((told-bad zeros s room k n p inside).1 (i, b)))
      (Among.head (λ x. placed_block (sym (last-bad s i k n p b) x) n p)))

-- ---- in order

-- no stretch is opened before this place: that of an open receiver, or the next byte's
abbrev bound : Receiver → ℕ → ℕ → ℕ
bound Waiting last offset = offset
bound (Open n) last offset = last

abbrev Behind : Receiver → ℕ → ℕ → Type 0
Behind Waiting last offset = Unit {0}
Behind (Open n) last offset = last < offset

behind-by : (k : Kind) (r : Receiver) (store : List ℕ) (b last offset : ℕ) → Behind r last offset → Behind (step_by k r store b).next (last_soi k offset last) (suc offset)
unfolding step_by
behind-by soi Waiting store b last offset h = omega arith
behind-by cr Waiting store b last offset h = tt
behind-by other Waiting store b last offset h = tt
behind-by soi (Open n) store b last offset h = omega arith
behind-by cr (Open n) store b last offset h = tt
behind-by other (Open n) store b last offset h = by_cond (λ (a : After). Behind a.next last (suc offset)) (ltb n 4110) (λ t. omega (arith, h)) (λ t. tt)

rising-from : (m n : ℕ) (bs : List Block) → n ≤ m → Rising m bs → Rising n bs
unfolding Rising
rising-from m n [] h r = tt
rising-from m n (b ∷ bs) h r = (omega (arith, r.0), r.1)

rising-block : (t : Told) (store : List ℕ) (last m : ℕ) (bs : List Block) → last < m → Rising m bs → Rising last (block_of last t store ++ bs)
unfolding Rising
rising-block nothing store last m bs h r = rising-from m last bs (omega arith) r
rising-block (frame g n) store last m bs h r = (omega arith, rising-from m (suc last) bs h r)
rising-block (refused n) store last m bs h r = (omega arith, rising-from m (suc last) bs h r)
rising-block (refused_at n p) store last m bs h r = (omega arith, rising-from m (suc last) bs h r)

rising-by : (k : Kind) (r : Receiver) (store : List ℕ) (b last offset : ℕ) (bs : List Block) → Behind r last offset
    → Rising (bound (step_by k r store b).next (last_soi k offset last) (suc offset)) bs → Rising (bound r last offset) (block_of last (step_by k r store b).told (step_by k r store b).store ++ bs)
unfolding step_by
rising-by soi Waiting store b last offset bs h r = r
rising-by cr Waiting store b last offset bs h r = rising-from (suc offset) offset bs (omega arith) r
rising-by other Waiting store b last offset bs h r = rising-from (suc offset) offset bs (omega arith) r
rising-by soi (Open n) store b last offset bs h r = rising-block (refused 2) store last offset bs h r
rising-by cr (Open n) store b last offset bs h r = rising-block (judge (take n store)) store last (suc offset) bs (omega (arith, h)) r
rising-by other (Open n) store b last offset bs h r =
    by_cond (λ (a : After). Rising (bound a.next last (suc offset)) bs → Rising last (block_of last a.told a.store ++ bs)) (ltb n 4110)
    (λ t q. q) (λ t q. rising-block (refused 1) store last (suc offset) bs (omega (arith, h)) q) r

rising : (s : List ℕ) (r : Receiver) (store : List ℕ) (last offset : ℕ) → Fits r store → Behind r last offset → Rising (bound r last offset) (blocks_from r store last offset s)
unfolding blocks_from Rising
rising [] r store last offset f h = tt
rising (b ∷ s) r store last offset f h =
    rw (step-within r store b f.0 f.1)
    (let a = step_by (kind b) r store b in
    let last' = last_soi (kind b) offset last in
    rising-by (kind b) r store b last offset (blocks_from a.next a.store last' (suc offset) s) h
    (rising s a.next a.store last' (suc offset) (rw (step-within r store b f.0 f.1) at (fits-step r store b f)) (behind-by (kind b) r store b last offset h)))

-- ---- the theorem

-- the blocks of a stream tell it
pub tells : (s : List ℕ) → Tells s (blocks_of s)
unfolding blocks_of
tells s =
    record {
      exactly = λ b. (
        λ m. let p = only s (length s) (omega arith) b (subst (λ (x : List ℕ). Among b (blocks_of x)) (sym (take-length s)) m) in true-at s p.0 p.1 b p.2,
        λ t. subst (λ (x : List ℕ). Among b (blocks_of x)) (take-length s) (there s b t),
      );
      in_order = rising s Waiting zeros 0 0 (room, omega arith) tt;
    }

-- once nothing is left that may be read, the texts of any calls, and then that of `close`, are a listing that tells the first 1,073,741,824 bytes
pub any-calls-tell : (stream store : List ℕ) (gs : List Given) (out : List ℕ) → 4110 ≤ length store → 38 ≤ length out
    → let z = calls fresh store stream gs in
    take (left z.next) z.rest ≡ [] → (blocks : List Block) × Tells (take 1073741824 stream) blocks × (z.said ++ text (closing z.next out) ≡ printed blocks)
unfolding listing_of
any-calls-tell stream store gs out enough h none = (blocks_of (take 1073741824 stream), tells (take 1073741824 stream), any-calls stream store gs out enough h none)
