-- Demand 3: what calls hand out is what is told at each place, so the stretches; a damaged stretch shares no place with one that is handed out.
use Rattle.std.proofs.Common.{◌≡◌, refl, sym, ap, ◌∙◌, subst, ◌⊎◌, inl, inr, ◌↔◌, List, [], ◌∷◌, ◌++◌, append-nil, ℕ, zero, suc, ◌+◌, ◌-◌, ◌≤◌, ◌<◌, arith, length, get_or, take, drop, set, length-take, take-suc, take-take, length-take-le, get_or-take}
use mathlib.Core.List.Memᴰ
use mathlib.Core.List.{Memᴰ}
use Rattle.std.proofs.Math.Decide.{dec_lt}
use Rattle.std.proofs.Math.Seq.{take-length}
use Rattle.frame.specs.declared.Header.{Header}
use Rattle.frame.specs.Frame.{info_at, Frames}
use Rattle.frame.specs.Judge.{Told, nothing, frame, refused, refused_at}
use Rattle.receiver.specs.declared.Receiver.{Receiver}
use Rattle.receiver.specs.declared.Receiver.TheVariants.{Waiting}
use Rattle.receiver.specs.Step.{step}
use Rattle.receiver.specs.Pass.{Fits}
use Rattle.receiver.specs.Stream.{after, told_after, told_at, store_at, along, Stretch}
use Rattle.receiver.specs.Calls.{Asked, Can, Offers, Caller, Calls, taken, here}
use Rattle.receiver.specs.Demand.{Out, out, handed, Of, InOrder, NoneFrom, Demand3}
use Rattle.receiver.specs.Damage.{lost, doubled, LostOrDoubled}
use Rattle.receiver.proofs.Pieces.{along-join, Took, any-cutting, all_taken, took-call, moves}
use Rattle.receiver.proofs.There.{follows, any_call}
use Rattle.receiver.proofs.Streams.{in_range, exactly, store_then, info-in-store, one_changed, one_lost, one_doubled}

pub mute : (n : ℕ) (store : List ℕ) → out n nothing store ≡ []
mute n store = refl

-- the frame of the stretch that ends at place n
at : (n : ℕ) (h : Header) (m : ℕ) (store : List ℕ) → Out
at n h m store = record { header = h; lenid = m; info = info_at m store; cr = n }

out_at : (n : ℕ) (h : Header) (m : ℕ) (store : List ℕ) → out (suc n) (frame h m) store ≡ at n h m store ∷ []
unfolding at
out_at n h m store = ap (λ (j : ℕ). at j h m store ∷ []) (let e : suc n - 1 ≡ n = omega arith in e)

-- ---- in order

later : (n : ℕ) (os : List Out) → InOrder (suc n) os → InOrder n os
unfolding InOrder
later n [] h = tt
later n (o ∷ os) h = (omega (arith, h.0), h.1)

in_order : (s : List ℕ) (n : ℕ) (r : Receiver) (store : List ℕ) → InOrder n (along out n r store s)
unfolding InOrder along at
in_order [] n r store = tt
in_order (b ∷ s) n r store =
    let a = step r store b in
    go a.told a.store (along out (suc n) a.next a.store s) (in_order s (suc n) a.next a.store)
  where
    go : (t : Told) (store : List ℕ) (os : List Out) → InOrder (suc n) os → InOrder n (out (suc n) t store ++ os)
    go nothing store os h = later n os h
    go (frame g m) store os h = subst (λ (l : List Out). InOrder n (l ++ os)) (sym (out_at n g m store)) (omega arith, h)
    go (refused k) store os h = later n os h
    go (refused_at k p) store os h = later n os h

-- ---- exactly: by places

module _ (store s : List ℕ) (room : 4110 ≤ length store) where
  along-at : (n : ℕ) → n < length s → along out 0 Waiting store (take (suc n) s) ≡ along out 0 Waiting store (take n s) ++ out (suc n) (told_at store s n) (store_at store s n)
  unfolding along told_at told_after
  along-at n h =
      let a = after Waiting store (take n s) in
      let z = step a.next a.store (get_or s n 0) in
      let before = along out 0 Waiting store (take n s) in
      let place : 0 + length (take n s) ≡ n = omega (arith, length-take-le n s (omega arith)) in
      ap (along out 0 Waiting store) (take-suc s n 0 h)
      ∙ along-join out mute (take n s) (get_or s n 0 ∷ []) 0 Waiting store
      ∙ ap (λ (m : ℕ). before ++ (out (suc m) z.told z.store ++ [])) place
      ∙ ap (λ (l : List Out). before ++ l) (append-nil (out (suc n) z.told z.store))
      ∙ ap (λ (x : List ℕ). before ++ out (suc n) z.told x) (sym (store_then store s n h))

  only : (n : ℕ) → n ≤ length s → (o : Out) → Memᴰ o (along out 0 Waiting store (take n s)) → (i : ℕ) × Of s i o
  unfolding along at
  only zero h o m = absurd (Memᴰ.not-nil m)
  only (suc n) h o m =
      go (only n (omega arith) o) (Memᴰ.append_cases (along out 0 Waiting store (take n s)) (subst (Memᴰ o) (along-at n (omega arith)) m))
    where
      here : (t : Told) → told_at store s n ≡ t → Memᴰ o (out (suc n) t (store_at store s n)) → (i : ℕ) × Of s i o
      here nothing e k = absurd (Memᴰ.not-nil k)
      here (frame g l) e k =
          let f = (exactly store s n g l room).0 e in
          subst (λ (x : Out). (i : ℕ) × Of s i x) (sym (Memᴰ.eq_of_singleton (subst (Memᴰ o) (out_at n g l (store_at store s n)) k))) (f.0, record { stretch = f.1; info = info-in-store store s f.0 n g l room f.1 })
      here (refused x) e k = absurd (Memᴰ.not-nil k)
      here (refused_at x p) e k = absurd (Memᴰ.not-nil k)

      go : (Memᴰ o (along out 0 Waiting store (take n s)) → (i : ℕ) × Of s i o)
          → Memᴰ o (along out 0 Waiting store (take n s)) ⊎ Memᴰ o (out (suc n) (told_at store s n) (store_at store s n)) → (i : ℕ) × Of s i o
      go before (inl k) = before k
      go before (inr k) = here (told_at store s n) refl k

  all : (n : ℕ) → n ≤ length s → (o : Out) (i : ℕ) → Of s i o → o.cr < n → Memᴰ o (along out 0 Waiting store (take n s))
  unfolding at
  all zero h o i f l = absurd (omega arith)
  all (suc n) h o i f l =
      subst (Memᴰ o) (sym (along-at n (omega arith)))
      (elim (dec_lt o.cr n) [
        | yes m ↦ Memᴰ.append_left (out (suc n) (told_at store s n) (store_at store s n)) (all n (omega arith) o i f m)
        | no m ↦ Memᴰ.append_right (along out 0 Waiting store (take n s)) (here (omega arith))
      ])
    where
      here : o.cr ≡ n → Memᴰ o (out (suc n) (told_at store s n) (store_at store s n))
      here e =
          let j = o.cr in
          let same = (exactly store s j o.header o.lenid room).1 (i, f.stretch) in
          let info = f.info ∙ sym (info-in-store store s i j o.header o.lenid room f.stretch) in
          subst (λ (x : ℕ). Memᴰ o (out (suc x) (told_at store s x) (store_at store s x))) e
          (subst (Memᴰ o) (sym (ap (λ (t : Told). out (suc j) t (store_at store s j)) same ∙ out_at j o.header o.lenid (store_at store s j)))
          (Memᴰ.head (λ x. record { header = o.header; lenid = o.lenid; info = info x; cr = j })))

  exact : (o : Out) → Memᴰ o (along out 0 Waiting store s) ↔ ((i : ℕ) × Of s i o)
  exact o = (
    λ m. only (length s) (omega arith) o (subst (λ (x : List ℕ). Memᴰ o (along out 0 Waiting store x)) (sym (take-length s)) m),
    λ (i, f). subst (λ (x : List ℕ). Memᴰ o (along out 0 Waiting store x)) (take-length s) (all (length s) (omega arith) o i f (in_range s o.cr f.stretch.closes)),
  )

-- ---- a damaged stretch

-- a stretch of the bytes that were taken is one of the stream
longer : (s : List ℕ) (n i : ℕ) (o : Out) → Of (take n s) i o → Of s i o
longer s n i o f =
    let g = f.stretch in
    let j = o.cr in
    let inside : j < n = omega (arith, in_range (take n s) j g.closes, length-take n s) in
    let same : take j (take n s) ≡ take j s = take-take j n s (omega arith) in
    record {
      stretch =
          record {
            order = g.order;
            opens = sym (get_or-take n s i 0 (omega (arith, g.order))) ∙ g.opens;
            closes = sym (get_or-take n s j 0 inside) ∙ g.closes;
            frame = subst (λ (x : List ℕ). Frames o.header o.lenid (drop (suc i) x)) same g.frame;
          };
      info = f.info ∙ ap (λ (x : List ℕ). info_at o.lenid (drop (suc i) x)) same;
    }

-- and one of the stream whose CR was taken is one of those bytes
pub shorter : (s : List ℕ) (n i : ℕ) (o : Out) → Of s i o → o.cr < n → Of (take n s) i o
shorter s n i o f h =
    let g = f.stretch in
    let j = o.cr in
    let same : take j (take n s) ≡ take j s = take-take j n s (omega arith) in
    record {
      stretch =
          record {
            order = g.order;
            opens = get_or-take n s i 0 (omega (arith, g.order)) ∙ g.opens;
            closes = get_or-take n s j 0 h ∙ g.closes;
            frame = subst (λ (x : List ℕ). Frames o.header o.lenid (drop (suc i) x)) (sym same) g.frame;
          };
      info = f.info ∙ ap (λ (x : List ℕ). info_at o.lenid (drop (suc i) x)) (sym same);
    }

-- where every whole encoding of a stream ends before a part of it or begins behind it, no frame is from that part
pub none_from : (os : List Out) (s : List ℕ) (n i j : ℕ) → ((o : Out) → Memᴰ o os → (l : ℕ) × Of (take n s) l o)
    → ((l e : ℕ) (h : Header) (m : ℕ) → Stretch s l e h m → (e < i) ⊎ (j < l)) → NoneFrom s i j os
none_from os s n i j only apart o m =
    let t = only o m in
    let f = longer s n t.0 o t.1 in
    (t.0, f, apart t.0 o.cr o.header o.lenid f.stretch)

-- ---- the demand

-- of a caller whose calls take bytes as stepping does, and one at least where they are given one, and who has a call for whatever is asked
module _ (caller : Caller)
    (takes : (r : Receiver) (store stream : List ℕ) (c : caller.Call) → Fits r store → Can (caller.asked c) stream → caller.Keeps r store stream c → Took out mute r store stream (caller.leaves c))
    (moves : (r : Receiver) (store stream : List ℕ) (c : caller.Call) → Fits r store → caller.Keeps r store stream c → Offers (caller.asked c) → 0 < length stream → 0 < (caller.leaves c).taken)
    (follows : (r : Receiver) (store stream : List ℕ) (a : Asked) → (c : caller.Call) × (caller.asked c ≡ a) × caller.Keeps r store stream c) where
  pub demand-of : (store : List ℕ) → 4110 ≤ length store → Demand3 caller store
  demand-of store room =
      record {
        exactly = these;
        in_order = λ stream cs h. subst (InOrder 0) (sym (same stream cs h)) (in_order (take (taken caller cs) stream) 0 Waiting store);
        all_taken = λ stream cs. all_taken out mute caller takes moves cs Waiting store stream (room, omega arith);
        any_call = λ stream cs. any_call caller follows cs Waiting store stream;
        one_changed = λ stream i j h n f few k b l r ne cs calls.
            none_from (handed caller cs) (set stream k b) (taken caller cs) i j (λ o. (these (set stream k b) cs calls o).0) (one_changed stream i j h n f k l r b (λ _. few) ne);
      }
    where
      same : (stream : List ℕ) (cs : List caller.Call) → Calls caller Waiting store stream cs → handed caller cs ≡ along out 0 Waiting store (take (taken caller cs) stream)
      same stream cs h = (any-cutting out mute caller takes cs 0 Waiting store stream (room, omega arith) h).1

      these : (stream : List ℕ) (cs : List caller.Call) → Calls caller Waiting store stream cs → (o : Out) → Memᴰ o (handed caller cs) ↔ ((i : ℕ) × Of (take (taken caller cs) stream) i o)
      these stream cs h o =
          subst (λ (l : List Out). Memᴰ o l ↔ ((i : ℕ) × Of (take (taken caller cs) stream) i o)) (sym (same stream cs h)) (exact store (take (taken caller cs) stream) room o)

pub demand-3 : (store : List ℕ) → 4110 ≤ length store → Demand3 here store
demand-3 = demand-of here (took-call out mute) moves follows

-- beyond the demand, of any caller that meets it
pub lost-or-doubled-of : (caller : Caller) (store : List ℕ) → Demand3 caller store → LostOrDoubled caller store
lost-or-doubled-of caller store d =
    record {
      one_lost = λ stream i j h n f k l r cs calls.
          none_from (handed caller cs) (lost k stream) (taken caller cs) i (j - 1) (λ o. (d.exactly (lost k stream) cs calls o).0) (one_lost stream i j h n f k l r);
      one_doubled = λ stream i j h n f k l r cs calls.
          none_from (handed caller cs) (doubled k stream) (taken caller cs) i (suc j) (λ o. (d.exactly (doubled k stream) cs calls o).0) (one_doubled stream i j h n f k l r);
    }

pub lost-or-doubled : (store : List ℕ) → 4110 ≤ length store → LostOrDoubled here store
lost-or-doubled store room = lost-or-doubled-of here store (demand-3 store room)

-- ---- one list: those two fields leave no other

behind : (n : ℕ) (os : List Out) → InOrder n os → (o : Out) → Memᴰ o os → n ≤ o.cr
unfolding InOrder
behind n [] h o m = absurd (Memᴰ.not-nil m)
behind n (p ∷ os) h o m = go (behind (suc p.cr) os h.1 o) (Memᴰ.cases_cons m)
  where
    go : (Memᴰ o os → suc p.cr ≤ o.cr) → (o ≡ p) ⊎ Memᴰ o os → n ≤ o.cr
    go below (inl e) = omega (arith, h.0, ap (λ (x : Out). x.cr) e)
    go below (inr m) = omega (arith, h.0, below m)

-- what stands behind the first of a list is not the first of another that begins so
not_first : (o p : Out) (os ps : List Out) → o ≡ p → InOrder (suc o.cr) os → (x : Out) → Memᴰ x os → Memᴰ x (p ∷ ps) → Memᴰ x ps
not_first o p os ps e h x m k = go (Memᴰ.cases_cons k)
  where
    go : (x ≡ p) ⊎ Memᴰ x ps → Memᴰ x ps
    go (inl f) = absurd (omega (arith, behind (suc o.cr) os h x m, ap (λ (y : Out). y.cr) (e ∙ sym f)))
    go (inr l) = l

one_list : (n : ℕ) (os ps : List Out) → InOrder n os → InOrder n ps → ((o : Out) → Memᴰ o os ↔ Memᴰ o ps) → os ≡ ps
unfolding InOrder
one_list n [] [] h k same = refl
one_list n [] (p ∷ ps) h k same = absurd (Memᴰ.not-nil ((same p).1 (Memᴰ.head refl)))
one_list n (o ∷ os) [] h k same = absurd (Memᴰ.not-nil ((same o).0 (Memᴰ.head refl)))
one_list n (o ∷ os) (p ∷ ps) h k same =
    let e = first (Memᴰ.cases_cons ((same o).0 (Memᴰ.head refl))) (Memᴰ.cases_cons ((same p).1 (Memᴰ.head refl))) in
    let k' = subst (λ (x : Out). InOrder (suc x.cr) ps) (sym e) k.1 in
    let rest = one_list (suc o.cr) os ps h.1 k'
    (λ x. (λ m. not_first o p os ps e h.1 x m ((same x).0 (Memᴰ.tail m)), λ m. not_first p o ps os (sym e) k.1 x m ((same x).1 (Memᴰ.tail m)))) in
    λ i. e i ∷ rest i
  where
    first : (o ≡ p) ⊎ Memᴰ o ps → (p ≡ o) ⊎ Memᴰ p os → o ≡ p
    first (inl e) b = e
    first (inr a) (inl e) = sym e
    first (inr a) (inr b) = absurd (omega (arith, behind (suc p.cr) ps k.1 o a, behind (suc o.cr) os h.1 p b))

-- calls of any callers that take the same bytes of a stream hand out the same frames
pub same-frames : (c d : Caller) (store store' : List ℕ) → Demand3 c store → Demand3 d store' → (stream : List ℕ) (cs : List c.Call) (ds : List d.Call)
    → Calls c Waiting store stream cs → Calls d Waiting store' stream ds → taken c cs ≡ taken d ds → handed c cs ≡ handed d ds
same-frames c d store store' p q stream cs ds calls calls' e =
    one_list 0 (handed c cs) (handed d ds) (p.in_order stream cs calls) (q.in_order stream ds calls')
    (λ o. let f = p.exactly stream cs calls o in let g = q.exactly stream ds calls' o in (
      λ m. let t = f.0 m in g.1 (t.0, subst (λ (n : ℕ). Of (take n stream) t.0 o) e t.1),
      λ m. let t = g.0 m in f.1 (t.0, subst (λ (n : ℕ). Of (take n stream) t.0 o) (sym e) t.1),
    ))
