-- The blocks of a stream: any store gives the same, and the SOI that is carried along is the one that the count leads back to.
use Rattle.std.proofs.Common.{◌≡◌, ℕ, suc, ◌+◌, ◌-◌, ◌≤◌, Bool, true, false, cond, ltb, List, [], ◌∷◌, ◌++◌, length, take, set, replicate, sym, refl, ap, ◌∙◌, subst, add-one, arith, length-take-le, take-suc-set, ltb-true}
use lib.ListN.{length-replicate}
use Rattle.frame.specs.declared.Header.{Header}
use Rattle.frame.specs.Frame.{info_at}
use Rattle.frame.specs.Judge.{Told, nothing, frame, refused, refused_at, judge}
use Rattle.frame.proofs.Judging.{judge-accepts}
use Rattle.frame.proofs.Steps.{length-chars}
use Rattle.receiver.specs.declared.Receiver.{Receiver}
use Rattle.receiver.specs.declared.Receiver.TheVariants.{Waiting, Open}
use Rattle.receiver.specs.Step.{Kind, soi, cr, other, kind, After, gives, step_by, step}
use Rattle.receiver.specs.Run.{count_of}
use Rattle.receiver.specs.Pass.{Fits}
use Rattle.receiver.specs.Stream.{after}
use Rattle.receiver.proofs.Rows.{step-within}
use Rattle.receiver.proofs.Receive.{after-fits}
use Rattle.receiver.proofs.Streams.{info-front}
use Rattle.texts.specs.Block.{Block, refusal_block, frame_block, block_of}
use Rattle.listing.specs.Stream.{last_soi, blocks_from, blocks_of}

-- the blocks of a stream, with SOI counted back from the next byte
unfoldable pub blocks_here : Receiver → List ℕ → ℕ → List ℕ → List Block
blocks_here r store offset [] = []
blocks_here r store offset (b ∷ bs) =
    let a = step r store b in
    block_of (offset - suc (count_of r)) a.told a.store ++ blocks_here a.next a.store (offset + 1) bs

-- two stores hold the same characters, and the last SOI stands before them
abbrev Alike : Receiver → List ℕ → List ℕ → ℕ → ℕ → Type 0
Alike Waiting s t last offset = Unit {0}
Alike (Open n) s t last offset = (take n s ≡ take n t) × (last + suc n ≡ offset)

-- a judged stretch gives the same block from either
module _ (n : ℕ) (s t : List ℕ) (same : take n s ≡ take n t) (in-s : n ≤ length s) (in-t : n ≤ length t) where
  info-same : (h : Header) (m : ℕ) → judge (take n s) ≡ frame h m → info_at m s ≡ info_at m t
  info-same h m e =
      let c : List ℕ = take n s in
      let l : length c ≡ n = length-take-le n s in-s in
      let f = (judge-accepts c h m).0 e in
      let room : 12 + m ≤ length c = omega (arith, f.2, ap length f.1.is, length-chars h f.0) in
      info-front s c m (ap (λ (k : ℕ). take k s) l) room ∙ sym (info-front t c m (ap (λ (k : ℕ). take k t) l ∙ sym same) room)

  judged : (at : ℕ) → block_of at (judge (take n s)) s ≡ block_of at (judge (take n t)) t
  judged at = go (judge (take n s)) refl ∙ ap (λ (c : List ℕ). block_of at (judge c) t) same
    where
      go : (told : Told) → judge (take n s) ≡ told → block_of at (judge (take n s)) s ≡ block_of at (judge (take n s)) t
      go nothing e = rw e
      go (frame h m) e = rw e (ap (λ (info : List ℕ). frame_block at h info ∷ []) (info-same h m e))
      go (refused k) e = rw e
      go (refused_at k p) e = rw e

record Both (k : Kind) (r : Receiver) (last offset : ℕ) (a a' : After) : Type 0 where
  next : a.next ≡ a'.next
  block : block_of (offset - suc (count_of r)) a.told a.store ≡ block_of last a'.told a'.store
  alike : Alike a.next a.store a'.store (last_soi k offset last) (offset + 1)

both_by : (k : Kind) (r : Receiver) (s t : List ℕ) (b last offset : ℕ) → Fits r s → Fits r t → Alike r s t last offset
    → Both k r last offset (step_by k r s b) (step_by k r t b)
unfolding step_by
both_by soi Waiting s t b last offset f g h = record { next = refl; block = refl; alike = (refl, refl) }
both_by cr Waiting s t b last offset f g h = record { next = refl; block = refl; alike = tt }
both_by other Waiting s t b last offset f g h = record { next = refl; block = refl; alike = tt }
both_by soi (Open n) s t b last offset f g h =
    let back : offset - suc n ≡ last = omega (arith, h.1) in
    record { next = refl; block = ap (λ (at : ℕ). refusal_block at 2 ∷ []) back; alike = (refl, refl) }
both_by cr (Open n) s t b last offset f g h =
    let back : offset - suc n ≡ last = omega (arith, h.1) in
    record {
      next = refl;
      block = ap (λ (at : ℕ). block_of at (judge (take n s)) s) back ∙ judged n s t h.0 (omega (arith, f)) (omega (arith, g)) last;
      alike = tt;
    }
both_by other (Open n) s t b last offset f g h = go (ltb n 4110) refl
  where
    go : (x : Bool) → ltb n 4110 ≡ x
        → Both other (Open n) last offset (cond x (gives (Open (suc n)) (set s n b) nothing) (gives Waiting s (refused 1)))
        (cond x (gives (Open (suc n)) (set t n b) nothing) (gives Waiting t (refused 1)))
    go true e =
        let l = ltb-true n 4110 e in
        record {
          next = refl;
          block = refl;
          alike = (
            take-suc-set s n b (omega (arith, f)) ∙ ap (λ (c : List ℕ). c ++ (b ∷ [])) h.0 ∙ sym (take-suc-set t n b (omega (arith, g))),
            omega (arith, h.1),
          );
        }
    go false e =
        let back : offset - suc n ≡ last = omega (arith, h.1) in
        record { next = refl; block = ap (λ (at : ℕ). refusal_block at 1 ∷ []) back; alike = tt }

both : (r : Receiver) (s t : List ℕ) (b last offset : ℕ) → Fits r s → Fits r t → Alike r s t last offset
    → Both (kind b) r last offset (step r s b) (step r t b)
both r s t b last offset f g h =
    rw (step-within r s b f.0 f.1, step-within r t b g.0 g.1) (both_by (kind b) r s t b last offset f g h)

pub fits-step : (r : Receiver) (store : List ℕ) (b : ℕ) → Fits r store → Fits (step r store b).next (step r store b).store
unfolding after
fits-step r store b f = after-fits (b ∷ []) r store f

carried : (stream : List ℕ) (r : Receiver) (s t : List ℕ) (last offset : ℕ) → Fits r s → Fits r t → Alike r s t last offset
    → blocks_here r s offset stream ≡ blocks_from r t last offset stream
unfolding blocks_here blocks_from
carried [] r s t last offset f g h = refl
carried (b ∷ bs) r s t last offset f g h =
    let a = step r s b in
    let a' = step r t b in
    let two = both r s t b last offset f g h in
    let last' = last_soi (kind b) offset last in
    let fits' : Fits a.next a'.store = subst (λ (x : Receiver). Fits x a'.store) (sym two.next) (fits-step r t b g) in
    ap (λ (x : List Block). x ++ blocks_here a.next a.store (offset + 1) bs) two.block
    ∙ ap (λ (x : List Block). block_of last a'.told a'.store ++ x)
    (carried bs a.next a.store a'.store last' (offset + 1) (fits-step r s b f) fits' two.alike
    ∙ ap (λ (x : Receiver). blocks_from x a'.store last' (offset + 1) bs) two.next
    ∙ ap (λ (x : ℕ). blocks_from a'.next a'.store last' x bs) (add-one offset))

module _ (store stream : List ℕ) (room : 4110 ≤ length store) where
  pub counted_back : blocks_here Waiting store 0 stream ≡ blocks_of stream
  unfolding blocks_of
  counted_back = carried stream Waiting store (replicate 4110 0) 0 0 (room, omega arith) (omega (arith, length-replicate {A = ℕ} 4110 0), omega arith) tt

  -- the blocks do not depend on the store
  pub any-store : blocks_from Waiting store 0 0 stream ≡ blocks_of stream
  any-store = sym (carried stream Waiting store store 0 0 (room, omega arith) (room, omega arith) tt) ∙ counted_back
