-- For every stream, in every cutting and with whatever room: the texts of `list` and then that of `close` are the listing of the stream.
use Rattle.std.proofs.Common.{◌≡◌, ℕ, zero, suc, ◌+◌, ◌-◌, ◌<◌, ◌≤◌, ltb, leb, List, [], ◌∷◌, ◌++◌, length, take, drop, sym, refl, ap, ◌∙◌, append_assoc, append-nil, arith, length-drop, take-append-drop, length-take, take_at, le-ltb, le-leb}
use lib.Seq.{take-nil, take-append-le, take-append_seam, drop-append-le}
use Rattle.buffer.specs.Writing.{writing}
use Rattle.buffer.proofs.Lists.{by_cond}
use Rattle.buffer.proofs.Writers.{writes_one}
use Rattle.frame.specs.Judge.{Told, nothing, frame, refused, refused_at}
use Rattle.receiver.specs.Step.{step}
use Rattle.receiver.proofs.Rows.{within}
use Rattle.receiver.specs.Pass.{Fits}
use Rattle.listing.specs.declared.Listing.{Listing}
use Rattle.listing.specs.declared.Listed.{Listed}
use Rattle.texts.specs.Block.{Block, frame_block, refusal_block, placed_block, block_of, lines, frames_in, refusals_in, totals, printed}
use Rattle.listing.specs.Stream.{blocks_of, listing_of}
use Rattle.listing.specs.Piece.{fresh, left, frames_then, refusals_then, onward, soi_of, Part, rests, listing, Call, prints, list, Lists, closing}
use Rattle.listing.specs.Calls.{Given, text, Called, calls}
use Rattle.texts.proofs.Texts.{lines_join, totals-short}
use Rattle.listing.proofs.Parts.{list-few, list-offset}
use Rattle.listing.proofs.Streams.{blocks_here, fits-step, counted_back}

-- ---- one answer for one input

pub lists-one : (l : Listing) (store piece out : List ℕ) (a b : Listed) (store' out' store'' out'' : List ℕ)
    → Lists l store piece out a store' out' → Lists l store piece out b store'' out'' → (a ≡ b) × (store' ≡ store'') × (out' ≡ out'')
lists-one l store piece out a b store' out' store'' out'' p q =
    let e = p ∙ sym q in
    let w = writes_one (list l store piece out).left a.written b.written out' out'' (ap (λ (x : Call). x.left) p) (ap (λ (x : Call). x.left) q) in
    (λ i. record { next = (e i).next; taken = (e i).taken; written = w.0 i }, ap (λ (x : Call). x.store) e, w.1)

-- ---- the totals

pub frames-join : (s t : List Block) → frames_in (s ++ t) ≡ frames_in s + frames_in t
unfolding frames_in
frames-join [] t = omega arith
frames-join (frame_block at h info ∷ s) t = omega (arith, frames-join s t)
frames-join (refusal_block at n ∷ s) t = omega (arith, frames-join s t)
frames-join (placed_block at n p ∷ s) t = omega (arith, frames-join s t)

pub refusals-join : (s t : List Block) → refusals_in (s ++ t) ≡ refusals_in s + refusals_in t
unfolding refusals_in
refusals-join [] t = omega arith
refusals-join (frame_block at h info ∷ s) t = omega (arith, refusals-join s t)
refusals-join (refusal_block at n ∷ s) t = omega (arith, refusals-join s t)
refusals-join (placed_block at n p ∷ s) t = omega (arith, refusals-join s t)

-- at most one more, and that is the block
frames-more : (told : Told) (n at : ℕ) (store : List ℕ) → n ≤ 1073741824
    → (frames_then n told ≡ n + frames_in (block_of at told store)) × (frames_then n told ≤ n + 1)
unfolding frames_in
frames-more nothing n at store h = (omega arith, omega arith)
frames-more (frame g m) n at store h = (omega arith, omega arith)
frames-more (refused k) n at store h = (omega arith, omega arith)
frames-more (refused_at k p) n at store h = (omega arith, omega arith)

refusals-more : (told : Told) (n at : ℕ) (store : List ℕ) → n ≤ 1073741824
    → (refusals_then n told ≡ n + refusals_in (block_of at told store)) × (refusals_then n told ≤ n + 1)
unfolding refusals_in
refusals-more nothing n at store h = (omega arith, omega arith)
refusals-more (frame g m) n at store h = (omega arith, omega arith)
refusals-more (refused k) n at store h = (omega arith, omega arith)
refusals-more (refused_at k p) n at store h = (omega arith, omega arith)

-- ---- a part of a piece

-- a listing that began fresh: no total is above what was read
pub record Sound (l : Listing) (store : List ℕ) : Type 0 where
  pub fits : Fits l.receiver store
  pub limit : l.offset ≤ 1073741824
  pub frames : l.frames ≤ l.offset
  pub refusals : l.refusals ≤ l.offset

pub sound-fresh : (store : List ℕ) → 4110 ≤ length store → Sound fresh store
sound-fresh store h = record { fits = (h, omega arith); limit = omega arith; frames = omega arith; refusals = omega arith }

record Gone (l : Listing) (store piece : List ℕ) (p : Part) : Type 0 where
  few : p.taken ≤ length piece
  sound : Sound p.next p.store
  offset : p.next.offset ≡ l.offset + p.taken
  frames : p.next.frames ≡ l.frames + frames_in p.blocks
  refusals : p.next.refusals ≡ l.refusals + refusals_in p.blocks
  whole : (more : List ℕ)
      → blocks_here l.receiver store l.offset (piece ++ more)
      ≡ p.blocks ++ blocks_here p.next.receiver p.store p.next.offset (drop p.taken piece ++ more)

gone-none : (l : Listing) (store piece : List ℕ) → Sound l store → Gone l store piece (rests l store)
unfolding frames_in refusals_in
gone-none l store piece s =
    record { few = omega arith; sound = s; offset = omega arith; frames = omega arith; refusals = omega arith; whole = λ more. refl }

sound-step : (l : Listing) (store : List ℕ) (b : ℕ) → Sound l store → l.offset < 1073741824
    → let a = step l.receiver store b in Sound (onward l 1 a.next a.told) a.store
sound-step l store b s h =
    let a = step l.receiver store b in
    record {
      fits = fits-step l.receiver store b s.fits;
      limit = omega arith;
      frames = omega (arith, s.frames, (frames-more a.told l.frames 0 store (omega (arith, s.frames))).1);
      refusals = omega (arith, s.refusals, (refusals-more a.told l.refusals 0 store (omega (arith, s.refusals))).1);
    }

gone : (piece : List ℕ) (l : Listing) (store : List ℕ) (room : ℕ) → Sound l store → length piece ≤ left l → Gone l store piece (listing l store room piece)
unfolding listing blocks_here
gone [] l store room s h = gone-none l store [] s
gone (b ∷ bs) l store room s h =
    let a = step l.receiver store b in
    let block : List Block = block_of (soi_of l) a.told a.store in
    let l' : Listing = onward l 1 a.next a.told in
    let room' : ℕ = room - length (lines block) in
    let g : Gone l' a.store bs (listing l' a.store room' bs) = gone bs l' a.store room' (sound-step l store b s (omega arith)) (omega arith) in
    let p : Part = listing l' a.store room' bs in
    by_cond (Gone l store (b ∷ bs)) (leb 4200 room)
    (λ t. record {
      few = omega (arith, g.few);
      sound = g.sound;
      offset = omega (arith, g.offset);
      frames = omega (arith, g.frames, (frames-more a.told l.frames (soi_of l) a.store (omega (arith, s.frames, s.limit))).0, frames-join block p.blocks);
      refusals = omega (arith, g.refusals, (refusals-more a.told l.refusals (soi_of l) a.store (omega (arith, s.refusals, s.limit))).0, refusals-join block p.blocks);
      whole = λ more. grind (arith, append_assoc, g.whole more);
    })
    (λ t. gone-none l store (b ∷ bs) s)

-- ---- what may still be read

-- two takes are one, in either order
take-swap : (m k : ℕ) (s : List ℕ) → take m (take k s) ≡ take k (take m s)
take-swap zero k s = sym (take-nil k)
take-swap (suc m) zero s = refl
take-swap (suc m) (suc k) [] = refl
take-swap (suc m) (suc k) (x ∷ s) = ap (λ (r : List ℕ). x ∷ r) (take-swap m k s)

drop-take : (t k : ℕ) (s : List ℕ) → drop t (take k s) ≡ take (k - t) (drop t s)
drop-take zero k s = grind arith
drop-take (suc t) zero s = grind arith
drop-take (suc t) (suc k) [] = sym (take-nil (suc k - suc t))
drop-take (suc t) (suc k) (x ∷ s) = grind (arith, drop-take t k s)

-- ---- calls

record Stood (l : Listing) (store stream : List ℕ) (next : Listing) (store' rest said : List ℕ) : Type 0 where
  blocks : List Block
  sound : Sound next store'
  is : said ≡ lines blocks
  frames : next.frames ≡ l.frames + frames_in blocks
  refusals : next.refusals ≡ l.refusals + refusals_in blocks
  whole : blocks_here l.receiver store l.offset (take (left l) stream) ≡ blocks ++ blocks_here next.receiver store' next.offset (take (left next) rest)

stood-none : (l : Listing) (store stream : List ℕ) → Sound l store → Stood l store stream l store stream []
unfolding lines frames_in refusals_in
stood-none l store stream s = record { blocks = []; sound = s; is = refl; frames = omega arith; refusals = omega arith; whole = refl }

-- one call
module _ (l : Listing) (store stream : List ℕ) (s : Sound l store) (most : ℕ) (out : List ℕ) where
  stood-part : Stood l store stream (prints (listing l store (length out) (take (left l) (take most stream))) out).next (prints (listing l store (length out) (take (left l) (take most stream))) out).store
      (drop (prints (listing l store (length out) (take (left l) (take most stream))) out).taken stream) (text (prints (listing l store (length out) (take (left l) (take most stream))) out).left)
  stood-part =
      let all : List ℕ = take (left l) stream in
      let piece : List ℕ = take (left l) (take most stream) in
      let more : List ℕ = drop most all in
      let p : Part = listing l store (length out) piece in
      let g : Gone l store piece p = gone piece l store (length out) s (omega (arith, length-take (left l) (take most stream))) in
      let cut : piece ++ more ≡ all = ap (λ (x : List ℕ). x ++ more) (take-swap (left l) most stream) ∙ take-append-drop most all in
      let less : left l - p.taken ≡ left p.next = omega (arith, g.offset) in
      let after : drop p.taken piece ++ more ≡ take (left p.next) (drop p.taken stream) =
      sym (drop-append-le p.taken piece more g.few)
      ∙ ap (drop p.taken) cut
      ∙ drop-take p.taken (left l) stream
      ∙ ap (λ (k : ℕ). take k (drop p.taken stream)) less in
      record {
        blocks = p.blocks;
        sound = g.sound;
        is = take_at (lines p.blocks) (drop (length (lines p.blocks)) out) (length (lines p.blocks)) refl;
        frames = g.frames;
        refusals = g.refusals;
        whole =
            ap (blocks_here l.receiver store l.offset) (sym cut)
            ∙ g.whole more
            ∙ ap (λ (x : List ℕ). p.blocks ++ blocks_here p.next.receiver p.store p.next.offset x) after;
      }

  stood_call : let a = list l store (take most stream) out in Stood l store stream a.next a.store (drop a.taken stream) (text a.left)
  unfolding list stood-part
  stood_call =
      rw (le-ltb (length store) 4110 s.fits.0, within l.receiver s.fits.1)
      (by_cond (λ (a : Call). Stood l store stream a.next a.store (drop a.taken stream) (text a.left)) (ltb (length out) 4200)
      (λ t. stood-none l store stream s)
      (λ t. stood-part))

stood-then : (l : Listing) (store stream : List ℕ) (m : Listing) (store₁ rest₁ said₁ : List ℕ) (n : Listing) (store₂ rest₂ said₂ : List ℕ)
    → Stood l store stream m store₁ rest₁ said₁ → Stood m store₁ rest₁ n store₂ rest₂ said₂ → Stood l store stream n store₂ rest₂ (said₁ ++ said₂)
stood-then l store stream m store₁ rest₁ said₁ n store₂ rest₂ said₂ p q =
    record {
      blocks = p.blocks ++ q.blocks;
      sound = q.sound;
      is = grind (arith, p.is, q.is, lines_join);
      frames = omega (arith, p.frames, q.frames, frames-join p.blocks q.blocks);
      refusals = omega (arith, p.refusals, q.refusals, refusals-join p.blocks q.blocks);
      whole = grind (arith, p.whole, q.whole, append_assoc);
    }

stood : (gs : List Given) (l : Listing) (store stream : List ℕ) → Sound l store
    → let z = calls l store stream gs in Stood l store stream z.next z.store z.rest z.said
unfolding calls
stood [] l store stream s = stood-none l store stream s
stood (g ∷ gs) l store stream s =
    let a = list l store (take g.most stream) g.out in
    let one = stood_call l store stream s g.most g.out in
    let rest = drop a.taken stream in
    let z = calls a.next a.store rest gs in
    stood-then l store stream a.next a.store rest (text a.left) z.next z.store z.rest z.said one (stood gs a.next a.store rest one.sound)

-- ---- calls after calls

-- with a text before
abbrev pub saying : List ℕ → Called → Called
saying before z = record { next = z.next; store = z.store; rest = z.rest; said = before ++ z.said }

pub calls-join : (gs hs : List Given) (l : Listing) (store stream : List ℕ)
    → calls l store stream (gs ++ hs) ≡ (let z = calls l store stream gs in saying z.said (calls z.next z.store z.rest hs))
unfolding calls
calls-join [] hs l store stream = refl
calls-join (g ∷ gs) hs l store stream =
    let a = list l store (take g.most stream) g.out in
    grind (arith, append_assoc, calls-join gs hs a.next a.store (drop a.taken stream))

-- the offset moves by what was taken
pub calls-offset : (gs : List Given) (l : Listing) (store stream : List ℕ) → let z = calls l store stream gs in z.next.offset + length z.rest ≡ l.offset + length stream
unfolding calls
calls-offset [] l store stream = refl
calls-offset (g ∷ gs) l store stream =
    let piece = take g.most stream in
    let a = list l store piece g.out in
    omega (arith, calls-offset gs a.next a.store (drop a.taken stream), list-offset l store piece g.out, list-few l store piece g.out, length-drop a.taken stream, length-take g.most stream)

-- where more bytes follow, calls over the same pieces leave the same, and those bytes besides
pub calls-more : (gs : List Given) (l : Listing) (store stream more : List ℕ)
    → let z = calls l store stream gs in (hs : List Given) × (calls l store (stream ++ more) hs ≡ record { next = z.next; store = z.store; rest = z.rest ++ more; said = z.said })
unfolding calls
calls-more [] l store stream more = ([], refl)
calls-more (g ∷ gs) l store stream more =
    let piece = take g.most stream in
    let a = list l store piece g.out in
    let h = calls-more gs a.next a.store (drop a.taken stream) more in
    let few : length piece ≤ length stream = omega (arith, length-take g.most stream) in
    let same : take (length piece) (stream ++ more) ≡ piece =
    take-append-le (length piece) stream more few ∙ ap (take (length piece)) (sym (take-append-drop g.most stream)) ∙ take-append_seam piece (drop g.most stream) in
    let rest : drop a.taken (stream ++ more) ≡ drop a.taken stream ++ more = drop-append-le a.taken stream more (omega (arith, list-few l store piece g.out)) in (
      record { most = length piece; out = g.out } ∷ h.0,
      grind arith,
    )

-- ---- the theorem

closing-text : (l : Listing) (out : List ℕ) → l.frames < 4294967296 → l.refusals < 4294967296 → 38 ≤ length out → text (closing l out) ≡ totals l.frames l.refusals
unfolding writing
closing-text l out f r h =
    let t : List ℕ = totals l.frames l.refusals in
    let few : length t ≤ length out = omega (arith, totals-short l.frames l.refusals f r) in
    rw (le-leb 38 (length out) h, le-leb (length t) (length out) few) (take_at t (drop (length t) out) (length t) refl)

-- once nothing is left that may be read, the texts of any calls, and then that of `close`, are the listing of the stream
pub any-calls : (stream store : List ℕ) (gs : List Given) (out : List ℕ) → 4110 ≤ length store → 38 ≤ length out
    → let z = calls fresh store stream gs in take (left z.next) z.rest ≡ [] → z.said ++ text (closing z.next out) ≡ listing_of stream
unfolding listing_of printed blocks_here
any-calls stream store gs out room h none =
    let z = calls fresh store stream gs in
    let s = stood gs fresh store stream (sound-fresh store room) in
    let bs : List Block = blocks_of (take 1073741824 stream) in
    let is : s.blocks ≡ bs =
    sym (append-nil s.blocks)
    ∙ ap (λ (x : List ℕ). s.blocks ++ blocks_here z.next.receiver z.store z.next.offset x) (sym none)
    ∙ sym s.whole
    ∙ counted_back store (take 1073741824 stream) room in
    let frames : z.next.frames ≡ frames_in bs = omega (arith, s.frames, ap frames_in is) in
    let refusals : z.next.refusals ≡ refusals_in bs = omega (arith, s.refusals, ap refusals_in is) in
    let small = s.sound in
    let close = closing-text z.next out (omega (arith, small.frames, small.limit)) (omega (arith, small.refusals, small.limit)) h in
    let said = s.is in
    grind arith
