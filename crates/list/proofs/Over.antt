-- Calls of `list` one after the other, over a piece and over one read after another; and the listing that they print.
use Rattle.std.proofs.Common.{◌≡◌, refl, sym, ap, ◌∙◌, subst, ◌⊎◌, List, [], ◌∷◌, ◌++◌, ℕ, ◌+◌, ◌≤◌, ◌<◌, min, length, take, drop, arith, length-append, length-take}
use Rattle.std.proofs.Math.Seq.{take-length, take-nil}
use Rattle.std.proofs.lemmas.Bool.Decides.{nat_tests}
use Rattle.std.specs.Prelude.{Option, Some, None, false, true}
use Rattle.buffer.specs.Writing.{Outcome, wrote, refused, Left}
use Rattle.listing.specs.declared.Listing.{Listing}
use Rattle.listing.specs.declared.Listed.{Listed}
use Rattle.listing.specs.Piece.{fresh, left, list, Lists, closing}
use Rattle.listing.specs.Calls.{Given, text_by, text, Called, calls}
use Rattle.listing.proofs.Parts.{lists-few}
use Rattle.listing.proofs.Calls.{calls-join, calls-more, calls-offset, any-calls}
use Rattle.list.specs.declared.Turn.{Turn}
use Rattle.list.specs.List.{Parts, Over, Front, Pieces, Moved, got, Handles, Turns, goes_on, Sofar, All, Closes, Printed, Prints}

pub over_none : (l : Listing) (store bytes : List ℕ) → Over l store bytes l store bytes
unfolding calls
over_none l store bytes = record { given = []; said = []; is = refl }

-- one call more, over all that is left
pub over-call : (l now : Listing) (store bytes store' rest out : List ℕ) (answer : Listed) (store'' out'' : List ℕ)
    → Over l store bytes now store' rest → Lists now store' rest out answer store'' out'' → Over l store bytes answer.next store'' (drop answer.taken rest)
unfolding calls
over-call l now store bytes store' rest out answer store'' out'' o e =
    let g : Given = record { most = length rest; out = out } in
    record {
      given = o.given ++ g ∷ [];
      said = o.said ++ (text (list now store' rest out).left ++ []);
      is = grind (arith, calls-join o.given (g ∷ []) l store bytes, o.is, take-length);
    }

-- a part of a piece: whether its text was written or not, `list` was called
module _ {l now : Listing} {store bytes store' rest out store'' out'' : List ℕ} (o : Over l store bytes now store' rest) where
  pub parts-front : {part : Option Listed} → Parts now store' rest out part store'' out'' → Front l store bytes store''
  parts-front p = (p.answer.next, drop p.answer.taken rest, over-call l now store bytes store' rest out p.answer store'' out'' o p.lists)

  -- and where it was, its answer is handed on
  pub parts-more : {part : Listed} → Parts now store' rest out (Some part) store'' out'' → (part.taken ≤ length rest) × Over l store bytes part.next store'' (drop part.taken rest)
  parts-more p =
      rw p.handed (lists-few now store' rest out p.answer store'' out'' p.lists, over-call l now store bytes store' rest out p.answer store'' out'' o p.lists)

pub pieces-none : (l : Listing) (store piece : List ℕ) (next : Option Listing) (store' : List ℕ) → next ≡ None → Front l store piece store' → Pieces l store piece next store'
pieces-none l store piece next store' e f = rw e f

-- calls over the bytes that follow
pub over-then : (l next last : Listing) (store store' store'' a b rest : List ℕ) → Over l store a next store' [] → Over next store' b last store'' rest → Over l store (a ++ b) last store'' rest
over-then l next last store store' store'' a b rest o p =
    let more = calls-more o.given l store a b in
    record { given = more.0 ++ p.given; said = o.said ++ p.said; is = grind (arith, calls-join more.0 p.given l store (a ++ b), o.is, p.is) }

-- ---- reads one after the other

over-offset : (l : Listing) (store bytes store' : List ℕ) (next : Listing) → Over l store bytes next store' [] → next.offset ≡ l.offset + length bytes
over-offset l store bytes store' next o =
    let e : next.offset + 0 ≡ l.offset + length bytes = ap (λ (z : Called). z.next.offset + length z.rest) (sym o.is) ∙ calls-offset o.given l store bytes in
    omega (arith, e)

-- no more bytes came than were asked for
got-few : (read : ℕ) (now : Listing) (buffer : List ℕ) → read ≤ min (left now) (length buffer) → (length (got read buffer) ≡ read) × (read ≤ left now)
got-few read now buffer h = (omega (arith, length-take (min read (length buffer)) buffer), omega arith)

-- a turn that is handed on
record Turned (now : Listing) (store buffer : List ℕ) (turn : Turn) (store' : List ℕ) : Type 0 where
  few : turn.read ≤ left now
  bytes : List ℕ
  long : length bytes ≡ turn.read
  over : Over now store bytes turn.next store' []

module _ {now : Listing} {store buffer store' : List ℕ} where
  turned : {turn : Turn} → Turns buffer now store (Some turn) store' → Turned now store buffer turn store'
  turned {turn} t = go t.read t.moved t.handled
    where
      go : (read : Option ℕ) → Moved (min (left now) (length buffer)) read → Handles read buffer now store (Some turn) store' → Turned now store buffer turn store'
      go None m h = cc
      go (Some n) m h = let f = got-few n now buffer m in record { few = omega (arith, h.0, f.1); bytes = got n buffer; long = f.0 ∙ sym h.0; over = h.1 }

  -- after one that goes on less is left, and something
  pub turn-less : {turn : Turn} → Turns buffer now store (Some turn) store' → goes_on turn ≡ true → (left turn.next < left now) × (0 < left turn.next)
  turn-less {turn} t on =
      let u = turned t in
      let e = over-offset now store u.bytes store' turn.next u.over in
      let few = u.few in
      let long = u.long in
      grind (arith, nat_tests)

  module _ {store₀ : List ℕ} (s : Sofar store₀ now store []) where
    -- its bytes are listed behind those so far
    pub sofar-more : {turn : Turn} → Turns buffer now store (Some turn) store' → Sofar store₀ turn.next store' []
    sofar-more {turn} t =
        let u = turned t in
        record {
          bytes = s.bytes ++ u.bytes;
          few = omega (arith, s.few, over-offset fresh store₀ s.bytes store now s.listed, u.few, u.long, length-append s.bytes u.bytes);
          listed = over-then fresh now turn.next store₀ store store' s.bytes u.bytes [] s.listed u.over;
        }

    -- where a turn fails, a front of them is
    pub sofar-front : {turn : Option Turn} → turn ≡ None → Turns buffer now store None store' → All store₀ turn store'
    sofar-front e t = rw e (go t.read t.moved t.handled)
      where
        go : (read : Option ℕ) → Moved (min (left now) (length buffer)) read → Handles read buffer now store None store' → All store₀ None store'
        go None m h = (now, [], subst (λ (x : List ℕ). Sofar store₀ now x []) (sym h.1) s)
        go (Some n) m h =
            let f = got-few n now buffer m in (
              h.0,
              h.1,
              record {
                bytes = s.bytes ++ got n buffer;
                few = omega (arith, s.few, over-offset fresh store₀ s.bytes store now s.listed, f.0, f.1, length-append s.bytes (got n buffer));
                listed = over-then fresh now h.0 store₀ store store' s.bytes (got n buffer) h.1 s.listed h.2;
              },
            )

-- ---- the whole listing

text-front : (w : Left) → (n : ℕ) × (text w ≡ take n w.out)
text-front w = go w.outcome
  where
    go : (o : Outcome) → (n : ℕ) × (text_by o w.out ≡ take n w.out)
    go (wrote n) = (n, refl)
    go (refused k) = (0, refl)

-- a turn after which none comes read nothing, or reached the limit
ending : (turn : Turn) (n : ℕ) → turn.next.offset ≡ n → n ≤ 1073741824 → goes_on turn ≡ false → (turn.read ≡ 0) ⊎ (n ≡ 1073741824)
ending turn n e few g = grind (arith, nat_tests)

-- the totals behind the texts of all calls
pub over-prints : (turn : Turn) (store store' out : List ℕ) → 4110 ≤ length store → 38 ≤ length out → All store (Some turn) store' → Printed store turn store' (closing turn.next out).out
over-prints turn store store' out room enough (s, over) =
    let o = s.listed in
    let n = text-front (closing turn.next out) in
    let z = calls fresh store s.bytes o.given in
    let none : take (left z.next) z.rest ≡ [] = ap (λ (x : Called). take (left x.next) x.rest) o.is ∙ take-nil (left turn.next) in
    record {
      bytes = s.bytes;
      listed = o;
      few = s.few;
      ended = ending turn (length s.bytes) (omega (arith, over-offset fresh store s.bytes store' turn.next o)) s.few over;
      n = n.0;
      is = (λ i. (sym o.is i).said ++ (sym n.1 ∙ ap (λ (x : Called). text (closing x.next out)) (sym o.is)) i) ∙ any-calls s.bytes store o.given out room enough none;
    }

pub closes-prints : (turn turn' : Option Turn) (store store' out out' : List ℕ) → 4110 ≤ length store → 38 ≤ length out
    → All store turn store' → Closes turn out turn' out' → Prints store turn' store' out'
closes-prints turn None store store' out out' room enough a c = tt
closes-prints None (Some last) store store' out out' room enough a c = let e : ◌≡◌ {A = Option Turn} (Some last) None = c.0 in cc
closes-prints (Some turn) (Some last) store store' out out' room enough a c = rw (c.0, c.1) (over-prints turn store store' out room enough a)
