-- A piece that is listed run by run is listed byte by byte: one law for a run (`turned`), one for what is left after it (`ended`).
use Rattle.std.proofs.Common.{◌≡◌, ℕ, suc, ◌+◌, ◌-◌, ◌<◌, ◌≤◌, Bool, true, false, cond, ltb, leb, List, [], ◌∷◌, ◌++◌, length, take, drop, sym, refl, ap, ◌∙◌, subst, append_assoc, append-nil, add-zero, add_assoc, zero-add, one-add, arith, ltb→lt, nltb→le, length-append, length-drop, take-append-drop, length-take, length-take-le, take_all, drop-drop, le-ltb, lt-ltb, le-leb}
use borrow.Author.Tests.{lt-leb, ltb-false}
use Rattle.buffer.specs.Put.{puts}
use Rattle.std.specs.Prelude.{Result, Ok, Err, Option, Some, None, ◌||◌}
use Rattle.std.proofs.lemmas.List.{take_min, take_rest}
use Rattle.std.proofs.lemmas.Bool.Decides.{nat_tests}
use Rattle.refusal.specs.Number.{number}
use Rattle.refusal.specs.declared.Refusal.TheVariants.{BufferTooShort, ReceiverBeyondStore}
use Rattle.refusal.specs.declared.Refusal.{Refusal}
use Rattle.buffer.specs.Writing.{Outcome, wrote, refused as refused_by, paper as written_paper, Left, leaves, writing, Writes}
use Rattle.buffer.proofs.Lists.{by_cond}
use Rattle.buffer.proofs.Puts.{puts-nil, puts-front}
use Rattle.hex_chars.specs.Hex.{pair_of, hexes}
use Rattle.frame.specs.declared.Header.{Header}
use Rattle.frame.specs.declared.Frame.{Frame}
use Rattle.frame.specs.declared.Fault.{Fault}
use Rattle.frame.specs.Frame.{chars, seal, packed, info_at}
use Rattle.frame.specs.Judge.{Told, nothing, frame, refused, refused_at, judge}
use Rattle.frame.proofs.Judging.{judge-accepts}
use Rattle.receiver.specs.declared.Receiver.{Receiver}
use Rattle.receiver.specs.declared.Receiver.TheVariants.{Waiting, Open}
use Rattle.receiver.specs.Step.{Kind, soi, cr, other, kind, After, step_by, beyond, step, paper}
use Rattle.receiver.specs.Run.{is_nothing, count_of, Run, later, stops, stepping, run}
use Rattle.receiver.specs.Pass.{Fits}
use Rattle.receiver.specs.Stream.{after}
use Rattle.receiver.proofs.Rows.{step-within, within, not_beyond}
use Rattle.receiver.proofs.Running.{run-within-is}
use Rattle.receiver.proofs.Receive.{after-fits}
use Rattle.listing.specs.declared.Listing.{Listing}
use Rattle.listing.specs.declared.Listed.{Listed}
use Rattle.listing.specs.declared.Part.{Part as PartOf}
use Rattle.texts.specs.Block.{Block, frame_block, block_of, frame_lines, lines, totals}
use Rattle.listing.specs.Piece.{left, onward, soi_of, Part, rests, behind, listing, Call, refuses, prints, list, Lists, closing}
use Rattle.listing.specs.Within.{Inside, turn, stored_lines, Stands, Puts, call_refusal}
use Rattle.listing.proofs.Events.{event_steps}
use Rattle.texts.proofs.Texts.{puts-puts_at, lines-one, lines_join}

-- ---- a frame that is told stands in the store

-- the four bytes and INFO of an encoding in front of anything
encoded-stands : (h : Header) (info d : List ℕ) (n : ℕ) → n ≤ 4094 → Stands (frame h n) (chars h info ++ d)
unfolding chars seal packed hexes pair_of frame_lines
encoded-stands h info d n few = (few, λ at. refl)

judge-stands : (n : ℕ) (store : List ℕ) → Stands (judge (take n store)) store
judge-stands n store = go (judge (take n store)) refl
  where
    go : (t : Told) → judge (take n store) ≡ t → Stands t store
    go nothing e = tt
    go (frame h m) e =
        let f = (judge-accepts (take n store) h m).0 e in
        let whole : chars h f.0 ++ drop n store ≡ store = ap (λ (c : List ℕ). c ++ drop n store) (sym f.1.is) ∙ take-append-drop n store in
        subst (Stands (frame h m)) whole (encoded-stands h f.0 (drop n store) m (omega (arith, f.1.short, f.2)))
    go (refused k) e = tt
    go (refused_at k p) e = tt

stands_by : (k : Kind) (r : Receiver) (store : List ℕ) (b : ℕ) → Stands (step_by k r store b).told (step_by k r store b).store
unfolding step_by
stands_by soi Waiting store b = tt
stands_by cr Waiting store b = tt
stands_by other Waiting store b = tt
stands_by soi (Open n) store b = tt
stands_by cr (Open n) store b = judge-stands n store
stands_by other (Open n) store b = by_cond (λ (a : After). Stands a.told a.store) (ltb n 4110) (λ t. tt) (λ t. tt)

step-stands : (r : Receiver) (store : List ℕ) (b : ℕ) → Fits r store → Stands (step r store b).told (step r store b).store
step-stands r store b f = rw (step-within r store b f.0 f.1) (stands_by (kind b) r store b)

-- ---- parts, one behind the other

behind-behind : (i j : ℕ) (bs cs : List Block) (p : Part) → behind i bs (behind j cs p) ≡ behind (i + j) (bs ++ cs) p
behind-behind i j bs cs p = grind (arith, append_assoc)

-- no room, or nothing left: no byte is taken
full : (l : Listing) (store : List ℕ) (room : ℕ) (piece : List ℕ) → room < 4200 → listing l store room piece ≡ rests l store
unfolding listing
full l store room [] h = refl
full l store room (b ∷ bs) h = rw (lt-leb 4200 room h)

used-up : (l : Listing) (store : List ℕ) (room : ℕ) (piece : List ℕ) → length piece ≡ 0 → listing l store room piece ≡ rests l store
unfolding listing
used-up l store room [] h = refl
used-up l store room (b ∷ bs) h = absurd (omega arith)

-- ---- one run

is-nothing : (t : Told) → is_nothing t ≡ true → t ≡ nothing
is-nothing nothing e = refl
is-nothing (frame h n) e = cc
is-nothing (refused k) e = cc
is-nothing (refused_at k p) e = cc

-- what is left after a part of a piece
abbrev after-part : Part → ℕ → List ℕ → Part
after-part p room piece = behind p.taken p.blocks (listing p.next p.store (room - length (lines p.blocks)) (drop p.taken piece))

pub record Turned (l : Listing) (store : List ℕ) (room : ℕ) (piece : List ℕ) (a : Run) : Type 0 where
  pub few : a.taken ≤ length piece
  pub some : 0 < length piece → 0 < a.taken
  pub fits : Fits a.next a.store
  pub held : a.held ≤ 4110
  pub stands : Stands a.told a.store
  pub rest : 4200 ≤ room → listing l store room piece ≡ after-part (turn l a) room piece

-- a byte, and then a run that began with it
module _ (l : Listing) (store : List ℕ) (room : ℕ) (b : ℕ) (bs : List ℕ) (f : Fits l.receiver store) (a : After) (e : a ≡ step l.receiver store b) where
  first : 4200 ≤ room
      → listing l store room (b ∷ bs)
      ≡ behind 1 (block_of (soi_of l) a.told a.store) (listing (onward l 1 a.next a.told) a.store (room - length (lines (block_of (soi_of l) a.told a.store))) bs)
  unfolding listing
  first h = rw (le-leb 4200 room h, e)

  fits-then : Fits a.next a.store
  unfolding after
  fits-then = subst (λ (x : After). Fits x.next x.store) (sym e) (after-fits (b ∷ []) l.receiver store f)

  goes_on : a.told ≡ nothing → 4200 ≤ room
      → (k : Run) → listing (onward l 1 a.next nothing) a.store room bs ≡ after-part (turn (onward l 1 a.next nothing) k) room bs
      → listing l store room (b ∷ bs) ≡ after-part (turn l (later 1 k)) room (b ∷ bs)
  unfolding lines
  goes_on n h k ih = let f = first h in grind (arith, behind-behind)

  stops-here : 4200 ≤ room → listing l store room (b ∷ bs) ≡ after-part (turn l (stops (count_of l.receiver) a)) room (b ∷ bs)
  stops-here h = let f = first h in grind arith

  turned_by : (t : Bool) → is_nothing a.told ≡ t → Turned (onward l 1 a.next a.told) a.store room bs (stepping a.next a.store bs)
      → Turned l store room (b ∷ bs) (cond t (later 1 (stepping a.next a.store bs)) (stops (count_of l.receiver) a))
  turned_by true q g =
      let n = is-nothing a.told q in
      record {
        few = omega (arith, g.few);
        some = λ h. omega arith;
        fits = g.fits;
        held = g.held;
        stands = g.stands;
        rest = λ h. goes_on n h (stepping a.next a.store bs) (rw n at (g.rest h));
      }
  turned_by false q g =
      record {
        few = omega arith;
        some = λ h. omega arith;
        fits = fits-then;
        held = f.1;
        stands = subst (λ (x : After). Stands x.told x.store) (sym e) (step-stands l.receiver store b f);
        rest = stops-here;
      }

turned : (piece : List ℕ) (l : Listing) (store : List ℕ) (room : ℕ) → Fits l.receiver store → Turned l store room piece (stepping l.receiver store piece)
unfolding stepping listing lines
turned [] l store room f =
    record {
      few = omega arith;
      some = λ h. omega arith;
      fits = f;
      held = omega arith;
      stands = tt;
      rest = λ h. ap (λ (o : ℕ). rests (record { receiver = l.receiver; offset = o; frames = l.frames; refusals = l.refusals }) store) (sym (add-zero l.offset));
    }
turned (b ∷ bs) l store room f =
    let a = step l.receiver store b in
    turned_by l store room b bs f a refl (is_nothing a.told) refl (turned bs (onward l 1 a.next a.told) a.store room (fits-then l store room b bs f a refl))

-- the lines of a frame are those of the characters that stand in the store
pub frame-lines : (event : Option (Result Frame Fault)) (judged : Result Frame Fault) (f : Frame) (at : ℕ) (store : List ℕ) → event ≡ Some judged → judged ≡ Ok f
    → Stands (paper event) store → stored_lines at f.lenid store ≡ lines (block_of at (paper event) store)
frame-lines event judged f at store e d h =
    let s = (rw (e, d) at h) in
    rw (e, d) (s.1 at ∙ sym (lines-one (frame_block at f.header (info_at f.lenid store))))

-- a run that isn't refused
pub run-within : (r : Receiver) (store piece : List ℕ) → 4110 ≤ length store → count_of r ≤ 4110
    → let a = stepping r store piece in
    (run r store piece ≡ a) × (a.taken ≤ length piece) × (a.held ≤ 4110) × Stands a.told a.store
run-within r store piece h k =
    let t = turned piece (record { receiver = r; offset = 0; frames = 0; refusals = 0 }) store 0 (h, k) in
    (run-within-is r store piece h k, t.few, t.held, t.stands)

pub ruleset run_steps = (run-within)

pub ruleset advance_steps = (run_steps, event_steps)

-- and one over the rest of a piece, as the loop makes it
pub run-rest : (r : Receiver) (store piece : List ℕ) (i : ℕ) → 4110 ≤ length store → count_of r ≤ 4110 → i < length piece
    → let a = stepping r store (drop i piece) in
    (stepping r store (drop i piece) ≡ a) × (i + a.taken ≤ length piece) × (0 < a.taken) × Fits a.next a.store
run-rest r store piece i h k some =
    let t = turned (drop i piece) (record { receiver = r; offset = 0; frames = 0; refusals = 0 }) store 0 (h, k) in
    (refl, grind (arith, length-drop, t.few), t.some (grind (arith, length-drop)), t.fits)

-- ---- what was listed so far

-- what is left after a part of a piece: behind i bytes, and behind a text that ends at place end
pub record Ended : Type 0 where
  pub next : Listing
  pub store : List ℕ
  pub taken : ℕ
  pub out : List ℕ
  pub end : ℕ

unfoldable pub ended : Part → List ℕ → ℕ → ℕ → Ended
ended p out end i = record { next = p.next; store = p.store; taken = i + p.taken; out = puts out end (lines p.blocks); end = end + length (lines p.blocks) }

-- the same of a part that is put behind another
ended-behind : (k : ℕ) (bs : List Block) (q : Part) (out : List ℕ) (end i : ℕ) → end + length (lines bs) ≤ length out
    → ended (behind k bs q) out end i ≡ ended q (puts out end (lines bs)) (end + length (lines bs)) (i + k)
unfolding ended
ended-behind k bs q out end i h = grind (arith, lines_join, puts-puts_at, length-append)

-- how long a buffer is with a text in it
length-puts : (out : List ℕ) (at : ℕ) (x : List ℕ) → at ≤ length out → length (puts out at x) ≡ at + length x + (length out - (at + length x))
unfolding puts
length-puts out at x h = grind (arith, length-append, length-take-le, length-drop)

-- a run more
pub ended-run : (l : Listing) (store piece out : List ℕ) (end i : ℕ) (one : PartOf) (store' out' : List ℕ)
    → Fits l.receiver store → end + 4200 ≤ length out → length out' ≡ length out
    → Puts (turn l (stepping l.receiver store (take (length piece - i) (drop i piece)))) out end one store' out'
    → (one.end ≤ length out')
    × (ended (listing one.next store' (length out' - one.end) (drop (i + one.taken) piece)) out' one.end (i + one.taken) ≡ ended (listing l store (length out - end) (drop i piece)) out end i)
ended-run l store piece out end i one store' out' f room kept p =
    let a = stepping l.receiver store (drop i piece) in
    let t = turned (drop i piece) l store (length out - end) f in
    let long = length-puts out end (lines (turn l a).blocks) (omega arith) in
    grind (arith, take_rest, drop-drop, ended-behind, t.rest (omega arith))

-- where it stops, what was put is all of it
all-put : (whole : Part) (out₀ : List ℕ) (part : PartOf) (store out : List ℕ) → ended (rests part.next store) out part.end part.taken ≡ ended whole out₀ 0 0 → Puts whole out₀ 0 part store out
unfolding ended lines
all-put whole out₀ part store out e = grind (arith, puts-nil)

module _ (l₀ : Listing) (store₀ piece out₀ : List ℕ) (part : PartOf) (store out : List ℕ)
    (whole : ended (listing part.next store (length out - part.end) (drop part.taken piece)) out part.end part.taken ≡ ended (listing l₀ store₀ (length out₀) piece) out₀ 0 0) where
  put-all : listing part.next store (length out - part.end) (drop part.taken piece) ≡ rests part.next store → Puts (listing l₀ store₀ (length out₀) piece) out₀ 0 part store out
  put-all e = all-put (listing l₀ store₀ (length out₀) piece) out₀ part store out (ap (λ (p : Part). ended p out part.end part.taken) (sym e) ∙ whole)

  pub stops-full : length out - part.end < 4200 → Puts (listing l₀ store₀ (length out₀) piece) out₀ 0 part store out
  stops-full h = put-all (full part.next store (length out - part.end) (drop part.taken piece) h)

  pub stops-end : length piece ≤ part.taken → Puts (listing l₀ store₀ (length out₀) piece) out₀ 0 part store out
  stops-end h = put-all (used-up part.next store (length out - part.end) (drop part.taken piece) (omega (arith, length-drop part.taken piece)))

pub ruleset loop_steps = (run-rest, take_rest, stops-full, stops-end, length-drop)

-- ---- the call

-- by what it is refused with, if at all
abbrev pub answered : Option Refusal → Listing → List ℕ → List ℕ → List ℕ → Call
answered (Some r) l store piece out = refuses (number r) l store out
answered None l store piece out = prints (listing l store (length out) (take (left l) piece)) out

pub list-is : (l : Listing) (store piece out : List ℕ) → list l store piece out ≡ answered (call_refusal l store out) l store piece out
unfolding list call_refusal
list-is l store piece out = go (ltb (length store) 4110) (ltb (length out) 4200) (beyond l.receiver)
  where
    go : (a b c : Bool)
        → cond a (refuses 32 l store out) (cond b (refuses 32 l store out) (cond c (refuses 35 l store out) (prints (listing l store (length out) (take (left l) piece)) out)))
        ≡ answered (cond (a || b) (Some BufferTooShort) (cond c (Some ReceiverBeyondStore) None)) l store piece out
    go true b c = refl
    go false true c = refl
    go false false true = refl
    go false false false = refl

-- one that isn't refused keeps to the store
pub unrefused : (l : Listing) (store out : List ℕ) → call_refusal l store out ≡ None
    → (call_refusal l store out ≡ None) × (4110 ≤ length store) × (count_of l.receiver ≤ 4110)
unfolding call_refusal
unrefused l store out e = go (ltb (length store) 4110) (ltb (length out) 4200) (beyond l.receiver) refl refl e
  where
    go : (a b c : Bool) → ltb (length store) 4110 ≡ a → beyond l.receiver ≡ c
        → cond (a || b) (Some BufferTooShort) (cond c (Some ReceiverBeyondStore) None) ≡ None
        → (call_refusal l store out ≡ None) × (4110 ≤ length store) × (count_of l.receiver ≤ 4110)
    go true b c p q n = cc
    go false true c p q n = cc
    go false false true p q n = cc
    go false false false p q n = (e, ltb-false (length store) 4110 p, not_beyond l.receiver q)

pub ruleset call_steps = (list-is, unrefused, take_min, length-take, puts-front)

-- ---- what a caller may lean on, of any listing

listing-few : (piece : List ℕ) (l : Listing) (store : List ℕ) (room : ℕ) → (listing l store room piece).taken ≤ length piece
unfolding listing
listing-few [] l store room = omega arith
listing-few (b ∷ bs) l store room = grind (arith, nat_tests, listing-few bs)

listing-some : (piece : List ℕ) (l : Listing) (store : List ℕ) (room : ℕ) → 4200 ≤ room → 0 < length piece → 0 < (listing l store room piece).taken
unfolding listing
listing-some [] l store room h some = absurd (omega arith)
listing-some (b ∷ bs) l store room h some = rw (le-leb 4200 room h) (omega arith)

listing-offset : (piece : List ℕ) (l : Listing) (store : List ℕ) (room : ℕ) → (listing l store room piece).next.offset ≡ l.offset + (listing l store room piece).taken
unfolding listing
listing-offset [] l store room = omega arith
listing-offset (b ∷ bs) l store room = grind (arith, nat_tests, listing-offset bs)

module _ (l : Listing) (store piece out : List ℕ) where
  pub list-few : (list l store piece out).taken ≤ length piece
  list-few = rw (list-is l store piece out) (go (call_refusal l store out))
    where
      go : (r : Option Refusal) → (answered r l store piece out).taken ≤ length piece
      go (Some r) = omega arith
      go None = omega (arith, listing-few (take (left l) piece) l store (length out), length-take (left l) piece)

  -- the offset moves by what was taken
  pub list-offset : (list l store piece out).next.offset ≡ l.offset + (list l store piece out).taken
  list-offset = rw (list-is l store piece out) (go (call_refusal l store out))
    where
      go : (r : Option Refusal) → (answered r l store piece out).next.offset ≡ l.offset + (answered r l store piece out).taken
      go (Some r) = omega arith
      go None = listing-offset (take (left l) piece) l store (length out)

  -- where a call is not refused, and a byte is there that may be read, it takes one at least: calls come to an end
  pub list-some : 4110 ≤ length store → 4200 ≤ length out → count_of l.receiver ≤ 4110 → 0 < left l → 0 < length piece → 0 < (list l store piece out).taken
  unfolding list
  list-some h k f more some =
      rw (le-ltb (length store) 4110 h, le-ltb (length out) 4200 k, within l.receiver f)
      (listing-some (take (left l) piece) l store (length out) k (omega (arith, length-take (left l) piece)))

-- ---- what was written lies within the buffer

abbrev Within : Outcome → List ℕ → Type 0
Within (wrote n) out = n ≤ length out
Within (refused_by k) out = Unit {0}

inside_by : (written : Result ℕ Refusal) (out : List ℕ) (w : Left) → leaves (written_paper written) out ≡ w → Within w.outcome w.out → Inside written out
inside_by (Ok n) out w e h = subst (λ (x : Left). Within x.outcome x.out) (sym e) h
inside_by (Err r) out w e h = tt

text-within : (t out : List ℕ) → length t ≤ length (t ++ drop (length t) out)
text-within t out = omega (arith, length-append t (drop (length t) out))

module _ (l : Listing) (store piece out : List ℕ) (answer : Listed) (store' out' : List ℕ) (e : Lists l store piece out answer store' out') where
  pub lists-few : answer.taken ≤ length piece
  lists-few = subst (λ (a : Call). a.taken ≤ length piece) (sym e) (list-few l store piece out)

  pub lists-inside : Inside answer.written out'
  lists-inside = inside_by answer.written out' (list l store piece out).left (ap (λ (a : Call). a.left) e) (rw (list-is l store piece out) (go (call_refusal l store out)))
    where
      go : (r : Option Refusal) → Within (answered r l store piece out).left.outcome (answered r l store piece out).left.out
      go (Some r) = tt
      go None = text-within (lines (listing l store (length out) (take (left l) piece)).blocks) out

pub closes-inside : (l : Listing) (out : List ℕ) (answer : Result ℕ Refusal) (out' : List ℕ) → Writes (closing l out) answer out' → Inside answer out'
unfolding writing
closes-inside l out answer out' e =
    let t = totals l.frames l.refusals in
    inside_by answer out' (closing l out) e
    (by_cond (λ (w : Left). Within w.outcome w.out) (leb 38 (length out))
    (λ s. by_cond (λ (w : Left). Within w.outcome w.out) (leb (length t) (length out)) (λ u. text-within t out) (λ u. tt))
    (λ s. tt))
