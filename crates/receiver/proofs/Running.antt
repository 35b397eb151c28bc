-- A run is stepping: bytes that are only waited over, or only stored, can be passed many at a time.
use Rattle.std.proofs.Common.{◌≡◌, refl, sym, ap, ◌∙◌, subst, Bool, true, false, not, cond, List, [], ◌∷◌, ◌++◌, ℕ, suc, ◌+◌, ◌-◌, ◌≤◌, arith, add-one, one-add, zero-add, add-zero, add_assoc, length, take, drop, set, take-append-drop, length-drop, length-take, length-set, length-take-le, take_all, eqb, le-ltb}
use Rattle.std.proofs.Math.Seq.{sets, sets-eq}
use Rattle.std.proofs.lemmas.List.{nil_from_length}
use Rattle.std.proofs.lemmas.Bool.{eqb-false, or_parts}
use Rattle.buffer.specs.Put.{Put, puts}
use Rattle.frame.specs.Frame.{SOI, CR}
use Rattle.frame.specs.Judge.{nothing}
use Rattle.receiver.specs.declared.Receiver.{Receiver}
use Rattle.receiver.specs.declared.Receiver.TheVariants.{Waiting, Open}
use Rattle.std.specs.List.{list_any, position_or_len}
use Rattle.receiver.specs.Step.{After, gives, step}
use Rattle.receiver.specs.Run.{is_nothing, count_of, Run, stops, later, stepping, run}
use Rattle.receiver.specs.Pass.{is_soi, is_end, Fits, moved, Passed}
use Rattle.receiver.proofs.Receive.{step-fits}
use Rattle.receiver.proofs.Scans.{position-le}
use Rattle.receiver.proofs.Rows.{row-idle, row_more, within}

with_taken : Run → ℕ → Run
with_taken r k = record { next = r.next; store = r.store; told = r.told; taken = k; held = r.held }

pub later-zero : (r : Run) → later 0 r ≡ r
unfolding with_taken
later-zero r = ap (with_taken r) (zero-add r.taken)

later-later : (a b : ℕ) (r : Run) → later a (later b r) ≡ later (a + b) r
unfolding with_taken
later-later a b r = ap (with_taken r) (sym (add_assoc a b r.taken))

-- ---- a call that isn't refused

pub run-within-is : (r : Receiver) (store piece : List ℕ) → 4110 ≤ length store → count_of r ≤ 4110 → run r store piece ≡ stepping r store piece
unfolding run
run-within-is r store piece h k = rw (le-ltb (length store) 4110 h, within r k)

-- ---- bytes that give nothing

-- one byte
step-on : (r r' : Receiver) (store store' : List ℕ) (b : ℕ) (bs : List ℕ) → gives r' store' nothing ≡ step r store b
    → stepping r store (b ∷ bs) ≡ later 1 (stepping r' store' bs)
unfolding stepping
step-on r r' store store' b bs e =
    ap (λ (a : After). cond (is_nothing a.told) (later 1 (stepping a.next a.store bs)) (stops (count_of r) a)) (sym e)

-- while waiting, all up to the next SOI
wait-case : (store : List ℕ) (room : 4110 ≤ length store) (b : ℕ) (bs : List ℕ) (t : Bool) → is_soi b ≡ t
    → stepping Waiting store bs ≡ later (position_or_len is_soi bs) (stepping Waiting store (drop (position_or_len is_soi bs) bs))
    → (n : ℕ) → n ≡ cond (not t) (1 + position_or_len is_soi bs) 0
    → stepping Waiting store (b ∷ bs) ≡ later n (stepping Waiting store (drop n (b ∷ bs)))
wait-case store room b bs true e ih n q = rw q (sym (later-zero (stepping Waiting store (b ∷ bs))))
wait-case store room b bs false e ih n q =
    let k : ℕ = position_or_len is_soi bs in
    rw (q, one-add k)
    (step-on Waiting Waiting store store b bs (row-idle store b room (eqb-false b SOI e))
    ∙ ap (later 1) ih
    ∙ later-later 1 k (stepping Waiting store (drop k bs))
    ∙ ap (λ (m : ℕ). later m (stepping Waiting store (drop k bs))) (one-add k))

wait-run : (store : List ℕ) (room : 4110 ≤ length store) (piece : List ℕ)
    → stepping Waiting store piece ≡ later (position_or_len is_soi piece) (stepping Waiting store (drop (position_or_len is_soi piece) piece))
unfolding stepping
wait-run store room [] = refl
wait-run store room (b ∷ bs) = wait-case store room b bs (is_soi b) refl (wait-run store room bs) (position_or_len is_soi (b ∷ bs)) refl

-- while open, bytes that are neither SOI nor CR
open-run : (n : ℕ) (store p q : List ℕ) → 4110 ≤ length store → list_any is_end p ≡ false → n + length p ≤ 4110
    → stepping (Open n) store (p ++ q) ≡ later (length p) (stepping (Open (n + length p)) (sets store n p) q)
open-run n store [] q room none h =
    sym (later-zero (stepping (Open n) store q)) ∙ ap (λ (m : ℕ). later 0 (stepping (Open m) store q)) (sym (add-zero n))
open-run n store (b ∷ p) q room none h =
    let rest : Run = stepping (Open (suc n + length p)) (sets (set store n b) (suc n) p) q in
    let far : suc n + length p ≡ n + suc (length p) = omega arith in
    let parts = or_parts (is_end b) (list_any is_end p) none in
    let plain = or_parts (eqb b SOI) (eqb b CR) parts.0 in
    step-on (Open n) (Open (n + 1)) store (set store n b) b (p ++ q)
    (row_more store b room n (omega arith) (eqb-false b SOI plain.0) (eqb-false b CR plain.1) (λ e. omega arith))
    ∙ ap (λ (m : ℕ). later 1 (stepping (Open m) (set store n b) (p ++ q))) (add-one n)
    ∙ ap (later 1) (open-run (suc n) (set store n b) p q (omega (arith, length-set store n b)) parts.1 (omega arith))
    ∙ later-later 1 (length p) rest
    ∙ ap (λ (m : ℕ). later m rest) (one-add (length p))
    ∙ ap (λ (m : ℕ). later (suc (length p)) (stepping (Open m) (sets (set store n b) (suc n) p) q)) far

-- ---- what the functions that pass bytes ensure

pub passed-wait : (store piece : List ℕ) (k : ℕ) → 4110 ≤ length store → k ≡ position_or_len is_soi piece → Passed Waiting store piece k store
passed-wait store piece k room e =
    record {
      few = omega (arith, position-le is_soi piece);
      count = omega arith;
      same = wait-run store room piece ∙ ap (λ (m : ℕ). later m (stepping Waiting store (drop m piece))) (sym e);
    }

pub passed-open : (n : ℕ) (store piece store' : List ℕ) (k next : ℕ) → 4110 ≤ length store → list_any is_end (take k piece) ≡ false → k ≤ length piece → n + k ≤ 4110
    → Put store n (take k piece) store' next → Passed (Open n) store piece k store'
unfolding puts
passed-open n store piece store' k next room none h fits p =
    let l : length (take k piece) ≡ k = length-take-le k piece h in
    let e : store' ≡ sets store n (take k piece) = p.is ∙ sym (sets-eq (take k piece) store n (omega arith)) in
    record {
      few = h;
      count = fits;
      same =
          ap (stepping (Open n) store) (sym (take-append-drop k piece))
          ∙ open-run n store (take k piece) (drop k piece) room none (omega arith)
          ∙ ap (λ (m : ℕ). later m (stepping (Open (n + m)) (sets store n (take k piece)) (drop k piece))) l
          ∙ ap (λ (s : List ℕ). later k (stepping (Open (n + k)) s (drop k piece))) (sym e);
    }

-- ---- a turn of the run: of what is left of the piece k bytes pass, and then one is stepped over

module _ {whole : Run} {r at : Receiver} {store rest store' : List ℕ} {k : ℕ} (piece : List ℕ) (within : length rest ≤ length piece)
    (so_far : whole ≡ later (length piece - length rest) (stepping r store rest)) (p : Passed r store rest k store') (is : at ≡ moved r k) where
  -- what is left then
  abbrev left : List ℕ
  left = take (length rest - k) (drop k rest)

  passed : whole ≡ later (length piece - length rest + k) (stepping at store' left)
  passed =
      so_far ∙ ap (later (length piece - length rest)) p.same
      ∙ later-later (length piece - length rest) k (stepping (moved r k) store' (drop k rest))
      ∙ (λ i. later (length piece - length rest + k) (stepping (sym is i) store' (sym (take_all (length rest - k) (drop k rest) (omega (arith, length-drop k rest))) i)))

  length-left : length left + k ≡ length rest
  length-left = omega (arith, p.few, length-take (length rest - k) (drop k rest), length-drop k rest)

  pub turn_end : length left ≡ 0 → record { next = at; store = store'; told = nothing; taken = length piece; held = 0 } ≡ whole
  unfolding passed stepping
  turn_end e =
      let taken : length piece - length rest + k + 0 ≡ length piece = omega (arith, length-left) in
      sym (passed ∙ ap (λ (l : List ℕ). later (length piece - length rest + k) (stepping at store' l)) (nil_from_length left e)
      ∙ ap (λ (n : ℕ). record { next = at; store = store'; told = nothing; taken = n; held = 0 }) taken)

  module _ {b : ℕ} {behind : List ℕ} (cut : left ≡ b ∷ behind) (a : After) (e : a ≡ step at store' b) where
    stepped : (told_nothing : Bool) → is_nothing a.told ≡ told_nothing
        → whole ≡ later (length piece - length rest + k) (cond told_nothing (later 1 (stepping a.next a.store behind)) (stops (count_of at) a))
    unfolding passed stepping
    stepped t f =
        passed ∙ ap (λ (l : List ℕ). later (length piece - length rest + k) (stepping at store' l)) cut
        ∙ ap (λ (x : After). later (length piece - length rest + k) (cond (is_nothing x.told) (later 1 (stepping x.next x.store behind)) (stops (count_of at) x))) (sym e)
        ∙ ap (λ (x : Bool). later (length piece - length rest + k) (cond x (later 1 (stepping a.next a.store behind)) (stops (count_of at) a))) f

    taken-now : length piece - length rest + k + 1 ≡ length piece - length behind
    taken-now = omega (arith, length-left, ap length cut)

    pub turn-stop : is_nothing a.told ≡ false → {held : ℕ} → held ≡ count_of at
        → record { next = a.next; store = a.store; told = a.told; taken = length piece - length behind; held = held } ≡ whole
    turn-stop f h =
        sym (stepped false f ∙ (λ i. record { next = a.next; store = a.store; told = a.told; taken = taken-now i; held = sym h i }))

    pub turn_more : is_nothing a.told ≡ true → 4110 ≤ length store'
        → (length behind ≤ length piece) × Fits a.next a.store × (whole ≡ later (length piece - length behind) (stepping a.next a.store behind))
    turn_more f room = (
      omega (arith, length-left, ap length cut),
      subst (λ (x : After). Fits x.next x.store) (sym e) (step-fits at store' b (room, rw is p.count)),
      stepped true f ∙ later-later (length piece - length rest + k) 1 (stepping a.next a.store behind) ∙ ap (λ (n : ℕ). later n (stepping a.next a.store behind)) taken-now,
    )
