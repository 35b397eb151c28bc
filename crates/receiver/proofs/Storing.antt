-- Bytes stored few at a time with no branch on them: each place gets its byte, or what it has.
use Rattle.std.proofs.Common.{◌≡◌, refl, sym, ap, ◌∙◌, subst, Bool, true, false, not, cond, ◌&&◌, List, ◌++◌, ℕ, ◌+◌, ◌-◌, ◌≤◌, ◌<◌, zero-le, add-zero, add-one, arith, eqb, length, get_or, take, drop, set, length-drop, take_all, length-take-le, take-take, take-add, eqb-true}
use Rattle.std.proofs.Math.Seq.{paste, paste-zero, paste-suc, set-get_or}
use Rattle.buffer.specs.Put.{Put, puts}
use Rattle.buffer.proofs.Puts.{put_then}
use Rattle.receiver.specs.declared.Receiver.TheVariants.{Open}
use Rattle.std.specs.List.{list_any, position_or_len}
use Rattle.receiver.specs.Pass.{is_end, Stored, Passed}
use Rattle.std.specs.Int.{from_bool}
use Rattle.receiver.proofs.Scans.{position-le, position-drop, position-more, none-before}
use Rattle.receiver.proofs.Running.{passed-open}

-- a copy of k bytes before the first SOI or CR
pub stored-copy : (store : List ℕ) (at : ℕ) (s : List ℕ) (k : ℕ) (store' : List ℕ) → k ≤ position_or_len is_end s → store' ≡ paste store at s k → Stored store at s k store'
unfolding puts
stored-copy store at s k store' h e =
    let l : length (take k s) ≡ k = length-take-le k s (omega (arith, position-le is_end s)) in
    record {
      few = h;
      put =
          record {
            end = ap (λ (n : ℕ). at + n) (sym l);
            is = e ∙ ap (λ (n : ℕ). take at store ++ take k s ++ drop (at + n) store) (sym l);
          };
    }

pub stored-none : (store : List ℕ) (at : ℕ) (s : List ℕ) → Stored store at s 0 store
stored-none store at s = stored-copy store at s 0 store zero-le (paste-zero store at s)

-- ---- a turn of the loop, at place j: the byte there is one more where all before it were stored and it is neither SOI nor CR

module _ (store₀ : List ℕ) (at : ℕ) (s store : List ℕ) (k j : ℕ) (room : at + length s ≤ length store₀) (here : j < length s)
    (few : k ≤ position_or_len is_end s) (so_far : store ≡ paste store₀ at s k) where
  abbrev Turned : ℕ → ℕ → Type 0
  Turned byte one = (one ≤ 1) × (k + one ≤ position_or_len is_end s) × (set store (at + j) byte ≡ paste store₀ at s (k + one))

  stores : k ≡ j → is_end (get_or s j 0) ≡ false → Turned (get_or s j 0) 1
  stores e plain = (
    omega arith,
    position-more is_end s k few (omega (arith, here)) (ap (λ (i : ℕ). is_end (get_or s i 0)) e ∙ plain),
    ap (λ (l : List ℕ). set l (at + j) (get_or s j 0)) so_far
        ∙ ap (λ (m : ℕ). set (paste store₀ at s m) (at + j) (get_or s j 0)) e
        ∙ paste-suc store₀ at s j 0 (omega arith) here
        ∙ ap (paste store₀ at s) (sym (ap (λ (m : ℕ). m + 1) e ∙ add-one j)),
  )

  keeps : Turned (get_or store (at + j) 0) 0
  keeps = (omega arith, omega arith, set-get_or store (at + j) 0 ∙ so_far ∙ ap (paste store₀ at s) (sym (add-zero k)))

  by_tests : (same end : Bool) → eqb k j ≡ same → is_end (get_or s j 0) ≡ end → {byte one : ℕ}
      → byte ≡ cond (same && not end) (get_or s j 0) (get_or store (at + j) 0) → one ≡ from_bool (same && not end) → Turned byte one
  by_tests true false p q b o = rw (b, o) (stores (eqb-true k j p) q)
  by_tests true true p q b o = rw (b, o) keeps
  by_tests false end p q b o = rw (b, o) keeps

  pub store-turn : {x byte one : ℕ} (end : Bool) → x ≡ get_or s j 0 → end ≡ is_end x
      → byte ≡ cond (eqb k j && not end) x (get_or store (at + j) 0) → one ≡ from_bool (eqb k j && not end) → Turned byte one
  store-turn {x} end e q b o =
      by_tests (eqb k j) end refl (ap is_end (sym e) ∙ sym q) (b ∙ ap (λ (y : ℕ). cond (eqb k j && not end) y (get_or store (at + j) 0)) e) o

-- ---- k bytes copied, and r of those behind them stored

pub stored-both : (store : List ℕ) (at : ℕ) (s mid store' : List ℕ) (k r next : ℕ) → at + length s ≤ length store
    → k ≤ position_or_len is_end s → Put store at (take k s) mid next → Stored mid next (take (length s - k) (drop k s)) r store' → Stored store at s (k + r) store'
stored-both store at s mid store' k r next room h p rest =
    let st = subst (λ (t : List ℕ). Stored mid next t r store') (take_all (length s - k) (drop k s) (omega (arith, length-drop k s))) rest in
    let within : k ≤ length s = omega (arith, position-le is_end s) in
    let l : length (take k s) ≡ k = length-take-le k s within in
    let far : next + r ≡ at + (k + r) = omega (arith, p.end) in
    record {
      few = omega (arith, position-drop is_end s k h, st.few);
      put =
          subst (λ (t : List ℕ). Put store at t store' (at + (k + r))) (sym (take-add k r s))
          (subst (λ (n : ℕ). Put store at (take k s ++ take r (drop k s)) store' n) far (put_then (record { fits = omega arith }) p st.put));
    }

-- of the first bytes of a piece, as many as may be stored
pub passed-stored : (n : ℕ) (store piece store' : List ℕ) (most k : ℕ) → 4110 ≤ length store → n + most ≤ 4110 → most ≤ length piece
    → Stored store n (take most piece) k store' → Passed (Open n) store piece k store'
passed-stored n store piece store' most k room fits inside st =
    let few : k ≤ most = omega (arith, st.few, position-le is_end (take most piece), length-take-le most piece inside) in
    let same : take k (take most piece) ≡ take k piece = take-take k most piece few in
    passed-open n store piece store' k (n + k) room (ap (list_any is_end) (sym same) ∙ none-before is_end (take most piece) k st.few) (omega arith) (omega arith)
    (subst (λ (t : List ℕ). Put store n t store' (n + k)) same st.put)
