-- What the functions lean on: a turn, a block and the end of the sum, LENGTH within sixteen bits, and the parts of a written frame.
use Rattle.std.proofs.Common.{◌≡◌, ℕ, ◌/◌, ◌+◌, ◌-◌, ◌*◌, ◌%◌, ◌<◌, ◌≤◌, List, [], ◌∷◌, ◌++◌, length, get_or, take, drop, sym, ap, ◌∙◌, subst, append_assoc, arith, length-append, take_at, take-add}
use Rattle.std.specs.List.{sum}
use Rattle.std.specs.Simd.{first_chunks}
use Rattle.std.proofs.lemmas.List.Sums.{sum_by-append, sum_by-cons, sum_by-take-drop}
use Rattle.buffer.specs.Put.{Put, Room}
use Rattle.buffer.proofs.Lists.{chunk_at}
use Rattle.buffer.proofs.Puts.{puts-front, put_then}
use Rattle.hex_chars.specs.Hex.{hexes, word}
use Rattle.hex_chars.proofs.Laws.{hexes-join, length-hexes}
use Rattle.frame.specs.declared.Header.{Header}
use Rattle.frame.specs.Frame.{SOI, CR, lchksum, length_of, chksum, packed, seal, chars, encode}
use Rattle.frame.proofs.Judging.{length-packed}

pub sum-join : (s t : List ℕ) → sum (s ++ t) ≡ sum s + sum t
sum-join s t = sum_by-append (λ x. x) s t

pub sum-more : (c : ℕ) (s : List ℕ) → sum (c ∷ s) ≡ c + sum s
sum-more c s = sum_by-cons (λ x. x) c s

-- the sum with one block more
pub sum_block : (s : List ℕ) (k i rest total here : ℕ) (d : List ℕ) → i < k → here ≡ sum (get_or (first_chunks 64 k s) i d) % 65536
    → total ≡ (rest + sum (take (64 * i) s)) % 65536 → (total + here) % 65536 ≡ (rest + sum (take (64 * (i + 1)) s)) % 65536
sum_block s k i rest total here d h e f =
    let more : sum (take (64 * (i + 1)) s) ≡ sum (take (64 * i) s) + sum (take 64 (drop (64 * i) s)) = (let e : 64 * (i + 1) ≡ 64 * i + 64 = omega arith in ap (λ (n : ℕ). sum (take n s)) e) ∙ ap sum (take-add (64 * i) 64 s) ∙ sum-join (take (64 * i) s) (take 64 (drop (64 * i) s)) in
    omega (arith, more, e ∙ ap (λ (l : List ℕ). sum l % 65536) (chunk_at 64 k i s d h))

-- the sum of all blocks and of what fills none, taken from zero
pub sum_all : (s : List ℕ) (total r : ℕ) → total ≡ (sum (drop (length s / 64 * 64) s) + sum (take (64 * (length s / 64)) s)) % 65536 → r < 65536 → (r + total) % 65536 ≡ 0
    → r ≡ chksum s
unfolding chksum
sum_all s total r e f z =
    let same : 64 * (length s / 64) ≡ length s / 64 * 64 = omega arith in
    omega (arith, ap (λ (k : ℕ). sum (take k s)) same, sum_by-take-drop (λ x. x) s (length s / 64 * 64))

pub lchksum-small : (n : ℕ) → lchksum n < 16
unfolding lchksum
lchksum-small n = omega arith

pub ruleset small = (lchksum-small)

pub length-chars : (h : Header) (info : List ℕ) → length (chars h info) ≡ 16 + 2 * length info
unfolding chars seal
length-chars h info =
    let l = length_of (2 * length info) in
    let b = hexes (packed h l info) in
    omega (arith, length-append b (hexes (word (chksum b))), length-packed h l info, length-hexes (word (chksum b)))

pub length-encode : (h : Header) (info : List ℕ) → length (encode h info) ≡ 18 + 2 * length info
unfolding encode
length-encode h info = omega (arith, length-append (chars h info) (CR ∷ []), length-chars h info)

pub ruleset lengths = (length-encode, length-packed, length-hexes)

pub ruleset written = (length-encode, puts-front)

-- what was put behind the first byte of a buffer
behind : (out out' : List ℕ) (x : ℕ) (text : List ℕ) (end : ℕ) → Put out 0 (x ∷ text) out' end → take (end - 1) (drop 1 out') ≡ text
behind out out' x text end p =
    let e : out' ≡ x ∷ text ++ drop (length (x ∷ text)) out = p.is ∙ puts-front out (x ∷ text) in
    rw e (take_at text (drop (length (x ∷ text)) out) (end - 1) (omega (arith, p.end)))

head-info : (h : Header) (l : ℕ) (info : List ℕ) → hexes (packed h l []) ++ hexes info ≡ hexes (packed h l info)
unfolding packed
head-info h l info = sym (hexes-join (packed h l []) info)

-- the head, INFO, and the CHKSUM of both with CR make the frame
module _ (h : Header) (info out out1 out2 out3 : List ℕ) (l start end n : ℕ) (room : 18 + 2 * length info ≤ length out) (is : l ≡ length_of (2 * length info))
    (p : Put out 0 (SOI ∷ hexes (packed h l [])) out1 start) (q : Put out1 start (hexes info) out2 end)
    (r : Put out2 end (hexes (word (chksum (take (end - 1) (drop 1 out2)))) ++ CR ∷ []) out3 n) where
  body-put : Put out 0 (SOI ∷ hexes (packed h l info)) out2 end
  body-put =
      let fits : Room out 0 (SOI ∷ hexes (packed h l [])) = record { fits = omega (arith, length-packed h l []) } in
      rw (head-info h l info) at (put_then fits p q)

  pub frame-put : Put out 0 (encode h info) out3 n
  unfolding encode chars seal
  frame-put =
      let b = hexes (packed h l info) in
      let fits : Room out 0 (SOI ∷ b) = record { fits = omega (arith, length-packed h l info) } in
      let text : SOI ∷ b ++ (hexes (word (chksum b)) ++ CR ∷ []) ≡ encode h info =
      ap (λ (x : List ℕ). SOI ∷ x) (sym (append_assoc b (hexes (word (chksum b))) (CR ∷ [])))
      ∙ ap (λ (w : ℕ). SOI ∷ (seal (hexes (packed h w info)) ++ CR ∷ [])) is in
      subst (λ (x : List ℕ). Put out 0 x out3 n) text (put_then fits body-put (rw (behind out out2 SOI b end body-put) at r))
