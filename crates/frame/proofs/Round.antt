-- What was written is read, and what was read is written the same way again: over the contracts of `judge` and `write`.
use Rattle.std.proofs.Common.{◌≡◌, ℕ, ◌+◌, ◌-◌, ◌*◌, ◌≤◌, ◌↔◌, List, [], ◌∷◌, ◌++◌, length, drop, sym, refl, ap, ◌∙◌, subst, append_assoc, arith, take_at, le-leb, Result, Ok}
use Rattle.refusal.specs.declared.Refusal.{Refusal}
use Rattle.buffer.specs.Writing.{Writes, writing, leaves, wrote}
use Rattle.buffer.proofs.Writers.{writes_one}
use Rattle.hex_chars.specs.Hex.{hexes, word, unhexes, Bytes}
use Rattle.hex_chars.proofs.Laws.{length-hexes, unhexes-hexes}
use Rattle.frame.specs.declared.Header.{Header}
use Rattle.frame.specs.Frame.{SOI, CR, length_of, chksum, packed, seal, chars, encode, info_at, Encodes, Frames, between}
use Rattle.frame.specs.Judge.{Judges}
use Rattle.frame.specs.Write.{framed}
use Rattle.frame.specs.Answered.{Judged, framed_by}
use Rattle.frame.proofs.Answered.{paper-injective}
use Rattle.frame.proofs.Judging.{judge-accepts}
use Rattle.frame.proofs.Steps.{length-chars, length-encode}

-- ---- the judge's contract allows one answer

pub judges-one : (c : List ℕ) (a b : Judged) → Judges c a → Judges c b → a ≡ b
judges-one c a b p q = paper-injective a b (p ∙ sym q)

-- and a frame is answered for the whole encodings, and only for them
pub judges-frame : (c : List ℕ) (h : Header) (n : ℕ) → Judges c (framed_by h n) ↔ Frames h n c
judges-frame c h n = (λ p. (judge-accepts c h n).0 (sym p), λ f. sym ((judge-accepts c h n).1 f))

-- ---- where INFO stands

pub info-at : (h : Header) (info c : List ℕ) → Encodes h info c → info_at (2 * length info) c ≡ hexes info
unfolding chars seal packed hexes
info-at h info c e =
    let b = hexes (packed h (length_of (2 * length info)) info) in
    ap (info_at (2 * length info)) e.is ∙ take_at (hexes info) (hexes (word (chksum b))) (2 * length info) (length-hexes info)

-- ---- what was written is read

module _ (h : Header) (info : List ℕ) (head : Bytes (h.ver ∷ h.adr ∷ h.cid1 ∷ h.cid2 ∷ [])) (body : Bytes info) (out : List ℕ) where
  -- with INFO of at most 2,047 bytes, and room for it
  module _ (short : length info ≤ 2047) (room : 18 + 2 * length info ≤ length out) where
    framed_is : framed h info out ≡ leaves (wrote (18 + 2 * length info)) (encode h info ++ drop (18 + 2 * length info) out)
    unfolding writing
    framed_is = simp (le-leb (length info) 2047 short, length-encode h info, le-leb (18 + 2 * length info) (length out) room)

    between_is : between (18 + 2 * length info) (encode h info ++ drop (18 + 2 * length info) out) ≡ chars h info
    unfolding encode
    between_is =
        rw (append_assoc (chars h info) (CR ∷ []) (drop (18 + 2 * length info) out))
        (take_at (chars h info) (CR ∷ drop (18 + 2 * length info) out) (18 + 2 * length info - 2) (omega (arith, length-chars h info)))

    encodes : Encodes h info (chars h info)
    encodes = record { head = head; body = body; short = short; is = refl }

    -- reading what was written returns it
    pub written-is-read : (w : Result ℕ Refusal) (out' : List ℕ) → Writes (framed h info out) w out'
        → (n : ℕ) × (w ≡ Ok n) × ((judged : Judged) → Judges (between n out') judged
        → (judged ≡ framed_by h (2 * length info)) × (unhexes (info_at (2 * length info) (between n out')) ≡ info))
    written-is-read w out' p =
        let n = 18 + 2 * length info in
        let q = writes_one (framed h info out) w (Ok n) out' (encode h info ++ drop n out) p (sym framed_is) in
        let c : between n out' ≡ chars h info = ap (between n) q.1 ∙ between_is in (
          n,
          q.0,
          λ judged j. (
            judges-one (chars h info) judged (framed_by h (2 * length info)) (subst (λ (x : List ℕ). Judges x judged) c j)
                ((judges-frame (chars h info) h (2 * length info)).1 (info, encodes, refl)),
            ap (λ (x : List ℕ). unhexes (info_at (2 * length info) x)) c
                ∙ ap unhexes (info-at h info (chars h info) encodes) ∙ unhexes-hexes info body,
          ),
        )

-- ---- what was accepted is written the same way again

pub read-is-written : (c : List ℕ) (h : Header) (n : ℕ) → Judges c (framed_by h n) → (out : List ℕ) → length c + 2 ≤ length out
    → (w : Result ℕ Refusal) (out' : List ℕ) → Writes (framed h (unhexes (info_at n c)) out) w out'
    → (w ≡ Ok (length c + 2)) × (out' ≡ SOI ∷ (c ++ CR ∷ []) ++ drop (length c + 2) out)
unfolding encode
read-is-written c h n j out room w out' p = go ((judges-frame c h n).0 j)
  where
    go : Frames h n c → (w ≡ Ok (length c + 2)) × (out' ≡ SOI ∷ (c ++ CR ∷ []) ++ drop (length c + 2) out)
    go (info, e, k) =
        let i : unhexes (info_at n c) ≡ info =
        ap (λ (x : ℕ). unhexes (info_at x c)) k ∙ ap unhexes (info-at h info c e) ∙ unhexes-hexes info e.body in
        let l : length c + 2 ≡ 18 + 2 * length info = omega (arith, ap length e.is, length-chars h info) in
        let q : Writes (framed h info out) w out' = rw i at p in
        let r = writes_one (framed h info out) w (Ok (18 + 2 * length info)) out' (encode h info ++ drop (18 + 2 * length info) out) q
        (sym (framed_is h info e.head e.body out e.short (omega arith))) in (
          r.0 ∙ ap Ok (sym l),
          r.1 ∙ ap (λ (x : List ℕ). SOI ∷ (x ++ CR ∷ []) ++ drop (18 + 2 * length info) out) (sym e.is)
              ∙ ap (λ (x : ℕ). SOI ∷ (c ++ CR ∷ []) ++ drop x out) (sym l),
        )
