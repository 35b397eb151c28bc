-- Calls that keep their contracts are those of the definition, so what is said of these is said of them.
use Rattle.std.proofs.Common.{◌≡◌, ℕ, List, [], ◌∷◌, ◌++◌, take, drop, sym, refl, ap, ◌∙◌, subst}
use Rattle.listing.specs.declared.Listing.{Listing}
use Rattle.listing.specs.Piece.{fresh, left, Call, list, closing}
use Rattle.listing.specs.Calls.{Given, text, calls}
use Rattle.listing.specs.Made.{Caller, Makes, ends, rest, texts, ListsStream, here}
use Rattle.listing.proofs.Stretches.{any-calls-tell}

module _ (caller : Caller)
    (is : (l : Listing) (store stream : List ℕ) (m : caller.Made) → caller.Keeps l store stream m → caller.leaves m ≡ list l store (take (caller.given m).most stream) (caller.given m).out) where
  givens : List caller.Made → List Given
  givens [] = []
  givens (m ∷ ms) = caller.given m ∷ givens ms

  made-is : (l : Listing) (store stream : List ℕ) (ms : List caller.Made) → Makes caller l store stream ms
      → let z = calls l store stream (givens ms) in (z.next ≡ ends caller l ms) × (z.rest ≡ rest caller stream ms) × (z.said ≡ texts caller ms)
  unfolding Makes ends rest texts calls givens
  made-is l store stream [] k = (refl, refl, refl)
  made-is l store stream (m ∷ ms) k =
      let b = caller.leaves m in
      let h = made-is b.next b.store (drop b.taken stream) ms k.1 in
      subst
      (λ (a : Call).
      let z = calls a.next a.store (drop a.taken stream) (givens ms) in
      (z.next ≡ ends caller b.next ms) × (z.rest ≡ rest caller (drop b.taken stream) ms) × (text a.left ++ z.said ≡ text b.left ++ texts caller ms))
      (is l store stream m k.0)
      (h.0, h.1, ap (λ (s : List ℕ). text b.left ++ s) h.2)

  pub lists-stream-of : ListsStream caller
  lists-stream-of stream store ms out closed room wide made none is-closed =
      let e = made-is fresh store stream ms made in
      let t = any-calls-tell stream store (givens ms) out room wide ((λ i. take (left (e.0 i)) (e.1 i)) ∙ none) in
      (t.0, t.1, (λ i. sym e.2 i ++ text ((is-closed ∙ ap (λ (l : Listing). closing l out) (sym e.0)) i)) ∙ t.2)

pub lists-stream : ListsStream here
lists-stream = lists-stream-of here (λ l store stream m k. k)
