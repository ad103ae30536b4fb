-- Two names compared, by what the library says of two slices, and from the front. Assumes nothing.
use Rattle.std.proofs.Common.{◌≡◌, ℕ, zero, suc, ◌+◌, ◌<◌, ◌≤◌, Bool, true, false, eqb, ltb, List, [], ◌∷◌, length, get_or, drop, sym, refl, ap, ◌∙◌, add-one, arith, drop_of_length-le, drop-cons, ltb-true, le-ltb, lt-ltb, eq-eqb, ne_eqb, eqb-true}
use borrow.Author.Tests.{eqb-false}
use Rattle.trees.specs.Choice.{pick}
use Rattle.trees.specs.Names.{spelled}
use Rattle.words.specs.Bytes.{same_bytes}
use Rattle.words.proofs.SameLaws.{same_refl}
use Rattle.std.proofs.Common.{Bool, ◌&&◌}
use Rattle.std.specs.Cmp.Lexicographic.{pointwise, slice_cmp}
use Rattle.std.specs.Ordering.{nat_cmp, is_lt, ordering_then}
use Rattle.names.specs.Compare.{agreed, below, before}

-- ---- the same

pub same_pointwise : (a b : List ℕ) → pointwise eqb a b ≡ same_bytes a b
unfolding same_bytes
same_pointwise [] [] = refl
same_pointwise [] (y ∷ ys) = refl
same_pointwise (x ∷ xs) [] = refl
same_pointwise (x ∷ xs) (y ∷ ys) = go (eqb x y) (same_pointwise xs ys)
  where
    go : (t : Bool) → pointwise eqb xs ys ≡ same_bytes xs ys → (t && pointwise eqb xs ys) ≡ pick t (same_bytes xs ys) false
    go true e = e
    go false e = refl

pub same_range : (text : List ℕ) (a b : ℕ) → a ≡ b → true ≡ same_bytes (spelled text a) (spelled text b)
same_range text a b e = rw e (sym (same_refl (spelled text b)))

-- ---- how many bytes agree

module _ (a b : List ℕ) (i : ℕ) (q : agreed a b ≡ i + agreed (drop i a) (drop i b)) where
  pub agreed_turn : i < length a → length a ≡ length b → get_or a i 0 ≡ get_or b i 0 → agreed a b ≡ i + 1 + agreed (drop (i + 1) a) (drop (i + 1) b)
  unfolding agreed
  agreed_turn h l e =
      let k : i < length b = omega arith in
      let s : agreed (drop i a) (drop i b) ≡ suc (agreed (drop (i + 1) a) (drop (i + 1) b)) = rw (add-one, drop-cons a i 0 h, drop-cons b i 0 k, eq-eqb (get_or a i 0) (get_or b i 0) e) in
      omega (arith, q, s)

  pub agreed_differ : i < length a → length a ≡ length b → (get_or a i 0 ≡ get_or b i 0 → ⊥) → i ≡ agreed a b
  unfolding agreed
  agreed_differ h l e =
      let k : i < length b = omega arith in
      let s : agreed (drop i a) (drop i b) ≡ 0 = rw (drop-cons a i 0 h, drop-cons b i 0 k, ne_eqb (get_or a i 0) (get_or b i 0) e) in
      omega (arith, q, s)

  pub agreed-end : length a ≤ i → i ≡ agreed a b
  unfolding agreed
  agreed-end h =
      let s : agreed (drop i a) (drop i b) ≡ 0 = rw (drop_of_length-le a h) in
      omega (arith, q, s)

pub agreed_front : (a b : List ℕ) (i : ℕ) → ((k : ℕ) → 0 ≤ k → k < i → get_or a k 0 ≡ get_or b k 0) → i ≤ length a → length a ≡ length b → agreed a b ≡ i + agreed (drop i a) (drop i b)
agreed_front a b zero g h l = omega arith
agreed_front a b (suc i) g h l =
    rw (← add-one i) (agreed_turn a b i (agreed_front a b i (λ k u v. g k u (omega arith)) (omega arith) l) (omega arith) l (g i (omega arith) (omega arith)))

suc_same : (m n : ℕ) → eqb (suc m) (suc n) ≡ eqb m n
suc_same m n = go (eqb m n) refl
  where
    go : (c : Bool) → eqb m n ≡ c → eqb (suc m) (suc n) ≡ c
    go true p = eq-eqb (suc m) (suc n) (ap suc (eqb-true m n p))
    go false p = ne_eqb (suc m) (suc n) (λ e. eqb-false m n p (omega arith))

all_same : (a b : List ℕ) → length a ≡ length b → eqb (agreed a b) (length a) ≡ same_bytes a b
unfolding agreed same_bytes
all_same [] [] l = refl
all_same [] (y ∷ ys) l = absurd (omega arith)
all_same (x ∷ xs) [] l = absurd (omega arith)
all_same (x ∷ xs) (y ∷ ys) l = go (eqb x y) (all_same xs ys (omega arith))
  where
    go : (t : Bool) → eqb (agreed xs ys) (length xs) ≡ same_bytes xs ys → eqb (pick t (suc (agreed xs ys)) 0) (suc (length xs)) ≡ pick t (same_bytes xs ys) false
    go true e = suc_same (agreed xs ys) (length xs) ∙ e
    go false e = ne_eqb 0 (suc (length xs)) (λ z. absurd (omega arith))

pub same_agreed : (a b : List ℕ) (i : ℕ) → i ≡ agreed a b → length a ≡ length b → eqb i (length a) ≡ same_bytes a b
same_agreed a b i e l = rw e (all_same a b l)

-- ---- before

end_low : (a b : List ℕ) → length a ≡ length b → length a ≤ agreed a b → below a b ≡ false
unfolding below agreed
end_low [] [] l h = refl
end_low [] (y ∷ ys) l h = absurd (omega arith)
end_low (x ∷ xs) [] l h = absurd (omega arith)
end_low (x ∷ xs) (y ∷ ys) l h = go (eqb x y) h (end_low xs ys (omega arith))
  where
    go : (t : Bool) → suc (length xs) ≤ pick t (suc (agreed xs ys)) 0
        → (length xs ≤ agreed xs ys → ltb (get_or xs (agreed xs ys) 0) (get_or ys (agreed xs ys) 0) ≡ false)
        → ltb (get_or (x ∷ xs) (pick t (suc (agreed xs ys)) 0) 0) (get_or (y ∷ ys) (pick t (suc (agreed xs ys)) 0) 0) ≡ false
    go true u k = k (omega arith)
    go false u k = absurd (omega arith)

pub below_end : (a b : List ℕ) (i : ℕ) → i ≡ agreed a b → length a ≡ length b → length a ≤ i → false ≡ below a b
below_end a b i e l h = let u : length a ≤ agreed a b = omega arith in sym (end_low a b l u)

below_front : (a b : ℕ) (xs ys : List ℕ) → a ≡ b → below (a ∷ xs) (b ∷ ys) ≡ below xs ys
unfolding below agreed
below_front a b xs ys e = rw (eq-eqb a b e)

below_first : (a b : ℕ) (xs ys : List ℕ) → (a ≡ b → ⊥) → below (a ∷ xs) (b ∷ ys) ≡ ltb a b
unfolding below agreed
below_first a b xs ys e = rw (ne_eqb a b e)

below_none : below [] [] ≡ false
unfolding below agreed
below_none = refl

-- of one length, the library's order is by the first byte in which they differ
below_is : (a b : List ℕ) → length a ≡ length b → is_lt (slice_cmp nat_cmp a b) ≡ below a b
below_is [] [] l = sym below_none
below_is [] (y ∷ ys) l = absurd (omega arith)
below_is (x ∷ xs) [] l = absurd (omega arith)
below_is (x ∷ xs) (y ∷ ys) l = go (ltb x y) (eqb x y) refl refl (below_is xs ys (omega arith))
  where
    go : (s t : Bool) → ltb x y ≡ s → eqb x y ≡ t → is_lt (slice_cmp nat_cmp xs ys) ≡ below xs ys → is_lt (ordering_then (nat_cmp x y) (slice_cmp nat_cmp xs ys)) ≡ below (x ∷ xs) (y ∷ ys)
    go true t p q e = let n : x ≡ y → ⊥ = λ z. absurd (omega (arith, ltb-true x y p)) in rw (p, below_first x y xs ys n, p)
    go false true p q e = rw (p, q, below_front x y xs ys (eqb-true x y q)) e
    go false false p q e = rw (p, q, below_first x y xs ys (eqb-false x y q), p)

pub before_shorter : (a b : List ℕ) → length a < length b → true ≡ before a b
unfolding before
before_shorter a b h = rw (lt-ltb (length a) (length b) h)

pub before_longer : (a b : List ℕ) → length b < length a → false ≡ before a b
unfolding before
before_longer a b h = let k : length b ≤ length a = omega arith in rw (le-ltb (length a) (length b) k, lt-ltb (length b) (length a) h)

pub before_equal : (a b : List ℕ) → length a ≡ length b → is_lt (slice_cmp nat_cmp a b) ≡ before a b
unfolding before
before_equal a b l = let h : length b ≤ length a = omega arith in let k : length a ≤ length b = omega arith in below_is a b l ∙ rw (le-ltb (length a) (length b) h, le-ltb (length b) (length a) k)

not_below : (a : List ℕ) → below a a ≡ false
not_below [] = below_none
not_below (x ∷ xs) = below_front x x xs xs refl ∙ not_below xs

pub before_range : (text : List ℕ) (a b : ℕ) → a ≡ b → false ≡ before (spelled text a) (spelled text b)
unfolding before
before_range text a b e = let s = spelled text b in let h : length s ≤ length s = omega arith in rw (e, le-ltb (length s) (length s) h) (sym (not_below s))
