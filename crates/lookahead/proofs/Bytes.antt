-- Inputs whose first bytes are the same agree. Assumes nothing.
use Prim.Native.Nat.{ℕ, zero, suc, ◌+◌, ◌*◌, ◌<◌, ◌≤◌}
use native.Mathlib.Omega.{arith}
use mathlib.Core.Path.{◌≡◌, refl, sym, ap, ◌∙◌}
use mathlib.Core.List.{List, [], ◌∷◌}
use mathlib.Core.Bool.{Bool, true, false}
use lib.ListN.{get_or, take, length-take}
use lib.Dec.{ltb}
use borrow.Author.Tests.{ltb-true, ltb-false, lt-ltb, le-ltb}
use Rattle.words.specs.Words.{half_at, word_at}
use Rattle.tokens.specs.Token.{token_count, token_at}
use Rattle.tokens.specs.Input.{Input}
use Rattle.lookahead.specs.Agree.{Agree}

byte_taken : (n : ℕ) (l : List ℕ) (k : ℕ) → k < n → get_or (take n l) k 0 ≡ get_or l k 0
byte_taken zero l k h = absurd (omega arith)
byte_taken (suc n) [] k h = refl
byte_taken (suc n) (x ∷ l) zero h = refl
byte_taken (suc n) (x ∷ l) (suc k) h = byte_taken n l k (omega arith)

half_taken : (n : ℕ) (l : List ℕ) (k : ℕ) → k + 4 ≤ n → half_at (take n l) k ≡ half_at l k
unfolding half_at
half_taken n l k h = rw (byte_taken n l k (omega arith), byte_taken n l (k + 1) (omega arith), byte_taken n l (k + 2) (omega arith), byte_taken n l (k + 3) (omega arith))

word-taken : (n : ℕ) (l : List ℕ) (k : ℕ) → k + 8 ≤ n → word_at (take n l) k ≡ word_at l k
unfolding word_at
word-taken n l k h = rw (half_taken n l k (omega arith), half_taken n l (k + 4) (omega arith))

-- m + 1 tokens, or all if there are less
module _ (m : ℕ) (l : List ℕ) (i : ℕ) (h : i ≤ m) where
  count-taken : ltb i (token_count (take ((m + 1) * 24) l)) ≡ ltb i (token_count l)
  count-taken = go (ltb i (token_count l)) refl
    where
      go : (b : Bool) → ltb i (token_count l) ≡ b → ltb i (token_count (take ((m + 1) * 24) l)) ≡ ltb i (token_count l)
      go true e = lt-ltb i (token_count (take ((m + 1) * 24) l)) (omega (arith, length-take ((m + 1) * 24) l, ltb-true i (token_count l) e)) ∙ sym e
      go false e = le-ltb i (token_count (take ((m + 1) * 24) l)) (omega (arith, length-take ((m + 1) * 24) l, ltb-false i (token_count l) e)) ∙ sym e

  token-taken : (end : ℕ) → token_at (take ((m + 1) * 24) l) end i ≡ token_at l end i
  unfolding token_at
  token-taken end =
      let n = (m + 1) * 24 in
      rw (count-taken, word-taken n l (i * 24) (omega arith), word-taken n l (i * 24 + 8) (omega arith), word-taken n l (i * 24 + 16) (omega arith))

pub agree-bytes : (m : ℕ) (s t : Input) → s.text ≡ t.text → s.end ≡ t.end → take ((m + 1) * 24) s.tokens ≡ take ((m + 1) * 24) t.tokens → Agree m s t
agree-bytes m s t x e b =
    record {
      text = x;
      tokens = λ i h.
          sym (token-taken m s.tokens i (omega arith) s.end) ∙ ap (λ (l : List ℕ). token_at l s.end i) b
          ∙ token-taken m t.tokens i (omega arith) s.end ∙ ap (λ (z : ℕ). token_at t.tokens z i) e;
      ends = λ i h. sym (count-taken m s.tokens i (omega arith)) ∙ ap (λ (l : List ℕ). ltb i (token_count l)) b ∙ count-taken m t.tokens i (omega arith);
    }
