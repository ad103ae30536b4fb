-- The test of a symbol's bytes by one bit of a word: it and the definition are computed for each byte that is no letter. Assumes nothing.
use Prim.Native.Nat.{ℕ, zero, suc, ◌/◌, ◌%◌, ◌^◌, ◌<◌}
use native.Mathlib.Omega.{arith}
use mathlib.Core.Path.{◌≡◌, refl}
use mathlib.Core.Bool.{Bool, true, false, false≢true}
use lib.Dec.{eqb}
use borrow.Author.Tests.{eqb-true, eqb-false}
use Rattle.trees.specs.Choice.{pick}
use Rattle.lexer.specs.Bytes.{is_ascii_whitespace, is_sym_other}

-- two tests that are the same below n
abbrev same : Bool → Bool → Bool
same true b = b
same false true = false
same false false = true

same_true : (a b : Bool) → same a b ≡ true → a ≡ b
same_true true true e = refl
same_true true false e = absurd (false≢true e)
same_true false true e = absurd (false≢true e)
same_true false false e = refl

same_below : (ℕ → Bool) → (ℕ → Bool) → ℕ → Bool
same_below f g zero = true
same_below f g (suc n) = pick (same (f n) (g n)) (same_below f g n) false

same_at : (f g : ℕ → Bool) (n c : ℕ) → c < n → same_below f g n ≡ true → f c ≡ g c
unfolding same_below
same_at f g zero c h e = absurd (omega arith)
same_at f g (suc n) c h e = go (same (f n) (g n)) (eqb c n) refl refl e (λ k. same_at f g n c k)
  where
    go : (a b : Bool) → same (f n) (g n) ≡ a → eqb c n ≡ b → pick a (same_below f g n) false ≡ true → (c < n → same_below f g n ≡ true → f c ≡ g c) → f c ≡ g c
    go false b p q r k = absurd (false≢true r)
    go true true p q r k = rw (eqb-true c n q) (same_true (f n) (g n) p)
    go true false p q r k = k (omega (arith, eqb-false c n q)) r

pub other_bit : (c : ℕ) → c < 64 → eqb (17870280018576263679 / 2 ^ c % 2) 1 ≡ is_sym_other c
unfolding same_below is_ascii_whitespace is_sym_other
other_bit c h = same_at (λ x. eqb (17870280018576263679 / 2 ^ x % 2) 1) is_sym_other 64 c h refl
