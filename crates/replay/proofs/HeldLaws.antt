-- An output compared with records and the zeros after them, from the front. Assumes nothing.
use Rattle.std.proofs.Common.{◌≡◌, ℕ, suc, ◌+◌, ◌-◌, ◌<◌, ◌≤◌, true, false, Bool, ◌&&◌, eqb, ◌==◌, List, [], ◌∷◌, ◌++◌, length, take, drop, replicate, sym, refl, ap, ◌∙◌, arith, length-append}
use lib.ListN.{length-replicate, length-drop}
use Rattle.std.proofs.Math.Seq.{take-length}
use Rattle.words.specs.Bytes.{same_bytes}
use Rattle.words.proofs.SameLaws.{lengths_differ, same_eq}
use Rattle.trees.specs.Choice.{pick}
use Rattle.std.specs.List.{list_all}
use Rattle.replay.specs.Agreed.{padded, held}

padded-length : (records : List ℕ) (n : ℕ) → length (padded records n) ≡ length records + (n - length records)
unfolding padded
padded-length records n = simp (length-append, length-replicate)

pub held-long : (l records : List ℕ) → length l < length records → false ≡ held l records
unfolding held
held-long l records h = lengths_differ l (padded records (length l)) (λ e. omega (arith, e, padded-length records (length l)))

abbrev is-zero : ℕ → Bool
is-zero b = b == 0

zeros_held : (l : List ℕ) → list_all is-zero l ≡ same_bytes l (replicate (length l) 0)
unfolding same_bytes
zeros_held [] = refl
zeros_held (x ∷ xs) = go (eqb x 0) (zeros_held xs)
  where
    go : (b : Bool) → list_all is-zero xs ≡ same_bytes xs (replicate (length xs) 0) → (b && list_all is-zero xs) ≡ pick b (same_bytes xs (replicate (length xs) 0)) false
    go true e = e
    go false e = refl

-- the records first, and then the zeros
split : (l rs : List ℕ) → length rs ≤ length l → same_bytes l (rs ++ replicate (length l - length rs) 0) ≡ pick (same_bytes (take (length rs) l) rs) (list_all is-zero (drop (length rs) l)) false
unfolding same_bytes
split l [] h = let e : length l - 0 ≡ length l = omega arith in rw e (sym (zeros_held l))
split [] (r ∷ rs) h = absurd (omega arith)
split (x ∷ xs) (r ∷ rs) h =
    let e : suc (length xs) - suc (length rs) ≡ length xs - length rs = omega arith in
    rw e (go (eqb x r) (split xs rs (omega arith)))
  where
    go : (b : Bool) → same_bytes xs (rs ++ replicate (length xs - length rs) 0) ≡ pick (same_bytes (take (length rs) xs) rs) (list_all is-zero (drop (length rs) xs)) false
        → pick b (same_bytes xs (rs ++ replicate (length xs - length rs) 0)) false ≡ pick (pick b (same_bytes (take (length rs) xs) rs) false) (list_all is-zero (drop (length rs) xs)) false
    go true i = i
    go false i = refl

module _ (l records : List ℕ) (fits : length records ≤ length l) (t : Bool) (same : t ≡ same_bytes (take (length records) l) records) where
  pub held-other : t ≡ false → false ≡ held l records
  unfolding held padded
  held-other e = sym (split l records fits ∙ rw (← same, e))

  rest_is : take (length l - length records) (drop (length records) l) ≡ drop (length records) l
  rest_is = ap (λ (i : ℕ). take i (drop (length records) l)) (sym (length-drop (length records) l)) ∙ take-length (drop (length records) l)

  pub held_same : t ≡ true → (b : Bool) → b ≡ list_all is-zero (take (length l - length records) (drop (length records) l)) → b ≡ held l records
  unfolding held padded
  held_same e b z = z ∙ ap (list_all is-zero) rest_is ∙ sym (split l records fits ∙ rw (← same, e))

-- what the test says
pub held-is : (l records : List ℕ) → held l records ≡ true → l ≡ padded records (length l)
unfolding held
held-is l records e = same_eq l (padded records (length l)) e
