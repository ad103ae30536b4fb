-- Names compared by their lengths, and by their bytes where these are equal.
use Rattle.std.specs.Prelude.{ℕ, suc, Bool, true, false, List, [], ◌∷◌, length, ◌==◌, nat_lt, slice_index}
use Rattle.trees.specs.Choice.{pick}

-- how many bytes at the front agree
unfoldable pub agreed : List ℕ → List ℕ → ℕ
agreed [] bs = 0
agreed (a ∷ xs) [] = 0
agreed (a ∷ xs) (b ∷ bs) = pick (a == b) (suc (agreed xs bs)) 0

-- whether a stands before b by the first byte in which they differ
unfoldable pub below : List ℕ → List ℕ → Bool
below a b = nat_lt (slice_index a (agreed a b)) (slice_index b (agreed a b))

-- the shorter comes before, and of one length the lower by bytes
unfoldable pub before : List ℕ → List ℕ → Bool
before a b = pick (nat_lt (length a) (length b)) true (pick (nat_lt (length b) (length a)) false (below a b))
