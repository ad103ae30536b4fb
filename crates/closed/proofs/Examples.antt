-- The theorem at `(rule (A x) y)` of document 01, with an output of 16 records. Assumes nothing.
use Prim.Native.Nat.{ℕ, zero, suc, ◌<◌, ◌≤◌}
use native.Mathlib.Omega.{arith}
use mathlib.Core.Path.{◌≡◌, refl}
use mathlib.Core.Bool.{Bool, true}
use mathlib.Core.List.{List, [], ◌∷◌}
use lib.ListN.{length, get_or}
use lib.Dec.{ltb}
use borrow.Author.Tests.{ltb-true}
use Rattle.trees.specs.Tree.{count, records, records_all}
use Rattle.words.specs.Words.{be4, be8}
use Rattle.parser.specs.Reading.{done, number, bytes}
use Rattle.exprs.specs.Examples.{tok, sym, id}
use Rattle.grammar.specs.Examples.{accepted, tree}
use Rattle.grammar.proofs.Theorem.{exact}
use Rattle.grammar.proofs.Examples.{derived}
use Rattle.forms.specs.Tests.{◌and◌}
use Rattle.forms.proofs.TestLaws.{both}
use Rattle.closed.specs.Closed.{Taken, Closed}
use Rattle.closed.proofs.Theorem.{taken, closed}

pub rule-taken : Taken (length accepted.text) (records_all tree)
rule-taken = taken derived

-- its tokens are bytes
all_low : List ℕ → Bool
all_low [] = true
all_low (x ∷ xs) = ltb x 256 and all_low xs

low-at : (l : List ℕ) → all_low l ≡ true → (i : ℕ) → get_or l i 0 < 256
unfolding all_low
low-at [] e i = omega arith
low-at (x ∷ xs) e zero = ltb-true x 256 (both e).0
low-at (x ∷ xs) e (suc i) = low-at xs (both e).1 i

tokens-low : all_low accepted.tokens ≡ true
unfolding all_low accepted tok sym be8 be4 ◌and◌
tokens-low = refl

end_low : accepted.end < 4294967296
unfolding accepted
end_low = omega arith

seven : length (records_all tree) ≤ 16
unfolding records tree id count
seven = omega arith

pub rule-closed : Closed accepted (number (done tree)) (bytes 384 (done tree))
rule-closed = closed accepted 384 tree (record { byte = low-at accepted.tokens tokens-low; end = end_low }) ((exact accepted 16 tree).1 (derived, seven))
