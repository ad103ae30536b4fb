-- The first number of a list that is not 0. Assumes nothing.
use mathlib.Core.Path.{◌≡◌, refl, sym, ap, ◌∙◌}
use mathlib.Core.Bool.{Bool, true, false}
use mathlib.Core.Option.{Option, none, some}
use mathlib.Core.List.{List, [], ◌∷◌}
use Prim.Native.Nat.{ℕ, zero, suc, ◌+◌, ◌<◌}
use native.Mathlib.Nat.{add-suc, suc-add, add-zero}
use native.Mathlib.Omega.{arith}
use lib.Dec.{eqb}
use lib.ListN.{get_or}
use borrow.Author.Tests.{eqb-true, eqb-false, eq-eqb, ne_eqb}
use Rattle.trees.specs.Choice.{pick}
use Rattle.grounds.specs.Stages.{Refusal, refusal, first_from}

pub data FirstFlaw (i : ℕ) (ns : List ℕ) : Option Refusal → Type 0 where
  there : (n k : ℕ) → get_or ns k 0 ≡ n → 0 < n → ((j : ℕ) → j < k → get_or ns j 0 ≡ 0) → FirstFlaw i ns (some (refusal n (i + k)))
  nowhere : ((j : ℕ) → get_or ns j 0 ≡ 0) → FirstFlaw i ns none

later : (i n : ℕ) (ns : List ℕ) (o : Option Refusal) → n ≡ 0 → FirstFlaw (suc i) ns o → FirstFlaw i (n ∷ ns) o
later i n ns o z (there m k e p b) = rw (suc-add i k, ← add-suc i k) (there m (suc k) e p before)
  where
    before : (j : ℕ) → j < suc k → get_or (n ∷ ns) j 0 ≡ 0
    before zero h = z
    before (suc j) h = b j (omega arith)
later i n ns o z (nowhere b) = nowhere none-at
  where
    none-at : (j : ℕ) → get_or (n ∷ ns) j 0 ≡ 0
    none-at zero = z
    none-at (suc j) = b j

pub first_flaw : (i : ℕ) (ns : List ℕ) → FirstFlaw i ns (first_from i ns)
unfolding first_from
first_flaw i [] = nowhere (λ j. refl)
first_flaw i (n ∷ ns) = go (eqb n 0) refl (first_flaw (suc i) ns)
  where
    go : (b : Bool) → eqb n 0 ≡ b → FirstFlaw (suc i) ns (first_from (suc i) ns) → FirstFlaw i (n ∷ ns) (pick b (first_from (suc i) ns) (some (refusal n i)))
    go true e f = later i n ns (first_from (suc i) ns) (eqb-true n 0 e) f
    go false e f =
        let p : 0 < n = omega (arith, eqb-false n 0 e) in
        let z : FirstFlaw i (n ∷ ns) (some (refusal n (i + 0))) = there n 0 refl p (λ j h. absurd (omega arith)) in
        rw (add-zero i) at z

pub flaw_there : (i n k : ℕ) (ns : List ℕ) → get_or ns k 0 ≡ n → 0 < n → ((j : ℕ) → j < k → get_or ns j 0 ≡ 0) → first_from i ns ≡ some (refusal n (i + k))
unfolding first_from
flaw_there i n k [] e p b = absurd (omega arith)
flaw_there i n zero (m ∷ ns) e p b = let z : m ≡ 0 → ⊥ = λ q. omega arith in rw (ne_eqb m 0 z, e, add-zero i)
flaw_there i n (suc k) (m ∷ ns) e p b =
    rw (eq-eqb m 0 (b 0 (omega arith)), add-suc i k) (flaw_there (suc i) n k ns e p (λ j h. b (suc j) (omega arith)) ∙ rw (suc-add i k))

pub flaw_nowhere : (i : ℕ) (ns : List ℕ) → ((j : ℕ) → get_or ns j 0 ≡ 0) → first_from i ns ≡ none
unfolding first_from
flaw_nowhere i [] b = refl
flaw_nowhere i (n ∷ ns) b = rw (eq-eqb n 0 (b 0)) (flaw_nowhere (suc i) ns (λ j. b (suc j)))

-- one number after another
pub flaw_here : (i n : ℕ) (ns : List ℕ) → 0 < n → first_from i (n ∷ ns) ≡ some (refusal n i)
unfolding first_from
flaw_here i n ns p = let z : n ≡ 0 → ⊥ = λ q. omega arith in rw (ne_eqb n 0 z)

pub flaw_next : (i n : ℕ) (ns : List ℕ) → n ≡ 0 → first_from i (n ∷ ns) ≡ first_from (suc i) ns
unfolding first_from
flaw_next i n ns e = rw (eq-eqb n 0 e)

-- a refusal whose place goes on after d records
abbrev pub shifted : ℕ → Option Refusal → Option Refusal
shifted d none = none
shifted d (some r) = some (refusal r.number (d + r.place))

pub flaw_shifted : (d i : ℕ) (ns : List ℕ) → first_from (d + i) ns ≡ shifted d (first_from i ns)
unfolding first_from
flaw_shifted d i [] = refl
flaw_shifted d i (n ∷ ns) = go (eqb n 0) (ap (λ (k : ℕ). first_from k ns) (sym (add-suc d i)) ∙ flaw_shifted d (suc i) ns)
  where
    go : (b : Bool) → first_from (suc (d + i)) ns ≡ shifted d (first_from (suc i) ns)
        → pick b (first_from (suc (d + i)) ns) (some (refusal n (d + i))) ≡ shifted d (pick b (first_from (suc i) ns) (some (refusal n i)))
    go true e = e
    go false e = refl
