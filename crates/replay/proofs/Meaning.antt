-- What it says that no difference is counted for a case: at each size that was tried the stored answer is the definition's, number and bytes. Assumes nothing.
use Rattle.std.proofs.Common.{◌≡◌, ℕ, ◌+◌, ◌-◌, Bool, true, false, eqb, List, [], length, sym, refl, ◌∙◌, arith, ne_eqb, eqb-true}
use mathlib.Core.Bool.{false≢true}
use Rattle.trees.specs.Choice.{pick}
use Rattle.replay.specs.Said.{Said, SaidBoth}
use Rattle.replay.specs.Agreed.{padded, held, agreed, agreed_both}
use Rattle.replay.specs.Counted.{after, without_space, after_room, after_short, after_case, after_opening}
use Rattle.replay.proofs.HeldLaws.{held-is}

both : (t u : Bool) → pick t u false ≡ true → (t ≡ true) × (u ≡ true)
both true u e = (refl, e)
both false u e = absurd (false≢true e)

-- the number is the answer, and the output is the records and then zeros
pub agreed-is : (s : Said) (answer : ℕ) (records : List ℕ) → agreed s answer records ≡ true → (s.number ≡ answer) × (s.output ≡ padded records (length s.output))
unfolding agreed
agreed-is s answer records e = let p = both (eqb s.number answer) (held s.output records) e in (eqb-true s.number answer p.0, held-is s.output records p.1)

pub agreed_both_is : (s : SaidBoth) (answer : ℕ) (templates records : List ℕ) → agreed_both s answer templates records ≡ true → (s.store ≡ padded templates (length s.store)) × (agreed s.said answer records ≡ true)
unfolding agreed_both
agreed_both_is s answer templates records e = let p = both (held s.store templates) (agreed s.said answer records) e in (held-is s.store templates p.0, p.1)

-- fewer than 2^64 calls that differ are never counted as none
none_differs : (d : ℕ) (a b c : Bool) → after (after (after d a) b) c ≡ d → (a ≡ true) × (b ≡ true) × (c ≡ true)
unfolding after
none_differs d true true true e = (refl, refl, refl)
none_differs d true true false e = absurd (omega (arith, e))
none_differs d true false true e = absurd (omega (arith, e))
none_differs d true false false e = absurd (omega (arith, e))
none_differs d false true true e = absurd (omega (arith, e))
none_differs d false true false e = absurd (omega (arith, e))
none_differs d false false true e = absurd (omega (arith, e))
none_differs d false false false e = absurd (omega (arith, e))

-- a case of an entry with one output: `compare` of src/output_cases.rt counts no difference
pub output-case : (d : ℕ) (s : ℕ → Said) (more answer : ℕ) (records : List ℕ) → after_case d s more answer records ≡ d → (agreed (s (length records)) answer records ≡ true) × (agreed (s (length records + more)) answer records ≡ true) × ((length records ≡ 0 → ⊥) → agreed (s (length records - 1)) (without_space answer) [] ≡ true)
unfolding after_case after_short after_room after
output-case d s more answer records e = go (length records) (eqb (length records) 0) refl (agreed (s (length records)) answer records) (agreed (s (length records + more)) answer records) (agreed (s (length records - 1)) (without_space answer) []) e
  where
    go : (n : ℕ) (t : Bool) → eqb n 0 ≡ t → (a b c : Bool) → pick t (after (after d a) b) (after (after (after d a) b) c) ≡ d → (a ≡ true) × (b ≡ true) × ((n ≡ 0 → ⊥) → c ≡ true)
    go n true p a b c q = let r = none_differs d a b true q in (r.0, r.1, λ h. absurd (false≢true (sym (ne_eqb n 0 h) ∙ p)))
    go n false p a b c q = let r = none_differs d a b c q in (r.0, r.1, λ _. r.2)

-- a case of opening: `compare` of src/open_cases.rt counts no difference
pub open_case : (d : ℕ) (s : ℕ → ℕ → SaidBoth) (n m answer : ℕ) (templates records : List ℕ) → after_opening d s n m answer templates records ≡ d → (agreed_both (s n m) answer templates records ≡ true) × (agreed_both (s (n + 10) (m + 10)) answer templates records ≡ true)
unfolding after_opening after
open_case d s n m answer templates records e = let r = none_differs d (agreed_both (s n m) answer templates records) (agreed_both (s (n + 10) (m + 10)) answer templates records) true e in (r.0, r.1)
