-- Laws of names: their bytes in the text, and what the tests of characters go by. Assumes nothing.
use Prim.Native.Nat.{ℕ, zero, suc, ◌+◌, ◌-◌, ◌/◌, ◌%◌, min}
use native.Mathlib.Omega.{arith}
use native.Mathlib.Numerals.{unary_clauses}
use mathlib.Core.Path.{◌≡◌, refl, sym, ap, ◌∙◌}
use mathlib.Core.List.{List, [], ◌∷◌}
use mathlib.Core.Bool.{Bool, true, false, ◌&&◌}
use lib.ListN.{length, get_or, take, drop, length-drop}
use lib.Seq.{take-nil, drop-nil}
use Rattle.std.specs.List.{list_all}
use Rattle.trees.specs.Names.{spelled}
use Rattle.tokens.specs.Ident.{starts, goes_on, all_go_on, ident_refusal}

-- a range cut at the text's end
cut-take : (n : ℕ) (s : List ℕ) → take (min n (length s)) s ≡ take n s
cut-take n [] = take-nil (min n 0) ∙ sym (take-nil n)
cut-take zero (c ∷ cs) = simp unary_clauses
cut-take (suc n) (c ∷ cs) = simp unary_clauses (ap (c ∷◌) (cut-take n cs))

cut-drop : (n : ℕ) (s : List ℕ) → drop (min n (length s)) s ≡ drop n s
cut-drop n [] = drop-nil (min n 0) ∙ sym (drop-nil n)
cut-drop zero (c ∷ cs) = simp unary_clauses
cut-drop (suc n) (c ∷ cs) = simp unary_clauses (cut-drop n cs)

pub spelled_is : (text p : List ℕ) (range from m : ℕ) → from ≡ min (range / 4294967296) (length text) → m ≡ min (range % 4294967296) (length text - from) → p ≡ take (from + m - from) (drop from text) → p ≡ spelled text range
unfolding spelled
spelled_is text p range from m a b e =
    let n : from + m - from ≡ m = omega arith in
    e ∙ rw (n, b, ← length-drop from text, cut-take (range % 4294967296) (drop from text), a, cut-drop (range / 4294967296) text)

-- all of a list and each of it
pub all_are : (s : List ℕ) → list_all goes_on s ≡ all_go_on s
unfolding all_go_on
all_are [] = refl
all_are (c ∷ cs) = ap (goes_on c &&◌) (all_are cs)

-- an identifier
pub ident-empty : (s : List ℕ) → length s ≡ 0 → 13 ≡ ident_refusal s
unfolding ident_refusal
ident-empty [] h = refl
ident-empty (c ∷ cs) h = absurd (omega arith)

pub ident-first : (s : List ℕ) (r : Bool) → (length s ≡ 0 → ⊥) → r ≡ starts (get_or s 0 0) → r ≡ false → 14 ≡ ident_refusal s
unfolding ident_refusal
ident-first [] r h p q = absurd (h refl)
ident-first (c ∷ cs) r h p q = simp (sym p, q)

-- what may start may follow, so the first byte may be judged with the others
starts-on : (c : ℕ) (cs : List ℕ) → starts c ≡ true → all_go_on (c ∷ cs) ≡ all_go_on cs
unfolding goes_on all_go_on
starts-on c cs e = rw e

pub ident-good : (s : List ℕ) (r q : Bool) → (length s ≡ 0 → ⊥) → r ≡ starts (get_or s 0 0) → r ≡ true → q ≡ all_go_on s → q ≡ true → 0 ≡ ident_refusal s
unfolding ident_refusal
ident-good [] r q h p t e f = absurd (h refl)
ident-good (c ∷ cs) r q h p t e f = rw (sym p, t, ← starts-on c cs (sym p ∙ t), sym e, f)

pub ident-bad : (s : List ℕ) (r q : Bool) → (length s ≡ 0 → ⊥) → r ≡ starts (get_or s 0 0) → r ≡ true → q ≡ all_go_on s → q ≡ false → 15 ≡ ident_refusal s
unfolding ident_refusal
ident-bad [] r q h p t e f = absurd (h refl)
ident-bad (c ∷ cs) r q h p t e f = rw (sym p, t, ← starts-on c cs (sym p ∙ t), sym e, f)
