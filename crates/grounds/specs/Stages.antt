-- Grounds in stages: an ordered list of what may be wrong, and the first of it. Nothing here speaks of opening.
use Rattle.std.specs.Prelude.{◌≡◌, Bool, List, [], ◌∷◌, ◌++◌, ℕ, suc, ◌+◌, ◌<◌, eqb, length, get_or}
use Rattle.std.proofs.Math.Option.{Option, none, some}
use Rattle.trees.specs.Choice.{pick}
use Rattle.trees.specs.declared.Head.{Head}
use Rattle.trees.specs.Tree.{Tree, Trees, node, ∅, ◌▸◌}
use Rattle.grounds.specs.Facts.{NodeAt}

-- ---- a refusal, and the first of several

pub record Refusal : Type 0 where
  pub number : ℕ
  pub place : ℕ

abbrev pub refusal : ℕ → ℕ → Refusal
refusal number place = record { number = number; place = place }

infixr 30 ◌or_else◌
abbrev pub ◌or_else◌ : Option Refusal → Option Refusal → Option Refusal
none or_else o = o
some r or_else o = some r

-- the first number that is not 0, the first of them being that of the place i
unfoldable pub first_from : ℕ → List ℕ → Option Refusal
first_from i [] = none
first_from i (n ∷ ns) = pick (eqb n 0) (first_from (suc i) ns) (some (refusal n i))

-- ---- a stage

-- what is wrong: a number, at a place
abbrev pub Fact : Type 1
Fact = ℕ → ℕ → Type 0

-- the plain fact; and, of each place from `start` on, the number of what is wrong there, or 0
pub record Stage : Type 1 where
  pub fact : Fact
  pub start : ℕ
  pub numbers : List ℕ

-- nothing is wrong; nothing is wrong before the place k
abbrev pub Nowhere : Fact → Type 0
Nowhere S = (m j : ℕ) → S m j → ⊥

abbrev pub NotBefore : ℕ → Fact → Type 0
NotBefore k S = (m j : ℕ) → j < k → S m j → ⊥

-- ---- stages in their order

-- n at k is what is wrong first: in S, or, where nothing is wrong in S, by R
pub data First (S R : Fact) (n k : ℕ) : Type 0 where
  here : S n k → NotBefore k S → First S R n k
  later : Nowhere S → R n k → First S R n k

-- REFUSED with n at k: of the stages in which anything is wrong the first, and of its places the first
unfoldable pub Refused : List Stage → Fact
Refused [] n k = ⊥
Refused (S ∷ Ss) n k = First S.fact (Refused Ss) n k

-- the same as a function: the first number that is not 0, by stage and then by place
abbrev pub found : Stage → Option Refusal
found S = first_from S.start S.numbers

unfoldable pub verdict : List Stage → Option Refusal
verdict [] = none
verdict (S ∷ Ss) = found S or_else verdict Ss

-- the stages of each of several things in turn
unfoldable pub in_turn : {A : Type 0} → (A → List Stage) → List A → List Stage
in_turn f [] = []
in_turn f (x ∷ xs) = f x ++ in_turn f xs

-- ---- three shapes of a stage

-- a number at one place, if P; `b` is the test of P
abbrev pub single : ℕ → ℕ → Type 0 → Bool → Stage
single number place P b = record { fact = λ n k. (n ≡ number) × (k ≡ place) × P; start = place; numbers = pick b number 0 ∷ [] }

-- a number at each v of xs, whose first place is i
pub record Listed (number v : ℕ) (xs : List ℕ) (i n k : ℕ) : Type 0 where
  pub is : n ≡ number
  pub index : ℕ
  pub inside : index < length xs
  pub equal : get_or xs index 0 ≡ v
  pub place : k ≡ i + index

unfoldable pub only : ℕ → ℕ → List ℕ → List ℕ
only number v [] = []
only number v (x ∷ xs) = pick (eqb x v) number 0 ∷ only number v xs

abbrev pub listed : ℕ → ℕ → List ℕ → ℕ → Stage
listed number v xs i = record { fact = Listed number v xs i; start = i; numbers = only number v xs }

-- the number of a node of which F holds, in trees whose first record has the place i; `f` computes it, or 0
pub record Within (F : Head → Trees → ℕ → Type 0) (ts : Trees) (i n k : ℕ) : Type 0 where
  pub index : ℕ
  pub head : Head
  pub children : Trees
  pub node_at : NodeAt ts index head children
  pub wrong : F head children n
  pub place : k ≡ i + index

unfoldable mutual
  pub marks : (Head → Trees → ℕ) → Tree → List ℕ
  marks f (node h ts) = f h ts ∷ marks_all f ts

  pub marks_all : (Head → Trees → ℕ) → Trees → List ℕ
  marks_all f ∅ = []
  marks_all f (t ▸ ts) = marks f t ++ marks_all f ts

abbrev pub within : (Head → Trees → ℕ → Type 0) → (Head → Trees → ℕ) → Trees → ℕ → Stage
within F f ts i = record { fact = Within F ts i; start = i; numbers = marks_all f ts }
