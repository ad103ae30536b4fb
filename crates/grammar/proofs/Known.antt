-- The combinators again, with the relation found by them: a reader, and what it is exact for. Assumes nothing.
use Prim.Native.Nat.{ℕ, ◌+◌, ◌≤◌}
use mathlib.Core.Path.{◌≡◌, refl}
use mathlib.Core.Bool.{Bool}
use Rattle.trees.specs.Tree.{node, ∅, ◌▸◌, head}
use Rattle.trees.specs.declared.Head.{Head}
use Rattle.tokens.specs.declared.Token.{Token}
use Rattle.tokens.specs.Input.{Input, peek, pos_at}
use Rattle.steps.specs.Outcome.{Reader, ◌⊳◌, parent, flagged, bare, leaf, nothing, refuse_at, refuse_after, if_next, if_second}
use Rattle.grammar.proofs.Exact.{Rel, Reach, Exact, Judges, plain, Never, Nothing, One, Any, Then, Up, Over, If, Nowhere, nowhere, After, after, Either, first, second, Where, if_so, if_not, exact_to, exact_refuse_at, exact_refuse_after, exact_nothing, exact_leaf, exact_then, exact_up, exact_parent, exact_flagged, exact_bare, exact_next, exact_second}

pub record Known (s : Input) (D : Reach) (f : Reader) : Type 1 where
  pub Means : Rel
  pub exact : Exact s D f Means

abbrev pub known : {s : Input} {D : Reach} {f : Reader} {R : Rel} → Exact s D f R → Known s D f
known {R = R} e = record { Means = R; exact = e }

abbrev pub refuses : (s : Input) (code : ℕ) {D : Reach} → 10 ≤ code → code ≤ 27 → (code ≡ 23 → ⊥) → Known s D (refuse_at s code)
refuses s code l h n = record { Means = Never; exact = exact_refuse_at s code (λ i. plain i l h (λ z. absurd (n z)) refl) }

abbrev pub refuses_after : (s : Input) (kind code : ℕ) {D : Reach} → 10 ≤ code → code ≤ 27 → (code ≡ 23 → kind ≡ 3) → Known s D (refuse_after s kind code)
refuses_after s kind code l h n = record { Means = Never; exact = exact_refuse_after s kind code l h n }

abbrev pub nothings : {s : Input} {D : Reach} → Known s D nothing
nothings = record { Means = Nothing (λ _. ∅); exact = exact_nothing }

abbrev pub leaves : (s : Input) {D : Reach} (h : Token → Head) → Known s D (leaf s h)
leaves s h = record { Means = One Any (λ i. node (h (peek s i)) ∅ ▸ ∅); exact = exact_leaf s h }

-- a part and then a token
infixl 50 ◌⊳·◌
abbrev pub ◌⊳·◌ : {s : Input} {D : Reach} {f g : Reader} {P : ℕ → Type 0} → Known s D f → Exact s Nowhere g (One P (λ _. ∅)) → Known s D (f ⊳ g)
◌⊳·◌ {P = P} r q = record { Means = Up r.Means P; exact = exact_up r.exact q }

abbrev pub parents : (s : Input) (kind flags : ℕ) {D : Reach} {f : Reader} → Known s D f → Known s D (parent s kind flags f)
parents s kind flags r = record { Means = Over (λ i. head kind flags (pos_at s i) 0 0) r.Means; exact = exact_parent s kind flags r.exact }

abbrev pub flags : (s : Input) (kind : ℕ) (by : ℕ → ℕ) {D : Reach} {f : Reader} → Known s D f → Known s D (flagged s kind by f)
flags s kind by r = record { Means = Over (λ i. head kind (by i) (pos_at s i) 0 0) r.Means; exact = exact_flagged s kind by r.exact }

abbrev pub bares : (kind : ℕ) {s : Input} {D : Reach} {f : Reader} → Known s D f → Known s D (bare kind f)
bares kind r = record { Means = Over (λ i. head kind 0 0 0 0) r.Means; exact = exact_bare kind r.exact }

-- ---- readers that may meet the depth

-- such a reader, and where it meets it
pub record Inner (s : Input) (f : Reader) : Type 1 where
  pub Reaches : Reach
  pub reads : Known s Reaches f

abbrev pub inner : {s : Input} {D : Reach} {f : Reader} → Known s D f → Inner s f
inner {D = D} r = record { Reaches = D; reads = r }

-- one that does not
abbrev pub quiet : {s : Input} {f : Reader} → Known s Nowhere f → Known s Nowhere f
quiet r = r

pub in_second : {R : Rel} {E : Reach} {i k : ℕ} → Either Nowhere (After R E) i k → After R E i k
in_second (first x) = absurd (nowhere x)
in_second (second y) = y

-- one part after another, of which the second, or both, may meet the depth
infixl 50 ◌⊳↓◌
abbrev pub ◌⊳↓◌ : {s : Input} {E : Reach} {f g : Reader} (r : Known s Nowhere f) → Known s E g → Known s (After r.Means E) (f ⊳ g)
r ⊳↓ q = record { Means = Then r.Means q.Means; exact = exact_to (λ i k x. in_second x) (exact_then r.exact q.exact) }

infixl 50 ◌⊳⇊◌
abbrev pub ◌⊳⇊◌ : {s : Input} {D E : Reach} {f g : Reader} (r : Known s D f) → Known s E g → Known s (Either D (After r.Means E)) (f ⊳ g)
r ⊳⇊ q = record { Means = Then r.Means q.Means; exact = exact_then r.exact q.exact }

abbrev pub nexts↓ : {s : Input} {D E : Reach} {test : Token → Bool} {f g : Reader} {P : ℕ → Type 0} → Judges s test P → Known s D f → Known s E g → Known s (Where P D E) (if_next s test f g)
nexts↓ {s} {P = P} t r q = record { Means = If P r.Means q.Means; exact = exact_next s t r.exact q.exact }

abbrev pub seconds↓ : {s : Input} {D E : Reach} {test : Token → Bool} {f g : Reader} {P : ℕ → Type 0} → Judges s test P → Known s D f → Known s E g → Known s (Where (λ i. P (i + 1)) D E) (if_second s test f g)
seconds↓ {s} {P = P} t r q = record { Means = If (λ i. P (i + 1)) r.Means q.Means; exact = exact_second s t r.exact q.exact }

-- ---- readers that do not meet the depth

pub in_none : {R : Rel} {i k : ℕ} → Either Nowhere (After R Nowhere) i k → Nowhere i k
in_none (first x) = x
in_none (second (after r x)) = absurd (nowhere x)

pub in_neither : {P : ℕ → Type 0} {i k : ℕ} → Where P Nowhere Nowhere i k → Nowhere i k
in_neither (if_so h x) = x
in_neither (if_not n x) = x

infixl 50 ◌⊳⊳◌
abbrev pub ◌⊳⊳◌ : {s : Input} {f g : Reader} → Known s Nowhere f → Known s Nowhere g → Known s Nowhere (f ⊳ g)
r ⊳⊳ q = record { Means = Then r.Means q.Means; exact = exact_to (λ i k x. in_none x) (exact_then r.exact q.exact) }

abbrev pub nexts : {s : Input} {test : Token → Bool} {f g : Reader} {P : ℕ → Type 0} → Judges s test P → Known s Nowhere f → Known s Nowhere g → Known s Nowhere (if_next s test f g)
nexts {s} {P = P} t r q = record { Means = If P r.Means q.Means; exact = exact_to (λ i k x. in_neither x) (exact_next s t r.exact q.exact) }

abbrev pub seconds : {s : Input} {test : Token → Bool} {f g : Reader} {P : ℕ → Type 0} → Judges s test P → Known s Nowhere f → Known s Nowhere g → Known s Nowhere (if_second s test f g)
seconds {s} {P = P} t r q = record { Means = If (λ i. P (i + 1)) r.Means q.Means; exact = exact_to (λ i k x. in_neither x) (exact_second s t r.exact q.exact) }
