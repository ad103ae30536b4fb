-- Combinators: a reader is exact for a relation if it accepts, from each token, just the trees and ends that the relation has,
-- and refuses all else at a token with one of document 01's numbers from 10 to 27, or with 8 at one where the depth is met.
-- One lemma for each way in which readers are put together, with the relation that it makes. Assumes nothing.
use Prim.Native.Nat.{ℕ, zero, suc, ◌+◌, ◌<◌, ◌≤◌}
use native.Mathlib.Omega.{arith}
use mathlib.Core.Path.{◌≡◌, refl, ap, subst, ◌∙◌}
use mathlib.Core.Bool.{Bool, true, false}
use lib.Dec.{eqb}
use borrow.Author.Tests.{eqb-true}
use Rattle.trees.specs.Choice.{pick, choose}
use Rattle.trees.specs.Tree.{Trees, node, ∅, ◌▸◌, ◌⧺◌, count, head}
use Rattle.trees.specs.declared.Head.{Head}
use Rattle.trees.proofs.Laws.{⧺-none}
use Rattle.tokens.specs.declared.Token.{Token}
use Rattle.tokens.specs.Input.{Input, peek, pos_at}
use Rattle.steps.specs.Outcome.{Refusal}
use Rattle.grammar.specs.Lexical.{Symbol}
use Rattle.steps.specs.Outcome.{Outcome, accept, refuse, Reader, refusal, before, and_then, ◌⊳◌, node_of, parent, flagged, bare, leaf, nothing, refuse_from, refuse_at, refuse_after, if_next, if_second, unexpected, then_at, items_from, many_at, many, expect_at}

abbrev pub Rel : Type 1
Rel = ℕ → Trees → ℕ → Type 0

-- where a reader starts, and a token at which it meets the depth
abbrev pub Reach : Type 1
Reach = ℕ → ℕ → Type 0

-- why and where: the depth at a token of D, or one of document 01's numbers from 10 to 27 at any token, 23 at a symbol
pub data Ground (s : Input) (D : ℕ → Type 0) (e : Refusal) : Type 0 where
  deep : (k : ℕ) → D k → e.code ≡ 8 → e.place ≡ pos_at s k → Ground s D e
  plain : (k : ℕ) → 10 ≤ e.code → e.code ≤ 27 → (e.code ≡ 23 → Symbol s k) → e.place ≡ pos_at s k → Ground s D e

pub record Exact (s : Input) (D : Reach) (f : Reader) (R : Rel) : Type 0 where
  pub sound : (i : ℕ) {ts : Trees} {j : ℕ} → f i ≡ accept ts j → R i ts j
  pub complete : (i : ℕ) {ts : Trees} {j : ℕ} → R i ts j → f i ≡ accept ts j
  pub ground : (i : ℕ) (e : Refusal) → f i ≡ refuse e → Ground s (D i) e

-- the same relation in other words
pub exact_iff : {s : Input} {D : Reach} {f : Reader} {R S : Rel} → Exact s D f R → ((i : ℕ) (ts : Trees) (j : ℕ) → R i ts j → S i ts j) → ((i : ℕ) (ts : Trees) (j : ℕ) → S i ts j → R i ts j) → Exact s D f S
exact_iff r f g = record { sound = λ i {ts} {j} e. f i ts j (r.sound i e); complete = λ i {ts} {j} x. r.complete i (g i ts j x); ground = r.ground }

-- the depth is met at no other tokens than these
pub ground_to : {s : Input} {D E : ℕ → Type 0} {e : Refusal} → ((k : ℕ) → D k → E k) → Ground s D e → Ground s E e
ground_to f (deep k x c p) = deep k (f k x) c p
ground_to f (plain k l h n p) = plain k l h n p

pub exact_to : {s : Input} {D E : Reach} {f : Reader} {R : Rel} → ((i k : ℕ) → D i k → E i k) → Exact s D f R → Exact s E f R
exact_to to r = record { sound = r.sound; complete = r.complete; ground = λ i e z. ground_to (to i) (r.ground i e z) }

-- a test is true just where P holds
pub record Tests (b : Bool) (P : Type 0) : Type 0 where
  pub yes : b ≡ true → P
  pub no : b ≡ false → P → ⊥

pub record Judges (s : Input) (test : Token → Bool) (P : ℕ → Type 0) : Type 0 where
  pub at : (i : ℕ) → Tests (test (peek s i)) (P i)

-- ---- the relations

-- none
pub data Never (i : ℕ) : Trees → ℕ → Type 0 where

pub never : {i j : ℕ} {ts : Trees} → Never i ts j → ⊥
never = elim [ ]

-- no token, and these trees
pub data Nothing (ts : ℕ → Trees) (i : ℕ) : Trees → ℕ → Type 0 where
  none : Nothing ts i (ts i) i

-- one token of which P holds, and these trees
pub data One (P : ℕ → Type 0) (ts : ℕ → Trees) (i : ℕ) : Trees → ℕ → Type 0 where
  token : P i → One P ts i (ts i) (i + 1)

-- R and then S; R and then a token of which P holds
pub data Then (R S : Rel) (i : ℕ) : Trees → ℕ → Type 0 where
  then : {us vs : Trees} {m j : ℕ} → R i us m → S m vs j → Then R S i (us ⧺ vs) j

pub data Up (R : Rel) (P : ℕ → Type 0) (i : ℕ) : Trees → ℕ → Type 0 where
  up : {us : Trees} {m : ℕ} → R i us m → P m → Up R P i us (m + 1)

-- a node over R
pub data Over (h : ℕ → Head) (R : Rel) (i : ℕ) : Trees → ℕ → Type 0 where
  over : {us : Trees} {j : ℕ} → R i us j → Over h R i (node (h i) us ▸ ∅) j

-- R where P holds, and S where it does not
pub data If (P : ℕ → Type 0) (R S : Rel) (i : ℕ) : Trees → ℕ → Type 0 where
  holds : {ts : Trees} {j : ℕ} → P i → R i ts j → If P R S i ts j
  fails : {ts : Trees} {j : ℕ} → (P i → ⊥) → S i ts j → If P R S i ts j

-- items of R, one after another, where P does not hold, up to where it does; R also takes how many trees stand before
pub data Many (P : ℕ → Type 0) (R : ℕ → Rel) : ℕ → ℕ → Trees → ℕ → Type 0 where
  done : {k i : ℕ} → P i → Many P R k i ∅ i
  next : {k i j l : ℕ} {ts us : Trees} → (P i → ⊥) → R k i ts j → Many P R (k + count ts) j us l → Many P R k i (ts ⧺ us) l

-- ---- where the depth is met

-- nowhere
pub data Nowhere (i : ℕ) : ℕ → Type 0 where

pub nowhere : {i k : ℕ} → Nowhere i k → ⊥
nowhere = elim [ ]

-- in what is read after R
pub data After (R : Rel) (D : Reach) (i k : ℕ) : Type 0 where
  after : {us : Trees} {m : ℕ} → R i us m → D m k → After R D i k

-- by D or by E
pub data Either (D E : Reach) (i k : ℕ) : Type 0 where
  first : D i k → Either D E i k
  second : E i k → Either D E i k

-- by D where P holds, and by E where it does not
pub data Where (P : ℕ → Type 0) (D E : Reach) (i k : ℕ) : Type 0 where
  if_so : P i → D i k → Where P D E i k
  if_not : (P i → ⊥) → E i k → Where P D E i k

-- in an item of R, one after another, where P does not hold
pub data Among (P : ℕ → Type 0) (R : ℕ → Rel) (D : Reach) : ℕ → ℕ → ℕ → Type 0 where
  in_item : {c i k : ℕ} → (P i → ⊥) → D i k → Among P R D c i k
  past_item : {c i j k : ℕ} {ts : Trees} → (P i → ⊥) → R c i ts j → Among P R D (c + count ts) j k → Among P R D c i k

-- ---- outcomes

pub clash : {e : Refusal} {ts : Trees} {j : ℕ} → refuse e ≡ accept ts j → ⊥
clash h = let z : ◌≡◌ {A = ℕ} 0 1 = cc in omega arith

trees : {us ts : Trees} {m j : ℕ} → accept us m ≡ accept ts j → us ≡ ts
trees h = cc

end : {us ts : Trees} {m j : ℕ} → accept us m ≡ accept ts j → m ≡ j
end h = cc

-- an outcome that is known
pub same : (P : Trees → ℕ → Type 0) {us ts : Trees} {m j : ℕ} → accept us m ≡ accept ts j → P us m → P ts j
same P {us} {ts} {m} {j} h p = subst (λ (x : Trees). P x j) (trees h) (subst (λ (x : ℕ). P us x) (end h) p)

-- a refusal that is known
pub no_refusal : {e : Refusal} {ts : Trees} {j : ℕ} → accept ts j ≡ refuse e → ⊥
no_refusal h = let z : ◌≡◌ {A = ℕ} 0 1 = cc in omega arith

reason : {d e : Refusal} → refuse d ≡ refuse e → d ≡ e
reason h = cc

pub same_ground : {s : Input} {D : ℕ → Type 0} {d e : Refusal} → refuse d ≡ refuse e → Ground s D d → Ground s D e
same_ground {s} {D} h g = subst (Ground s D) (reason h) g

-- ---- the lemmas

pub exact_refuse_at : (s : Input) (code : ℕ) {D : Reach} → ((i : ℕ) → Ground s (D i) (refusal code (pos_at s i) i)) → Exact s D (refuse_at s code) Never
unfolding refuse_from
exact_refuse_at s code g = record { sound = λ i e. absurd (clash e); complete = λ i x. absurd (never x); ground = λ i e z. same_ground z (g i) }

pub unexpected-ground : (s : Input) (i : ℕ) {D : ℕ → Type 0} → Ground s D (unexpected (peek s i) i)
unfolding unexpected
unexpected-ground s i {D} = go (eqb (peek s i).kind 0)
  where
    go : (b : Bool) → Ground s D (refusal (pick b 11 10) (pos_at s i) i)
    go true = plain i (omega arith) (omega arith) (λ z. absurd (omega arith)) refl
    go false = plain i (omega arith) (omega arith) (λ z. absurd (omega arith)) refl

pub exact_refuse_after : (s : Input) (kind code : ℕ) {D : Reach} → 10 ≤ code → code ≤ 27 → (code ≡ 23 → kind ≡ 3) → Exact s D (refuse_after s kind code) Never
unfolding refuse_after
exact_refuse_after s kind code {D} l h n =
    record {
      sound = λ i e. absurd (go (eqb (peek s i).kind kind) (refusal code (pos_at s i) (i + 1)) (unexpected (peek s i) i) e);
      complete = λ i x. absurd (never x);
      ground = λ i e z. why i (eqb (peek s i).kind kind) refl z;
    }
  where
    go : (b : Bool) (x y : Refusal) {ts : Trees} {j : ℕ} → choose b (λ _. refuse x) (λ _. refuse y) ≡ accept ts j → ⊥
    go true x y e = clash e
    go false x y e = clash e

    why : (i : ℕ) {e : Refusal} (b : Bool) → eqb (peek s i).kind kind ≡ b → choose b (λ _. refuse (refusal code (pos_at s i) (i + 1))) (λ _. refuse (unexpected (peek s i) i)) ≡ refuse e → Ground s (D i) e
    why i true p z = same_ground z (plain i l h (λ q. record { is = eqb-true (peek s i).kind kind p ∙ n q }) refl)
    why i false p z = same_ground z (unexpected-ground s i)

pub exact_nothing : {s : Input} {D : Reach} → Exact s D nothing (Nothing (λ _. ∅))
unfolding nothing
exact_nothing = record { sound = λ i e. same (Nothing (λ _. ∅) i) e none; complete = λ i. back i; ground = λ i e z. absurd (no_refusal z) }
  where
    back : (i : ℕ) {ts : Trees} {j : ℕ} → Nothing (λ _. ∅) i ts j → accept ∅ i ≡ accept ts j
    back i none = refl

-- one token by a test, and these trees: an expected token, or a leaf where its token is known
pub exact_expect : (s : Input) {D : Reach} {test : Token → Bool} {P : ℕ → Type 0} → Judges s test P → Exact s D (expect_at s.tokens s.end test) (One P (λ _. ∅))
unfolding expect_at
exact_expect s {D} {test} {P} t = record { sound = λ i e. there i (test (peek s i)) refl e; complete = λ i. back i; ground = λ i e z. why i (test (peek s i)) z }
  where
    why : (i : ℕ) {e : Refusal} (b : Bool) → choose b (λ _. accept ∅ (i + 1)) (λ _. refuse (unexpected (peek s i) i)) ≡ refuse e → Ground s (D i) e
    why i true z = absurd (no_refusal z)
    why i false z = same_ground z (unexpected-ground s i)

    there : (i : ℕ) {ts : Trees} {j : ℕ} (b : Bool) → test (peek s i) ≡ b → choose b (λ _. accept ∅ (i + 1)) (λ _. refuse (unexpected (peek s i) i)) ≡ accept ts j → One P (λ _. ∅) i ts j
    there i true p e = same (One P (λ _. ∅) i) e (token ((t.at i).yes p))
    there i false p e = absurd (clash e)

    found : (i : ℕ) (b : Bool) → test (peek s i) ≡ b → P i → choose b (λ _. accept ∅ (i + 1)) (λ _. refuse (unexpected (peek s i) i)) ≡ accept ∅ (i + 1)
    found i true p h = refl
    found i false p h = absurd ((t.at i).no p h)

    back : (i : ℕ) {ts : Trees} {j : ℕ} → One P (λ _. ∅) i ts j → choose (test (peek s i)) (λ _. accept ∅ (i + 1)) (λ _. refuse (unexpected (peek s i) i)) ≡ accept ts j
    back i (token h) = found i (test (peek s i)) refl h

abbrev pub Any : ℕ → Type 0
Any i = Unit {0}

pub exact_leaf : (s : Input) {D : Reach} (h : Token → Head) → Exact s D (leaf s h) (One Any (λ i. node (h (peek s i)) ∅ ▸ ∅))
unfolding leaf
exact_leaf s h = record { sound = λ i e. same (One Any (λ i. node (h (peek s i)) ∅ ▸ ∅) i) e (token tt); complete = λ i. back i; ground = λ i e z. absurd (no_refusal z) }
  where
    back : (i : ℕ) {ts : Trees} {j : ℕ} → One Any (λ i. node (h (peek s i)) ∅ ▸ ∅) i ts j → accept (node (h (peek s i)) ∅ ▸ ∅) (i + 1) ≡ accept ts j
    back i (token x) = refl

-- the depth is met in f, or in g after it
pub exact_then : {s : Input} {D E : Reach} {f g : Reader} {R S : Rel} → Exact s D f R → Exact s E g S → Exact s (Either D (After R E)) (f ⊳ g) (Then R S)
unfolding ◌⊳◌ and_then before
exact_then {s} {D} {E} {f} {g} {R} {S} r q = record { sound = λ i e. first_part i (f i) refl e; complete = λ i. back i; ground = λ i e z. why i (f i) refl z }
  where
    late : (i : ℕ) (us : Trees) {e : Refusal} (m : ℕ) → R i us m → (o : Outcome) → g m ≡ o → before us o ≡ refuse e → Ground s (Either D (After R E) i) e
    late i us m x (accept vs k) p z = absurd (no_refusal z)
    late i us m x (refuse d) p z = same_ground z (ground_to (λ k y. second (after x y)) (q.ground m d p))

    why : (i : ℕ) {e : Refusal} (o : Outcome) → f i ≡ o → and_then o g ≡ refuse e → Ground s (Either D (After R E) i) e
    why i (accept us m) p z = late i us m (r.sound i p) (g m) refl z
    why i (refuse d) p z = same_ground z (ground_to (λ k y. first y) (r.ground i d p))

    second-part : (i : ℕ) {us ts : Trees} {m j : ℕ} → R i us m → (o : Outcome) → g m ≡ o → before us o ≡ accept ts j → Then R S i ts j
    second-part i x (accept vs k) p e = same (Then R S i) e (then x (q.sound _ p))
    second-part i x (refuse d) p e = absurd (clash e)

    first_part : (i : ℕ) {ts : Trees} {j : ℕ} (o : Outcome) → f i ≡ o → and_then o g ≡ accept ts j → Then R S i ts j
    first_part i (accept us m) p e = second-part i (r.sound i p) (g m) refl e
    first_part i (refuse d) p e = absurd (clash e)

    back : (i : ℕ) {ts : Trees} {j : ℕ} → Then R S i ts j → and_then (f i) g ≡ accept ts j
    back i (then {us = us} {m = m} x y) = ap (λ (o : Outcome). and_then o g) (r.complete i x) ∙ ap (before us) (q.complete m y)

pub exact_up : {s : Input} {D : Reach} {f g : Reader} {R : Rel} {P : ℕ → Type 0} → Exact s D f R → Exact s Nowhere g (One P (λ _. ∅)) → Exact s D (f ⊳ g) (Up R P)
exact_up {s} {D} {f} {g} {R} {P} r q = exact_iff (exact_to in-first (exact_then r q)) on back
  where
    in-first : (i k : ℕ) → Either D (After R Nowhere) i k → D i k
    in-first i k (first x) = x
    in-first i k (second (after x y)) = absurd (nowhere y)

    ended : (i m : ℕ) (us vs : Trees) (j : ℕ) → R i us m → One P (λ _. ∅) m vs j → Up R P i (us ⧺ vs) j
    ended i m us vs j x (token h) = rw (⧺-none us) (up x h)

    on : (i : ℕ) (ts : Trees) (j : ℕ) → Then R (One P (λ _. ∅)) i ts j → Up R P i ts j
    on i ts j (then {us = us} {vs = vs} {m = m} {j = k} x y) = ended i m us vs k x y

    back : (i : ℕ) (ts : Trees) (j : ℕ) → Up R P i ts j → Then R (One P (λ _. ∅)) i ts j
    back i ts j (up {us = us} {m = m} x h) = subst (λ (z : Trees). Then R (One P (λ _. ∅)) i z (m + 1)) (⧺-none us) (then x (token h))

pub exact_node : {s : Input} {D : Reach} {f : Reader} {R : Rel} (h : ℕ → Head) → Exact s D f R → Exact s D (λ i. node_of (h i) (f i)) (Over h R)
unfolding node_of
exact_node {s} {D} {f} {R} h r = record { sound = λ i e. there i (f i) refl e; complete = λ i. back i; ground = λ i e z. why i (f i) refl z }
  where
    why : (i : ℕ) {e : Refusal} (o : Outcome) → f i ≡ o → node_of (h i) o ≡ refuse e → Ground s (D i) e
    why i (accept us m) p z = absurd (no_refusal z)
    why i (refuse d) p z = same_ground z (r.ground i d p)

    there : (i : ℕ) {ts : Trees} {j : ℕ} (o : Outcome) → f i ≡ o → node_of (h i) o ≡ accept ts j → Over h R i ts j
    there i (accept us m) p e = same (Over h R i) e (over (r.sound i p))
    there i (refuse d) p e = absurd (clash e)

    back : (i : ℕ) {ts : Trees} {j : ℕ} → Over h R i ts j → node_of (h i) (f i) ≡ accept ts j
    back i (over x) = ap (node_of (h i)) (r.complete i x)

pub exact_parent : (s : Input) (kind flags : ℕ) {D : Reach} {f : Reader} {R : Rel} → Exact s D f R → Exact s D (parent s kind flags f) (Over (λ i. head kind flags (pos_at s i) 0 0) R)
unfolding parent
exact_parent s kind flags r = exact_node (λ i. head kind flags (pos_at s i) 0 0) r

pub exact_flagged : (s : Input) (kind : ℕ) (flags : ℕ → ℕ) {D : Reach} {f : Reader} {R : Rel} → Exact s D f R → Exact s D (flagged s kind flags f) (Over (λ i. head kind (flags i) (pos_at s i) 0 0) R)
unfolding flagged
exact_flagged s kind flags r = exact_node (λ i. head kind (flags i) (pos_at s i) 0 0) r

pub exact_bare : (kind : ℕ) {s : Input} {D : Reach} {f : Reader} {R : Rel} → Exact s D f R → Exact s D (bare kind f) (Over (λ i. head kind 0 0 0 0) R)
unfolding bare
exact_bare kind r = exact_node (λ i. head kind 0 0 0 0) r

exact_choose : {s : Input} {D E : Reach} {f g : Reader} {R S : Rel} {P : ℕ → Type 0} (test : ℕ → Bool) → ((i : ℕ) → Tests (test i) (P i)) → Exact s D f R → Exact s E g S
    → Exact s (Where P D E) (λ i. choose (test i) (λ _. f i) (λ _. g i)) (If P R S)
exact_choose {s} {D} {E} {f} {g} {R} {S} {P} test t r q = record { sound = λ i e. on i (test i) refl e; complete = λ i. back i (test i) refl; ground = λ i e z. why i (test i) refl z }
  where
    why : (i : ℕ) {e : Refusal} (b : Bool) → test i ≡ b → choose b (λ _. f i) (λ _. g i) ≡ refuse e → Ground s (Where P D E i) e
    why i true p z = ground_to (λ k x. if_so ((t i).yes p) x) (r.ground i _ z)
    why i false p z = ground_to (λ k x. if_not ((t i).no p) x) (q.ground i _ z)

    on : (i : ℕ) {ts : Trees} {j : ℕ} (b : Bool) → test i ≡ b → choose b (λ _. f i) (λ _. g i) ≡ accept ts j → If P R S i ts j
    on i true p e = holds ((t i).yes p) (r.sound i e)
    on i false p e = fails ((t i).no p) (q.sound i e)

    back : (i : ℕ) {ts : Trees} {j : ℕ} (b : Bool) → test i ≡ b → If P R S i ts j → choose b (λ _. f i) (λ _. g i) ≡ accept ts j
    back i true p (holds h x) = r.complete i x
    back i true p (fails n x) = absurd (n ((t i).yes p))
    back i false p (holds h x) = absurd ((t i).no p h)
    back i false p (fails n x) = q.complete i x

pub exact_next : (s : Input) {D E : Reach} {test : Token → Bool} {f g : Reader} {R S : Rel} {P : ℕ → Type 0} → Judges s test P → Exact s D f R → Exact s E g S
    → Exact s (Where P D E) (if_next s test f g) (If P R S)
unfolding if_next
exact_next s {test = test} t r q = exact_choose (λ i. test (peek s i)) t.at r q

pub exact_second : (s : Input) {D E : Reach} {test : Token → Bool} {f g : Reader} {R S : Rel} {P : ℕ → Type 0} → Judges s test P → Exact s D f R → Exact s E g S
    → Exact s (Where (λ i. P (i + 1)) D E) (if_second s test f g) (If (λ i. P (i + 1)) R S)
unfolding if_second
exact_second s {test = test} t r q = exact_choose (λ i. test (peek s (i + 1))) (λ i. t.at (i + 1)) r q

-- a row of items, each of which takes a token that is there: the bound on their number never tells
module _ {s : Input} {D : Reach} {stop : ℕ → Bool} {sub : ℕ → Reader} {P : ℕ → Type 0} {R : ℕ → Rel} (n : ℕ) (test : (i : ℕ) → Tests (stop i) (P i)) (exact : (k : ℕ) → Exact s D (sub k) (R k))
    (on : (k i : ℕ) (ts : Trees) (j : ℕ) → R k i ts j → (i < j) × (i < n)) where
  abbrev Rest : ℕ → ℕ → Type 0
  Rest f i = (0 < f) × (n < f + i)

  rest : (f k i : ℕ) {ts : Trees} {j : ℕ} → Rest (suc f) i → R k i ts j → Rest f j
  rest f k i {ts} {j} h x = let o = on k i ts j x in (omega (arith, o.0, o.1, h.1), omega (arith, o.0, o.1, h.1))

  -- the items after the first are rows
  abbrev More : ℕ → ℕ → ℕ → Type 0
  More f k i = (us : Trees) (m : ℕ) (vs : Trees) (l : ℕ) → R k i us m → items_from stop sub f (k + count us) m ≡ accept vs l → Many P R (k + count us) m vs l

  after_item : (f k i : ℕ) {ts : Trees} {j : ℕ} (us : Trees) (m : ℕ) → R k i us m → (P i → ⊥) → (o : Outcome) → items_from stop sub f (k + count us) m ≡ o → before us o ≡ accept ts j → More f k i → Many P R k i ts j
  unfolding before
  after_item f k i us m x q (accept vs l) p e more = same (Many P R k i) e (next q x (more us m vs l x p))
  after_item f k i us m x q (refuse d) p e more = absurd (clash e)

  first_item : (f k i : ℕ) {ts : Trees} {j : ℕ} → (P i → ⊥) → (o : Outcome) → sub k i ≡ o → then_at k o (items_from stop sub f) ≡ accept ts j → More f k i → Many P R k i ts j
  unfolding then_at
  first_item f k i q (accept us m) p e more = after_item f k i us m ((exact k).sound i p) q (items_from stop sub f (k + count us) m) refl e more
  first_item f k i q (refuse d) p e more = absurd (clash e)

  turn : (f k i : ℕ) {ts : Trees} {j : ℕ} (b : Bool) → stop i ≡ b → choose b (λ _. accept ∅ i) (λ _. then_at k (sub k i) (items_from stop sub f)) ≡ accept ts j → More f k i → Many P R k i ts j
  turn f k i true p e more = same (Many P R k i) e (done ((test i).yes p))
  turn f k i false p e more = first_item f k i ((test i).no p) (sub k i) refl e more

  sound_many : (f k i : ℕ) {ts : Trees} {j : ℕ} → Rest f i → items_from stop sub f k i ≡ accept ts j → Many P R k i ts j
  unfolding items_from
  sound_many zero k i h e = absurd (omega (arith, h.0))
  sound_many (suc f) k i h e = turn f k i (stop i) refl e (λ us m vs l x p. sound_many f (k + count us) m {ts = vs} {j = l} (rest f k i {ts = us} {j = m} h x) p)

  stops : (f k i : ℕ) → P i → (b : Bool) → stop i ≡ b → choose b (λ _. accept ∅ i) (λ _. then_at k (sub k i) (items_from stop sub f)) ≡ accept ∅ i
  stops f k i h true p = refl
  stops f k i h false p = absurd ((test i).no p h)

  goes : (f k i : ℕ) → (P i → ⊥) → (b : Bool) → stop i ≡ b → choose b (λ _. accept ∅ i) (λ _. then_at k (sub k i) (items_from stop sub f)) ≡ then_at k (sub k i) (items_from stop sub f)
  goes f k i n true p = absurd (n ((test i).yes p))
  goes f k i n false p = refl

  complete_many : (f k i : ℕ) {ts : Trees} {j : ℕ} → Rest f i → Many P R k i ts j → items_from stop sub f k i ≡ accept ts j
  unfolding items_from then_at before
  complete_many zero k i h x = absurd (omega (arith, h.0))
  complete_many (suc f) k i h (done c) = stops f k i c (stop i) refl
  complete_many (suc f) k i h (next {j = m} {ts = us} c x y) =
      goes f k i c (stop i) refl ∙ ap (λ (o : Outcome). then_at k o (items_from stop sub f)) ((exact k).complete i x)
      ∙ ap (before us) (complete_many f (k + count us) m (rest f k i {ts = us} {j = m} h x) y)

  -- the bound never runs out
  abbrev MoreGround : ℕ → ℕ → ℕ → Type 0
  MoreGround f k i = (us : Trees) (m : ℕ) (e : Refusal) → R k i us m → items_from stop sub f (k + count us) m ≡ refuse e → Ground s (Among P R D (k + count us) m) e

  after-ground : (f k i : ℕ) {e : Refusal} (us : Trees) (m : ℕ) → (P i → ⊥) → R k i us m → (o : Outcome) → items_from stop sub f (k + count us) m ≡ o → before us o ≡ refuse e → MoreGround f k i
      → Ground s (Among P R D k i) e
  unfolding before
  after-ground f k i us m q x (accept vs l) p z more = absurd (no_refusal z)
  after-ground f k i us m q x (refuse d) p z more = same_ground z (ground_to (λ _ y. past_item q x y) (more us m d x p))

  first-ground : (f k i : ℕ) {e : Refusal} → (P i → ⊥) → (o : Outcome) → sub k i ≡ o → then_at k o (items_from stop sub f) ≡ refuse e → MoreGround f k i → Ground s (Among P R D k i) e
  unfolding then_at
  first-ground f k i q (accept us m) p z more = after-ground f k i us m q ((exact k).sound i p) (items_from stop sub f (k + count us) m) refl z more
  first-ground f k i q (refuse d) p z more = same_ground z (ground_to (λ _ y. in_item q y) ((exact k).ground i d p))

  turn_ground : (f k i : ℕ) {e : Refusal} (b : Bool) → stop i ≡ b → choose b (λ _. accept ∅ i) (λ _. then_at k (sub k i) (items_from stop sub f)) ≡ refuse e → MoreGround f k i
      → Ground s (Among P R D k i) e
  turn_ground f k i true p z more = absurd (no_refusal z)
  turn_ground f k i false p z more = first-ground f k i ((test i).no p) (sub k i) refl z more

  ground-many : (f k i : ℕ) {e : Refusal} → Rest f i → items_from stop sub f k i ≡ refuse e → Ground s (Among P R D k i) e
  unfolding items_from
  ground-many zero k i h z = absurd (omega (arith, h.0))
  ground-many (suc f) k i h z = turn_ground f k i (stop i) refl z (λ us m e x p. ground-many f (k + count us) m (rest f k i {ts = us} {j = m} h x) p)

  pub exact_many_at : (k : ℕ) → Exact s (Among P R D k) (many_at n stop sub k) (Many P R k)
  unfolding many_at
  exact_many_at k = record { sound = λ i e. sound_many (suc n) k i (omega arith, omega arith) e; complete = λ i x. complete_many (suc n) k i (omega arith, omega arith) x; ground = λ i e z. ground-many (suc n) k i (omega arith, omega arith) z }

pub exact_many : {s : Input} {D : Reach} {stop : ℕ → Bool} {sub : Reader} {P : ℕ → Type 0} {R : Rel} (n : ℕ) → ((i : ℕ) → Tests (stop i) (P i)) → Exact s D sub R
    → ((i : ℕ) (ts : Trees) (j : ℕ) → R i ts j → (i < j) × (i < n)) → Exact s (Among P (λ _. R) D 0) (many n stop sub) (Many P (λ _. R) 0)
unfolding many
exact_many n test exact on = exact_many_at n test (λ k. exact) (λ k. on) 0
