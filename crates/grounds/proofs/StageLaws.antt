-- The verdict on a list of stages is n at k exactly if they refuse with n at k; what holds of every stage. Assumes nothing.
use mathlib.Core.Path.{◌≡◌, refl, sym, ap, ◌∙◌}
use mathlib.Core.Logic.{◌↔◌}
use mathlib.Core.Option.{Option, none, some}
use mathlib.Core.List.{List, [], ◌∷◌, ◌++◌}
use Prim.Native.Nat.{ℕ, ◌+◌, ◌<◌}
use native.Mathlib.Decide.{dec_lt}
use native.Mathlib.Omega.{arith}
use lib.ListN.{get_or}
use Rattle.grounds.specs.Stages.{Refusal, refusal, ◌or_else◌, Fact, Stage, Nowhere, NotBefore, First, here, later, Refused, found, verdict, in_turn}
use Rattle.grounds.proofs.FirstLaws.{FirstFlaw, first_flaw}

-- ---- the numbers of a stage are those of its fact: what a stage owes

pub record NumberAt (S : Stage) (n k : ℕ) : Type 0 where
  pub index : ℕ
  pub place : k ≡ S.start + index
  pub number : get_or S.numbers index 0 ≡ n
  pub positive : 0 < n

pub record Numbered (S : Stage) : Type 0 where
  pub to : (n k : ℕ) → NumberAt S n k → S.fact n k
  pub back : (n k : ℕ) → S.fact n k → NumberAt S n k

-- ---- one stage

-- the first of a fact's places, with the only number there
data Earliest (S : Fact) : Option Refusal → Type 0 where
  there : (n k : ℕ) → S n k → NotBefore k S → ((m : ℕ) → S m k → m ≡ n) → Earliest S (some (refusal n k))
  nowhere : Nowhere S → Earliest S none

earliest : (S : Stage) → Numbered S → Earliest S.fact (found S)
earliest S d = go _ (first_flaw S.start S.numbers)
  where
    go : (o : Option Refusal) → FirstFlaw S.start S.numbers o → Earliest S.fact o
    go o (FirstFlaw.there n k e p b) = there n (S.start + k) (d.to n (S.start + k) (record { index = k; place = refl; number = e; positive = p })) before same
      where
        before : NotBefore (S.start + k) S.fact
        before m j l f = let q = d.back m j f in omega (arith, q.place, q.number, q.positive, b q.index (omega (arith, q.place)))

        same : (m : ℕ) → S.fact m (S.start + k) → m ≡ n
        same m f =
            let q = d.back m (S.start + k) f in
            let i : q.index ≡ k = omega (arith, q.place) in
            sym q.number ∙ ap (λ (j : ℕ). get_or S.numbers j 0) i ∙ e
    go o (FirstFlaw.nowhere b) = nowhere (λ m j f. let q = d.back m j f in omega (arith, q.number, q.positive, b q.index))

-- ---- one after another

-- the only number and place of which R holds
pub data Only (R : Fact) : Option Refusal → Type 0 where
  there : (n k : ℕ) → R n k → ((m j : ℕ) → R m j → (m ≡ n) × (j ≡ k)) → Only R (some (refusal n k))
  nowhere : Nowhere R → Only R none

chain : (S R : Fact) (o q : Option Refusal) → Earliest S o → Only R q → Only (First S R) (o or_else q)
chain S R o q (Earliest.there n k f b u) r = Only.there n k (here f b) one
  where
    one : (m j : ℕ) → First S R m j → (m ≡ n) × (j ≡ k)
    one m j (here g c) = go (dec_lt j k) (dec_lt k j)
      where
        go : Dec (j < k) → Dec (k < j) → (m ≡ n) × (j ≡ k)
        go (yes l) h = absurd (b m j l g)
        go (no l) (yes h) = absurd (c n k h f)
        go (no l) (no h) = let e : j ≡ k = omega arith in (u m (rw e at g), e)
    one m j (later w r) = absurd (w n k f)
chain S R o q (Earliest.nowhere w) (Only.there n k r u) = Only.there n k (later w r) one
  where
    one : (m j : ℕ) → First S R m j → (m ≡ n) × (j ≡ k)
    one m j (here g c) = absurd (w m j g)
    one m j (later v s) = u m j s
chain S R o q (Earliest.nowhere w) (Only.nowhere v) = Only.nowhere neither
  where
    neither : Nowhere (First S R)
    neither m j (here g c) = w m j g
    neither m j (later x s) = v m j s

unfoldable pub AllNumbered : List Stage → Type 0
AllNumbered [] = Unit {0}
AllNumbered (S ∷ Ss) = Numbered S × AllNumbered Ss

pub only : (Ss : List Stage) → AllNumbered Ss → Only (Refused Ss) (verdict Ss)
unfolding Refused verdict AllNumbered
only [] d = Only.nowhere (λ m j r. r)
only (S ∷ Ss) d = chain S.fact (Refused Ss) (found S) (verdict Ss) (earliest S d.0) (only Ss d.1)

positive : (Ss : List Stage) → AllNumbered Ss → (n k : ℕ) → Refused Ss n k → 0 < n
unfolding Refused AllNumbered
positive [] d n k r = absurd r
positive (S ∷ Ss) d n k (here f b) = (d.0.back n k f).positive
positive (S ∷ Ss) d n k (later w r) = positive Ss d.1 n k r

-- ---- the theorem

pub same_refusal : (n m j k : ℕ) → ◌≡◌ {A = Option Refusal} (some (refusal n j)) (some (refusal m k)) → (n ≡ m) × (j ≡ k)
same_refusal n m j k e = (ap number_in e, ap place_in e)
  where
    number_in : Option Refusal → ℕ
    number_in none = 0
    number_in (some r) = r.number

    place_in : Option Refusal → ℕ
    place_in none = 0
    place_in (some r) = r.place

module _ (Ss : List Stage) (d : AllNumbered Ss) where
  pub refused_exactly : (n k : ℕ) → verdict Ss ≡ some (refusal n k) ↔ Refused Ss n k
  refused_exactly n k = (λ e. to _ (only Ss d) e, λ r. from _ (only Ss d) r)
    where
      to : (o : Option Refusal) → Only (Refused Ss) o → o ≡ some (refusal n k) → Refused Ss n k
      to o (Only.there m j r u) e = let q = same_refusal m n j k e in rw (← q.0, ← q.1) r
      to o (Only.nowhere w) e = absurd (let z : ◌≡◌ {A = ℕ} 0 1 = cc in omega arith)

      from : (o : Option Refusal) → Only (Refused Ss) o → Refused Ss n k → o ≡ some (refusal n k)
      from o (Only.there m j r u) s = let q = u n k s in rw (q.0, q.1)
      from o (Only.nowhere w) s = absurd (w n k s)

  pub passed_exactly : verdict Ss ≡ none ↔ Nowhere (Refused Ss)
  passed_exactly = (λ e. to _ (only Ss d) e, λ w. from _ (only Ss d) w)
    where
      to : (o : Option Refusal) → Only (Refused Ss) o → o ≡ none → Nowhere (Refused Ss)
      to o (Only.there m j r u) e = absurd (let z : ◌≡◌ {A = ℕ} 0 1 = cc in omega arith)
      to o (Only.nowhere w) e = w

      from : (o : Option Refusal) → Only (Refused Ss) o → Nowhere (Refused Ss) → o ≡ none
      from o (Only.there m j r u) w = absurd (w m j r)
      from o (Only.nowhere w) v = refl

  -- a refusal has a number
  pub refused_positive : (n k : ℕ) → Refused Ss n k → 0 < n
  refused_positive n k r = positive Ss d n k r

-- ---- lists of stages, one after another

pub or_else_assoc : (a b c : Option Refusal) → (a or_else b) or_else c ≡ a or_else b or_else c
or_else_assoc none b c = refl
or_else_assoc (some r) b c = refl

pub or_else_none : (a : Option Refusal) → a or_else none ≡ a
or_else_none none = refl
or_else_none (some r) = refl

pub verdict_++ : (Ss Ts : List Stage) → verdict (Ss ++ Ts) ≡ verdict Ss or_else verdict Ts
unfolding verdict
verdict_++ [] Ts = refl
verdict_++ (S ∷ Ss) Ts = rw (verdict_++ Ss Ts) (sym (or_else_assoc (found S) (verdict Ss) (verdict Ts)))

pub numbered_++ : (Ss Ts : List Stage) → AllNumbered Ss → AllNumbered Ts → AllNumbered (Ss ++ Ts)
unfolding AllNumbered
numbered_++ [] Ts a b = b
numbered_++ (S ∷ Ss) Ts a b = (a.0, numbered_++ Ss Ts a.1 b)

pub numbered_turn : {A : Type 0} (f : A → List Stage) (xs : List A) → ((x : A) → AllNumbered (f x)) → AllNumbered (in_turn f xs)
unfolding in_turn AllNumbered
numbered_turn f [] a = tt
numbered_turn f (x ∷ xs) a = numbered_++ (f x) (in_turn f xs) (a x) (numbered_turn f xs a)

-- ---- where nothing is refused, nothing is wrong in any stage

unfoldable pub AllNowhere : List Stage → Type 0
AllNowhere [] = Unit {0}
AllNowhere (S ∷ Ss) = Nowhere S.fact × AllNowhere Ss

pub all_nowhere : (Ss : List Stage) → AllNumbered Ss → verdict Ss ≡ none → AllNowhere Ss
unfolding verdict AllNumbered AllNowhere
all_nowhere [] d e = tt
all_nowhere (S ∷ Ss) d e = go (found S) (verdict Ss) (earliest S d.0) e (all_nowhere Ss d.1)
  where
    go : (o q : Option Refusal) → Earliest S.fact o → o or_else q ≡ none → (q ≡ none → AllNowhere Ss) → Nowhere S.fact × AllNowhere Ss
    go o q (Earliest.there n k f b u) e on = absurd (let z : ◌≡◌ {A = ℕ} 0 1 = cc in omega arith)
    go o q (Earliest.nowhere w) e on = (w, on e)

pub nowhere_++ : (Ss Ts : List Stage) → AllNowhere (Ss ++ Ts) → AllNowhere Ss × AllNowhere Ts
unfolding AllNowhere
nowhere_++ [] Ts a = (tt, a)
nowhere_++ (S ∷ Ss) Ts a = let r = nowhere_++ Ss Ts a.1 in ((a.0, r.0), r.1)

-- ---- places below a bound

unfoldable pub AllLow : ℕ → List Stage → Type 0
AllLow m [] = Unit {0}
AllLow m (S ∷ Ss) = ((n k : ℕ) → S.fact n k → k < m) × AllLow m Ss

pub low_++ : (m : ℕ) (Ss Ts : List Stage) → AllLow m Ss → AllLow m Ts → AllLow m (Ss ++ Ts)
unfolding AllLow
low_++ m [] Ts a b = b
low_++ m (S ∷ Ss) Ts a b = (a.0, low_++ m Ss Ts a.1 b)

pub refused-low : (m : ℕ) (Ss : List Stage) → AllLow m Ss → (n k : ℕ) → Refused Ss n k → k < m
unfolding AllLow Refused
refused-low m [] a n k r = absurd r
refused-low m (S ∷ Ss) a n k (here f b) = a.0 n k f
refused-low m (S ∷ Ss) a n k (later w r) = refused-low m Ss a.1 n k r
