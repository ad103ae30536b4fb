-- EXACTLY: each answer of reading is given if and only if its ground holds and none before it. Assumes nothing.
use Prim.Native.Nat.{ℕ, ◌<◌, ◌≤◌}
use native.Mathlib.Omega.{arith}
use mathlib.Core.Path.{◌≡◌, refl, subst}
use mathlib.Core.List.{List}
use mathlib.Core.Logic.{◌↔◌}
use mathlib.Core.Bool.{Bool, true, false}
use lib.Dec.{ltb}
use borrow.Author.Tests.{ltb-true, ltb-false}
use Rattle.trees.specs.Tree.{Trees}
use Rattle.records.specs.Result as result
use Rattle.records.specs.Result.{refusal_of}
use Rattle.records.proofs.ResultLaws.{refused_apart}
use Rattle.tokens.specs.Input.{Input, Limited}
use Rattle.parser.specs.Reading.{done, stopped, number, bytes}
use Rattle.grammar.specs.Meaning.{GoodList, Accepted, CutShort, FirstBad, Underived, TooLong, Refused, too_much, cut_short, bad-token, too_deep, no_parse, no_space, Worth, accepted, refused, Fitting, Exactly}
use Rattle.grammar.proofs.Theorem.{unique, numbered}
use Rattle.grammar.proofs.Places.{place-low, same_number}

-- both sides hold, or neither
pub both : {A B : Type 0} → A → B → A ↔ B
both a b = (λ _. b, λ _. a)

pub neither : {A B : Type 0} → (A → ⊥) → (B → ⊥) → A ↔ B
neither f g = (λ a. absurd (f a), λ b. absurd (g b))

-- the first bad token is one
one-first : {s : Input} {j k : ℕ} → FirstBad s j → FirstBad s k → j ≡ k
one-first {j = j} {k = k} a b = go (ltb j k) (ltb k j) refl refl
  where
    go : (x y : Bool) → ltb j k ≡ x → ltb k j ≡ y → j ≡ k
    go true y e f = absurd (a.bad (b.good-before j (ltb-true j k e)))
    go false true e f = absurd (b.bad (a.good-before k (ltb-true k j f)))
    go false false e f = omega (arith, ltb-false j k e, ltb-false k j f)

-- derived trees fit or they do not
no_longer : {s : Input} {space : ℕ} → Fitting s space → TooLong s space → ⊥
no_longer {s} f x = omega (arith, f.fits, rw (unique s x.trees f.trees x.derived f.derived) at x.longer)

-- ---- a good list, and one that is not: what is no ground of it

module _ {s : Input} (g : GoodList s) where
  whole-good : CutShort s → ⊥
  whole-good c = c.cut g.whole

  none-bad : {k : ℕ} → FirstBad s k → ⊥
  none-bad b = b.bad (g.good _ b.there)

-- ---- by refusal and place

abbrev pub Is : ℕ → ℕ → ℕ → ℕ → Type 0
Is code place c p = (code ≡ c) × (place ≡ p)

record Only (s : Input) (space code place : ℕ) : Type 0 where
  seven : Is code place 7 0 ↔ (Limited s → ⊥)
  one : Is code place 1 0 ↔ CutShort s
  two : (k : ℕ) → Is code place 2 k ↔ FirstBad s k
  parser : (8 ≤ code) ↔ Underived s
  six : Is code place 6 0 ↔ TooLong s space
  unfit : Fitting s space → ⊥

module _ {s : Input} {space : ℕ} where
  -- a refusal of the parser
  late : {code place : ℕ} → Underived s → 8 ≤ code → Only s space code place
  late u h =
      record {
        seven = neither (λ e. omega (arith, e.0)) (λ n. n u.list-good.limited);
        one = neither (λ e. omega (arith, e.0)) (λ c. whole-good u.list-good c);
        two = λ k. neither (λ e. omega (arith, e.0)) (λ b. none-bad u.list-good b);
        parser = both h u;
        six = neither (λ e. omega (arith, e.0)) (λ x. u.none _ x.derived);
        unfit = λ f. u.none _ f.derived;
      }

  only : {code place : ℕ} → Refused s space code place → Only s space code place
  only (too_much n) =
      record {
        seven = both (refl, refl) n;
        one = neither (λ e. omega (arith, e.0)) (λ c. n c.limited);
        two = λ k. neither (λ e. omega (arith, e.0)) (λ b. n b.limited);
        parser = neither (λ h. omega arith) (λ u. n u.list-good.limited);
        six = neither (λ e. omega (arith, e.0)) (λ x. n x.derived.list-good.limited);
        unfit = λ f. n f.derived.list-good.limited;
      }
  only (cut_short c) =
      record {
        seven = neither (λ e. omega (arith, e.0)) (λ n. n c.limited);
        one = both (refl, refl) c;
        two = λ k. neither (λ e. omega (arith, e.0)) (λ b. c.cut b.whole);
        parser = neither (λ h. omega arith) (λ u. c.cut u.list-good.whole);
        six = neither (λ e. omega (arith, e.0)) (λ x. c.cut x.derived.list-good.whole);
        unfit = λ f. c.cut f.derived.list-good.whole;
      }
  only (bad-token {k = j} b) =
      record {
        seven = neither (λ e. omega (arith, e.0)) (λ n. n b.limited);
        one = neither (λ e. omega (arith, e.0)) (λ c. c.cut b.whole);
        two = λ k. (λ e. subst (FirstBad s) e.1 b, λ d. (refl, one-first b d));
        parser = neither (λ h. omega arith) (λ u. none-bad u.list-good b);
        six = neither (λ e. omega (arith, e.0)) (λ x. none-bad x.derived.list-good b);
        unfit = λ f. none-bad f.derived.list-good b;
      }
  only (too_deep u x) = late u (omega arith)
  only (no_parse k u l h) = late u (omega arith)
  only (no_space x) =
      let g = x.derived.list-good in
      record {
        seven = neither (λ e. omega (arith, e.0)) (λ n. n g.limited);
        one = neither (λ e. omega (arith, e.0)) (λ c. whole-good g c);
        two = λ k. neither (λ e. omega (arith, e.0)) (λ b. none-bad g b);
        parser = neither (λ h. omega arith) (λ u. u.none _ x.derived);
        six = both (refl, refl) x;
        unfit = λ f. no_longer f x;
      }

-- ---- by the number

-- of a refusal
pub numbers : {code place c p : ℕ} {B : Type 0} → place < 4294967296 → p < 4294967296 → Is code place c p ↔ B → (number (stopped code place) ≡ number (stopped c p)) ↔ B
numbers {code} {place} {c} {p} l h b = (λ e. b.0 (same_number l h e), λ y. back (b.1 y))
  where
    back : Is code place c p → number (stopped code place) ≡ number (stopped c p)
    back e = rw (e.0, e.1)

pub code_is : (code place : ℕ) → place < 4294967296 → refusal_of (number (stopped code place)) ≡ code
unfolding number
code_is code place l = (refused_apart code place l).refusal_is

refusal_exactly : {s : Input} {space code place : ℕ} (n : ℕ) → s.end < 4294967296 → Refused s space code place → Exactly s space n (number (stopped code place)) (bytes n (stopped code place))
refusal_exactly {code = code} {place = place} n e f =
    let l = place-low e f in
    let o = only f in
    let z = code_is code place l in
    record {
      seven = numbers l (omega arith) o.seven;
      one = numbers l (omega arith) o.one;
      two = λ k h. numbers l h (o.two k);
      parser = (λ h. o.parser.0 (omega arith), λ u. omega (arith, o.parser.1 u));
      six = numbers l (omega arith) o.six;
      accepts = neither (λ h. omega (arith, (numbered f).0)) o.unfit;
      returns = λ y. absurd (o.unfit y);
      writes = λ y. absurd (o.unfit y);
    }

-- of an acceptance
accepted-low : {s : Input} {space : ℕ} {ts : Trees} → Accepted s space ts → number (done ts) < 72057594037927936
unfolding number result.accepted
accepted-low a = omega (arith, a.three, a.derived.list-good.limited.few)

-- a refusal's number is above it
pub refused-high : (c p : ℕ) → 0 < c → 72057594037927936 ≤ number (stopped c p)
unfolding number result.refused
refused-high c p h = omega arith

acceptance_exactly : {s : Input} {space : ℕ} {ts : Trees} (n : ℕ) → Accepted s space ts → Exactly s space n (number (done ts)) (bytes n (done ts))
acceptance_exactly {s} {space} {ts} n a =
    let g = a.derived.list-good in
    let f : Fitting s space = record { trees = ts; derived = a.derived; fits = a.fits } in
    let l = accepted-low a in
    record {
      seven = neither (λ e. omega (arith, refused-high 7 0 (omega arith))) (λ n. n g.limited);
      one = neither (λ e. omega (arith, refused-high 1 0 (omega arith))) (λ c. whole-good g c);
      two = λ k h. neither (λ e. omega (arith, refused-high 2 k (omega arith))) (λ b. none-bad g b);
      parser = neither (λ h. omega arith) (λ u. u.none _ a.derived);
      six = neither (λ e. omega (arith, refused-high 6 0 (omega arith))) (λ x. no_longer f x);
      accepts = both (omega arith) f;
      returns = λ y. rw (a.alone y.trees y.derived);
      writes = λ y. rw (a.alone y.trees y.derived);
    }

pub exactly : {s : Input} {space n r : ℕ} {l : List ℕ} → s.end < 4294967296 → Worth s space n r l → Exactly s space n r l
exactly {n = n} e (accepted a) = acceptance_exactly n a
exactly {n = n} e (refused f) = refusal_exactly n e f

-- no number has another refusal than document 01's
pub refusal-within : {s : Input} {space n r : ℕ} {l : List ℕ} → s.end < 4294967296 → Worth s space n r l → refusal_of r ≤ 27
refusal-within e (accepted a) = omega (arith, accepted-low a)
refusal-within e (refused {code = code} {place = place} f) = omega (arith, code_is code place (place-low e f), (numbered f).1)
