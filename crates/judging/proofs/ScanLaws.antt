-- The ways through a scan of trees, by any number f of a node. Assumes nothing.
use mathlib.Core.Path.{◌≡◌, refl, sym, ap, ◌∙◌}
use mathlib.Core.Bool.{Bool, true, false}
use mathlib.Core.List.{List, [], ◌∷◌, ◌++◌, append_assoc}
use Prim.Native.Nat.{ℕ, zero, suc, ◌+◌, ◌-◌, ◌<◌, ◌≤◌, max}
use native.Mathlib.Numerals.{add-one}
use native.Mathlib.Decide.{dec_lt}
use native.Mathlib.Omega.{arith}
use lib.Dec.{leb}
use lib.ListN.{length, drop, length-drop}
use borrow.Author.Tests.{leb-true, leb-false}
use Rattle.trees.specs.declared.Rec.{Rec}
use Rattle.trees.specs.declared.Head.{Head}
use Rattle.trees.specs.Tree.{Trees, ∅, ◌▸◌, ◌⧺◌, count, firsts, others, head_of, trees_of}
use Rattle.records.specs.Slots.{slots, rec_at, recs}
use Rattle.expansion.specs.Flat.{span, Placed, All}
use Rattle.expansion.proofs.SpanLaws.{span-zero, count-others, firsts-add}
use Rattle.expansion.proofs.IndexLaws.{all-at}
use Rattle.grounds.specs.Stages.{first_from, marks, marks_all}
use Rattle.grounds.proofs.FirstLaws.{flaw_here, flaw_next}
use Rattle.grounds.proofs.At.{here, past, length-recs}
use Rattle.std.specs.Prelude.{Result, Ok, Err}
use Rattle.records.specs.declared.Ground.{Ground}
use Rattle.records.specs.Grounds.{number, code}
use Rattle.judging.proofs.GivenLaws.{number_some}
use Rattle.judging.specs.Judging.{flaw, Low, MarkedAt, Scanned}

positive : (n : ℕ) → (n ≡ 0 → ⊥) → 0 < n
positive zero h = absurd (h refl)
positive (suc n) h = omega arith

-- ---- trees that are still to be read

pub tree-inside : (src : List ℕ) (k m : ℕ) → 0 < m → m ≤ count (trees_of (drop k (recs src))) → k < slots src
unfolding trees_of count
tree-inside src k m p h = go (dec_lt k (slots src))
  where
    go : Dec (k < slots src) → k < slots src
    go (yes l) = l
    go (no l) = let z : drop k (recs src) ≡ [] = past src k (omega arith) in absurd (let e : count (trees_of (drop k (recs src))) ≡ 0 = rw z in omega arith)

-- as many trees as records
pub trees-few : (rs : List Rec) → count (trees_of rs) ≤ length rs
unfolding trees_of count
trees-few [] = omega arith
trees-few (r ∷ rs) = omega (arith, trees-few rs, count-others r.count (trees_of rs))

-- one record read: its children are still to be read
pub there-next : (src : List ℕ) (k todo : ℕ) (r : Rec) → r ≡ rec_at src k → k < slots src → All Placed (recs src) → 0 < todo → todo ≤ count (trees_of (drop k (recs src)))
    → todo - 1 + r.count ≤ count (trees_of (drop (k + 1) (recs src)))
unfolding trees_of count
there-next src k todo r is h a m t =
    let x : drop k (recs src) ≡ r ∷ drop (k + 1) (recs src) = here src k h ∙ ap (◌∷ drop (k + 1) (recs src)) (sym is) in
    let c : count (trees_of (drop k (recs src))) ≡ suc (count (others r.count (trees_of (drop (k + 1) (recs src))))) = rw x in
    omega (arith, count-others r.count (trees_of (drop (k + 1) (recs src))), (all-at (recs src) Placed a k r (drop (k + 1) (recs src)) x).whole)

-- ---- the marks of a row of trees

module _ (f : Head → Trees → ℕ) where
  marks_⧺ : (ts us : Trees) → marks_all f (ts ⧺ us) ≡ marks_all f ts ++ marks_all f us
  unfolding marks ◌⧺◌
  marks_⧺ ∅ us = refl
  marks_⧺ (t ▸ ts) us = ap (marks f t ++◌) (marks_⧺ ts us) ∙ sym (append_assoc (marks f t) (marks_all f ts) (marks_all f us))

  marks_step : (r : Rec) (rs : List Rec) (m : ℕ) → marks_all f (firsts (suc m) (trees_of (r ∷ rs))) ≡ f (head_of r) (firsts r.count (trees_of rs)) ∷ marks_all f (firsts (r.count + m) (trees_of rs))
  unfolding marks trees_of firsts
  marks_step r rs m =
      ap (f (head_of r) (firsts r.count (trees_of rs)) ∷◌)
      (sym (marks_⧺ (firsts r.count (trees_of rs)) (firsts m (others r.count (trees_of rs)))) ∙ ap (marks_all f) (sym (firsts-add r.count m (trees_of rs))))

pub record Scanning {A : Type 0} (f : A → Head → Trees → ℕ) (src : List ℕ) (at trees todo k : ℕ) : Type 0 where
  pub few : slots src ≤ 65536
  pub placed : All Placed (recs src)
  pub there : todo ≤ count (trees_of (drop k (recs src)))
  pub ends : k + span (drop k (recs src)) todo ≡ at + span (drop at (recs src)) trees
  pub leads : (x : A) → first_from at (marks_all (f x) (firsts trees (trees_of (drop at (recs src))))) ≡ first_from k (marks_all (f x) (firsts todo (trees_of (drop k (recs src)))))

pub scanning_start : {A : Type 0} (f : A → Head → Trees → ℕ) (src : List ℕ) (at trees : ℕ) → slots src ≤ 65536 → All Placed (recs src) → trees ≤ count (trees_of (drop at (recs src))) → Scanning f src at trees trees at
scanning_start f src at trees l a h = record { few = l; placed = a; there = h; ends = refl; leads = λ x. refl }

module _ {A : Type 0} (f : A → Head → Trees → ℕ) (src : List ℕ) (at trees todo k : ℕ) (g : Scanning f src at trees todo k) where
  pub scanning_end : todo ≡ 0 → Scanned f src at trees (Ok k)
  unfolding Low firsts marks first_from
  scanning_end z =
      let s : span (drop k (recs src)) todo ≡ 0 = rw z (span-zero (drop k (recs src))) in
      record { gives = λ x. sym (g.leads x ∙ rw z); low = tt; ends = λ m e. let c : m ≡ k = cc in omega (arith, g.ends) }

  -- past the last record there is no tree
  gone : (i m : ℕ) → slots src ≤ i → m ≤ count (trees_of (drop i (recs src))) → m ≡ 0
  unfolding trees_of count
  gone i m h l = let z : drop i (recs src) ≡ [] = past src i h in let e : count (trees_of (drop i (recs src))) ≡ 0 = rw z in omega arith

  pub scanning_ended : (end j : ℕ) → trees ≤ count (trees_of (drop at (recs src))) → end ≡ slots src → end ≤ k → (at ≤ end → k ≤ end) → j ≡ max at end → Scanned f src at trees (Ok j)
  unfolding Low
  scanning_ended end j l all h u e =
      let w : Scanned f src at trees (Ok k) = scanning_end (gone k todo (omega arith) g.there) in
      record { gives = w.gives; low = tt; ends = λ m q. let c : m ≡ j = cc in c ∙ go w (leb end at) refl }
    where
      go : Scanned f src at trees (Ok k) → (b : Bool) → leb end at ≡ b → j ≡ at + span (drop at (recs src)) trees
      go w true q =
          let z : trees ≡ 0 = gone at trees (omega (arith, leb-true end at q)) l in
          let s : span (drop at (recs src)) trees ≡ 0 = rw z (span-zero (drop at (recs src))) in
          omega (arith, leb-true end at q)
      go w false q = omega (arith, leb-false end at q, u (omega (arith, leb-false end at q)), w.ends k refl)

  pub scanning_inside : 0 < todo → k < slots src
  scanning_inside h = tree-inside src k todo h g.there

  pub scanning_few : todo ≤ 65536
  scanning_few = omega (arith, g.few, g.there, trees-few (drop k (recs src)), length-drop k (recs src), length-recs src)

  module _ (found : Result (Unit {0}) Ground) (judged : MarkedAt f src k (code found)) (more : todo ≡ 0 → ⊥) where
    some : 0 < todo
    some = positive todo more

    split : drop k (recs src) ≡ rec_at src k ∷ drop (k + 1) (recs src)
    split = here src k (scanning_inside some)

    mark : (x : A) → marks_all (f x) (firsts todo (trees_of (drop k (recs src)))) ≡ code found ∷ marks_all (f x) (firsts (todo - 1 + (rec_at src k).count) (trees_of (drop (k + 1) (recs src))))
    unfolding MarkedAt
    mark x =
        let m : todo ≡ suc (todo - 1) = omega arith in
        let c : (rec_at src k).count + (todo - 1) ≡ todo - 1 + (rec_at src k).count = omega arith in
        ap (λ (i : ℕ). marks_all (f x) (firsts i (trees_of (drop k (recs src))))) m
        ∙ ap (λ (rs : List Rec). marks_all (f x) (firsts (suc (todo - 1)) (trees_of rs))) split
        ∙ marks_step (f x) (rec_at src k) (drop (k + 1) (recs src)) (todo - 1)
        ∙ rw (← (judged x), c)

    pub scanning_flawed : (y : Ground) → found ≡ Err y → Scanned f src at trees (Err (flaw y k))
    unfolding Low
    scanning_flawed y is =
        record {
          gives = λ x. sym (g.leads x ∙ ap (first_from k) (mark x) ∙ rw is (flaw_here k (number y) _ (number_some y)));
          low = scanning_inside some;
          ends = λ m e. absurd (let u : ◌≡◌ {A = ℕ} 0 1 = cc in omega arith);
        }

    pub scanning_next : (r : Rec) (u : Unit {0}) → r ≡ rec_at src k → found ≡ Ok u → Scanning f src at trees (todo - 1 + r.count) (k + 1)
    unfolding span
    scanning_next r u is z =
        record {
          few = g.few;
          placed = g.placed;
          there = there-next src k todo r is (scanning_inside some) g.placed some g.there;
          ends =
              let m : todo ≡ suc (todo - 1) = omega arith in
              let c : (rec_at src k).count + (todo - 1) ≡ todo - 1 + r.count = rw is (omega arith) in
              let s : span (drop k (recs src)) todo ≡ suc (span (drop (k + 1) (recs src)) (todo - 1 + r.count)) = ap (span (drop k (recs src))) m ∙ ap (λ (rs : List Rec). span rs (suc (todo - 1))) split ∙ rw c in
              omega (arith, g.ends);
          leads = λ x. g.leads x ∙ ap (first_from k) (mark x) ∙ flaw_next k (code found) _ (ap code z) ∙ rw (add-one k, is);
        }
