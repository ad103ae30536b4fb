-- The table of ends: hopping over trees, and filling it. Assumes nothing.
use mathlib.Core.Path.{◌≡◌, refl, sym, ap, ◌∙◌}
use mathlib.Core.Bool.{Bool, true, false}
use mathlib.Core.List.{List, ◌∷◌}
use Prim.Native.Nat.{ℕ, ◌+◌, ◌-◌, ◌<◌, ◌≤◌}
use native.Mathlib.Omega.{arith}
use lib.Dec.{eqb}
use mir.Syntax.{w32}
use mir.Val.{Fits}
use lib.ListN.{length, get_or, set, drop, length-set}
use lib.Seq.{drop-drop, get_or-set_same, get_or-set_other}
use borrow.Author.Tests.{eqb-true, eqb-false}
use Rattle.trees.specs.declared.Rec.{Rec}
use Rattle.trees.specs.Tree.{count, trees_of}
use Rattle.records.specs.Slots.{slots, rec_at, recs}
use Rattle.expansion.specs.Flat.{span, after, end_of, child_at, Placed, All}
use Rattle.expansion.proofs.SpanLaws.{span-zero, span-add, trees_of-after, count-others}
use Rattle.expansion.proofs.IndexLaws.{child-last, all-at}
use Rattle.grounds.proofs.At.{here, length-recs, end-upto}
use Rattle.judging.proofs.ScanLaws.{tree-inside}
use Rattle.opening.specs.Ends.{EndsFrom, Hop, Childed, behind}

-- ---- over c trees

pub hop-start : (src : List ℕ) (at : ℕ) → at ≡ behind src at 0
hop-start src at = omega (arith, span-zero (drop at (recs src)))

-- where j of at least c trees were passed, one more begins
hop-there : (src : List ℕ) (at j c a : ℕ) → c ≤ count (trees_of (drop at (recs src))) → a ≡ behind src at j → c - j ≤ count (trees_of (drop a (recs src)))
hop-there src at j c a h e =
    let d : drop a (recs src) ≡ after (drop at (recs src)) j = ap (λ (i : ℕ). drop i (recs src)) e ∙ sym (drop-drop (span (drop at (recs src)) j) at (recs src)) in
    let n : count (trees_of (drop a (recs src))) ≡ count (trees_of (drop at (recs src))) - j =
    ap (λ (rs : List Rec). count (trees_of rs)) d ∙ ap count (trees_of-after (drop at (recs src)) j) ∙ count-others j (trees_of (drop at (recs src))) in
    omega arith

pub hop-inside : (src : List ℕ) (at j c a : ℕ) → c ≤ count (trees_of (drop at (recs src))) → a ≡ behind src at j → j < c → a < slots src
hop-inside src at j c a h e l = tree-inside src a (c - j) (omega arith) (hop-there src at j c a h e)

pub hop-end : (src : List ℕ) (at j a : ℕ) → a ≡ behind src at j → end_of (recs src) a ≡ behind src at (j + 1)
unfolding end_of
hop-end src at j a e =
    let d : drop a (recs src) ≡ after (drop at (recs src)) j = ap (λ (i : ℕ). drop i (recs src)) e ∙ sym (drop-drop (span (drop at (recs src)) j) at (recs src)) in
    let s : span (drop a (recs src)) 1 ≡ span (after (drop at (recs src)) j) 1 = ap (λ (rs : List Rec). span rs 1) d in
    omega (arith, span-add (drop at (recs src)) j 1)

module _ (src ends : List ℕ) (at from last c : ℕ) (h : Hop src ends at from last c) (j a : ℕ) (here : a ≡ behind src at j) (more : j < c) where
  pub hop-long : a < length ends
  hop-long = omega (arith, h.long, hop-inside src at j c a h.there here more)

  pub hop-next : (b : ℕ) → b ≡ get_or ends a 0 → b ≡ behind src at (j + 1)
  unfolding EndsFrom
  hop-next b read = read ∙ h.ended a (omega arith) (omega (arith, hop-inside src at j c a h.there here more, length-recs src)) ∙ hop-end src at j a here

pub hop-done : (src : List ℕ) (at j c a : ℕ) → a ≡ behind src at j → j ≤ c → c ≤ j → a ≡ behind src at c
hop-done src at j c a e h k = let q : j ≡ c = omega arith in rw (← q) e

-- ---- a child of a record

pub childed_anew : (src ends : List ℕ) (k from last c : ℕ) → Childed src ends k from last c → Hop src ends (k + 1) (k + 1) 0 c
childed_anew src ends k from last c h = record { ended = h.hop.ended; long = h.hop.long; there = h.hop.there; begun = hop-start src (k + 1) }

-- ---- filling the table

-- the table is filled from the index i on
pub record Ending (src ends₀ ends : List ℕ) (i : ℕ) : Type 0 where
  pub placed : All Placed (recs src)
  pub small : slots src ≤ 65536
  pub long : slots src ≤ length ends
  pub same : length ends ≡ length ends₀
  pub upto : i ≤ slots src
  pub ended : EndsFrom (recs src) ends i

pub ending_start : (src ends : List ℕ) (n : ℕ) → n ≡ slots src → All Placed (recs src) → slots src ≤ 65536 → slots src ≤ length ends → Ending src ends ends n
unfolding EndsFrom
ending_start src ends n e a h l =
    record { placed = a; small = h; long = l; same = refl; upto = omega arith; ended = λ k p q. absurd (omega (arith, length-recs src)) }

pub ending_end : (src ends₀ ends : List ℕ) (i : ℕ) → Ending src ends₀ ends i → i ≤ 0 → EndsFrom (recs src) ends 0
ending_end src ends₀ ends i g h = let e : i ≡ 0 = omega arith in rw e at g.ended

module _ (src ends₀ ends : List ℕ) (i : ℕ) (g : Ending src ends₀ ends i) (more : 0 < i) (r : Rec) (is : r ≡ rec_at src (i - 1)) where
  inside : i - 1 < slots src
  inside = omega (arith, g.upto)

  spot : drop (i - 1) (recs src) ≡ rec_at src (i - 1) ∷ drop (i - 1 + 1) (recs src)
  spot = here src (i - 1) inside

  later : EndsFrom (recs src) ends (i - 1 + 1)
  later = let e : i - 1 + 1 ≡ i = omega arith in rw e g.ended

  pub ending_hop : Hop src ends (i - 1 + 1) (i - 1 + 1) 0 r.count
  ending_hop =
      record {
        ended = later;
        long = g.long;
        there = rw is (all-at (recs src) Placed g.placed (i - 1) (rec_at src (i - 1)) (drop (i - 1 + 1) (recs src)) spot).whole;
        begun = hop-start src (i - 1 + 1);
      }

  module _ (e : ℕ) (hopped : e ≡ behind src (i - 1 + 1) r.count) where
    end_is : e ≡ end_of (recs src) (i - 1)
    unfolding child_at
    end_is = hopped ∙ rw is (child-last (recs src) (i - 1) (rec_at src (i - 1)) spot)

    pub ending_fits : Fits w32 e
    ending_fits = record { fits = omega (arith, end_is, end-upto (recs src) (i - 1) (rec_at src (i - 1)) spot, length-recs src, g.small) }

    pub ending_next : Ending src ends₀ (set ends (i - 1) e) (i - 1)
    unfolding EndsFrom
    ending_next =
        record {
          placed = g.placed;
          small = g.small;
          long = simp length-set g.long;
          same = simp length-set g.same;
          upto = omega (arith, g.upto);
          ended = λ k h m. go k h m (eqb k (i - 1)) refl;
        }
      where
        go : (k : ℕ) → i - 1 ≤ k → k < length (recs src) → (b : Bool) → eqb k (i - 1) ≡ b → get_or (set ends (i - 1) e) k 0 ≡ end_of (recs src) k
        go k h m true q = let z : k ≡ i - 1 = eqb-true k (i - 1) q in rw z (get_or-set_same ends (i - 1) e 0 (omega (arith, inside, g.long)) ∙ end_is)
        go k h m false q = let z : k ≡ i - 1 → ⊥ = eqb-false k (i - 1) q in get_or-set_other ends (i - 1) k e 0 z ∙ later k (omega arith) m

pub ends-later : (src ends : List ℕ) (i : ℕ) → EndsFrom (recs src) ends 0 → EndsFrom (recs src) ends i
unfolding EndsFrom
ends-later src ends i n k h l = n k (omega arith) l
