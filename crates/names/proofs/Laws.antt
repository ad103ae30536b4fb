-- Searching names one after another and by halves: a law for each way through the code. Assumes nothing.
use Rattle.std.proofs.Common.{◌≡◌, ℕ, zero, suc, ◌+◌, ◌-◌, ◌/◌, ◌<◌, ◌≤◌, Bool, true, false, eqb, List, length, get_or, Option, Some, None, sym, refl, ap, ◌∙◌, arith, le-ltb, lt-ltb, eq-eqb, ne_eqb, eqb-true}
use mathlib.Core.Bool.{false≢true}
use borrow.Author.Tests.{eqb-false}
use Rattle.std.specs.Prelude.{IsTrue}
use Rattle.std.specs.Bool.{MatchBool}
use Rattle.std.specs.List.{range_with_len, AllWithin}
use Rattle.std.proofs.lemmas.List.FromFn.{length-range_with_len, get_or-range_with_len}
use Rattle.trees.specs.Choice.{pick}
use Rattle.trees.specs.Names.{spelled}
use Rattle.words.specs.Bytes.{same_bytes}
use Rattle.records.specs.Slots.{rec_at}
use Rattle.words.proofs.SameLaws.{same_eq}
use Rattle.names.specs.declared.row.Names.{Names}
use Rattle.names.specs.Compare.{before}
use Rattle.names.specs.Order.{SameNames, range_at, name_at, entry, ordered, halves, place, led, marked, Leads, Checked, NoneBefore, First}

pub entry_in : (places : List ℕ) (n i k : ℕ) → k ≡ get_or places i 0 → k < n → k ≡ entry places n i
unfolding entry
entry_in places n i k e h = let u : get_or places i 0 < n = omega arith in e ∙ rw (lt-ltb (get_or places i 0) n u)

pub entry_out : (places : List ℕ) (n i k : ℕ) → k ≡ get_or places i 0 → n ≤ k → 0 ≡ entry places n i
unfolding entry
entry_out places n i k e h = let u : n ≤ get_or places i 0 = omega arith in rw (le-ltb (get_or places i 0) n u)

pub marked_all : (marks : List ℕ) (size : ℕ) → length marks ≡ 0 → marked marks size ≡ true
unfolding marked
marked_all marks size e = rw (eq-eqb (length marks) 0 e)

pub marked_at : (marks : List ℕ) (size : ℕ) → (length marks ≡ 0 → ⊥) → marked marks size ≡ eqb (get_or marks size 0) 1
unfolding marked
marked_at marks size h = rw (ne_eqb (length marks) 0 h)

-- ---- one after another

module _ (s : Names) (w : ℕ) where
  -- none of the names up to and with the name i
  pub seek_turn : (i x : ℕ) → same_bytes (spelled s.text.now w) (spelled s.text.now x) ≡ false → x ≡ range_at s i → NoneBefore s (spelled s.text.now w) i → NoneBefore s (spelled s.text.now w) (i + 1)
  seek_turn i x e p v j h = go (eqb j i) refl
    where
      go : (c : Bool) → eqb j i ≡ c → same_bytes (spelled s.text.now w) (name_at s j) ≡ false
      go true z = rw (eqb-true j i z, ← p) e
      go false z = v j (omega (arith, eqb-false j i z))

  pub seek_here : (i x : ℕ) → same_bytes (spelled s.text.now w) (spelled s.text.now x) ≡ true → x ≡ range_at s i → i < s.n → NoneBefore s (spelled s.text.now w) i → First s (spelled s.text.now w) (Some i)
  seek_here i x e p h v = (h, rw (← p) e, v)

-- ---- the same names, lent twice

read : List ℕ → List ℕ → ℕ → ℕ → List ℕ
read text src from j = spelled text (rec_at src (from + j)).word1

module _ (s t : Names) (e : SameNames s t) where
  same-name : (j : ℕ) → name_at s j ≡ name_at t j
  unfolding range_at read
  same-name j = ap (λ (x : List ℕ). read x s.src.now s.from j) e.text ∙ ap (λ (x : List ℕ). read t.text.now x s.from j) e.list ∙ ap (λ (x : ℕ). read t.text.now t.src.now x j) e.from

  none_same : (name : List ℕ) (k : ℕ) → NoneBefore s name k → NoneBefore t name k
  none_same name k v j h = ap (same_bytes name) (sym (same-name j)) ∙ v j h

  first_named : (name found : List ℕ) (r : Option ℕ) → name ≡ found → First s name r → First t found r
  first_named name found None p v = λ j h. none_same found s.n (rw p at v) j (omega (arith, e.many))
  first_named name found (Some k) p v = (omega (arith, v.0, e.many), ap (same_bytes found) (sym (same-name k)) ∙ (rw p at v.1), none_same found k (rw p at v.2))

  pub first_same : (w : ℕ) (r : Option ℕ) → First s (spelled s.text.now w) r → First t (spelled t.text.now w) r
  first_same w r v = first_named (spelled s.text.now w) (spelled t.text.now w) r (ap (λ (x : List ℕ). spelled x w) e.text) v

-- ---- halving

pub record Halving (s : Names) (places name : List ℕ) (base left : ℕ) : Type 0 where
  pub fuel : ℕ
  pub enough : left ≤ fuel
  pub some : 0 < left
  pub inside : base + left ≤ length places
  pub whole : place s places name ≡ halves (ordered s places) name fuel base left

module _ (s : Names) (places name : List ℕ) where
  pub halving_start : 0 < length places → Halving s places name 0 (length places)
  unfolding place
  halving_start h = record { fuel = length places; enough = omega arith; some = h; inside = omega arith; whole = refl }

  turn : (names : ℕ → List ℕ) (fuel base left : ℕ) (b : Bool) → 1 < left → b ≡ before name (names (base + left / 2))
      → halves names name (suc fuel) base left ≡ halves names name fuel (pick b base (base + left / 2)) (left - left / 2)
  unfolding halves
  turn names fuel base left b h e = rw (lt-ltb 1 left h, e)

  picked : (b : Bool) (base left half w : ℕ) → half ≡ left / 2 → w ≡ pick b base (base + half) → 1 < left → w + (left - half) ≤ base + left
  picked true base left half w p q h = omega arith
  picked false base left half w p q h = omega arith

  pub halving_turn : (base left : ℕ) (b : Bool) (w : ℕ) → Halving s places name base left → 1 < left
      → b ≡ before name (ordered s places (base + left / 2)) → w ≡ pick b base (base + left / 2)
      → Halving s places name w (left - left / 2)
  halving_turn base left b w v h e p = go v.fuel v.enough v.whole
    where
      go : (f : ℕ) → left ≤ f → place s places name ≡ halves (ordered s places) name f base left → Halving s places name w (left - left / 2)
      go zero u q = absurd (omega arith)
      go (suc f) u q =
          record { fuel = f; enough = omega arith; some = omega arith; inside = omega (arith, picked b base left (left / 2) w refl p h, v.inside); whole = q ∙ turn (ordered s places) f base left b h e ∙ rw p }

  stop : (names : ℕ → List ℕ) (fuel base left : ℕ) → left ≤ 1 → halves names name fuel base left ≡ base
  unfolding halves
  stop names zero base left h = refl
  stop names (suc fuel) base left h = rw (le-ltb 1 left h)

  pub halving_end : (base left : ℕ) → Halving s places name base left → left ≤ 1 → base ≡ place s places name
  halving_end base left v h = sym (v.whole ∙ stop (ordered s places) v.fuel base left h)

  pub led_is : (i k : ℕ) → i ≡ place s places name → k ≡ entry places s.n i → k ≡ led s places name
  unfolding led
  led_is i k e p = p ∙ rw e

-- ---- the order tried with each name, and the search

module _ (s : Names) (places marks : List ℕ) where
  pub leads_unmarked : (j w : ℕ) → w ≡ range_at s j → marked marks (length (spelled s.text.now w)) ≡ false → Leads s places marks j
  leads_unmarked j w e q h = absurd (false≢true (sym q ∙ rw e h))

  pub leads_same : (j k w x : ℕ) → w ≡ range_at s j → k ≡ led s places (spelled s.text.now w) → k ≤ j → x ≡ range_at s k → same_bytes (spelled s.text.now w) (spelled s.text.now x) ≡ true → Leads s places marks j
  leads_same j k w x e p h q z u = (rw (← e, ← p) h, rw (← e, ← p, ← q) z)

  -- by what `all` says of the numbers of the names
  pub checked_all : (n : ℕ) (r : Bool) (Q : Type 0) → MatchBool r (AllWithin (λ j. Leads s places marks j) (range_with_len 0 n) 0 (length (range_with_len 0 n))) Q → IsTrue r → Checked s places marks n
  checked_all n true Q v h = record { each = λ j l. rw (at j l) at (v j 0 (omega arith) (rw (length-range_with_len 0 n) l)) }
    where
      at : (j : ℕ) → j < n → get_or (range_with_len 0 n) j 0 ≡ j
      at j l = get_or-range_with_len 0 n j 0 l ∙ omega arith
  checked_all n false Q v h = absurd (false≢true h)

  lead_to : (j : ℕ) (name : List ℕ) → name ≡ name_at s j → Leads s places marks j → marked marks (length name) ≡ true
      → (led s places name ≤ j) × (same_bytes name (name_at s (led s places name)) ≡ true)
  lead_to j name e l h = rw e (l (rw e at h))

  module _ (k w x : ℕ) (p : k ≡ led s places (spelled s.text.now w)) (q : x ≡ range_at s k)
      (v : Checked s places marks s.n) (h : marked marks (length (spelled s.text.now w)) ≡ true) where
    pub sought_here : same_bytes (spelled s.text.now w) (spelled s.text.now x) ≡ true → k < s.n → First s (spelled s.text.now w) (Some k)
    sought_here e u = (u, rw (← q) e, λ j y. go j y (same_bytes (spelled s.text.now w) (name_at s j)) refl)
      where
        go : (j : ℕ) → j < k → (c : Bool) → same_bytes (spelled s.text.now w) (name_at s j) ≡ c → c ≡ false
        go j y false _ = refl
        go j y true z =
            let l : led s places (spelled s.text.now w) ≤ j = (lead_to j (spelled s.text.now w) (same_eq (spelled s.text.now w) (name_at s j) z) (v.each j (omega arith)) h).0 in
            absurd (omega arith)

    pub sought_none : same_bytes (spelled s.text.now w) (spelled s.text.now x) ≡ false → First s (spelled s.text.now w) None
    sought_none e j y = go (same_bytes (spelled s.text.now w) (name_at s j)) refl
      where
        go : (c : Bool) → same_bytes (spelled s.text.now w) (name_at s j) ≡ c → c ≡ false
        go false _ = refl
        go true z =
            let l : same_bytes (spelled s.text.now w) (name_at s (led s places (spelled s.text.now w))) ≡ true = (lead_to j (spelled s.text.now w) (same_eq (spelled s.text.now w) (name_at s j) z) (v.each j y) h).1 in
            absurd (false≢true (sym e ∙ rw (q, p) l))
