-- One law for each way through a call. Assumes nothing.
use Prim.Native.Nat.{ℕ, ◌-◌, ◌*◌, ◌<◌, ◌≤◌}
use native.Mathlib.Omega.{arith}
use mathlib.Core.Path.{◌≡◌, refl, sym, ap, ◌∙◌}
use mathlib.Core.List.{List, ◌++◌}
use mathlib.Core.Bool.{Bool, true, false}
use lib.Dec.{eqb}
use lib.ListN.{length, take, replicate}
use borrow.Author.Tests.{eqb-true, eqb-false}
use mir.Syntax.{w32}
use mir.Val.{Fits as FitsIn}
use Rattle.trees.specs.declared.Rec.{Rec}
use Rattle.trees.specs.Tree.{trees_of}
use Rattle.records.specs.Slots.{slots, recs, writes}
use Rattle.records.specs.Result.{accepted, refused}
use Rattle.records.proofs.Laws.{length-writes}
use Rattle.records.proofs.BackLaws.{writes-cleared}
use Rattle.forms.specs.Kinds.{definition, pattern}
use Rattle.forms.specs.Forms.{is_one, is_many}
use Rattle.grounds.specs.declared.Counts.{Counts}
use Rattle.grounds.specs.Stages.{refusal}
use Rattle.grounds.specs.Opening.{tree_of, counts, counts_of, Fits, Outcome, accept, refuse, opening}
use Rattle.judging.specs.Whole.{DefinitionsShaped, PatternShaped}
use Rattle.judging.proofs.ShapeLaws.{definitions_shaped, pattern_shaped}
use Rattle.opening.specs.Answers.{Answer, numbered, Outputs, outputs, number_of, Countable, answer_of, space_of, space_in, begun}
use Rattle.opening.specs.Work.{Begin, Answers}
use Rattle.std.specs.Prelude.{Ok, Err}
use Rattle.trees.specs.Choice.{pick}
use Rattle.records.specs.declared.Ground.{Ground}
use Rattle.records.specs.Grounds as grounds
use Rattle.judging.specs.declared.Flaw.{Flaw}
use Rattle.opening.proofs.AnswerLaws.{space-slots}
use Rattle.templating.specs.Calls.{sizes, lent, fault}
use Rattle.templating.proofs.CallLaws.{short, positive, fault-turned, lent-size, lent-first, lent-second, lent_right}
use Rattle.openings.specs.Calls.{stopped, check, opening_of, number, zeros, filled, Left, kept, kept_by, Finished}

-- ---- a refusal, and an acceptance

pub stops : (code place r : ℕ) (s o s' o' : List ℕ) → s' ≡ replicate (length s) 0 → o' ≡ replicate (length o) 0 → r ≡ refused code place → Left (refuse (refusal code place)) (outputs s o) (outputs s' o') r
unfolding number number_of answer_of filled zeros
stops code place r s o s' o' a b c = record { returns = c; holds = rw (a, b) }

pub keeps : (n : Counts) (k m r : ℕ) (s o s' o' : List ℕ) → k ≡ n.store → m ≡ n.output → s' ≡ take (k * 24) s ++ replicate (length s - k * 24) 0 → o' ≡ take (m * 24) o ++ replicate (length o - m * 24) 0 → r ≡ accepted m
    → Finished (Ok n) (outputs s o) (outputs s' o') r
unfolding kept kept_by number_of
keeps n k m r s o s' o' e f a b c = record { returns = rw (← f) c; holds = rw (← e, ← f, a, b) }

pub finish_kept : (a : Answer) (n : Counts) (r : ℕ) (s o s' o' : List ℕ) → a ≡ Ok n → Finished (Ok n) (outputs s o) (outputs s' o') r → Finished (numbered a) (outputs s o) (outputs s' o') r
finish_kept a n r s o s' o' e h = rw e h

pub finish_refused : (a : Answer) (f : Flaw) (place r : ℕ) (s o s' o' : List ℕ) → a ≡ Err f → place ≡ f.place → Left (refuse (refusal (grounds.number f.reason) place)) (outputs s o) (outputs s' o') r → Finished (numbered a) (outputs s o) (outputs s' o') r
unfolding number number_of answer_of filled kept_by
finish_refused a f place r s o s' o' e p h = rw e (record { returns = h.returns ∙ rw p; holds = h.holds })

few : (n : Counts) → Countable (Ok n) → Fits (counts 65536 65536) n
unfolding Countable
few n c = c

pub countable-kept : (a : Answer) (n : Counts) → a ≡ Ok n → Countable a → Fits (counts 65536 65536) n
countable-kept a n e c = few n (rw e at c)

small : (f : Flaw) → Countable (Err f) → f.place < 131072
unfolding Countable
small f c = c

pub place-fits : (a : Answer) (f : Flaw) → a ≡ Err f → Countable a → FitsIn w32 f.place
place-fits a f e c = omega (arith, small f (rw e at c))

-- what was lent is read by the names that it was lent under
pub lent_back : (c : Outcome) (b : Outputs) (r : ℕ) (s o s' o' : List ℕ) → Left c b (outputs s o) r → s ≡ s' → o ≡ o' → Left c b (outputs s' o') r
lent_back c b r s o s' o' h e f = rw (← e, ← f) h

-- ---- the work

module _ (text defs p s o s₁ o₁ : List ℕ) where
  pub answers-countable : (a : Answer) → Answers text defs p (outputs s o) (outputs s₁ o₁) a → Countable a
  answers-countable a h = h.countable

  cleared : (l l₁ : List ℕ) (T : List Rec) → l₁ ≡ writes l 0 T → length T ≤ space_of l → kept (length T) l₁ ≡ writes (replicate (length l) 0) 0 T
  unfolding kept
  cleared l l₁ T w h =
      let z : length l₁ ≡ length l = ap length w ∙ length-writes T l 0 in
      let i : length T ≤ slots l = omega (arith, h, space-slots l (space_of l) refl) in
      rw (z, w) (writes-cleared T l (length T) refl i)

  -- what finishing the answer leaves is what the outcome leaves
  ended : (c : Outcome) (r : ℕ) (b₂ : Outputs) → Begin c (outputs s o) (outputs s₁ o₁) → Finished (answer_of c) (outputs s₁ o₁) b₂ r → length s₁ ≡ length s → length o₁ ≡ length o → Left c (outputs s o) b₂ r
  unfolding number answer_of Begin kept_by filled begun zeros space_in counts_of
  ended (accept w) r b₂ (e, f) d i j =
      let p : s₁ ≡ writes s 0 w.templates = ap (λ (b : Outputs). b.store) e in
      let q : o₁ ≡ writes o 0 w.pattern = ap (λ (b : Outputs). b.output) e in
      record { returns = d.returns; holds = d.holds ∙ rw (cleared s s₁ w.templates p f.store, cleared o o₁ w.pattern q f.output) }
  ended (refuse e) r b₂ h d i j = record { returns = d.returns; holds = d.holds ∙ rw (i, j) }

  pub answers-ended : (a : Answer) (r : ℕ) (s₂ o₂ : List ℕ) → Answers text defs p (outputs s o) (outputs s₁ o₁) a → Finished (numbered a) (outputs s₁ o₁) (outputs s₂ o₂) r → length s₁ ≡ length s → length o₁ ≡ length o
      → Left (opening text (trees_of (recs defs)) (tree_of (recs p)) (space_in (outputs s o))) (outputs s o) (outputs s₂ o₂) r
  answers-ended a r s₂ o₂ h f i j = ended (opening text (trees_of (recs defs)) (tree_of (recs p)) (space_in (outputs s o))) r (outputs s₂ o₂) h.records (rw h.answer at f) i j

-- ---- the checks

module _ (n k : ℕ) (c : Outcome) (b b' : Outputs) (r : ℕ) (e : n ≡ k) where
  pub wrong_size : (x y : Bool) → (n ≡ 0 → ⊥) → Left (stopped n) b b' r → Left (lent stopped k x y c) b b' r
  wrong_size x y h l = rw (lent-size stopped n k c e x y h) l

  pub wrong_first : (x y z : Bool) → n ≡ 0 → z ≡ x → z ≡ false → Left (stopped 3) b b' r → Left (lent stopped k x y c) b b' r
  wrong_first x y z h f g l = rw (lent-first stopped n k c e x y z h f g) l

  pub wrong_second : (x y z w : Bool) → n ≡ 0 → z ≡ x → z ≡ true → w ≡ y → w ≡ false → Left (stopped 3) b b' r → Left (lent stopped k x y c) b b' r
  wrong_second x y z w h f g i j l = rw (lent-second stopped n k c e x y z w h f g i j) l

  pub right : (x y z w : Bool) → n ≡ 0 → z ≡ x → z ≡ true → w ≡ y → w ≡ true → Left c b b' r → Left (lent stopped k x y c) b b' r
  right x y z w h f g i j l = rw (lent_right stopped n k c e x y z w h f g i j) l

module _ (text defs p : List ℕ) where
  abbrev size : ℕ
  size = sizes (length text) (length defs) (length p)

  abbrev many : Bool
  many = is_many (length text) definition (recs defs)

  abbrev one : Bool
  one = is_one (length text) pattern (recs p)

  -- the two lists in the other order have the same number
  pub turned : (n : ℕ) → n ≡ fault (sizes (length text) (length p) (length defs)) one many → n ≡ check text defs p
  unfolding check fault
  turned n e = e ∙ fault-turned (length text) (length p) (length defs) one many

  -- what the number of the check says
  stopped-by : (n k : ℕ) (x y : Bool) (c : Outcome) → k ≡ lent (λ m. m) n x y 0 → (k ≡ 0 → ⊥) → lent stopped n x y c ≡ stopped k
  unfolding lent
  stopped-by n k x y c = go (eqb n 0) x y
    where
      go : (z x y : Bool) → k ≡ pick z (pick x (pick y 0 3) 3) n → (k ≡ 0 → ⊥) → pick z (pick x (pick y c (stopped 3)) (stopped 3)) (stopped n) ≡ stopped k
      go false x y e h = rw e
      go true false y e h = rw e
      go true true false e h = rw e
      go true true true e h = absurd (h e)

  record Right (n : ℕ) (x y : Bool) (c : Outcome) : Type 0 where
    sized : n ≡ 0
    first : x ≡ true
    second : y ≡ true
    comes : lent stopped n x y c ≡ c

  right-by : (n : ℕ) (x y : Bool) (c : Outcome) → 0 ≡ lent (λ m. m) n x y 0 → Right n x y c
  unfolding lent
  right-by n x y c = go (eqb n 0) refl x y
    where
      go : (z : Bool) → eqb n 0 ≡ z → (x y : Bool) → 0 ≡ pick z (pick x (pick y 0 3) 3) n → Right n x y c
      go false q x y e = absurd (eqb-false n 0 q (sym e))
      go true q false y e = absurd (omega arith)
      go true q true false e = absurd (omega arith)
      go true q true true e = record { sized = eqb-true n 0 q; first = refl; second = refl; comes = rw q }

  pub refused_by : (g : Ground) (b b' : Outputs) (r : ℕ) → grounds.number g ≡ check text defs p → Left (refuse (refusal (grounds.number g) 0)) b b' r → Left (opening_of text defs p b) b b' r
  unfolding check opening_of
  refused_by g b b' r e l = rw (stopped-by size (grounds.number g) many one (opening text (trees_of (recs defs)) (tree_of (recs p)) (space_in b)) e (positive g)) l

  module _ (e : 0 ≡ check text defs p) where
    found : (c : Outcome) → Right size many one c
    unfolding check
    found c = right-by size many one c e

    pub first_shaped : DefinitionsShaped defs
    first_shaped = definitions_shaped (length text) defs (found (stopped 0)).first (short (length text) (length defs) (length p) (sym (found (stopped 0)).sized)).0

    pub second_shaped : PatternShaped p
    second_shaped = pattern_shaped (length text) p (found (stopped 0)).second (short (length text) (length defs) (length p) (sym (found (stopped 0)).sized)).1

    pub opened_by : (b b' : Outputs) (r : ℕ) → Left (opening text (trees_of (recs defs)) (tree_of (recs p)) (space_in b)) b b' r → Left (opening_of text defs p b) b b' r
    unfolding opening_of
    opened_by b b' r l = rw (found (opening text (trees_of (recs defs)) (tree_of (recs p)) (space_in b))).comes l
