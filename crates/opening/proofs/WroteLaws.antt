-- Laws of appending. Assumes nothing.
use mathlib.Core.Path.{◌≡◌, refl, sym, ap, ◌∙◌}
use Rattle.std.specs.Prelude.{Option, Some, None}
use mathlib.Core.List.{List, [], ◌∷◌, ◌++◌, append_assoc, append-nil}
use Prim.Native.Nat.{ℕ, zero, suc, ◌+◌, ◌<◌, ◌≤◌}
use native.Mathlib.Nat.{add-zero}
use native.Mathlib.Omega.{arith}
use lib.ListN.{length, take, length-append}
use lib.Seq.{take-append-le}
use Rattle.trees.specs.declared.Rec.{Rec}
use Rattle.records.specs.Slots.{rec_at, recs_from, put, writes}
use Rattle.records.proofs.Laws.{writes-append, length-put}
use Rattle.records.proofs.Reading.{length-recs_from}
use Rattle.records.proofs.Readback.{Small, recs-put}
use Rattle.opening.specs.declared.Side.{Side}
use Rattle.opening.specs.declared.Side.TheVariants.{Store, Output}
use Rattle.opening.specs.Wrote.{target, other, Appendable, Wrote, all, full}

module _ (to : Side) (space : ℕ) where
  pub wrote-store : (s o s' o' : List ℕ) (n : ℕ) (r : Option ℕ) (l : List Rec) → Wrote to space s o n l s' o' r → length s' ≡ length s
  wrote-store s o s' o' n r l (all a b c d e f g) = a
  wrote-store s o s' o' n r l (full a b c d) = a

  pub wrote-out : (s o s' o' : List ℕ) (n : ℕ) (r : Option ℕ) (l : List Rec) → Wrote to space s o n l s' o' r → length o' ≡ length o
  wrote-out s o s' o' n r l (all a b c d e f g) = b
  wrote-out s o s' o' n r l (full a b c d) = b

  -- where there is space
  pub record Fitted (s o s' o' : List ℕ) (n y : ℕ) (l : List Rec) : Type 0 where
    pub count : y ≡ n + length l
    pub fits : y ≤ space
    pub writes : target to s' o' ≡ writes (target to s o) n l
    pub reads : recs_from (target to s' o') 0 y ≡ recs_from (target to s o) 0 n ++ l
    pub kept : other to s' o' ≡ other to s o

  pub wrote_fitted : (s o s' o' : List ℕ) (n y : ℕ) (l : List Rec) → Wrote to space s o n l s' o' (Some y) → Fitted s o s' o' n y l
  wrote_fitted s o s' o' n y l (all a b c d e f g) =
      let q : y ≡ n + length l = cc in
      record { count = q; fits = omega arith; writes = e; reads = rw q f; kept = g }
  wrote_fitted s o s' o' n y l (full a b c d) = absurd (let z : ◌≡◌ {A = ℕ} 0 1 = cc in omega arith)

  pub wrote-over : (s o s' o' : List ℕ) (n : ℕ) (l : List Rec) → Wrote to space s o n l s' o' None → space < n + length l
  wrote-over s o s' o' n l (all a b c d e f g) = absurd (let z : ◌≡◌ {A = ℕ} 0 1 = cc in omega arith)
  wrote-over s o s' o' n l (full a b c d) = d

  pub wrote_up : (s o s' o' : List ℕ) (n y : ℕ) (l : List Rec) → Wrote to space s o n l s' o' (Some y) → n ≤ y
  wrote_up s o s' o' n y l w = omega (arith, (wrote_fitted s o s' o' n y l w).count)

  pub wrote_none : (s o : List ℕ) (n : ℕ) → n ≤ space → Wrote to space s o n [] s o (Some n)
  unfolding writes
  wrote_none s o n h = all refl refl (ap (λ (i : ℕ). Some i) (sym (add-zero n))) (omega arith) refl (rw add-zero (sym (append-nil (recs_from (target to s o) 0 n)))) refl

  pub wrote-both : (s o s₁ o₁ s₂ o₂ : List ℕ) (n y : ℕ) (r : Option ℕ) (l m : List Rec) → Wrote to space s o n l s₁ o₁ (Some y) → Wrote to space s₁ o₁ y m s₂ o₂ r → Wrote to space s o n (l ++ m) s₂ o₂ r
  wrote-both s o s₁ o₁ s₂ o₂ n y r l m v (full a' b' c' d') =
      let f = wrote_fitted s o s₁ o₁ n y l v in
      full (a' ∙ wrote-store s o s₁ o₁ n (Some y) l v) (b' ∙ wrote-out s o s₁ o₁ n (Some y) l v) c' (rw length-append (omega (arith, f.count)))
  wrote-both s o s₁ o₁ s₂ o₂ n y r l m v (all a' b' c' d' e' f' g') =
      let f = wrote_fitted s o s₁ o₁ n y l v in
      let k : n + length (l ++ m) ≡ y + length m = rw length-append (omega (arith, f.count)) in
      all (a' ∙ wrote-store s o s₁ o₁ n (Some y) l v) (b' ∙ wrote-out s o s₁ o₁ n (Some y) l v) (c' ∙ ap (λ (i : ℕ). Some i) (sym k)) (rw k d')
      (e' ∙ ap (λ (t : List ℕ). writes t y m) f.writes ∙ ap (λ (i : ℕ). writes (writes (target to s o) n l) i m) f.count ∙ sym (writes-append l m (target to s o) n))
      (rw k (f' ∙ ap (◌++ m) f.reads ∙ append_assoc (recs_from (target to s o) 0 n) l m)) (g' ∙ f.kept)

  -- where a list did not fit, no longer one does; nor the same with more after it
  pub wrote-longer : (s o s' o' : List ℕ) (n : ℕ) (l m : List Rec) → length l ≤ length m → Wrote to space s o n l s' o' None → Wrote to space s o n m s' o' None
  wrote-longer s o s' o' n l m k w = full (wrote-store s o s' o' n None l w) (wrote-out s o s' o' n None l w) refl (omega (arith, wrote-over s o s' o' n l w))

  pub wrote_stop : (s o s' o' : List ℕ) (n : ℕ) (l m : List Rec) → Wrote to space s o n l s' o' None → Wrote to space s o n (l ++ m) s' o' None
  wrote_stop s o s' o' n l m w = wrote-longer s o s' o' n l (l ++ m) (rw length-append (omega arith)) w

  -- one record
  pub append-full : (s o : List ℕ) (n : ℕ) (r : Rec) → n ≡ space → Wrote to space s o n (r ∷ []) s o None
  append-full s o n r h = full refl refl refl (omega arith)

pub append-out : (to : Side) (space : ℕ) (s o o' : List ℕ) (n : ℕ) (r : Rec) → o' ≡ put o n r → Small r → to ≡ Output → Appendable to space s o n → (n ≡ space → ⊥)
    → Wrote to space s o n (r ∷ []) s o' (Some (n + 1))
unfolding writes
append-out Output space s o o' n r e m t a k = all refl (ap length e ∙ length-put o n r) refl (omega (arith, a.fits)) e (rw e (recs-put o n r (omega (arith, a.fits, a.there)) m)) refl
append-out Store space s o o' n r e m t a k = absurd (let z : ◌≡◌ {A = ℕ} 0 1 = cc in omega arith)

pub append-store : (to : Side) (space : ℕ) (s o s' : List ℕ) (n : ℕ) (r : Rec) → s' ≡ put s n r → Small r → to ≡ Store → Appendable to space s o n → (n ≡ space → ⊥)
    → Wrote to space s o n (r ∷ []) s' o (Some (n + 1))
unfolding writes
append-store Store space s o s' n r e m t a k = all (ap length e ∙ length-put s n r) refl refl (omega (arith, a.fits)) e (rw e (recs-put s n r (omega (arith, a.fits, a.there)) m)) refl
append-store Output space s o s' n r e m t a k = absurd (let z : ◌≡◌ {A = ℕ} 0 1 = cc in omega arith)

-- ---- parts of what is kept

pub take-recs : (m n : ℕ) (b : List ℕ) (i : ℕ) → m ≤ n → take m (recs_from b i n) ≡ recs_from b i m
unfolding recs_from
take-recs zero n b i h = refl
take-recs (suc m) zero b i h = absurd (omega arith)
take-recs (suc m) (suc n) b i h = ap (rec_at b i ∷◌) (take-recs m n b (suc i) (omega arith))

-- the records of the store below `base` stay
pub wrote_keeps : (to : Side) (space base : ℕ) (s o s' o' : List ℕ) (n y : ℕ) (l : List Rec) → (to ≡ Store → base ≤ n) → Wrote to space s o n l s' o' (Some y)
    → recs_from s' 0 base ≡ recs_from s 0 base
wrote_keeps Output space base s o s' o' n y l low w = rw (wrote_fitted Output space s o s' o' n y l w).kept
wrote_keeps Store space base s o s' o' n y l low w =
    let f = wrote_fitted Store space s o s' o' n y l w in
    let k : base ≤ n = low refl in
    let m : base ≤ length (recs_from s 0 n) = rw (length-recs_from s 0 n) k in
    sym (take-recs base y s' 0 (omega (arith, f.count))) ∙ ap (take base) f.reads ∙ take-append-le base (recs_from s 0 n) l m ∙ take-recs base n s 0 k
