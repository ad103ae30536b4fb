-- Names looked up in the table, and found among what has the names. Assumes nothing.
use mathlib.Core.Path.{◌≡◌, refl, sym, ap, ◌∙◌}
use mathlib.Core.Bool.{Bool, true, false}
use mathlib.Core.Option.{none, some}
use Rattle.std.specs.Prelude.{Option as Maybe, Some, None}
use Rattle.std.specs.List.{position_from}
use Rattle.std.proofs.lemmas.Iterator.Adapters.{position_from-zero}
use mathlib.Core.List.{List, [], ◌∷◌, ◌++◌}
use Prim.Native.Nat.{ℕ, zero, suc, ◌+◌, ◌<◌, ◌≤◌}
use native.Mathlib.Numerals.{add-one}
use native.Mathlib.Nat.{add-zero, zero-add, suc-add, add-suc}
use native.Mathlib.Omega.{arith}
use lib.Dec.{ltb}
use lib.ListN.{length, drop}
use Rattle.std.proofs.Common.{cond, drop-cons}
use borrow.Author.Tests.{lt-ltb, le-ltb}
use Rattle.std.proofs.lemmas.Bool.{ltb-true, ltb-false}
use Rattle.trees.specs.Choice.{pick}
use Rattle.trees.specs.Names.{spelled}
use Rattle.words.specs.Bytes.{same_bytes}
use Rattle.expansion.specs.Expansion.{Named, find}
use Rattle.judging.specs.declared.table.Entry.{Entry}
use Rattle.judging.specs.Table.{row, name_in, looked, RowsOf}

-- of the m rows from x on, the number of the first that has the name w; x + m where there is none
unfoldable pub seek : List ℕ → List Entry → ℕ → ℕ → ℕ → ℕ
seek text t w x zero = x
seek text t w x (suc m) = pick (same_bytes (spelled text w) (spelled text (name_in t x))) x (seek text t w (suc x) m)

-- ---- names looked up, and found

module _ {A : Type 0} (Q : ℕ → A → Type 0) (text : List ℕ) (t : List Entry) (w : ℕ) where
  abbrev same : ℕ → Bool
  same x = same_bytes (spelled text w) (spelled text (name_in t x))

  pub found-row : (x : ℕ) (E : List (Named A)) → RowsOf Q text t x E → (v : A) → find (spelled text w) E ≡ some v
      → Q (seek text t w x (length E)) v × (seek text t w x (length E) < x + length E)
  unfolding find seek
  found-row x [] r v e = absurd (let z : ◌≡◌ {A = ℕ} 0 1 = cc in omega arith)
  found-row x (f ∷ E) r v e = go (same x) refl (rw r.0 at e) (λ d. found-row (suc x) E r.2 v d)
    where
      go : (b : Bool) → same x ≡ b → pick b (some f.value) (find (spelled text w) E) ≡ some v
          → (find (spelled text w) E ≡ some v → Q (seek text t w (suc x) (length E)) v × (seek text t w (suc x) (length E) < suc x + length E))
          → Q (pick (same x) x (seek text t w (suc x) (length E))) v × (pick (same x) x (seek text t w (suc x) (length E)) < x + suc (length E))
      go true p e i = let q : f.value ≡ v = cc in rw (p, ← q) (r.1, omega arith)
      go false p e i = let j = i e in rw p (j.0, omega (arith, j.1))

  pub missing-row : (x : ℕ) (E : List (Named A)) (m : ℕ) → RowsOf Q text t x E → find (spelled text w) E ≡ none → seek text t w x (length E + m) ≡ seek text t w (x + length E) m
  unfolding find seek
  missing-row x [] m r e = rw (zero-add m, add-zero x)
  missing-row x (f ∷ E) m r e = rw (suc-add (length E) m) (go (same x) refl (rw r.0 at e) (λ d. missing-row (suc x) E m r.2 d))
    where
      go : (b : Bool) → same x ≡ b → pick b (some f.value) (find (spelled text w) E) ≡ none
          → (find (spelled text w) E ≡ none → seek text t w (suc x) (length E + m) ≡ seek text t w (suc x + length E) m)
          → pick (same x) x (seek text t w (suc x) (length E + m)) ≡ seek text t w (x + suc (length E)) m
      go true p e i = absurd (let z : ◌≡◌ {A = ℕ} 0 1 = cc in omega arith)
      go false p e i = rw p (i e ∙ ap (λ (y : ℕ). seek text t w y m) (suc-add x (length E) ∙ sym (add-suc x (length E))))

  pub first-row : (x : ℕ) (E : List (Named A)) (m : ℕ) → RowsOf Q text t x E → (v : A) → find (spelled text w) E ≡ some v → seek text t w x (length E + m) ≡ seek text t w x (length E)
  unfolding find seek
  first-row x [] m r v e = absurd (let z : ◌≡◌ {A = ℕ} 0 1 = cc in omega arith)
  first-row x (f ∷ E) m r v e = rw (suc-add (length E) m) (go (same x) refl (rw r.0 at e) (λ d. first-row (suc x) E m r.2 v d))
    where
      go : (b : Bool) → same x ≡ b → pick b (some f.value) (find (spelled text w) E) ≡ some v
          → (find (spelled text w) E ≡ some v → seek text t w (suc x) (length E + m) ≡ seek text t w (suc x) (length E))
          → pick (same x) x (seek text t w (suc x) (length E + m)) ≡ pick (same x) x (seek text t w (suc x) (length E))
      go true p e i = rw p
      go false p e i = rw p (i e)

  pub rows-first : (x : ℕ) (E F : List (Named A)) → RowsOf Q text t x (E ++ F) → RowsOf Q text t x E
  rows-first x [] F r = tt
  rows-first x (e ∷ E) F r = (r.0, r.1, rows-first (suc x) E F r.2)

  pub rows-others : (x : ℕ) (E F : List (Named A)) → RowsOf Q text t x (E ++ F) → RowsOf Q text t (x + length E) F
  rows-others x [] F r = rw (add-zero x) r
  rows-others x (e ∷ E) F r = let m : x + suc (length E) ≡ suc x + length E = omega arith in rw m (rows-others (suc x) E F r.2)

  pub least : (m x : ℕ) → x ≤ seek text t w x m
  unfolding seek
  least zero x = omega arith
  least (suc m) x = go (same x) (least m (suc x))
    where
      go : (b : Bool) → suc x ≤ seek text t w (suc x) m → x ≤ pick b x (seek text t w (suc x) m)
      go true h = omega arith
      go false h = omega arith

  pub missing-all : (x : ℕ) (E : List (Named A)) → RowsOf Q text t x E → find (spelled text w) E ≡ none → seek text t w x (length E) ≡ x + length E
  unfolding seek
  missing-all x E r e = ap (seek text t w x) (sym (add-zero (length E))) ∙ missing-row x E 0 r e

-- ---- the same as an option

module _ (text : List ℕ) (t : List Entry) (w : ℕ) where
  abbrev has_name : Entry → Bool
  has_name e = same_bytes (spelled text w) (spelled text e.name)

  pub seek_most : (m x : ℕ) → seek text t w x m ≤ x + m
  unfolding seek
  seek_most zero x = omega arith
  seek_most (suc m) x = go (has_name (row t x)) (seek_most m (suc x))
    where
      go : (b : Bool) → seek text t w (suc x) m ≤ suc x + m → pick b x (seek text t w (suc x) m) ≤ x + suc m
      go true h = omega arith
      go false h = omega arith

  abbrev upto : ℕ → ℕ → Maybe ℕ
  upto n y = pick (ltb y n) (Some y) None

  look_from : (m x : ℕ) → x + m ≡ length t → position_from has_name x (drop x t) ≡ upto (length t) (seek text t w x m)
  unfolding seek
  look_from zero x e = rw (drop_past x t (omega arith), le-ltb x (length t) (omega arith))
    where
      drop_past : (i : ℕ) (xs : List Entry) → length xs ≤ i → drop i xs ≡ []
      drop_past zero [] h = refl
      drop_past (suc i) [] h = refl
      drop_past zero (y ∷ ys) h = absurd (omega arith)
      drop_past (suc i) (y ∷ ys) h = drop_past i ys (omega arith)
  look_from (suc m) x e =
      let h : x < length t = omega arith in
      rw (drop-cons t x (record { name = 0; arity = 0; place = 0 }) h, add-one x) (go (has_name (row t x)) (look_from m (suc x) (omega arith)))
    where
      go : (b : Bool) → position_from has_name (suc x) (drop (suc x) t) ≡ upto (length t) (seek text t w (suc x) m)
          → cond b (Some x) (position_from has_name (suc x) (drop (suc x) t)) ≡ upto (length t) (pick b x (seek text t w (suc x) m))
      go true i = rw (lt-ltb x (length t) (omega arith))
      go false i = i

  pub looked_is : looked text t w ≡ upto (length t) (seek text t w 0 (length t))
  unfolding looked
  looked_is = position_from-zero has_name t ∙ look_from (length t) 0 (omega arith)

  pub looked_some : (x : ℕ) → looked text t w ≡ Some x → (x ≡ seek text t w 0 (length t)) × (x < length t)
  looked_some x e = go (ltb (seek text t w 0 (length t)) (length t)) refl (sym looked_is ∙ e)
    where
      go : (b : Bool) → ltb (seek text t w 0 (length t)) (length t) ≡ b → pick b (Some (seek text t w 0 (length t))) None ≡ Some x → (x ≡ seek text t w 0 (length t)) × (x < length t)
      go true q i = let s : seek text t w 0 (length t) ≡ x = cc in (sym s, rw (← s) (ltb-true (seek text t w 0 (length t)) (length t) q))
      go false q i = absurd (let z : ◌≡◌ {A = ℕ} 0 1 = cc in omega arith)

  pub looked_none : looked text t w ≡ None → seek text t w 0 (length t) ≡ length t
  looked_none e = go (ltb (seek text t w 0 (length t)) (length t)) refl (sym looked_is ∙ e)
    where
      go : (b : Bool) → ltb (seek text t w 0 (length t)) (length t) ≡ b → pick b (Some (seek text t w 0 (length t))) None ≡ None → seek text t w 0 (length t) ≡ length t
      go true q i = absurd (let z : ◌≡◌ {A = ℕ} 0 1 = cc in omega arith)
      go false q i = omega (arith, ltb-false (seek text t w 0 (length t)) (length t) q, seek_most (length t) 0)
