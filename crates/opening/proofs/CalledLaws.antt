-- What a record of the source calls, by its number and by its name. Assumes nothing.
use mathlib.Core.Path.{ap, refl, sym, ◌∙◌, ◌≡◌}
use mathlib.Core.Bool.{Bool, true, false}
use mathlib.Core.Option.{Option, none, some}
use mathlib.Core.List.{List, [], ◌∷◌}
use Prim.Native.Nat.{ℕ, ◌+◌, ◌<◌}
use native.Mathlib.Omega.{arith}
use lib.Dec.{eqb}
use lib.ListN.{length, get_or, drop}
use borrow.Author.Tests.{eq-eqb, ne_eqb, eqb-true, eqb-false}
use Rattle.trees.specs.declared.Rec.{Rec}
use Rattle.trees.specs.Tree.{Tree}
use Rattle.trees.specs.Names.{spelled}
use Rattle.records.specs.Slots.{slots, rec_at, recs}
use Rattle.expansion.specs.Nodes.{is_term}
use Rattle.expansion.specs.Expansion.{Named, find}
use Rattle.expansion.specs.Flat.{called_at}
use Rattle.judging.specs.declared.table.Entry.{Entry}
use Rattle.judging.specs.Table.{looked}
use Rattle.grounds.proofs.At.{here}
use Rattle.judging.proofs.LookLaws.{found-row, missing-all, seek, looked_some, looked_none}
use Rattle.judging.proofs.CallLaws.{call_second}
use Rattle.std.specs.Prelude.{Some, None}
use Rattle.opening.specs.Made.{call_number}
use Rattle.opening.specs.Walk.{Region, Ready}

module _ (text : List ℕ) (t : List Entry) (starts src ends : List ℕ) (pa pc : ℕ) (S : List (Named Tree)) (i : ℕ) (s : List ℕ)
    (r : Ready text t starts src ends pa pc i s S) (k : ℕ) (inside : k < slots src) where
  abbrev calls : Option Tree
  calls = called_at text S (rec_at src k) (drop (k + 1) (recs src))

  module _ (term : (rec_at src k).kind ≡ 35) where
    by_name : calls ≡ find (spelled text (rec_at src (k + 1)).word1) S
    unfolding called_at is_term
    by_name =
        let e : is_term (rec_at src k).kind ≡ true = eq-eqb (rec_at src k).kind 35 term in
        rw (here src (k + 1) (call_second src k (rec_at src k) refl inside r.placed term), e)

    number_by : call_number text t src k ≡ looked text t (rec_at src (k + 1)).word1
    unfolding call_number
    number_by = rw (eq-eqb (rec_at src k).kind 35 term)

  no_term : ((rec_at src k).kind ≡ 35 → ⊥) → calls ≡ none
  unfolding called_at is_term
  no_term e = go (drop (k + 1) (recs src))
    where
      go : (rs : List Rec) → called_at text S (rec_at src k) rs ≡ none
      go [] = refl
      go (j ∷ rs) = rw (ne_eqb (rec_at src k).kind 35 e)

  no_number : ((rec_at src k).kind ≡ 35 → ⊥) → call_number text t src k ≡ None
  unfolding call_number
  no_number e = rw (ne_eqb (rec_at src k).kind 35 e)

  abbrev w : ℕ
  w = (rec_at src (k + 1)).word1

  pub call_missing : None ≡ call_number text t src k → calls ≡ none
  call_missing e = go (eqb (rec_at src k).kind 35) refl
    where
      found : (term : (rec_at src k).kind ≡ 35) (o : Option Tree) → find (spelled text w) S ≡ o → calls ≡ none
      found term none f = by_name term ∙ f
      found term (some v) f =
          let y = found-row (Region starts s (get_or starts (length t) 0)) text t w 0 S r.rows v f in
          let z : seek text t w 0 (length S) ≡ seek text t w 0 (length t) = ap (seek text t w 0) r.sized in
          absurd (omega (arith, y.1, looked_none text t w (sym (number_by term) ∙ sym e), r.sized))

      go : (b : Bool) → eqb (rec_at src k).kind 35 ≡ b → calls ≡ none
      go true p = found (eqb-true (rec_at src k).kind 35 p) (find (spelled text w) S) refl
      go false p = no_term (eqb-false (rec_at src k).kind 35 p)

  pub call_found : (x : ℕ) → Some x ≡ call_number text t src k → (o : Tree) × (calls ≡ some o) × Region starts s (get_or starts (length t) 0) x o
  call_found x e = go (eqb (rec_at src k).kind 35) refl
    where
      found : (term : (rec_at src k).kind ≡ 35) (o : Option Tree) → find (spelled text w) S ≡ o → (o : Tree) × (calls ≡ some o) × Region starts s (get_or starts (length t) 0) x o
      found term none f =
          let y = missing-all (Region starts s (get_or starts (length t) 0)) text t w 0 S r.rows f in
          let z : seek text t w 0 (length S) ≡ seek text t w 0 (length t) = ap (seek text t w 0) r.sized in
          let u = looked_some text t w x (sym (number_by term) ∙ sym e) in
          absurd (omega (arith, u.0, u.1, r.sized))
      found term (some v) f =
          let y = found-row (Region starts s (get_or starts (length t) 0)) text t w 0 S r.rows v f in
          let q : x ≡ seek text t w 0 (length S) = (looked_some text t w x (sym (number_by term) ∙ sym e)).0 ∙ ap (seek text t w 0) (sym r.sized) in
          (v, by_name term ∙ f, rw q y.0)

      go : (b : Bool) → eqb (rec_at src k).kind 35 ≡ b → (o : Tree) × (calls ≡ some o) × Region starts s (get_or starts (length t) 0) x o
      go true p = found (eqb-true (rec_at src k).kind 35 p) (find (spelled text w) S) refl
      go false p = absurd (let u = no_number (eqb-false (rec_at src k).kind 35 p) in let z : ◌≡◌ {A = ℕ} 0 1 = cc in omega arith)

  -- it is one of the extractors
  pub call_inside : (x : ℕ) → Some x ≡ call_number text t src k → x < length t
  call_inside x e = go (eqb (rec_at src k).kind 35) refl
    where
      go : (b : Bool) → eqb (rec_at src k).kind 35 ≡ b → x < length t
      go true p = (looked_some text t w x (sym (number_by (eqb-true (rec_at src k).kind 35 p)) ∙ sym e)).1
      go false p = absurd (let u = no_number (eqb-false (rec_at src k).kind 35 p) in let z : ◌≡◌ {A = ℕ} 0 1 = cc in omega arith)
