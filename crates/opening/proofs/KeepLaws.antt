-- What stays where records are appended: the store below a slot, the templates there, and room for more. Assumes nothing.
use mathlib.Core.Path.{◌≡◌, sym, ap, ◌∙◌}
use mathlib.Core.List.{List, [], ◌∷◌}
use Prim.Native.Nat.{ℕ, suc, ◌+◌, ◌-◌, ◌<◌, ◌≤◌}
use native.Mathlib.Nat.{zero-add}
use native.Mathlib.Omega.{arith}
use lib.ListN.{length, get_or, take, drop}
use Rattle.trees.specs.declared.Rec.{Rec}
use Rattle.trees.specs.Tree.{Tree}
use Rattle.records.specs.Slots.{slots, recs_from, recs}
use Rattle.expansion.specs.Expansion.{Named}
use Rattle.expansion.specs.Flat.{end_of}
use Rattle.judging.specs.declared.table.Entry.{Entry}
use Rattle.judging.specs.Table.{RowsOf}
use Rattle.grounds.proofs.At.{drop_from}
use Rattle.std.specs.Prelude.{Some}
use Rattle.opening.specs.declared.Side.{Side}
use Rattle.opening.specs.declared.Side.TheVariants.{Store, Output}
use Rattle.opening.specs.Wrote.{target, Appendable, Wrote}
use Rattle.opening.specs.Walk.{Region, Ready, Room}
use Rattle.opening.proofs.WroteLaws.{wrote-store, wrote-out, wrote_up, take-recs, wrote_fitted}

-- ---- the store below a slot stays, and so do the templates there

pub recs-part : (s s' : List ℕ) (base a m : ℕ) → recs_from s' 0 base ≡ recs_from s 0 base → a + m ≤ base → recs_from s' a m ≡ recs_from s a m
recs-part s s' base a m e h = sym (part s') ∙ ap (λ (rs : List Rec). take m (drop a rs)) e ∙ part s
  where
    part : (b : List ℕ) → take m (drop a (recs_from b 0 base)) ≡ recs_from b a m
    part b = ap (take m) (drop_from a b 0 base ∙ ap (λ (i : ℕ). recs_from b i (base - a)) (zero-add a)) ∙ take-recs m (base - a) b a (omega arith)

rows_keep : (text : List ℕ) (t : List Entry) (starts s s' : List ℕ) (base x : ℕ) (S : List (Named Tree)) → recs_from s' 0 base ≡ recs_from s 0 base → RowsOf (Region starts s base) text t x S
    → RowsOf (Region starts s' base) text t x S
rows_keep text t starts s s' base x [] e r = tt
rows_keep text t starts s s' base x (o ∷ S) e r = (
  r.0,
  record {
    holds = r.1.holds ∙ sym (recs-part s s' base (get_or starts x 0) (get_or starts (x + 1) 0 - get_or starts x 0) e (omega (arith, r.1.forward, r.1.inside)));
    forward = r.1.forward;
    inside = r.1.inside;
  },
  rows_keep text t starts s s' base (suc x) S e r.2,
)

module _ (text : List ℕ) (t : List Entry) (starts src ends : List ℕ) (pa pc : ℕ) (S : List (Named Tree)) where
  pub ready_keep : (i : ℕ) (s s' : List ℕ) → recs_from s' 0 (get_or starts (length t) 0) ≡ recs_from s 0 (get_or starts (length t) 0) → length s' ≡ length s
      → Ready text t starts src ends pa pc i s S → Ready text t starts src ends pa pc i s' S
  ready_keep i s s' e l r =
      record {
        rows = rows_keep text t starts s s' (get_or starts (length t) 0) 0 S e r.rows;
        sized = r.sized;
        starts-long = r.starts-long;
        base_in = rw l r.base_in;
        base_small = r.base_small;
        placed = r.placed;
        small = r.small;
        ended = r.ended;
        ends-long = r.ends-long;
        params = r.params;
        params_in = r.params_in;
        inside = r.inside;
        fits = r.fits;
      }

  -- a tree inside the tree at i
  pub ready-inside : (i k : ℕ) (s : List ℕ) → i ≤ k → k < slots src → end_of (recs src) k ≤ end_of (recs src) i → Ready text t starts src ends pa pc i s S → Ready text t starts src ends pa pc k s S
  ready-inside i k s h l e r =
      record {
        rows = r.rows;
        sized = r.sized;
        starts-long = r.starts-long;
        base_in = r.base_in;
        base_small = r.base_small;
        placed = r.placed;
        small = r.small;
        ended = r.ended;
        ends-long = r.ends-long;
        params = r.params;
        params_in = r.params_in;
        inside = l;
        fits = λ j a b o c. r.fits j (omega arith) (omega arith) o c;
      }

-- ---- room for more

pub room_next : (outward : Side) (space base : ℕ) (s o s' o' : List ℕ) (m y : ℕ) (l : List Rec) → Room outward space base s o m
    → Wrote outward space s o m l s' o' (Some y) → Room outward space base s' o' y
room_next outward space base s o s' o' m y l r w =
    record {
      fits = (wrote_fitted outward space s o s' o' m y l w).fits;
      there = sized outward r.there (wrote-store outward space s o s' o' m (Some y) l w) (wrote-out outward space s o s' o' m (Some y) l w);
      low = λ e. omega (arith, r.low e, wrote_up outward space s o s' o' m y l w);
      most = r.most;
    }
  where
    sized : (b : Side) → space ≤ slots (target b s o) → length s' ≡ length s → length o' ≡ length o → space ≤ slots (target b s' o')
    sized Output h p q = rw q h
    sized Store h p q = rw p h

pub room-one : (outward : Side) (space base : ℕ) (s o : List ℕ) (m : ℕ) → Room outward space base s o m → Appendable outward space s o m
room-one outward space base s o m r = record { fits = r.fits; there = r.there; most = r.most }
