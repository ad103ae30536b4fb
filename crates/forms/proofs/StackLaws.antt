-- Laws of a stack in the front of a list. Assumes nothing.
use mathlib.Core.Path.{◌≡◌, refl, ap, ap₂, sym, ◌∙◌}
use mathlib.Core.List.{List, [], ◌∷◌, ◌++◌, append_assoc}
use Prim.Native.Nat.{ℕ, zero, suc, ◌+◌, ◌-◌, ◌≤◌, ◌<◌}
use native.Mathlib.Nat.{add-zero}
use native.Mathlib.Numerals.{add-one}
use native.Mathlib.Omega.{arith}
use lib.ListN.{length, length-append, length-set, get_or, set}
use lib.Seq.{get_or-set_same, get_or-set_other}
use Rattle.std.specs.Prelude.{Option, Some, None}
use Rattle.forms.specs.declared.stack.Stack.{Stack}
use Rattle.forms.specs.declared.Sort.{Sort}
use Rattle.forms.specs.declared.Sort.TheVariants.{Pattern, Expression, LetDef, Ident, Definition, TypeValue, Variant, Fields, StructField, TupleField, AttrKind, Priority, IfLet}
use Rattle.forms.specs.Sorts.{number, sort_of}
use Rattle.forms.specs.Kinds.{Columns}
use Rattle.forms.specs.Forms.{placed, one, run, some, singles, leading, sorts_of, next, rest}
use Rattle.forms.specs.Stack.{pending, held, Room, Pushed}
use Rattle.forms.proofs.Exact.{length-one, length-sorts_of}

pub length-pending : (s : List ℕ) (n : ℕ) → length (pending s n) ≡ n
unfolding pending
length-pending s zero = refl
length-pending s (suc n) = ap suc (length-pending s n)

-- a store at or above the top is not seen
pub pending-set : (s : List ℕ) (n j v : ℕ) → n ≤ j → pending (set s j v) n ≡ pending s n
unfolding pending
pending-set s zero j v h = refl
pending-set s (suc n) j v h =
    ap₂ ◌∷◌ (get_or-set_other s j n v 0 (omega arith)) (pending-set s n j v (omega arith))

pub pending_push : (s : List ℕ) (n v : ℕ) → n < length s → pending (set s n v) (n + 1) ≡ v ∷ pending s n
unfolding pending
pending_push s n v h =
    rw (add-one n) (ap₂ ◌∷◌ (get_or-set_same s n v 0 h) (pending-set s n n v (omega arith)))

-- the top, and what is below it
pub pending_top : (s : List ℕ) (n : ℕ) → (n ≡ 0 → ⊥) → pending s n ≡ get_or s (n - 1) 0 ∷ pending s (n - 1)
unfolding pending
pending_top s zero h = absurd (h refl)
pending_top s (suc n) h = let e : suc n - 1 ≡ n = omega arith in rw e

-- ---- the top is taken off

pub popped-none : (s : List ℕ) (n : ℕ) → n ≡ 0 → (base : ℕ) → base ≡ next base (pending s n)
unfolding pending
popped-none s n e base = rw e

pub popped-top : (s : List ℕ) (n : ℕ) → (n ≡ 0 → ⊥) → (base : ℕ) → get_or s (n - 1) 0 ≡ next base (pending s n)
popped-top s n h base = rw (pending_top s n h)

pub left-top : (s : List ℕ) (n : ℕ) → (n ≡ 0 → ⊥) → pending s (n - 1) ≡ rest (pending s n)
left-top s n h = rw (pending_top s n h)

pub left-none : (s : List ℕ) (n : ℕ) → n ≡ 0 → pending s n ≡ rest (pending s n)
unfolding pending
left-none s n e = rw e

-- ---- pushes

one_of : (x : Sort) → one (number x) ≡ number x ∷ []
unfolding one
one_of Pattern = refl
one_of Expression = refl
one_of LetDef = refl
one_of Ident = refl
one_of Definition = refl
one_of TypeValue = refl
one_of Variant = refl
one_of Fields = refl
one_of StructField = refl
one_of TupleField = refl
one_of AttrKind = refl
one_of Priority = refl
one_of IfLet = refl

-- one number
pub pushed : (a b : Stack) (v : ℕ) → (b.top ≡ a.top + 1) × (b.sorts.now ≡ set a.sorts.now a.top v) → Room a (v ∷ []) → Pushed a b (v ∷ [])
pushed a b v e h = record {
  holds = rw (e.0, e.1) (pending_push a.sorts.now a.top v (omega arith));
  higher = e.0;
  same_space = rw e.1 (length-set a.sorts.now a.top v);
}

-- there is room for one more
pub room_one : (a : Stack) (o : Option Sort) (x : Sort) → o ≡ Some x → Room a (one (sort_of o)) → Room a (number x ∷ [])
room_one a o x e h = rw (e, one_of x) at h

pub pushed_none : (a : Stack) (o : Option Sort) → o ≡ None → Pushed a a (one (sort_of o))
unfolding one
pushed_none a o e = rw e (record { holds = refl; higher = sym (add-zero a.top); same_space = refl })

pub pushed_one : (a b : Stack) (o : Option Sort) (x : Sort) (v : ℕ) → o ≡ Some x → v ≡ number x → Pushed a b (v ∷ []) → Pushed a b (one (sort_of o))
pushed_one a b o x v e f p = rw (e, one_of x, ← f) p

-- one push after another
pub pushed_both : (a b c : Stack) (l m : List ℕ) → Pushed a b l → Pushed b c m → Pushed a c (m ++ l)
pushed_both a b c l m p q = record {
  holds = q.holds ∙ ap (m ++◌) p.holds ∙ sym (append_assoc m l (held a));
  higher = simp length-append (omega (arith, p.higher, q.higher));
  same_space = q.same_space ∙ p.same_space;
}

pub pushed_leading : (a b c d : Stack) (w : Columns) → Pushed a b (one w.third) → Pushed b c (one w.second) → Pushed c d (one w.first) → Pushed a d (leading w)
unfolding leading
pushed_leading a b c d w p q r =
    pushed_both a c d _ _ (pushed_both a b c _ _ p q) r

pub pushed_children : (a b c d : Stack) (n k : ℕ) (w : Columns) → k ≡ singles w → Pushed a b (one w.last) → Pushed b c (run w.any 0 (n - k)) → Pushed c d (leading w) → Pushed a d (sorts_of w n)
unfolding sorts_of
pushed_children a b c d n k w e p q r =
    rw (← e) (pushed_both a c d _ _ (pushed_both a b c _ _ p q) r)

-- a run, from its last place down
pub run_start : (a : Stack) (x n : ℕ) → Pushed a a (run x n (n - n))
unfolding run
run_start a x n = let e : n - n ≡ 0 = omega arith in rw e (record { holds = refl; higher = sym (add-zero a.top); same_space = refl })

pub run_more : (a b c : Stack) (x n p v : ℕ) → Pushed a b (run x p (n - p)) → 0 < p → p ≤ n → v ≡ placed x (p - 1) → Pushed b c (v ∷ []) → Pushed a c (run x (p - 1) (n - (p - 1)))
unfolding run
run_more a b c x n p v h k l e q =
    let f : n - (p - 1) ≡ suc (n - p) = omega arith in
    let g : suc (p - 1) ≡ p = omega arith in
    rw (f, g, ← e) (pushed_both a b c _ _ h q)

length-zero : (l : List ℕ) → length l ≡ 0 → [] ≡ l
length-zero [] e = refl
length-zero (x ∷ l) e = absurd (omega arith)

-- a record without children puts nothing on the stack
pub pushed_childless : (a : Stack) (n : ℕ) (w : Columns) → singles w ≤ n → n ≡ 0 → Pushed a a (sorts_of w n)
pushed_childless a n w h e =
    let z : [] ≡ sorts_of w n = length-zero (sorts_of w n) (length-sorts_of w n h ∙ e) in
    rw (← z) (record { holds = refl; higher = sym (add-zero a.top); same_space = refl })

-- the room for each
module _ (w : Columns) where
  pub length-leading : length (leading w) ≡ some w.first + some w.second + some w.third
  unfolding leading
  length-leading = simp (length-append, length-one) (omega arith)

  pub singles_count : some w.first + some w.second + some w.third + some w.last ≡ singles w
  unfolding singles
  singles_count = refl
