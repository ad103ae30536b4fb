-- The ways through the recognizer's loop, in the code's terms. Assumes nothing.
use mathlib.Core.Path.{◌≡◌, refl, ap, ap₂, sym, ◌∙◌}
use mathlib.Core.Bool.{Bool, true, false}
use mathlib.Core.List.{List, [], ◌∷◌, ◌++◌}
use Prim.Native.Nat.{ℕ, zero, suc, ◌+◌, ◌-◌, ◌≤◌, ◌<◌}
use native.Mathlib.Omega.{arith}
use lib.ListN.{length, length-append, replicate, get_or-replicate}
use borrow.Author.Tests.{le-ltb}
use Rattle.std.specs.Prelude.{Option, None}
use Rattle.trees.specs.declared.Rec.{Rec}
use Rattle.records.specs.Slots.{slots, rec_at, recs}
use Rattle.forms.specs.declared.Row.{Row}
use Rattle.forms.specs.declared.stack.Stack.{Stack}
use Rattle.forms.specs.Kinds.{Columns, nobody}
use Rattle.forms.specs.Table.{columns_if}
use Rattle.forms.specs.Tests.{◌and◌}
use Rattle.forms.specs.Kinds.{name, row_for}
use Rattle.forms.specs.Forms.{sorts_of, children, stands, good, next, rest, fits, singles}
use Rattle.forms.specs.Lists.{left}
use Rattle.forms.specs.Stack.{pending, held, Pushed, NameTaken, VarTaken, Taken, Refused}
use Rattle.forms.proofs.TestLaws.{true_and, false_and, and_false}
use Rattle.forms.proofs.Exact.{enough, length-children, fits-short}
use Rattle.forms.proofs.ListLaws.{left-more, left-none, left-all, length-left}
use Rattle.forms.proofs.StackLaws.{length-pending}

pub scan_first : (t base n at : ℕ) (list stack : List ℕ) → n ≡ slots list → n < at → false ≡ fits t base (pending stack at) (recs list)
scan_first t base n at list stack e h =
    sym (rw (left-all list) at (fits-short t base (pending stack at) (left list 0) (simp (length-left, length-pending) (omega arith))))

pub scan_start : (t rest base : ℕ) (list ns : List ℕ) → rest ≡ base → fits t rest ns (left list 0) ≡ fits t base ns (recs list)
scan_start t rest base list ns e = rw e (ap (fits t base ns) (left-all list))

-- by the row of the record
good-row : (t s : ℕ) (r : Rec) (w : Columns) (b : Bool) → w ≡ row_for r.kind r.flags → b ≡ stands t s w r → b ≡ good t s r
good-row t s r w b e f = f ∙ ap (λ (x : Columns). stands t s x r) e

pushed_row : (a b : Stack) (r : Rec) (w : Columns) → w ≡ row_for r.kind r.flags → Pushed a b (sorts_of w r.count) → Pushed a b (children r)
pushed_row a b r w e p = rw (← e) p

nobody_stands : (t s : ℕ) (r : Rec) → stands t s nobody r ≡ false
unfolding stands
nobody_stands t s r = rw (le-ltb r.flags 0 (omega arith), false_and, and_false, and_false)

module _ (t s l : ℕ) (a : Stack) (r q : Rec) (w : Columns) (b : Bool)
    (read : r ≡ q) (found : w ≡ row_for r.kind r.flags) (tested : b ≡ stands t s w r) where
  judged : b ≡ good t s r
  judged = good-row t s r w b found tested

  pub take_no : b ≡ false → Refused t s q l a
  take_no e = rw (← read) (record { unfit = λ base rs k. rw (← judged, e) (false_and _) })

  pub take_short : b ≡ true → l < a.top + r.count → Refused t s q l a
  take_short e h =
      let size : length (children r) ≡ r.count = length-children t s r (sym judged ∙ e) in
      rw (← read) (record {
        unfit = λ base rs k.
            rw (fits-short t base (children r ++ held a) rs (simp (length-append, size, length-pending) (omega arith))) (and_false _);
      })

  pub take_all : (a' : Stack) → b ≡ true → a.top + r.count ≤ l → Pushed a a' (sorts_of w r.count) → Taken t s q l a a'
  take_all a' e h p =
      let size : length (children r) ≡ r.count = length-children t s r (sym judged ∙ e) in
      let k : Pushed a a' (children r) = pushed_row a a' r w found p in
      rw (← read) (record {
        stands = sym judged ∙ e;
        pushed = k;
        inside = omega (arith, k.higher, size);
      })

-- where there is no row nothing may stand
pub take_unknown : (t s l : ℕ) (a : Stack) (r q : Rec) (o : Option Row) → r ≡ q → columns_if o ≡ row_for r.kind r.flags → o ≡ None → Refused t s q l a
unfolding stands
take_unknown t s l a r q o read found e =
    let n : nobody ≡ row_for r.kind r.flags = rw e at found in
    let z : good t s r ≡ false = rw (← n) (nobody_stands t s r) in
    rw (← read) (record { unfit = λ base rs k. rw z (false_and _) })

module _ (t base n : ℕ) (list : List ℕ) (a b : Stack) (i s : ℕ) (f : Bool)
    (want : s ≡ next base (held a)) (under : held b ≡ rest (held a))
    (inv : fits t base (held a) (left list i) ≡ f) (all : n ≡ slots list) (more : i < n) where
  turn : good t s (rec_at list i) and fits t base (children (rec_at list i) ++ held b) (left list (i + 1)) ≡ f
  unfolding fits
  turn =
      let h : i < slots list = omega arith in
      rw (want, under) (rw (left-more list i h) at inv)

  -- an Ident is taken off without a look at its row
  pub scan_name : (y : Bool) → NameTaken t s (rec_at list i) y → y ≡ true → fits t base (held b) (left list (i + 1)) ≡ f
  scan_name y taken ok =
      sym (true_and (fits t base (held b) (left list (i + 1)))) ∙ (rw (taken.stands ok, taken.childless ok) at turn)

  -- a Var leaves its name to be expected
  pub scan_var : (y : Bool) (c : Stack) → VarTaken s (rec_at list i) y → y ≡ true → Pushed b c (name ∷ []) → fits t base (held c) (left list (i + 1)) ≡ f
  scan_var y c taken ok q =
      rw q.holds (sym (true_and (fits t base (name ∷ held b) (left list (i + 1)))) ∙ (rw (taken.stands t ok, taken.child ok) at turn))

  pub scan_no : Refused t s (rec_at list i) (n - (i + 1)) b → false ≡ f
  scan_no refused =
      sym (refused.unfit base (left list (i + 1)) (simp (length-left) (omega arith))) ∙ turn

  pub scan_again : (c : Stack) → Taken t s (rec_at list i) (n - (i + 1)) b c → fits t base (held c) (left list (i + 1)) ≡ f
  scan_again c taken =
      rw taken.pushed.holds (sym (true_and (fits t base (children (rec_at list i) ++ held b) (left list (i + 1)))) ∙ (rw taken.stands at turn))

pub scan_end : (t base n : ℕ) (list stack : List ℕ) (top i : ℕ) (f : Bool) → fits t base (pending stack top) (left list i) ≡ f → n ≡ slots list → n ≤ i → top ≤ n - i → true ≡ f
unfolding fits pending
scan_end t base n list stack top i f inv e h l =
    let z : top ≡ 0 = omega arith in
    let k : slots list ≤ i = omega arith in
    rw (z, left-none list i k) at inv

-- where a record may stand, its single children are counted
pub scan_enough : (t s : ℕ) (r : Rec) (w : Columns) (b : Bool) → b ≡ stands t s w r → b ≡ true → singles w ≤ r.count
scan_enough t s r w b e f = enough t s w r (sym e ∙ f)

-- a stack of nothing but patterns
pending_same : (s n m : ℕ) → n ≤ m → pending (replicate m s) n ≡ replicate n s
unfolding pending
pending_same s zero m h = refl
pending_same s (suc n) m h = ap₂ ◌∷◌ (get_or-replicate m n s 0 (omega arith)) (pending_same s n m (omega arith))

pub same_pending : (t b s n m : ℕ) (rs : List Rec) (y : Bool) → n ≤ m → y ≡ fits t b (pending (replicate m s) n) rs → y ≡ fits t b (replicate n s) rs
same_pending t b s n m rs y h e = e ∙ ap (λ (ss : List ℕ). fits t b ss rs) (pending_same s n m h)
