-- The ways through the functions that find the first pattern or expression at depth 65, in the code's terms. Assumes nothing.
use mathlib.Core.Path.{◌≡◌, refl, ap, sym, ◌∙◌}
use mathlib.Core.Bool.{Bool, true, false, false≢true}
use mathlib.Core.List.{List, [], ◌∷◌}
use Prim.Native.Nat.{ℕ, zero, suc, ◌+◌, ◌-◌, ◌*◌, ◌≤◌, ◌<◌}
use native.Mathlib.Nat.{zero-add, add-zero}
use native.Mathlib.Omega.{arith}
use mir.Val.{Fits}
use mir.Syntax.{w64}
use lib.Dec.{eqb}
use lib.ListN.{length, get_or, set}
use lib.Seq.{get_or-set_same}
use borrow.Author.Tests.{eq-eqb, ne_eqb, eqb-true, eqb-false}
use Rattle.trees.specs.declared.Rec.{Rec}
use Rattle.trees.specs.Choice.{pick}
use Rattle.records.specs.Slots.{slots, rec_at, recs}
use Rattle.std.specs.Prelude.{Option, Some, None, MatchOption}
use Rattle.forms.specs.declared.Row.{Row}
use Rattle.forms.specs.declared.Sort.{Sort}
use Rattle.forms.specs.declared.Sort.TheVariants.{Pattern, Expression, LetDef, Ident, Definition, TypeValue, Variant, Fields, StructField, TupleField, AttrKind, Priority, IfLet}
use Rattle.forms.specs.Sorts.{number}
use Rattle.forms.specs.Table.{columns_if}
use Rattle.forms.specs.Tests.{◌and◌}
use Rattle.forms.specs.Kinds.{row_for}
use Rattle.forms.specs.Stack.{pending}
use Rattle.forms.specs.Lists.{left, first_is}
use Rattle.forms.specs.Depth.{is_level, settle, read_one, expect, enter, flat_depths, first_deep_in, Small}
use Rattle.forms.proofs.TestLaws.{true_and, false_and}
use Rattle.forms.proofs.ListLaws.{left-more, left-none, left-all}
use Rattle.forms.proofs.StackLaws.{pending_top, pending-set, pending_push, length-pending}

-- a record's level by its row, and by what a closure answers at one
pub row_level : (o : Option Row) (k f : ℕ) (b : Bool) (P : Row → Type 0) → columns_if o ≡ row_for k f → MatchOption o (b ≡ false) P → ((w : Row) → P w → b ≡ is_level (number w.sort)) → b ≡ is_level (row_for k f).sort
unfolding is_level
row_level None k f b P e m g = m ∙ rw (← e)
row_level (Some w) k f b P e m g = g w m ∙ rw (← e)

pub a_level : (s : Sort) → s ≡ Pattern → true ≡ is_level (number s)
unfolding is_level
a_level s e = rw e

pub an_expression : (s : Sort) → s ≡ Expression → true ≡ is_level (number s)
unfolding is_level
an_expression s e = rw e

pub no_level_sort : (s : Sort) → (s ≡ Pattern → ⊥) → (s ≡ Expression → ⊥) → false ≡ is_level (number s)
unfolding is_level
no_level_sort Pattern p q = absurd (p refl)
no_level_sort Expression p q = absurd (q refl)
no_level_sort LetDef p q = refl
no_level_sort Ident p q = refl
no_level_sort Definition p q = refl
no_level_sort TypeValue p q = refl
no_level_sort Variant p q = refl
no_level_sort Fields p q = refl
no_level_sort StructField p q = refl
no_level_sort TupleField p q = refl
no_level_sort AttrKind p q = refl
no_level_sort Priority p q = refl
no_level_sort IfLet p q = refl

-- ---- leaving levels that expect nothing

settle_keeps : (n : ℕ) (ns : List ℕ) → (n ≡ 0 → ⊥) → settle (n ∷ ns) ≡ n ∷ ns
unfolding settle
settle_keeps zero ns h = absurd (h refl)
settle_keeps (suc n) ns h = refl

module _ (s : List ℕ) (d : ℕ) (x : List ℕ) (inv : settle (pending s d) ≡ x) where
  pub settle_stop : 0 < d → (get_or s (d - 1) 0 ≡ 0 → ⊥) → pending s (d - 1 + 1) ≡ x
  settle_stop h k =
      let e : d - 1 + 1 ≡ d = omega arith in
      let g : d ≡ 0 → ⊥ = λ q. omega arith in
      rw e (pending_top s d g ∙ sym (settle_keeps (get_or s (d - 1) 0) (pending s (d - 1)) k) ∙ ap settle (sym (pending_top s d g)) ∙ inv)

  pub settle_more : 0 < d → get_or s (d - 1) 0 ≡ 0 → settle (pending s (d - 1)) ≡ x
  unfolding settle
  settle_more h k = rw (pending_top s d (λ q. omega arith), k) at inv

  pub settle_end : d ≤ 0 → pending s 0 ≡ x
  unfolding settle pending
  settle_end h = let e : d ≡ 0 = omega arith in rw e at inv

-- ---- no level expects too much

small_top : (b : ℕ) (s : List ℕ) (d : ℕ) → Small b (pending s d) → (d ≡ 0 → ⊥) → get_or s (d - 1) 0 ≤ b
unfolding Small
small_top b s d p h = (rw (pending_top s d h) at p).0

small-settle : (b : ℕ) (ns : List ℕ) → Small b ns → Small b (settle ns)
unfolding Small settle
small-settle b [] p = p
small-settle b (zero ∷ ns) p = small-settle b ns p.1
small-settle b (suc n ∷ ns) p = p

small_wide : (a b : ℕ) (ns : List ℕ) → a ≤ b → Small a ns → Small b ns
unfolding Small
small_wide a b [] h p = p
small_wide a b (n ∷ ns) h p = let q : n ≤ a = p.0 in (omega arith, small_wide a b ns h p.1)

small-enter : (l : Bool) (a b c : ℕ) (ns : List ℕ) → a + c ≤ b → Small a ns → Small b (enter l c (read_one ns))
unfolding Small enter read_one expect
small-enter true a b c [] h p = (omega arith, tt)
small-enter false a b c [] h p = tt
small-enter true a b c (n ∷ ns) h p = let q : n ≤ a = p.0 in (omega arith, (omega arith, small_wide a b ns (omega arith) p.1))
small-enter false a b c (n ∷ ns) h p = let q : n ≤ a = p.0 in (omega arith, small_wide a b ns (omega arith) p.1)

-- what the test said
pub not_too_deep : (l b : Bool) (d : ℕ) → b ≡ (l and eqb d 64) → b ≡ false → (l and eqb d 64) ≡ false
not_too_deep l b d e f = sym e ∙ f

pub small_start : (s : List ℕ) → Small (65536 * 0) (pending s 0)
unfolding Small pending
small_start s = tt

pub small_now : (list ns ms : List ℕ) (i n : ℕ) → ms ≡ settle ns → Small (65536 * i) ns → n ≡ slots list → i < n → slots list ≤ 65536 → Small 4294967296 ms
small_now list ns ms i n e p q h k = rw e (small_wide (65536 * i) 4294967296 _ (omega arith) (small-settle (65536 * i) ns p))

pub small_again : (ns ms out : List ℕ) (i c : ℕ) (l : Bool) → out ≡ enter l c (read_one ms) → ms ≡ settle ns → Small (65536 * i) ns → c < 65536 → Small (65536 * (i + 1)) out
small_again ns ms out i c l e f p h =
    rw (e, f) (small-enter l (65536 * i) (65536 * (i + 1)) c (settle ns) (omega arith) (small-settle (65536 * i) ns p))

-- ---- one tree read

pub stay_fits : (s : List ℕ) (d m c : ℕ) → m ≡ get_or s (d - 1) 0 - 1 → Small 4294967296 (pending s d) → (d ≡ 0 → ⊥) → c < 65536 → Fits w64 (m + c)
stay_fits s d m c e p h k = omega (arith, small_top 4294967296 s d p h)

pub stay_none : (s : List ℕ) (d c : ℕ) → d ≡ 0 → pending s d ≡ expect c (read_one (pending s d))
unfolding pending read_one expect
stay_none s d c e = rw e

pub stay_some : (s : List ℕ) (d m c : ℕ) → m ≡ get_or s (d - 1) 0 - 1 → (d ≡ 0 → ⊥) → d ≤ length s → pending (set s (d - 1) (m + c)) d ≡ expect c (read_one (pending s d))
unfolding read_one expect
stay_some s d m c e h k =
    rw (pending_top s d h, pending_top (set s (d - 1) (m + c)) d h, get_or-set_same s (d - 1) (m + c) 0 (omega arith), pending-set s (d - 1) (d - 1) (m + c) (omega arith), e)

zero_more : (ns : List ℕ) → expect 0 ns ≡ ns
unfolding expect
zero_more [] = refl
zero_more (n ∷ ns) = ap (◌∷ ns) (add-zero n)

pub enter_level : (s s' : List ℕ) (d e c : ℕ) → pending s' e ≡ expect 0 (read_one (pending s d)) → e < length s' → pending (set s' e c) (e + 1) ≡ c ∷ read_one (pending s d)
enter_level s s' d e c p h = pending_push s' e c h ∙ ap (c ∷◌) (p ∙ zero_more (read_one (pending s d)))

-- ---- a level is entered, or not

pub deep_level : (l : Bool) (d : ℕ) → l ≡ true → eqb d 64 ≡ (l and eqb d 64)
deep_level l d e = rw (e, true_and)

pub deep_plain : (l : Bool) (d : ℕ) → l ≡ false → l ≡ (l and eqb d 64)
deep_plain l d e = rw (e, false_and)

pub step_room : (l : Bool) (d : ℕ) → l ≡ true → (l and eqb d 64) ≡ false → d ≤ 64 → d < 64
step_room l d e f h =
    let g : d ≡ 64 → ⊥ = eqb-false d 64 (deep_level l d e ∙ f) in
    omega arith

pub step_level : (l : Bool) (c : ℕ) (ns out : List ℕ) → out ≡ c ∷ read_one ns → l ≡ true → out ≡ enter l c (read_one ns)
unfolding enter
step_level l c ns out e f = e ∙ rw f

pub step_plain : (l : Bool) (c : ℕ) (ns out : List ℕ) → out ≡ expect c (read_one ns) → l ≡ false → out ≡ enter l c (read_one ns)
unfolding enter
step_plain l c ns out e f = e ∙ rw f

-- ---- turns of the loop

pub deep_start : (list counts : List ℕ) → 0 + first_is 65 (flat_depths (pending counts 0) (left list 0)) ≡ first_deep_in (recs list)
unfolding pending
deep_start list counts = rw (left-all list) (zero-add _)

first_not : (x : ℕ) (xs : List ℕ) → (x ≡ 65 → ⊥) → first_is 65 (x ∷ xs) ≡ suc (first_is 65 xs)
unfolding first_is
first_not x xs h = rw (ne_eqb x 65 h)

first-is : (x : ℕ) (xs : List ℕ) → x ≡ 65 → first_is 65 (x ∷ xs) ≡ 0
unfolding first_is
first-is x xs h = rw (eq-eqb x 65 h)

-- the depth of a record with d open levels around it is 65, or not
is-deep : (l : Bool) (d : ℕ) → (l and eqb d 64) ≡ true → pick l (suc d) 0 ≡ 65
is-deep true d e = ap suc (eqb-true d 64 (rw (true_and (eqb d 64)) at e))
is-deep false d e = absurd (false≢true (rw (false_and (eqb d 64)) at e))

not_deep : (l : Bool) (d : ℕ) → (l and eqb d 64) ≡ false → pick l (suc d) 0 ≡ 65 → ⊥
not_deep true d e q = eqb-false d 64 (rw (true_and (eqb d 64)) at e) (omega arith)
not_deep false d e q = omega arith

module _ (list ns counts : List ℕ) (d i n f : ℕ) (r : Rec) (l b : Bool)
    (read : r ≡ rec_at list i) (level : l ≡ is_level (row_for r.kind r.flags).sort) (settled : pending counts d ≡ settle ns) (judged : b ≡ (l and eqb d 64))
    (inv : i + first_is 65 (flat_depths ns (left list i)) ≡ f) (all : n ≡ slots list) (more : i < n) where
  turn : flat_depths ns (left list i) ≡ pick l (suc d) 0 ∷ flat_depths (enter l r.count (read_one (pending counts d))) (left list (i + 1))
  unfolding flat_depths
  turn =
      let h : i < slots list = omega arith in
      rw (left-more list i h, ← read, ← level, ← settled, length-pending counts d)

  pub deep_here : b ≡ true → i ≡ f
  deep_here e =
      let z : first_is 65 (flat_depths ns (left list i)) ≡ 0 = rw turn (first-is (pick l (suc d) 0) _ (is-deep l d (sym judged ∙ e))) in
      omega arith

  pub deep_again : (out : List ℕ) → out ≡ enter l r.count (read_one (pending counts d)) → b ≡ false → i + 1 + first_is 65 (flat_depths out (left list (i + 1))) ≡ f
  deep_again out q e =
      let z : first_is 65 (flat_depths ns (left list i)) ≡ suc (first_is 65 (flat_depths out (left list (i + 1)))) =
      rw (turn, q) (first_not (pick l (suc d) 0) _ (not_deep l d (sym judged ∙ e))) in
      omega arith

pub deep_end : (list counts : List ℕ) (depth i n f : ℕ) → i + first_is 65 (flat_depths (pending counts depth) (left list i)) ≡ f → n ≡ slots list → n ≤ i → i ≤ n → n ≡ f
unfolding flat_depths first_is
deep_end list counts depth i n f inv all h l =
    let k : slots list ≤ i = omega arith in
    let z : first_is 65 (flat_depths (pending counts depth) (left list i)) ≡ 0 = rw (left-none list i k) in
    omega arith
