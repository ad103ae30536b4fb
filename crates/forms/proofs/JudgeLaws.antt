-- The ways through the tests of one record, in the code's terms. Assumes nothing.
use mathlib.Core.Path.{◌≡◌, refl, sym, ap, ◌∙◌}
use mathlib.Core.Bool.{Bool, true, false}
use Prim.Native.Nat.{ℕ, ◌+◌, ◌*◌, ◌/◌, ◌%◌, ◌≤◌, ◌<◌}
use native.Mathlib.Omega.{arith}
use lib.Dec.{eqb, ltb, leb}
use mir.Val.{bool_byte}
use borrow.Author.Tests.{ne_eqb, eqb-true, lt-ltb, le-ltb}
use Rattle.std.specs.Prelude.{Option, Some, None, MatchOption, is_some}
use Rattle.trees.specs.declared.Rec.{Rec}
use Rattle.forms.specs.declared.Sort.{Sort}
use Rattle.forms.specs.declared.Sort.TheVariants.{Pattern, Expression, LetDef, Ident, Definition, TypeValue, Variant, Fields, StructField, TupleField, AttrKind, Priority, IfLet}
use Rattle.forms.specs.declared.Words.{Words}
use Rattle.forms.specs.declared.Words.TheVariants.{Empty, Index, Integer, Range}
use Rattle.forms.specs.Kinds.{Columns, rows, find, row_for}
use Rattle.forms.specs.Sorts.{number, sort_of, position_of, words_of}
use Rattle.forms.specs.Table.{columns_of}
use Rattle.forms.specs.declared.Row.{Row}
use Rattle.forms.specs.Tests.{◌and◌}
use Rattle.forms.specs.Stack.{NameTaken, VarTaken}
use Rattle.forms.specs.Forms.{placed, one, run, some, singles, leading, sorts_of, position_ok, words_ok, stands}
use Rattle.forms.proofs.TestLaws.{true_and, false_and, and_false}

-- ---- sorts

module _ (s : Sort) (n : ℕ) where
  pub placed_field : s ≡ TupleField → 10 + 256 * n ≡ placed (number s) n
  unfolding placed
  placed_field e = rw e

  pub placed_other : (y : ℕ) → (s ≡ TupleField → ⊥) → y ≡ number s → y ≡ placed (number s) n
  unfolding placed
  placed_other y e f = f ∙ go s e
    where
      go : (s : Sort) → (s ≡ TupleField → ⊥) → number s ≡ placed (number s) n
      go Pattern e = refl
      go Expression e = refl
      go LetDef e = refl
      go Ident e = refl
      go Definition e = refl
      go TypeValue e = refl
      go Variant e = refl
      go Fields e = refl
      go StructField e = refl
      go TupleField e = absurd (e refl)
      go AttrKind e = refl
      go Priority e = refl
      go IfLet e = refl

module _ (s : Sort) (x n : ℕ) where
  pub is_field : s ≡ TupleField → eqb x (10 + 256 * n) ≡ eqb x (placed (number s) n)
  is_field e = rw (placed_field s n e)

  pub is_far : s ≡ TupleField → 16777216 ≤ n → x < 4294967296 → ltb n 16777216 ≡ eqb x (placed (number s) n)
  is_far e h k = rw (← placed_field s n e) (le-ltb n 16777216 h ∙ sym (ne_eqb x (10 + 256 * n) (λ q. omega arith)))

  pub is_other : (y : ℕ) → (s ≡ TupleField → ⊥) → y ≡ number s → eqb x y ≡ eqb x (placed (number s) n)
  is_other y e f = ap (eqb x) (placed_other s n y e f)

placed_some : (s : Sort) (n : ℕ) → 0 < placed (number s) n
unfolding placed
placed_some Pattern n = omega arith
placed_some Expression n = omega arith
placed_some LetDef n = omega arith
placed_some Ident n = omega arith
placed_some Definition n = omega arith
placed_some TypeValue n = omega arith
placed_some Variant n = omega arith
placed_some Fields n = omega arith
placed_some StructField n = omega arith
placed_some TupleField n = omega arith
placed_some AttrKind n = omega arith
placed_some Priority n = omega arith
placed_some IfLet n = omega arith

-- the number of a sort that there may be none of, by what a closure answers
pub child_is : (o : Option Sort) (p v : ℕ) (P : Sort → Type 0) → MatchOption o (v ≡ 0) P → ((x : Sort) → P x → v ≡ placed (number x) p) → v ≡ placed (sort_of o) p
unfolding placed
child_is None p v P e f = e
child_is (Some x) p v P e f = f x e

pub number_is : (o : Option Sort) (v : ℕ) (P : Sort → Type 0) → MatchOption o (v ≡ 0) P → ((x : Sort) → P x → v ≡ number x) → v ≡ sort_of o
number_is None v P e f = e
number_is (Some x) v P e f = f x e

-- a child, or none
pub some_one : (o : Option Sort) (s : Sort) → o ≡ Some s → 1 ≡ some (sort_of o)
unfolding some
some_one o s e = rw e (go s)
  where
    go : (s : Sort) → 1 ≡ some (number s)
    go Pattern = refl
    go Expression = refl
    go LetDef = refl
    go Ident = refl
    go Definition = refl
    go TypeValue = refl
    go Variant = refl
    go Fields = refl
    go StructField = refl
    go TupleField = refl
    go AttrKind = refl
    go Priority = refl
    go IfLet = refl

pub some_none : (o : Option Sort) → o ≡ None → 0 ≡ some (sort_of o)
unfolding some
some_none o e = rw e

child : (o : Option Sort) (b : Bool) → b ≡ is_some o → bool_byte b ≡ some (sort_of o)
child None b e = rw e (some_none None refl)
child (Some s) b e = rw e (some_one (Some s) s refl)

pub singles_are : (w : Row) (a b c d : Bool) → a ≡ is_some w.first → b ≡ is_some w.second → c ≡ is_some w.third → d ≡ is_some w.last
    → bool_byte a + bool_byte b + bool_byte c + bool_byte d ≡ singles (columns_of w)
unfolding singles
singles_are w a b c d p q r s = rw (child w.first a p, child w.second b q, child w.third c r, child w.last d s)

-- ---- positions and words

and_true : (b : Bool) → b ≡ b and true
unfolding ◌and◌
and_true true = refl
and_true false = refl

module _ (t a b : ℕ) (w : Words) where
  pub words_empty : w ≡ Empty → a ≡ 0 → eqb b 0 ≡ words_ok t (words_of w) a b
  unfolding words_ok
  words_empty e f = rw (e, f) (and_true (eqb b 0))

  pub words_not_empty : w ≡ Empty → (a ≡ 0 → ⊥) → eqb a 0 ≡ words_ok t (words_of w) a b
  unfolding words_ok
  words_not_empty e f = rw (e, ne_eqb a 0 f, and_false)

  pub words_index : w ≡ Index → eqb b 0 ≡ words_ok t (words_of w) a b
  unfolding words_ok
  words_index e = rw e (and_true (eqb b 0))

  pub words_integer : w ≡ Integer → true ≡ words_ok t (words_of w) a b
  unfolding words_ok
  words_integer e = rw e

  pub words_range : (y : Bool) → y ≡ leb (a / 4294967296 + a % 4294967296) t → w ≡ Range → b ≡ 0 → y ≡ words_ok t (words_of w) a b
  unfolding words_ok
  words_range y g e f = g ∙ rw (e, f, true_and)

  pub words_not_range : w ≡ Range → (b ≡ 0 → ⊥) → eqb b 0 ≡ words_ok t (words_of w) a b
  unfolding words_ok
  words_not_range e f = rw (e, ne_eqb b 0 f, false_and)

module _ (t s : ℕ) (w : Columns) (r : Rec) where
  pub stands_flags : w.flags ≤ r.flags → false ≡ stands t s w r
  unfolding stands
  stands_flags h = rw (le-ltb r.flags w.flags h, false_and, and_false, and_false)

  pub stands_position : (b : Bool) → b ≡ position_ok w.position r.pos → b ≡ false → false ≡ stands t s w r
  unfolding stands
  stands_position b e f = rw (← e, f, false_and, and_false, and_false, and_false)

  pub stands_words : (b : Bool) → b ≡ words_ok t w.words r.word1 r.word2 → b ≡ false → false ≡ stands t s w r
  unfolding stands
  stands_words b e f = rw (← e, f, false_and, and_false, and_false, and_false, and_false)

-- a sort stands only where its number and place are expected
module _ (t s : ℕ) (w : Row) (r : Rec) (x : Bool) (same : x ≡ eqb s (placed (number w.sort) r.word1)) where
  pub stands_other : x ≡ false → false ≡ stands t s (columns_of w) r
  unfolding stands
  stands_other e = rw (← same, e, false_and, and_false)

  pub stands_all : (y z : Bool) (n : ℕ) → y ≡ position_ok (position_of w.position) r.pos → z ≡ words_ok t (words_of w.words) r.word1 r.word2 → n ≡ singles (columns_of w) →
      x ≡ true → r.flags < w.flags → y ≡ true → z ≡ true → leb n r.count ≡ stands t s (columns_of w) r
  unfolding stands
  stands_all y z n f g h b c d i =
      let k : 0 < s = rw (eqb-true s (placed (number w.sort) r.word1) (sym same ∙ b)) (placed_some w.sort r.word1) in
      rw (lt-ltb 0 s k, true_and, ← same, b, true_and, lt-ltb r.flags w.flags c, true_and, ← f, d, true_and, ← g, i, true_and, h)

-- an Ident where one is expected
name_good : (t s : ℕ) (r : Rec) → s ≡ 4 → r.kind ≡ 24 → r.flags ≡ 0 → r.count ≡ 0 → r.word2 ≡ 0
    → (b : Bool) → b ≡ leb (r.word1 / 4294967296 + r.word1 % 4294967296) t → NameTaken t s r b
unfolding stands row_for find rows placed position_ok words_ok singles some sorts_of leading run one ◌and◌
name_good t s r e k f c w b g = record { stands = λ y. rw (k, e, f, c, w, ← g, y); childless = λ y. rw (k, c) }

pub name_taken : (t s : ℕ) (r q : Rec) (b : Bool) → r ≡ q → b ≡ leb (r.word1 / 4294967296 + r.word1 % 4294967296) t → s ≡ 4 → r.kind ≡ 24 → r.flags ≡ 0 → r.count ≡ 0 → r.word2 ≡ 0
    → NameTaken t s q b
name_taken t s r q b read g e k f c w = rw (← read) (name_good t s r e k f c w b g)

-- a Var where a pattern is expected
var_good : (s : ℕ) (r : Rec) → s ≡ 1 → r.kind ≡ 30 → r.flags ≡ 0 → r.count ≡ 1 → r.word1 ≡ 0 → (b : Bool) → b ≡ eqb r.word2 0 → VarTaken s r b
unfolding stands row_for find rows placed position_ok words_ok singles some sorts_of leading run one ◌and◌
var_good s r e k f c a b g =
    record { stands = λ t y. let z : r.word2 ≡ 0 = eqb-true r.word2 0 (sym g ∙ y) in rw (k, e, f, c, a, z); child = λ y. rw (k, c) }

pub var_taken : (s : ℕ) (r q : Rec) → r ≡ q → s ≡ 1 → r.kind ≡ 30 → r.flags ≡ 0 → r.count ≡ 1 → r.word1 ≡ 0 → VarTaken s q (eqb r.word2 0)
var_taken s r q read e k f c a = rw (← read) (var_good s r e k f c a (eqb r.word2 0) refl)
