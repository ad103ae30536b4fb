-- Appending records to an output with limited space. Assumes nothing.
use Prim.Native.Nat.{ℕ, suc, ◌+◌, ◌-◌, ◌<◌, ◌≤◌, min}
use native.Mathlib.Omega.{arith}
use mathlib.Core.Path.{◌≡◌, refl, sym, ap, ◌∙◌}
use mathlib.Core.List.{List, [], ◌∷◌, ◌++◌}
use lib.ListN.{length, length-append, length-take, length-drop}
use Rattle.std.specs.Prelude.{Result, Ok, Err}
use Rattle.trees.specs.declared.Rec.{Rec}
use Rattle.records.specs.Slots.{slots, rec_at, put, writes}
use Rattle.records.proofs.Laws.{length-put, length-writes, writes-append}
use Rattle.records.proofs.RecsLaws.{length-recs, recs-at}
use Rattle.templates.specs.declared.Refused.{Refused}
use Rattle.templates.specs.declared.Refused.TheVariants.{MacroArg, NoPattern, NoSpace}
use Rattle.templates.specs.declared.output.Output.{Output}
use Rattle.templates.specs.Answers.{space}
use Rattle.templates.specs.Writing.{Empty, Appended, Wrote, all, full, SameLent, Reaches, slice}

pub empty_at : (a : List ℕ) (o : Output) (n room : ℕ) → o.bytes.now ≡ a → o.written ≡ 0 → o.room ≡ room → n ≡ slots a → room ≡ min n 65536 → Empty a o
unfolding space
empty_at a o n room e f g h k = record { bytes = e; written = f; room = g ∙ k ∙ rw h }

-- ---- one record

pub wrote_one : (a b : Output) (r : Rec) → a.written < a.room → (b.written ≡ a.written + 1) × (b.room ≡ a.room) × (b.bytes.ghost_name ≡ a.bytes.ghost_name) → b.bytes.now ≡ put a.bytes.now a.written r → Wrote a (r ∷ []) b (Ok tt)
unfolding writes
wrote_one a b r h e f = all (record { written = e.0; within = omega arith; bytes = f; room = e.1; same_reference = e.2 })

pub wrote_full : (a b : Output) (r : Rec) → a.room ≤ a.written → Wrote a (r ∷ []) b (Err NoSpace)
wrote_full a b r h = full (omega arith)

-- ---- one list after another

wrote_none : (a : Output) → a.written ≤ a.room → Wrote a [] a (Ok tt)
unfolding writes
wrote_none a h = all (record { written = omega arith; within = h; bytes = refl; room = refl; same_reference = refl })

wrote_both : (a b c : Output) (z : Result (Unit {0}) Refused) (l m : List Rec) → Appended a l b → Wrote b m c z → Wrote a (l ++ m) c z
wrote_both a b c (Err NoSpace) l m p (full q) = full (rw (length-append) (omega (arith, p.written, p.room)))
wrote_both a b c (Err (MacroArg k)) l m p w = elim w [ ]
wrote_both a b c (Err (NoPattern k)) l m p w = elim w [ ]
wrote_both a b c (Ok t) l m p (all q) = all (record {
  written = rw (length-append) (omega (arith, p.written, q.written));
  within = omega (arith, q.within, p.room);
  bytes = q.bytes ∙ rw (p.bytes, p.written) (sym (writes-append l m a.bytes.now a.written));
  room = q.room ∙ p.room;
  same_reference = q.same_reference ∙ p.same_reference;
})

appended : (a b : Output) (l : List Rec) → Wrote a l b (Ok tt) → Appended a l b
appended a b l (all p) = p

-- what did not fit does not fit with more after it
wrote_stop : (a b : Output) (l m : List Rec) (f : Refused) → Wrote a l b (Err f) → Wrote a (l ++ m) b (Err f)
wrote_stop a b l m NoSpace (full f) = full (rw (length-append) (omega arith))
wrote_stop a b l m (MacroArg k) w = elim w [ ]
wrote_stop a b l m (NoPattern k) w = elim w [ ]

pub same_reference : (a b : Output) (l : List Rec) → Wrote a l b (Ok tt) → b.bytes.ghost_name ≡ a.bytes.ghost_name
same_reference a b l (all p) = p.same_reference

-- ---- the turns of a loop

module _ (a₀ a : Output) (whole left : List Rec) (inv : Reaches a₀ whole a left) where
  pub reaches_more : (b : Output) (l more : List Rec) → left ≡ l ++ more → Wrote a l b (Ok tt) → Reaches a₀ whole b more
  reaches_more b l more e w = record { on = λ c z v. inv.on c z (rw e (wrote_both a b c z l more (appended a b l w) v)) }

  pub reaches_stop : (b : Output) (l more : List Rec) (f : Refused) → left ≡ l ++ more → Wrote a l b (Err f) → Wrote a₀ whole b (Err f)
  reaches_stop b l more f e w = inv.on b (Err f) (rw e (wrote_stop a b l more f w))

  pub reaches_end : left ≡ [] → a.written ≤ a.room → Wrote a₀ whole a (Ok tt)
  reaches_end e h = inv.on a (Ok tt) (rw e (wrote_none a h))

-- ---- what was lent

pub same_put : (a b : Output) (r : Rec) → (b.room ≡ a.room) × (b.bytes.ghost_name ≡ a.bytes.ghost_name) → b.bytes.now ≡ put a.bytes.now a.written r → SameLent a b
same_put a b r e f = record { same_reference = e.1; size = ap length f ∙ length-put a.bytes.now a.written r; room = e.0 }

-- ---- the records from slot i up to slot j

slice-none : (l : List ℕ) (i j : ℕ) → j ≤ i → slice l i j ≡ []
unfolding slice
slice-none l i j h = let e : j - i ≡ 0 = omega arith in rw e

slice-more : (l : List ℕ) (i j : ℕ) → i < j → j ≤ slots l → slice l i j ≡ rec_at l i ∷ slice l (i + 1) j
unfolding slice
slice-more l i j h k =
    let e : j - i ≡ suc (j - (i + 1)) = omega arith in
    let d : i < slots l = omega arith in
    rw (e, recs-at l i d)

slice-length : (l : List ℕ) (i j : ℕ) → i ≤ j → j ≤ slots l → length (slice l i j) ≡ j - i
unfolding slice
slice-length l i j h k = simp (length-take, length-drop) (omega (arith, length-recs l))

-- the records up to slot i are appended
pub record Copying (a₀ : Output) (l : List ℕ) (from upto : ℕ) (a : Output) (i : ℕ) : Type 0 where
  pub wrote : writes a₀.bytes.now a₀.written (slice l from upto) ≡ writes a.bytes.now a.written (slice l i upto)
  pub written : a.written ≡ a₀.written + (i - from)
  pub room : a.room ≡ a₀.room
  pub same_reference : a.bytes.ghost_name ≡ a₀.bytes.ghost_name

pub same_copying : (a₀ a : Output) (l : List ℕ) (from upto i : ℕ) → Copying a₀ l from upto a i → SameLent a₀ a
same_copying a₀ a l from upto i v =
    record {
      same_reference = v.same_reference;
      size = sym (length-writes (slice l i upto) a.bytes.now a.written) ∙ sym (ap length v.wrote) ∙ length-writes (slice l from upto) a₀.bytes.now a₀.written;
      room = v.room;
    }

module _ (a : Output) (l : List ℕ) (from upto : ℕ) (ordered : from ≤ upto) (inside : upto ≤ slots l) where
  pub no_copy : (b : Output) → a.room - a.written < upto - from → Wrote a (slice l from upto) b (Err NoSpace)
  no_copy b h = full (omega (arith, slice-length l from upto ordered inside))

  pub copied : (b : Output) (i : ℕ) → Copying a l from upto b i → upto ≤ i → i ≤ upto → upto - from ≤ a.room - a.written → a.written ≤ a.room → Wrote a (slice l from upto) b (Ok tt)
  unfolding writes
  copied b i v h g k here =
      let z : slice l i upto ≡ [] = slice-none l i upto h in
      all (record {
        written = omega (arith, slice-length l from upto ordered inside, v.written);
        within = omega (arith, v.written);
        bytes = sym (v.wrote ∙ rw z);
        room = v.room;
        same_reference = v.same_reference;
      })

pub copying_turn : (a₀ a b : Output) (l : List ℕ) (from i upto : ℕ) (r : Rec) → b.bytes.now ≡ put a.bytes.now a.written r → r ≡ rec_at l i
    → (b.written ≡ a.written + 1) × (b.room ≡ a.room) × (b.bytes.ghost_name ≡ a.bytes.ghost_name) → Copying a₀ l from upto a i → from ≤ i → i < upto → upto ≤ slots l → Copying a₀ l from upto b (i + 1)
unfolding writes
copying_turn a₀ a b l from i upto r q p e v g h k =
    let n : b.written ≡ suc a.written = omega (arith, e.0) in
    record {
      wrote = v.wrote ∙ rw (slice-more l i upto h k, ← p, q, n);
      written = omega (arith, v.written, e.0);
      room = e.1 ∙ v.room;
      same_reference = e.2 ∙ v.same_reference;
    }
