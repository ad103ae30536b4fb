-- Records of plain trees have the widths of their fields, so they are read back from their bytes; and no empty name. Assumes nothing.
use Prim.Native.Nat.{ℕ, ◌*◌, ◌/◌, ◌%◌, ◌≤◌}
use native.Mathlib.Omega.{arith}
use mathlib.Core.Path.{◌≡◌, refl, ap, sym, ◌∙◌}
use mathlib.Core.List.{List, [], append-nil}
use lib.ListN.{length, length-append, length-replicate, take, replicate}
use Rattle.trees.specs.declared.Rec.{Rec}
use Rattle.trees.specs.declared.Head.{Head}
use Rattle.trees.specs.Tree.{Tree, Trees, count, record_of, records, records_all, AllRecords}
use Rattle.trees.proofs.Laws.{count-size, all_append}
use Rattle.records.specs.Slots.{slots, recs_from, recs, writes}
use Rattle.records.proofs.BackLaws.{Sized, AllSized, bytes_all, length_bytes_all, writes_front, recs_from-back}
use Rattle.tokens.specs.Input.{Input}
use Rattle.closed.specs.Closed.{HasName, NoEmptyName}
use Rattle.closed.proofs.Lent.{Lent}
use Rattle.closed.proofs.Rows.{Plain, PlainTree, plain, PlainTrees, no_tree, and_tree}

-- what holds of a record that has few children and a plain head, holds of all records of plain trees
module _ {s : Input} (P : Rec → Type 0) (f : (h : Head) (n : ℕ) → Plain s h → n ≤ 65535 → P (record_of h n)) where
  mutual
    unfolding records

    all-tree : {x : Tree} → PlainTree s x → length (records x) ≤ 65535 → AllRecords P (records x)
    all-tree (plain {h = h} {ts = ts} p q) b = (f h (count ts) p (omega (arith, count-size ts)), all-trees q (omega arith))

    all-trees : {xs : Trees} → PlainTrees s xs → length (records_all xs) ≤ 65535 → AllRecords P (records_all xs)
    all-trees no_tree b = tt
    all-trees (and_tree {x = x} {xs = xs} p q) b =
        let e = length-append (records x) (records_all xs) in
        all_append P (records x) (records_all xs) (all-tree p (omega arith)) (all-trees q (omega arith))

pub sized-trees : {s : Input} {xs : Trees} → PlainTrees s xs → Lent s → length (records_all xs) ≤ 65535 → AllSized (records_all xs)
sized-trees q l b = all-trees Sized (λ h n p c. let w = p.narrow l in record { kind = p.kind; flags = p.flags; count = omega arith; pos = w.pos; word1 = w.word1; word2 = w.word2 }) q b

pub named-trees : {s : Input} {xs : Trees} → PlainTrees s xs → length (records_all xs) ≤ 65535 → NoEmptyName (records_all xs)
named-trees q b = all-trees HasName (λ h n p c e. omega (arith, p.named e)) q b

-- the bytes of records alone, read as records
recs-bytes : (rs : List Rec) → AllSized rs → recs (bytes_all rs) ≡ rs
recs-bytes rs z =
    let e : slots (bytes_all rs) ≡ length rs = omega (arith, length_bytes_all rs) in
    rw e (ap (λ (l : List ℕ). recs_from l 0 (length rs)) (sym (append-nil (bytes_all rs))) ∙ recs_from-back rs [] [] 0 refl z)

-- the first records of an output, where they have space: the bytes are whole, and the records come back
pub record Again (rs : List Rec) (l : List ℕ) : Type 0 where
  pub whole : length l % 24 ≡ 0
  pub back : recs l ≡ rs

pub again : (rs : List Rec) (n k : ℕ) → k ≡ length rs → AllSized rs → k ≤ n / 24 → Again rs (take (k * 24) (writes (replicate n 0) 0 rs))
again rs n k e z h =
    let b : length rs ≤ slots (replicate n 0) = omega (arith, length-replicate {A = ℕ} n 0) in
    let f : take (length rs * 24) (writes (replicate n 0) 0 rs) ≡ bytes_all rs = writes_front rs (replicate n 0) b in
    rw (e, f) (record { whole = omega (arith, length_bytes_all rs); back = recs-bytes rs z })
