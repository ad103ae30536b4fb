-- The rows of the table: what each says of its extractor. Assumes nothing.
use mathlib.Core.Path.{◌≡◌, sym, ap, ◌∙◌}
use mathlib.Core.List.{List, [], ◌∷◌, ◌++◌}
use Prim.Native.Nat.{ℕ, suc, ◌+◌, ◌<◌, ◌≤◌}
use native.Mathlib.Omega.{arith}
use lib.ListN.{length, drop, length-append}
use Rattle.trees.specs.declared.Rec.{Rec}
use Rattle.trees.specs.Tree.{node, ∅, count, firsts, head_of, trees_of}
use Rattle.trees.specs.Names.{spelled}
use Rattle.records.specs.Slots.{slots, rec_at, recs}
use Rattle.expansion.specs.Nodes.{tree_at}
use Rattle.expansion.specs.Expansion.{Named, named, Extractor, Extractors, extractor, extractors}
use Rattle.expansion.specs.Flat.{after, Placed, All}
use Rattle.expansion.proofs.SpanLaws.{count-firsts, trees_of-after}
use Rattle.expansion.proofs.IndexLaws.{all-at}
use Rattle.expansion.proofs.StoreLaws.{extractor-at}
use Rattle.grounds.proofs.At.{here}
use Rattle.judging.specs.declared.table.Entry.{Entry}
use Rattle.judging.specs.Table.{name_in, arity_in, place_in, RowOf, Rows, Table}
use Rattle.judging.specs.Judging.{NamedRows, Known}

enough_after : (m : ℕ) (s : Rec) (rs : List Rec) → m + 2 ≤ count (trees_of (s ∷ rs)) → m + 1 ≤ count (trees_of (after rs s.count))
unfolding trees_of count
enough_after m s rs l = omega (arith, ap count (trees_of-after rs s.count))

-- what the row x says of its extractor
pub row_is : (text defs : List ℕ) (t : List Entry) (x : ℕ) (e : Named Extractor) → All Placed (recs defs) → RowOf text defs t x e
    → (e ≡ named (spelled text (name_in t x)) (record {
      params = firsts (arity_in t x) (trees_of (after (drop (place_in t x + 1 + 1) (recs defs)) (rec_at defs (place_in t x + 1)).count));
      pattern = tree_at (trees_of (after (drop (place_in t x + 1 + 1) (recs defs)) (rec_at defs (place_in t x + 1)).count)) (arity_in t x) (node (head_of (rec_at defs (place_in t x + 1))) ∅);
    })) × (arity_in t x + 1 ≤ count (trees_of (after (drop (place_in t x + 1 + 1) (recs defs)) (rec_at defs (place_in t x + 1)).count)))
row_is text defs t x e a r =
    let i : ℕ = place_in t x in
    let second : Rec = rec_at defs (place_in t x + 1) in
    let rs : List Rec = drop (place_in t x + 1 + 1) (recs defs) in
    let h : i < slots defs = omega (arith, r.there) in
    let w : (rec_at defs i).count ≤ count (trees_of (drop (i + 1) (recs defs))) = (all-at (recs defs) Placed a i (rec_at defs i) (drop (i + 1) (recs defs)) (here defs i h)).whole in
    let d : drop (place_in t x + 1) (recs defs) ≡ second ∷ rs = here defs (i + 1) r.there in
    let l : arity_in t x + 2 ≤ count (trees_of (second ∷ rs)) = rw (← d, r.size) w in
    let q : e ∷ [] ≡ named (spelled text second.word1) (record { params = firsts (arity_in t x) (trees_of (after rs second.count)); pattern = tree_at (trees_of (after rs second.count)) (arity_in t x) (node (head_of second) ∅) }) ∷ [] =
    sym r.is ∙ ap (λ (m : ℕ). extractor text (firsts m (trees_of (drop (place_in t x + 1) (recs defs))))) (sym r.size)
    ∙ ap (λ (ss : List Rec). extractor text (firsts (arity_in t x + 2) (trees_of ss))) d
    ∙ extractor-at text (arity_in t x) second rs (node (head_of second) ∅) l in
    let p : e ≡ named (spelled text second.word1) (record { params = firsts (arity_in t x) (trees_of (after rs second.count)); pattern = tree_at (trees_of (after rs second.count)) (arity_in t x) (node (head_of second) ∅) }) = cc in
    (p ∙ rw r.word, enough_after (arity_in t x) second rs l)

row_named : (text defs : List ℕ) (t : List Entry) (x : ℕ) (e : Named Extractor) → All Placed (recs defs) → RowOf text defs t x e → (e.name ≡ spelled text (name_in t x)) × (count e.value.params ≡ arity_in t x)
row_named text defs t x e a r =
    let p = row_is text defs t x e a r in
    (ap (λ (z : Named Extractor). z.name) p.0, ap (λ (z : Named Extractor). count z.value.params) p.0 ∙ count-firsts (arity_in t x) _ (omega (arith, p.1)))

pub rows_named : (text defs : List ℕ) (t : List Entry) (x : ℕ) (E : Extractors) → All Placed (recs defs) → Rows text defs t x E → NamedRows text t x E
rows_named text defs t x [] a r = tt
rows_named text defs t x (e ∷ E) a r = let z = row_named text defs t x e a r.0 in (z.0, z.1, rows_named text defs t (suc x) E a r.1)

unfoldable pub table_known : (text defs : List ℕ) (t : List Entry) (m : ℕ) (E F : Extractors) → All Placed (recs defs) → Table text defs t → extractors text (trees_of (recs defs)) ≡ E ++ F → length E ≡ m → Known text t m
table_known text defs t m E F a b e l =
    record {
      first = E;
      others = F;
      rows = rows_named text defs t 0 (E ++ F) a (rw e at b.rows);
      sized = l;
      all = sym (length-append E F) ∙ ap length (sym e) ∙ b.size;
    }
