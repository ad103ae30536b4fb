-- What a lent list of its kind is, t being the text's length. Assumes nothing.
use mathlib.Core.Path.{◌≡◌, sym, ap, ◌∙◌}
use mathlib.Core.Bool.{true}
use mathlib.Core.List.{List, [], ◌∷◌, append-nil}
use Prim.Native.Nat.{ℕ, ◌≤◌}
use native.Mathlib.Omega.{arith}
use lib.ListN.{drop}
use Rattle.trees.specs.declared.Rec.{Rec}
use Rattle.trees.specs.Tree.{Tree, ∅, ◌▸◌, count, records, records_all, trees_of}
use Rattle.trees.proofs.Laws.{trees_of-tree, records_all-one}
use Rattle.records.specs.Slots.{slots, recs}
use Rattle.forms.specs.Kinds.{pattern, definition}
use Rattle.forms.specs.Forms.{is_one, is_many}
use Rattle.forms.proofs.Exact.{one_exact}
use Rattle.expansion.specs.Nodes.{tree_at}
use Rattle.expansion.specs.Flat.{Placed, All}
use Rattle.expansion.proofs.ListLaws.{list-records}
use Rattle.grounds.specs.Opening.{tree_of}
use Rattle.grounds.proofs.Places.{fits-placed, fits-extractors}
use Rattle.judging.specs.Whole.{DefinitionsShaped, PatternShaped}

one-tree : (rs : List Rec) (x : Tree) → records x ≡ rs → trees_of rs ≡ tree_of rs ▸ ∅
unfolding tree_of tree_at trees_of
one-tree rs x e =
    let t : trees_of rs ≡ x ▸ ∅ = ap trees_of (sym e ∙ sym (append-nil (records x))) ∙ trees_of-tree x [] in
    t ∙ rw t

-- the one tree of a list is the list
pub one_lent : (rs : List Rec) → All Placed rs → trees_of rs ≡ tree_of rs ▸ ∅ → records (tree_of rs) ≡ rs
one_lent rs a e = sym (records_all-one (tree_of rs)) ∙ ap records_all (sym e) ∙ list-records rs a

pub definitions_shaped : (t : ℕ) (defs : List ℕ) → is_many t definition (recs defs) ≡ true → slots defs ≤ 65536 → DefinitionsShaped defs
definitions_shaped t defs e h =
    record {
      few = h;
      placed = fits-placed (recs defs) t definition [] e;
      extractors-placed = fits-extractors (recs defs) t definition [] e;
    }

pub pattern_shaped : (t : ℕ) (p : List ℕ) → is_one t pattern (recs p) ≡ true → slots p ≤ 65536 → PatternShaped p
pattern_shaped t p e h =
    let x = (one_exact t pattern (recs p)).0 e in
    record {
      small = h;
      placed = fits-placed (recs p) t 0 (pattern ∷ []) e;
      one = one-tree (recs p) x.0 x.2;
    }

pub pattern-there : (p : List ℕ) → PatternShaped p → 1 ≤ count (trees_of (drop 0 (recs p)))
unfolding count
pattern-there p s = rw s.one (omega arith)
