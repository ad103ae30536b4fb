-- Nodes by the places of their records, and what is wrong with a call: the plain facts that the stages of opening speak of.
use Rattle.std.specs.Prelude.{◌≡◌, List, ℕ, suc, ◌+◌, length}
use Rattle.std.proofs.Math.Option.{none, some}
use Rattle.trees.specs.declared.Head.{Head}
use Rattle.trees.specs.Tree.{Tree, Trees, node, ∅, ◌▸◌, count, records}
use Rattle.expansion.specs.Nodes.{rest, name_of}
use Rattle.expansion.specs.Expansion.{find, Extractor, Extractors, called}

-- the record i of a row of trees is the node with the head h and the children us
pub data NodeAt : Trees → ℕ → Head → Trees → Type 0 where
  first : {h : Head} {us ts : Trees} {i : ℕ} → i ≡ 0 → NodeAt (node h us ▸ ts) i h us
  below : {k h : Head} {vs us ts : Trees} {i j : ℕ} → i ≡ suc j → NodeAt vs j h us → NodeAt (node k vs ▸ ts) i h us
  later : {t : Tree} {h : Head} {us ts : Trees} {i j : ℕ} → i ≡ length (records t) + j → NodeAt ts j h us → NodeAt (t ▸ ts) i h us

-- a call, the earlier extractors being E and all of them D: 31 wrong number of arguments; 32 it names no earlier extractor, but one of the list
pub data CallFlaw (text : List ℕ) (D E : Extractors) (h : Head) (us : Trees) : ℕ → Type 0 where
  wrong-count : (x : Extractor) → called text E h us ≡ some x → (count (rest us) ≡ count x.params → ⊥) → CallFlaw text D E h us 31
  not_earlier : (x : Extractor) → called text E h us ≡ none → called text D h us ≡ some x → CallFlaw text D E h us 32

-- the name that comes first among an Extractor's children is that of one of E
abbrev pub NamedIn : List ℕ → Extractors → Trees → Type 0
NamedIn text E ∅ = ⊥
NamedIn text E (term ▸ ts) = (x : Extractor) × (find (name_of text term) E ≡ some x)
