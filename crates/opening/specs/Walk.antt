-- What opening a tree of the source may count on, and what it promises.
use Rattle.std.specs.Prelude.{◌≡◌, Option, Some, List, ℕ, suc, ◌+◌, ◌-◌, ◌<◌, ◌≤◌, length, get_or, drop}
use Rattle.std.proofs.Math.Option.{some}
use Rattle.trees.specs.Tree.{Tree, records}
use Rattle.records.specs.Slots.{slots, rec_at, recs_from, recs}
use Rattle.expansion.specs.Nodes.{Every}
use Rattle.expansion.specs.Expansion.{Named}
use Rattle.expansion.specs.Flat.{end_of, child_at, fill, Fits, Placed, All, called_at, opened_at}
use Rattle.grounds.specs.Leaves.{Leaves}
use Rattle.judging.specs.declared.table.Entry.{Entry}
use Rattle.judging.specs.Table.{RowsOf}
use Rattle.opening.specs.declared.Side.{Side}
use Rattle.opening.specs.declared.Side.TheVariants.{Store}
use Rattle.opening.specs.declared.walk.Opening.{Opening}
use Rattle.opening.specs.Wrote.{Wrote, target}
use Rattle.opening.specs.Ends.{EndsFrom}
use Rattle.opening.specs.Made.{params_at, call_number}

-- the records of the opened template o stand in the store from where `starts` says for x, up to where it says for the next; all below `base`
pub record Region (starts store : List ℕ) (base x : ℕ) (o : Tree) : Type 0 where
  pub holds : records o ≡ recs_from store (get_or starts x 0) (get_or starts (x + 1) 0 - get_or starts x 0)
  pub forward : get_or starts x 0 ≤ get_or starts (x + 1) 0
  pub inside : get_or starts (x + 1) 0 ≤ base

-- the store holds the opened templates S of the extractors, below where the last one ends; the tree at the index i of the source is opened,
-- with pc parameters from pa on; each call in it has an argument for each MacroArg of its template
pub record Ready (text : List ℕ) (t : List Entry) (starts src ends : List ℕ) (pa pc i : ℕ) (store : List ℕ) (S : List (Named Tree)) : Type 0 where
  pub rows : RowsOf (Region starts store (get_or starts (length t) 0)) text t 0 S
  pub sized : length S ≡ length t
  pub starts-long : length t < length starts
  pub base_in : get_or starts (length t) 0 ≤ slots store
  pub base_small : get_or starts (length t) 0 ≤ 65536
  pub placed : All Placed (recs src)
  pub small : slots src ≤ 65536
  pub ended : EndsFrom (recs src) ends 0
  pub ends-long : slots src ≤ length ends
  pub params : Leaves pc (drop pa (recs src))
  pub params_in : pa + pc ≤ slots src
  pub inside : i < slots src
  pub fits : (k : ℕ) → i ≤ k → k < end_of (recs src) i → (o : Tree) → called_at text S (rec_at src k) (drop (k + 1) (recs src)) ≡ some o → Every (Fits ((rec_at src k).count - 1)) o

-- there are templates that are ready for the tree at the index i
unfoldable pub Readied : List ℕ → List Entry → List ℕ → List ℕ → List ℕ → ℕ → ℕ → ℕ → List ℕ → Type 0
Readied text t starts src ends pa pc i s = (S : List (Named Tree)) × Ready text t starts src ends pa pc i s S

-- what is asked where records are appended after m of them; the first `base` records of the store are read
pub record Room (outward : Side) (space base : ℕ) (s o : List ℕ) (m : ℕ) : Type 0 where
  pub fits : m ≤ space
  pub there : space ≤ slots (target outward s o)
  pub low : outward ≡ Store → base ≤ m
  pub most : space ≤ 65536

-- what is asked where the template is appended that the record k of the source calls, the number x
pub record Fillable (outward : Side) (space : ℕ) (text : List ℕ) (t : List Entry) (starts src ends : List ℕ) (pa pc k x : ℕ) (s o : List ℕ) (m : ℕ) : Type 0 where
  pub readied : Readied text t starts src ends pa pc k s
  pub room : Room outward space (get_or starts (length t) 0) s o m
  pub number : Some x ≡ call_number text t src k

-- the tree at the index i of the source was opened
unfoldable pub Opened : Side → ℕ → List ℕ → List Entry → List ℕ → List ℕ → List ℕ → ℕ → ℕ → ℕ → List ℕ → List ℕ → ℕ → List ℕ → List ℕ → Option ℕ → Type 0
Opened outward space text t starts src ends pa pc i s o m s' o' y =
    (S : List (Named Tree)) → Ready text t starts src ends pa pc i s S → Wrote outward space s o m (opened_at text S (params_at src pa pc) (recs src) i 1) s' o' y

-- the opened template that is called at the index k of the source was appended, with the arguments of the call, each opened
unfoldable pub Filled : Side → ℕ → List ℕ → List Entry → List ℕ → List ℕ → List ℕ → ℕ → ℕ → ℕ → List ℕ → List ℕ → ℕ → List ℕ → List ℕ → Option ℕ → Type 0
Filled outward space text t starts src ends pa pc k s o m s' o' y =
    (S : List (Named Tree)) → Ready text t starts src ends pa pc k s S → (x : Tree) → called_at text S (rec_at src k) (drop (k + 1) (recs src)) ≡ some x
    → Wrote outward space s o m (fill (λ j. opened_at text S (params_at src pa pc) (recs src) (child_at (recs src) k (suc j)) 1) (records x)) s' o' y

-- ---- the same by what opening is given

abbrev pub ReadyTo : Opening → ℕ → List ℕ → Type 0
ReadyTo o i s = Readied o.known.text.now o.known.rows.now o.starts.now o.source.records.now o.source.ends.now o.params.first o.params.count i s

abbrev pub RoomIn : Opening → List ℕ → List ℕ → ℕ → Type 0
RoomIn o s out m = Room o.to o.space (get_or o.starts.now (length o.known.rows.now) 0) s out m

abbrev pub OpenedBy : Opening → ℕ → List ℕ → List ℕ → ℕ → List ℕ → List ℕ → Option ℕ → Type 0
OpenedBy o i s out m s' out' r =
    Opened o.to o.space o.known.text.now o.known.rows.now o.starts.now o.source.records.now o.source.ends.now o.params.first o.params.count i s out m s' out' r

abbrev pub CalledIn : Opening → ℕ → ℕ → List ℕ → List ℕ → ℕ → Type 0
CalledIn o k x s out m =
    Fillable o.to o.space o.known.text.now o.known.rows.now o.starts.now o.source.records.now o.source.ends.now o.params.first o.params.count k x s out m

abbrev pub FilledBy : Opening → ℕ → List ℕ → List ℕ → ℕ → List ℕ → List ℕ → Option ℕ → Type 0
FilledBy o k s out m s' out' r =
    Filled o.to o.space o.known.text.now o.known.rows.now o.starts.now o.source.records.now o.source.ends.now o.params.first o.params.count k s out m s' out' r
