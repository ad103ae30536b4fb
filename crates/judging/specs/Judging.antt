-- What the functions that judge answer: the ground and the place, or that nothing is wrong and what comes after.
use Rattle.std.specs.Prelude.{◌≡◌, Option as Maybe, Some, None, Result, Ok, Err, List, [], ◌++◌, ℕ, ◌+◌, ◌-◌, ◌<◌, ◌≤◌, eqb, ltb, length, drop}
use Rattle.std.proofs.Math.Option.{Option, none, some}
use Rattle.trees.specs.Choice.{pick}
use Rattle.trees.specs.declared.Head.{Head}
use Rattle.trees.specs.Tree.{Trees, count, firsts, head_of, trees_of}
use Rattle.records.specs.declared.Ground.{Ground}
use Rattle.records.specs.Grounds.{number}
use Rattle.records.specs.Slots.{slots, rec_at, recs}
use Rattle.expansion.specs.Expansion.{Extractors, extractors}
use Rattle.expansion.specs.Flat.{span, end_of, Placed, All}
use Rattle.grounds.specs.Stages.{Refusal, refusal, first_from, Stage, found, verdict, in_turn, marks_all}
use Rattle.grounds.specs.Order.{call_flaw, Site, stages_of, sites}
use Rattle.judging.specs.declared.Flaw.{Flaw}
use Rattle.judging.specs.declared.table.Entry.{Entry}
use Rattle.judging.specs.Table.{arity_in, RowsOf}

-- ---- the number and the place that document 01 gives to each answer; none where nothing is wrong

abbrev pub flaw : Ground → ℕ → Flaw
flaw g k = record { reason = g; place = k }

-- nothing is wrong, up to an index or in as many extractors; or what is wrong
abbrev pub Judged : Type 0
Judged = Result ℕ Flaw

abbrev pub given : {A : Type 0} → Result A Flaw → Option Refusal
given (Ok n) = none
given (Err e) = some (refusal (number e.reason) e.place)

-- a place below m
unfoldable pub Low : {A : Type 0} → ℕ → Result A Flaw → Type 0
Low m (Ok n) = Unit {0}
Low m (Err e) = e.place < m

-- r gives the ground g, its place below m
pub record Answers {A : Type 0} (g : Option Refusal) (m : ℕ) (r : Result A Flaw) : Type 0 where
  pub gives : given r ≡ g
  pub low : Low m r

-- the answer by the index, if any, of what is wrong in a list, the first record of which has the place d
abbrev pub judged_at : Maybe ℕ → Ground → ℕ → Result (Unit {0}) Flaw
judged_at None g d = Ok tt
judged_at (Some a) g d = Err (flaw g (d + a))

-- an answer whose place goes on after d records, with n for a fine one
abbrev pub moved : Judged → ℕ → ℕ → Judged
moved (Ok m) n d = Ok n
moved (Err e) n d = Err (flaw e.reason (d + e.place))

-- ---- the extractors of the table

-- the rows from x on have the extractors' names and numbers of parameters
abbrev pub NamedRows : List ℕ → List Entry → ℕ → Extractors → Type 0
NamedRows text t x E = RowsOf (λ y v. count v.params ≡ arity_in t y) text t x E

-- the extractors of the table, the first of which are the earlier ones
pub record Known (text : List ℕ) (t : List Entry) (earlier : ℕ) : Type 0 where
  pub first : Extractors
  pub others : Extractors
  pub rows : NamedRows text t 0 (first ++ others)
  pub sized : length first ≡ earlier
  pub all : length first + length others ≡ length t

abbrev pub known_all : {text : List ℕ} {t : List Entry} {earlier : ℕ} → Known text t earlier → Extractors
known_all x = x.first ++ x.others

-- a list within the limits, each of whose records has its children
pub record Sound (src : List ℕ) : Type 0 where
  pub few : slots src ≤ 65536
  pub placed : All Placed (recs src)

-- ---- a scan, by a number f of each node, whatever x of A is

-- the children of the record k
abbrev pub children_at : List ℕ → ℕ → Trees
children_at src k = firsts (rec_at src k).count (trees_of (drop (k + 1) (recs src)))

-- the record k
unfoldable pub MarkedAt : {A : Type 0} → (A → Head → Trees → ℕ) → List ℕ → ℕ → ℕ → Type 0
MarkedAt f src k y = (x : _) → y ≡ f x (head_of (rec_at src k)) (children_at src k)

-- the trees from the index `at` on; a fine answer is where they end
pub record Scanned {A : Type 0} (f : A → Head → Trees → ℕ) (src : List ℕ) (at trees : ℕ) (r : Judged) : Type 0 where
  pub gives : (x : A) → given r ≡ first_from at (marks_all (f x) (firsts trees (trees_of (drop at (recs src)))))
  pub low : Low (slots src) r
  pub ends : (m : ℕ) → r ≡ Ok m → m ≡ at + span (drop at (recs src)) trees

-- calls, 31 and 32, by whatever the extractors of the table are
abbrev pub its_flaw : (text : List ℕ) (t : List Entry) (earlier : ℕ) → Known text t earlier → Head → Trees → ℕ
its_flaw text t earlier x = call_flaw text (known_all x) x.first

-- a call with c children by the row that its name is looked up to: 31, 32 or 0
unfoldable pub by_number : List Entry → ℕ → Maybe ℕ → ℕ → ℕ
by_number t earlier None c = 0
by_number t earlier (Some x) c = pick (ltb x earlier) (pick (eqb (arity_in t x) (c - 1)) 0 31) 32

-- ---- an Extractor

-- what is known of the record i of a definition list, an Extractor with c children
pub record ExtractorAt (defs : List ℕ) (i c : ℕ) : Type 0 where
  pub few : slots defs ≤ 65536
  pub placed : All Placed (recs defs)
  pub more : i + 1 < slots defs
  pub size : c ≡ (rec_at defs i).count
  pub two : 2 ≤ c

-- where it stands, the extractors before it being E
abbrev pub site_at : List ℕ → ℕ → Extractors → Site
site_at defs i E = record { place = i; children = children_at defs i; earlier = E }

-- one of its stages
pub record StageJudged (S : Extractors → Site → Stage) (text : List ℕ) (t : List Entry) (earlier : ℕ) (defs : List ℕ) (i : ℕ) (r : Result (Unit {0}) Flaw) : Type 0 where
  pub gives : (x : Known text t earlier) → given r ≡ found (S (known_all x) (site_at defs i x.first))
  pub low : Low (slots defs) r

-- all its stages; a fine answer is where its tree ends
pub record ExtractorJudged (text : List ℕ) (t : List Entry) (earlier : ℕ) (defs : List ℕ) (i : ℕ) (r : Judged) : Type 0 where
  pub gives : (x : Known text t earlier) → given r ≡ verdict (stages_of text (known_all x) (site_at defs i x.first))
  pub low : Low (slots defs) r
  pub ends : (m : ℕ) → r ≡ Ok m → m ≡ end_of (recs defs) i

-- ---- a definition list: of each extractor its stages

-- the verdict on those of ts, whose first record has the place i, all extractors being D and the earlier ones E
abbrev pub turns : List ℕ → Extractors → ℕ → Extractors → Trees → Option Refusal
turns text D i E ts = verdict (in_turn (stages_of text D) (sites text i E ts))

abbrev pub ListJudged : List ℕ → List ℕ → Result (Unit {0}) Flaw → Type 0
ListJudged text defs r = Answers (turns text (extractors text (trees_of (recs defs))) 0 [] (trees_of (recs defs))) (slots defs) r
