-- The names of a row of records, and an order of their numbers that is searched by halves.
use Rattle.std.specs.Prelude.{◌≡◌, ℕ, zero, suc, ◌+◌, ◌-◌, ◌/◌, ◌<◌, ◌≤◌, Bool, true, false, List, length, ◌==◌, nat_lt, slice_index, Option, Some, None}
use Rattle.trees.specs.Choice.{pick}
use Rattle.trees.specs.Names.{spelled}
use Rattle.words.specs.Bytes.{same_bytes}
use Rattle.records.specs.Slots.{rec_at}
use Rattle.names.specs.declared.row.Names.{Names}
use Rattle.names.specs.Compare.{before}

-- the range of the name j
unfoldable pub range_at : Names → ℕ → ℕ
range_at s j = (rec_at s.src.now (s.from + j)).word1

-- the same names, by what is lent: text and list, and which of its records
pub record SameNames (s t : Names) : Type 0 where
  pub text : s.text.now ≡ t.text.now
  pub list : s.src.now ≡ t.src.now
  pub from : s.from ≡ t.from
  pub many : s.n ≡ t.n

-- its bytes
abbrev pub name_at : Names → ℕ → List ℕ
name_at s j = spelled s.text.now (range_at s j)

-- the number at place i of the order; one that is none of the n counts as 0
unfoldable pub entry : List ℕ → ℕ → ℕ → ℕ
entry places n i = pick (nat_lt (slice_index places i) n) (slice_index places i) 0

-- the name at place i of the order
unfoldable pub ordered : Names → List ℕ → ℕ → List ℕ
ordered s places i = name_at s (entry places s.n i)

-- where halving ends: n places from `base` on are left
unfoldable pub halves : (ℕ → List ℕ) → List ℕ → ℕ → ℕ → ℕ → ℕ
halves names name zero base n = base
halves names name (suc fuel) base n =
    pick (nat_lt 1 n) (halves names name fuel (pick (before name (names (base + n / 2))) base (base + n / 2)) (n - n / 2)) base

-- the place in the order
unfoldable pub place : Names → List ℕ → List ℕ → ℕ
place s places name = halves (ordered s places) name (length places) 0 (length places)

-- the number to which a name leads: it depends on the bytes of the name alone
unfoldable pub led : Names → List ℕ → List ℕ → ℕ
led s places name = entry places s.n (place s places name)

-- whether names of a length are in the order; all are where there are no marks
unfoldable pub marked : List ℕ → ℕ → Bool
marked marks size = pick (length marks == 0) true (slice_index marks size == 1)

-- the name j, if of a marked length, leads to an equal one that is not later
abbrev pub Leads : Names → List ℕ → List ℕ → ℕ → Type 0
Leads s places marks j =
    marked marks (length (name_at s j)) ≡ true
    → (led s places (name_at s j) ≤ j) × (same_bytes (name_at s j) (name_at s (led s places (name_at s j))) ≡ true)

-- so does each of the first k
pub record Checked (s : Names) (places marks : List ℕ) (k : ℕ) : Type 0 where
  pub each : (j : ℕ) → j < k → Leads s places marks j

-- none of the first k names is the one sought
abbrev pub NoneBefore : Names → List ℕ → ℕ → Type 0
NoneBefore s name k = (j : ℕ) → j < k → same_bytes name (name_at s j) ≡ false

-- r is the number of the first name that is the one sought, if there is one
abbrev pub First : Names → List ℕ → Option ℕ → Type 0
First s name None = NoneBefore s name s.n
First s name (Some k) = (k < s.n) × (same_bytes name (name_at s k) ≡ true) × NoneBefore s name k
