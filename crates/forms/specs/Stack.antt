-- A stack in the front of a list: the numbers below `top`, from the top down.
use Rattle.std.specs.Prelude.{ℕ, zero, suc, ◌+◌, ◌≤◌, ◌≡◌, List, [], ◌∷◌, ◌++◌, Bool, true, false, length, get_or}
use Rattle.trees.specs.declared.Rec.{Rec}
use Rattle.forms.specs.declared.stack.Stack.{Stack}
use Rattle.forms.specs.Tests.{◌and◌}
use Rattle.forms.specs.Kinds.{name}
use Rattle.forms.specs.Forms.{good, children, fits}

unfoldable pub pending : List ℕ → ℕ → List ℕ
pending s zero = []
pending s (suc n) = get_or s n 0 ∷ pending s n

-- the sorts that a stack holds, the next first
abbrev pub held : Stack → List ℕ
held a = pending a.sorts.now a.top

-- there is space for the numbers l on the stack
abbrev pub Room : Stack → List ℕ → Type 0
Room a l = a.top + length l ≤ length a.sorts.now

-- the numbers l were put on the stack a, which is b then
pub record Pushed (a b : Stack) (l : List ℕ) : Type 0 where
  pub holds : held b ≡ l ++ held a
  pub higher : b.top ≡ a.top + length l
  pub same_space : length b.sorts.now ≡ length a.sorts.now

-- where b is true, the record may stand where the sort s is expected, and has no children
pub record NameTaken (t s : ℕ) (r : Rec) (b : Bool) : Type 0 where
  pub stands : b ≡ true → good t s r ≡ true
  pub childless : b ≡ true → children r ≡ []

-- where b is true, the record may stand where the sort s is expected, and a name is its one child
pub record VarTaken (s : ℕ) (r : Rec) (b : Bool) : Type 0 where
  pub stands : (t : ℕ) → b ≡ true → good t s r ≡ true
  pub child : b ≡ true → children r ≡ name ∷ []

-- the record r was taken where the sort s is expected, with `left` records after it: its children are on the stack a, which is b then
pub record Taken (t s : ℕ) (r : Rec) (left : ℕ) (a b : Stack) : Type 0 where
  pub stands : good t s r ≡ true
  pub pushed : Pushed a b (children r)
  pub inside : b.top ≤ left

-- whatever the `left` records after it are, r and they do not fit
pub record Refused (t s : ℕ) (r : Rec) (left : ℕ) (a : Stack) : Type 0 where
  pub unfit : (base : ℕ) (rs : List Rec) → length rs ≡ left → (good t s r and fits t base (children r ++ held a) rs) ≡ false
