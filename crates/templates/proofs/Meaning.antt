-- What the answers mean where a pattern, a template, is one tree. Assumes nothing.
use Prim.Native.Nat.{ℕ, zero, suc, ◌<◌, ◌≤◌}
use native.Mathlib.Omega.{arith}
use mathlib.Core.Path.{◌≡◌, refl, ap}
use mathlib.Core.Bool.{Bool, true, false}
use mathlib.Core.List.{List, [], ◌∷◌}
use lib.ListN.{length}
use Rattle.trees.specs.Choice.{pick}
use Rattle.trees.specs.declared.Rec.{Rec}
use Rattle.trees.specs.Tree.{Tree, ∅, ◌▸◌, records, trees_of}
use Rattle.trees.proofs.Laws.{records_all-one}
use Rattle.expansion.specs.Templates.{make_template, substitute}
use Rattle.forms.specs.Lists.{first_of}
use Rattle.templates.specs.Answers.{template_records, substituted_records}

-- the complete list is the records of the template made
pub template-is : (text : List ℕ) (pattern params : List Rec) (t : Tree) → trees_of pattern ≡ t ▸ ∅ → template_records text pattern params ≡ records (make_template text (trees_of params) t)
unfolding template_records make_template
template-is text pattern params t e = rw e (records_all-one (make_template text (trees_of params) t))

pub substituted_is : (template patterns : List Rec) (t : Tree) → trees_of template ≡ t ▸ ∅ → substituted_records template patterns ≡ records (substitute t (trees_of patterns))
unfolding substituted_records substitute
substituted_is template patterns t e = rw e (records_all-one (substitute t (trees_of patterns)))

-- the record at an index passes the test, and none before it does
abbrev pub FirstAt : (Rec → Bool) → List Rec → ℕ → Type 0
FirstAt test [] k = ⊥
FirstAt test (r ∷ rs) zero = test r ≡ true
FirstAt test (r ∷ rs) (suc k) = (test r ≡ false) × FirstAt test rs k

-- no record passes it
abbrev pub NoneOf : (Rec → Bool) → List Rec → Type 0
NoneOf test [] = Unit {0}
NoneOf test (r ∷ rs) = (test r ≡ false) × NoneOf test rs

module _ (test : Rec → Bool) where
  -- a place below the length is that of the first record that passes, and there is none where it is the length
  pub first_passes : (rs : List Rec) → first_of test rs < length rs → FirstAt test rs (first_of test rs)
  unfolding first_of
  first_passes [] h = absurd (omega arith)
  first_passes (r ∷ rs) h = go (test r) refl h (first_passes rs)
    where
      go : (t : Bool) → test r ≡ t → pick t 0 (suc (first_of test rs)) < suc (length rs) → (first_of test rs < length rs → FirstAt test rs (first_of test rs)) → FirstAt test (r ∷ rs) (pick t 0 (suc (first_of test rs)))
      go true e h ih = e
      go false e h ih = (e, ih (omega arith))

  pub none_passes : (rs : List Rec) → length rs ≤ first_of test rs → NoneOf test rs
  unfolding first_of
  none_passes [] h = tt
  none_passes (r ∷ rs) h = go (test r) refl h (none_passes rs)
    where
      go : (t : Bool) → test r ≡ t → suc (length rs) ≤ pick t 0 (suc (first_of test rs)) → (length rs ≤ first_of test rs → NoneOf test rs) → NoneOf test (r ∷ rs)
      go true e h ih = absurd (omega arith)
      go false e h ih = (e, ih (omega arith))

  pub first-only : (rs : List Rec) (k : ℕ) → FirstAt test rs k → first_of test rs ≡ k
  unfolding first_of
  first-only [] k f = absurd f
  first-only (r ∷ rs) zero f = rw f
  first-only (r ∷ rs) (suc k) f = rw f.0 (ap suc (first-only rs k f.1))
