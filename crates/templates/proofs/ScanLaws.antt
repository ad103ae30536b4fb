-- The first record that passes a test, by what a closure answers. Assumes nothing.
use Prim.Native.Nat.{ℕ}
use mathlib.Core.Path.{◌≡◌, sym}
use mathlib.Core.List.{List}
use mathlib.Core.Bool.{Bool}
use lib.Dec.{eqb, leb}
use borrow.Author.Tests.{eq-eqb, ne_eqb}
use Rattle.trees.specs.declared.Rec.{Rec}
use Rattle.forms.specs.Lists.{first_of, first_macro_arg}
use Rattle.forms.proofs.SkipLaws.{first_kind}
use Rattle.expansion.specs.Nodes.{is_macro_arg}
use Rattle.templates.specs.Answers.{is_arg, lacks_pattern}

-- the first MacroArg is the first record that is one
pub first_arg : (rs : List Rec) → first_macro_arg rs ≡ first_of is_arg rs
unfolding is_arg is_macro_arg
first_arg rs = sym (first_kind 38 rs)

pub lacks_arg : (n : ℕ) (r : Rec) → r.kind ≡ 38 → leb n r.word1 ≡ lacks_pattern n r
unfolding lacks_pattern is_macro_arg
lacks_arg n r e = rw (eq-eqb r.kind 38 e)

pub lacks_other : (n : ℕ) (r : Rec) (b : Bool) → (r.kind ≡ 38 → ⊥) → b ≡ eqb r.kind 38 → b ≡ lacks_pattern n r
unfolding lacks_pattern is_macro_arg
lacks_other n r b h e = rw (e, ne_eqb r.kind 38 h)
