-- What is known of lent lists has one proof at most, as a field of a struct asks.
use mathlib.Core.Path.{◌≡◌, sym, ap, ◌∙◌}
use mathlib.Core.HLevel.{collapsible→set}
use mathlib.Core.Bool.{true, Bool-set}
use native.Mathlib.Nat.{ℕ_set}
use Rattle.std.specs.Prelude.{List, [], ◌∷◌, ℕ, zero, suc}
use Rattle.std.specs.Coded.{Coded-set, coded_list, ×_prop, Unit-prop}
use Rattle.std.proofs.Props.{props}
use Rattle.trees.specs.declared.Rec.{Rec}
use Rattle.trees.specs.contracts.Rec as rec
use Rattle.trees.specs.Tree.{Trees, records_all, trees_of}
use Rattle.trees.proofs.Laws.{trees_of-records}
use Rattle.expansion.specs.Nodes.{is_ident}
use Rattle.expansion.specs.Flat.{All, LeafNext, IdentNext}
use Rattle.grounds.specs.Leaves.{Leaves}

pub All-prop : (Q : Rec → List Rec → Type 0) → ((r : Rec) (rs : List Rec) → IsProp (Q r rs)) → (rs : List Rec) → IsProp (All Q rs)
All-prop Q one [] = Unit-prop
All-prop Q one (r ∷ rs) = ×_prop (one r rs) (All-prop Q one rs)

pub LeafNext-prop : (rs : List Rec) → IsProp (LeafNext rs)
LeafNext-prop [] = λ x y. absurd x
LeafNext-prop (i ∷ rs) = ℕ_set i.count 0

pub IdentNext-prop : (rs : List Rec) → IsProp (IdentNext rs)
IdentNext-prop [] = λ x y. absurd x
IdentNext-prop (i ∷ rs) = Bool-set (is_ident i.kind) true

pub Leaves-prop : (n : ℕ) (rs : List Rec) → IsProp (Leaves n rs)
Leaves-prop zero rs = Unit-prop
Leaves-prop (suc n) [] = λ x y. absurd x
Leaves-prop (suc n) (r ∷ rs) = ×_prop (ℕ_set r.count 0) (Leaves-prop n rs)

-- trees are told apart by their records
by_records : (x y : Trees) → x ≡ y → x ≡ y
by_records x y p = sym (trees_of-records x) ∙ ap trees_of (ap records_all p) ∙ trees_of-records y

recs-set : IsSet (List Rec)
recs-set = Coded-set (coded_list rec.the_row.coded)

pub Trees-set : IsSet Trees
unfolding by_records
Trees-set = collapsible→set by_records (λ x y p q. ap (λ r. sym (trees_of-records x) ∙ ap trees_of r ∙ trees_of-records y) (recs-set (records_all x) (records_all y) (ap records_all p) (ap records_all q)))

pub ruleset shaped = (All-prop, LeafNext-prop, IdentNext-prop, Leaves-prop, Trees-set, props)
