-- What isle_open's answer is worth, for every input. Assumes nothing.
use Prim.Native.Nat.{ℕ}
use mathlib.Core.Path.{◌≡◌, refl, sym, ◌∙◌}
use mathlib.Core.Bool.{Bool, true, false, false≢true}
use mathlib.Core.List.{List}
use lib.Dec.{eqb}
use lib.ListN.{length}
use borrow.Author.Tests.{eqb-true, eqb-false}
use Rattle.records.specs.Slots.{recs}
use Rattle.forms.specs.Kinds.{definition}
use Rattle.forms.specs.Forms.{is_one, is_many}
use Rattle.expansion.proofs.ListLaws.{list-named, list-records}
use Rattle.grounds.specs.declared.Counts.{Counts}
use Rattle.grounds.specs.Order.{grounds}
use Rattle.grounds.specs.Opening.{Outcome, opening}
use Rattle.grounds.proofs.Answers as answers
use Rattle.grounds.proofs.Accepted.{opens-accepted, store-accepted}
use Rattle.grounds.proofs.Exactly.{passes}
use Rattle.judging.specs.Whole.{DefinitionsShaped, PatternShaped}
use Rattle.judging.proofs.ShapeLaws.{one_lent, definitions_shaped, pattern_shaped}
use Rattle.opening.specs.Answers.{Outputs, space_in, pattern_sort}
use Rattle.templating.specs.Calls.{sizes, lent}
use Rattle.templating.proofs.CallLaws.{short}
use Rattle.openings.specs.Calls.{stopped, opening_of, Left}
use Rattle.openings.specs.Meaning.{definitions, pattern, OfKind, TreesLent, Meaning, ill_sized, ill_formed, ground, no_space, accepted, OpeningWorth}

module _ (text defs patt : List ℕ) (room : Counts) where
  module _ (k : OfKind text defs patt) where
    definitions_are : DefinitionsShaped defs
    definitions_are = definitions_shaped (length text) defs k.many (short (length text) (length defs) (length patt) (sym k.sized)).0

    pattern-is : PatternShaped patt
    pattern-is = pattern_shaped (length text) patt k.one (short (length text) (length defs) (length patt) (sym k.sized)).1

    pub trees-lent : TreesLent text defs patt
    trees-lent = record { all = list-records (recs defs) definitions_are.placed; one = one_lent (recs patt) pattern-is.placed pattern-is.one }

    lists : Meaning text defs patt room (opening text (definitions text defs patt) (pattern text defs patt) room)
    lists = go _ (answers.answered text (definitions text defs patt) (pattern text defs patt) room)
      where
        go : (c : Outcome) → answers.Answered text (definitions text defs patt) (pattern text defs patt) room c → Meaning text defs patt room c
        go c (answers.Answered.refused n j r) = ground k trees-lent n j r
        go c (answers.Answered.no_space f n j r) = no_space k trees-lent f n j r
        go c (answers.Answered.accepted f h) =
            let terms = list-named (recs defs) definitions_are.placed in
            let term = (rw pattern-is.one at (list-named (recs patt) pattern-is.placed)).0 in
            let g : grounds text (definitions text defs patt) (pattern text defs patt) ≡ _ = (passes text (definitions text defs patt) (pattern text defs patt)).1 f in
            accepted k trees-lent f h
            (opens-accepted text (definitions text defs patt) (pattern text defs patt) terms term g)
            (store-accepted text (definitions text defs patt) (pattern text defs patt) terms term g)

  pub meaning : Meaning text defs patt room
      (lent stopped (sizes (length text) (length defs) (length patt)) (is_many (length text) definition (recs defs)) (is_one (length text) pattern_sort (recs patt))
      (opening text (definitions text defs patt) (pattern text defs patt) room))
  unfolding lent
  meaning = go (eqb (sizes (length text) (length defs) (length patt)) 0) refl (is_many (length text) definition (recs defs)) refl (is_one (length text) pattern_sort (recs patt)) refl
    where
      go : (a : Bool) → eqb (sizes (length text) (length defs) (length patt)) 0 ≡ a → (b : Bool) → is_many (length text) definition (recs defs) ≡ b → (c : Bool) → is_one (length text) pattern_sort (recs patt) ≡ c
          → Meaning text defs patt room (lent stopped (sizes (length text) (length defs) (length patt)) (is_many (length text) definition (recs defs)) (is_one (length text) pattern_sort (recs patt)) (opening text (definitions text defs patt) (pattern text defs patt) room))
      go false e b f c g = rw e (ill_sized (sizes (length text) (length defs) (length patt)) refl (eqb-false (sizes (length text) (length defs) (length patt)) 0 e))
      go true e false f c g = rw (e, f) (ill_formed (eqb-true (sizes (length text) (length defs) (length patt)) 0 e) (λ k. false≢true (sym f ∙ k.many)))
      go true e true f false g = rw (e, f, g) (ill_formed (eqb-true (sizes (length text) (length defs) (length patt)) 0 e) (λ k. false≢true (sym g ∙ k.one)))
      go true e true f true g = rw (e, f, g) (lists (record { sized = eqb-true (sizes (length text) (length defs) (length patt)) 0 e; many = f; one = g }))

pub worth : (text defs patt : List ℕ) (b b' : Outputs) (r : ℕ) → Left (opening_of text defs patt b) b b' r → OpeningWorth text defs patt b b' r
unfolding opening_of
worth text defs patt b b' r e = record { outcome = opening_of text defs patt b; ended = e; meaning = meaning text defs patt (space_in b) }
