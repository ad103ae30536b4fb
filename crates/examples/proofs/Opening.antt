-- What isle_open's answer is worth at the example that it accepts: `(Q z)` with P and Q. Assumes nothing.
use Prim.Native.Nat.{ℕ, ◌≤◌}
use native.Mathlib.Omega.{arith}
use mathlib.Core.Path.{◌≡◌, refl, sym, ap, ◌∙◌}
use mathlib.Core.List.{List, []}
use lib.ListN.{get_or}
use Rattle.trees.specs.Tree.{Tree, count, firsts, others, records, trees_of}
use Rattle.trees.specs.Names.{spelled}
use Rattle.words.specs.Words.{half_at, word_at, be4, be8}
use Rattle.words.specs.Bytes.{same_bytes}
use Rattle.records.specs.Slots.{rec_at, recs_from, recs}
use Rattle.records.specs.Result as result
use Rattle.records.specs.Result.{refused, refusal_of}
use Rattle.expansion.specs.Nodes.{tree_at, is_extractor, is_var, is_bind, is_term, is_wildcard, is_macro_arg}
use Rattle.expansion.specs.Templates.{position, stands_for, make_template, substitute}
use Rattle.expansion.specs.Expansion.{Extractors, find, last, but_last, extractor, extractors, term_name, NoCall, template, Steps, in_order, open_by, open_template, opened_templates, opened, bound}
use Rattle.expansion.specs.Demand.{Opens, StoreOpens}
use Rattle.expansion.proofs.Examples as trees
use Rattle.grounds.specs.declared.Counts.{Counts}
use Rattle.grounds.specs.Stages.{Nowhere, Refused}
use Rattle.grounds.specs.Opening.{tree_of, counts_of, Outcome}
use Rattle.grounds.proofs.StageLaws.{refused_positive}
use Rattle.grounds.proofs.Exactly.{order_numbered, space_numbered}
use Rattle.opening.specs.Answers.{Outputs, outputs, number_of, answer_of}
use Rattle.openings.specs.Calls.{number, opening_of, Left}
use Rattle.openings.specs.Meaning.{definitions, called, pattern, due, Meaning, ill_sized, ill_formed, ground, no_space, accepted, OpeningWorth}
use Rattle.openings.specs.Exactly.{whole_order}
use Rattle.openings.proofs.Theorem.{worth}
use Rattle.openings.proofs.Exactly.{exactly}
use Rattle.lexer.specs.Quoted.{bytes}
use Rattle.examples.specs.Calls.{isle_open, lent_both, answer, comes_to, filled, meant, said, outcomes, expected}
use Rattle.examples.specs.Examples.{rec, source, pq, qz, pq_opened, qz_opened, table}
use Rattle.examples.proofs.Examples.{as_written}

-- a number that says no refusal is not a refusal's
not_refused : (n k : ℕ) → (n ≡ 0 → ⊥) → refusal_of (refused n k) ≡ 0 → ⊥
unfolding refused
not_refused n k h e = h (omega arith)

-- of any call: where the number says no refusal, demand 3 holds of the pattern and of each template
module _ {text defs patt : List ℕ} where
  unrefused : {room : Counts} {c : Outcome} → Meaning text defs patt room c → refusal_of (number c) ≡ 0
      → Opens text (called text defs patt) (pattern text defs patt) × StoreOpens text (called text defs patt)
  unfolding number number_of answer_of
  unrefused (ill_sized n a b) e = absurd (not_refused n 0 b e)
  unrefused (ill_formed a b) e = absurd (not_refused 3 0 (λ h. omega arith) e)
  unrefused (ground a b n k c) e =
      absurd (not_refused n k (λ h. omega (arith, refused_positive _ (order_numbered text (definitions text defs patt) (pattern text defs patt)) n k c)) e)
  unrefused {room = room} (no_space a b c n k d) e =
      absurd (not_refused n k (λ h. omega (arith, refused_positive _ (space_numbered room (counts_of (due text defs patt))) n k d)) e)
  unrefused (accepted a b c d opens templates) e = (opens, templates)

  pub demand : {b b' : Outputs} {r : ℕ} → OpeningWorth text defs patt b b' r → refusal_of r ≡ 0
      → Opens text (called text defs patt) (pattern text defs patt) × StoreOpens text (called text defs patt)
  demand w e = unrefused w.meaning (rw w.ended.returns at e)

-- ---- `(Q z)`, and P and Q, as the bytes have them

abbrev pub extractors_pq : Extractors
extractors_pq = called source pq qz

abbrev pub pattern_qz : Tree
pattern_qz = pattern source pq qz

-- a row of the table, where it has been computed, says what a call leaves
row-left : (s o n : ℕ) (k l : List ℕ) → comes_to (isle_open source pq qz s o) ≡ answer n k l → Left (opening_of source pq qz (lent_both s o)) (lent_both s o) (outputs k l) n
unfolding comes_to
row-left s o n k l e = record { returns = sym (ap (λ a. a.number) e); holds = sym (ap (λ a. outputs a.store a.output) e) }

-- the fifteenth row of the table: `(Q z)` opens to 11 records
qz_left : Left (opening_of source pq qz (lent_both 16 11)) (lent_both 16 11) (outputs (filled 16 pq_opened) (filled 11 qz_opened)) (result.accepted 11)
unfolding outcomes expected table said meant
qz_left = row-left 16 11 (result.accepted 11) (filled 16 pq_opened) (filled 11 qz_opened) (ap (λ answers. get_or answers 14 (answer 0 [] [])) as_written)

-- the sixteenth: space for 10 gives 6
qz_full : Left (opening_of source pq qz (lent_both 16 10)) (lent_both 16 10) (outputs (filled 16 []) (filled 10 [])) (result.refused 6 1)
unfolding outcomes expected table said meant
qz_full = row-left 16 10 (result.refused 6 1) (filled 16 []) (filled 10 []) (ap (λ answers. get_or answers 15 (answer 0 [] [])) as_written)

pub qz_worth : OpeningWorth source pq qz (lent_both 16 11) (outputs (filled 16 pq_opened) (filled 11 qz_opened)) (result.accepted 11)
qz_worth = worth source pq qz (lent_both 16 11) (outputs (filled 16 pq_opened) (filled 11 qz_opened)) (result.accepted 11) qz_left

-- no ground holds; and where there is space for 10, 6 at 1 does and none before it
pub qz_passes : Nowhere (Refused (whole_order source pq qz (lent_both 16 11)))
unfolding result.accepted
qz_passes = (exactly source pq qz (lent_both 16 11) (outputs (filled 16 pq_opened) (filled 11 qz_opened)) (result.accepted 11) qz_left).accepted.0 refl

pub qz_ground : Refused (whole_order source pq qz (lent_both 16 10)) 6 1
qz_ground = ((exactly source pq qz (lent_both 16 10) (outputs (filled 16 []) (filled 10 [])) (result.refused 6 1) qz_full).refused 6 1 (omega arith) (omega arith)).0 refl

pub qz_opens : Opens source extractors_pq pattern_qz
unfolding result.accepted
qz_opens = (demand qz_worth refl).0

pub pq_open : StoreOpens source extractors_pq
unfolding result.accepted
pq_open = (demand qz_worth refl).1

five : bound source extractors_pq pattern_qz ≡ 5
unfolding bytes rec source pq qz be8 be4 word_at half_at firsts others trees_of rec_at recs_from tree_at tree_of trees.source
five = trees.five

eleven : records (opened source extractors_pq pattern_qz) ≡ recs qz_opened
unfolding bytes rec source pq qz qz_opened be8 be4 word_at half_at same_bytes spelled count firsts others records trees_of rec_at recs_from tree_at is_extractor is_var is_bind is_term is_wildcard is_macro_arg position stands_for make_template substitute find last but_last extractor extractors term_name template in_order open_by open_template opened_templates opened tree_of
eleven = refl

-- however the calls are opened: at most five steps, and where no call is left the eleven records
pub qz_steps : (n : ℕ) (q : Tree) → Steps source extractors_pq n pattern_qz q
    → (n ≤ 5) × (NoCall source extractors_pq q → records q ≡ recs qz_opened)
qz_steps n q steps = (rw five at (qz_opens.bounded n q steps), λ none. ap records (qz_opens.ends n q steps none) ∙ eleven)
