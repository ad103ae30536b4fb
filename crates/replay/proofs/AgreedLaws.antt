-- Comparing what a call returned and left with stored answers: r is the number, l the output, k the store. The bytes lent to be written were
-- overwritten before the call, and stayed as many: n and m before; n', or the lengths of s and o, then. Assumes nothing.
use Rattle.std.proofs.Common.{◌≡◌, ℕ, ◌≤◌, Bool, true, false, not, List, Bor, length, take, replicate, ap₂, length-take-le, eq-eqb, ne_eqb}
use lib.ListN.{length-replicate}
use borrow.Author.Tests.{not-true, not-false}
use Rattle.records.specs.Slots.{slots}
use Rattle.tokens.specs.Input.{input}
use Rattle.parser.specs.Reading.{reading}
use Rattle.reading.specs.Answered.{Answered}
use Rattle.texts.specs.TextReading.{text_reading}
use Rattle.templates.specs.Answers.{space}
use Rattle.templating.specs.Calls.{Ended, making, substituting}
use Rattle.grounds.specs.Opening.{Outcome, accept, refuse}
use Rattle.opening.specs.Answers.{Outputs, outputs, space_of, space_in}
use Rattle.openings.specs.Calls.{Left, opening_of, zeros, filled}
use Rattle.replay.specs.declared.output_cases.Lent.{Lent}
use Rattle.replay.specs.declared.output_cases.Lent.TheVariants as lends
use Rattle.replay.specs.Said.{says, says_both, of_outputs, said, said_of, opened}
use Rattle.replay.specs.Agreed.{held, agreed, agreed_both}

-- ---- one output

module _ (c : Lent) (o l : List ℕ) (r : ℕ) where
  pub said_read : (tokens text : Bor (List ℕ)) (end : ℕ) → c ≡ lends.Read tokens text end → Answered (reading (input tokens.now text.now end) (slots o)) (length o) l r → says r l ≡ said_of c (length o)
  unfolding said
  said_read tokens text end e a = rw (e, a.returns, a.output)

  pub said-text : (text first : Bor (List ℕ)) → c ≡ lends.Text text first → Answered (text_reading text.now (slots o)) (length o) l r → says r l ≡ said_of c (length o)
  unfolding said
  said-text text first e a = rw (e, a.returns, a.output)

  pub said_make : (text pattern params : Bor (List ℕ)) → c ≡ lends.Make text pattern params → Ended (making text.now pattern.now params.now o) (length o) l r → says r l ≡ said_of c (length o)
  unfolding said making space
  said_make text pattern params e a = rw (e, a.returns, a.output, length-replicate {A = ℕ} (length o) 0)

  pub said-fill : (text template args : Bor (List ℕ)) → c ≡ lends.Fill text template args → Ended (substituting text.now template.now args.now o) (length o) l r → says r l ≡ said_of c (length o)
  unfolding said substituting space
  said-fill text template args e a = rw (e, a.returns, a.output, length-replicate {A = ℕ} (length o) 0)

module _ (l records : List ℕ) (r answer : ℕ) where
  pub other-number : (r ≡ answer → ⊥) → false ≡ agreed (says r l) answer records
  unfolding agreed
  other-number h = rw (ne_eqb r answer h)

  pub same_number : r ≡ answer → (b : Bool) → b ≡ held l records → b ≡ agreed (says r l) answer records
  unfolding agreed
  same_number h b e = rw (eq-eqb r answer h) e

module _ (c : Lent) where
  pub output_compared : (n n' : ℕ) (l records : List ℕ) (r answer : ℕ) (b : Bool) → n' ≡ n → says r l ≡ said_of c n' → b ≡ agreed (says r l) answer records → b ≡ agreed (said_of c n) answer records
  output_compared n n' l records r answer b e a x = rw (← e, ← a) x

  -- the output is the beginning of a larger one
  pub output-first : (n : ℕ) (o records : List ℕ) (answer : ℕ) (b : Bool) → n ≤ length o → b ≡ agreed (said_of c (length (take n o))) answer records → b ≡ agreed (said_of c n) answer records
  output-first n o records answer b h e = rw (← length-take-le n o h) e

-- ---- opening

-- of the outputs that are lent only the lengths count
module _ (s o : List ℕ) where
  abbrev blank : Outputs
  blank = outputs (replicate (length s) 0) (replicate (length o) 0)

  space_same : space_in blank ≡ space_in (outputs s o)
  unfolding space_in space_of
  space_same = rw (length-replicate {A = ℕ} (length s) 0, length-replicate {A = ℕ} (length o) 0)

  filled_same : (c : Outcome) → filled blank c ≡ filled (outputs s o) c
  unfolding filled zeros
  filled_same (accept w) = rw (length-replicate {A = ℕ} (length s) 0, length-replicate {A = ℕ} (length o) 0)
  filled_same (refuse r) = rw (length-replicate {A = ℕ} (length s) 0, length-replicate {A = ℕ} (length o) 0)

  opening_same : (text defs patt : List ℕ) → opening_of text defs patt blank ≡ opening_of text defs patt (outputs s o)
  unfolding opening_of
  opening_same text defs patt = rw space_same

module _ (text defs patt s o k l templates records : List ℕ) (n m r answer : ℕ) (e : length s ≡ n) (d : length o ≡ m) (a : Left (opening_of text defs patt (outputs s o)) (outputs s o) (outputs k l) r) where
  said_open : says_both r k l ≡ opened text defs patt n m
  unfolding opened
  said_open =
      rw (← e, ← d, opening_same s o text defs patt, filled_same s o (opening_of text defs patt (outputs s o)))
      (ap₂ of_outputs a.returns a.holds)

  pub open_store : (t : Bool) → t ≡ held k templates → not t ≡ true → false ≡ agreed_both (opened text defs patt n m) answer templates records
  unfolding agreed_both
  open_store t x f = rw (← said_open, ← x, not-true t f)

  pub open_compared : (t b : Bool) → t ≡ held k templates → not t ≡ false → b ≡ agreed (says r l) answer records → b ≡ agreed_both (opened text defs patt n m) answer templates records
  unfolding agreed_both
  open_compared t b x f y = rw (← said_open, ← x, not-false t f) y

pub open_first : (text defs patt : List ℕ) (n m : ℕ) (s o templates records : List ℕ) (answer : ℕ) (b : Bool) → n ≤ length s → m ≤ length o → b ≡ agreed_both (opened text defs patt (length (take n s)) (length (take m o))) answer templates records → b ≡ agreed_both (opened text defs patt n m) answer templates records
open_first text defs patt n m s o templates records answer b h i e = rw (← length-take-le n s h, ← length-take-le m o i) e
