-- Answers: by how many records were appended, their numbers, and the output that an entry leaves. Assumes nothing.
use Prim.Native.Nat.{ℕ, ◌-◌, ◌*◌, ◌<◌, ◌≤◌, min}
use native.Mathlib.Omega.{arith}
use mir.Val.{Fits}
use mir.Syntax.{w32}
use mathlib.Core.Path.{◌≡◌, refl, ap, ◌∙◌}
use mathlib.Core.List.{List, ◌++◌}
use lib.ListN.{length, take, replicate}
use lib.Dec.{leb}
use borrow.Author.Tests.{le-leb, lt-leb}
use Rattle.trees.specs.Choice.{pick}
use Rattle.std.specs.Prelude.{Ok, Err}
use Rattle.trees.specs.declared.Rec.{Rec}
use Rattle.records.specs.Slots.{slots, writes}
use Rattle.records.proofs.BackLaws.{writes-cleared}
use Rattle.records.specs.Result.{accepted}
use Rattle.templates.specs.declared.Refused.{Refused}
use Rattle.templates.specs.declared.Refused.TheVariants.{MacroArg, NoPattern, NoSpace}
use Rattle.templates.specs.declared.output.Output.{Output}
use Rattle.templates.specs.Answers.{Answer, refusal_of, number_of, Countable, space, fitted, Answered, cleared, output_of, Finished}
use Rattle.templates.specs.Writing.{Empty, Wrote, all, full}

-- ---- the answer by how many records were appended

pub answered_refusal : (wanted : Answer) (l : List Rec) (a b : List ℕ) (f : Refused) → Err f ≡ wanted → Answered wanted l a b (Err f)
answered_refusal wanted l a b f e = record { answer = e; output = λ n q. absurd (cc) }

module _ (a : List ℕ) (o : Output) (made : Empty a o) (l : List Rec) (p : Output) where
  pub answered_full : (b : List ℕ) (f : Refused) → Wrote o l p (Err f) → Answered (fitted l (space a)) l a b (Err f)
  unfolding fitted
  answered_full b NoSpace (full h) =
      answered_refusal (pick (leb (length l) (space a)) (Ok (length l)) (Err NoSpace)) l a b NoSpace (rw (lt-leb (length l) (space a) (omega (arith, made.room, made.written))))
  answered_full b (MacroArg k) w = elim w [ ]
  answered_full b (NoPattern k) w = elim w [ ]

  pub answered_all : (b : List ℕ) (n : ℕ) → Wrote o l p (Ok tt) → n ≡ p.written → b ≡ p.bytes.now → Answered (fitted l (space a)) l a b (Ok n)
  unfolding fitted space
  answered_all b n (all w) e r =
      let m : n ≡ length l = omega (arith, w.written, made.written) in
      let k : length l ≤ min (slots a) 65536 = omega (arith, w.within, made.room) in
      record {
        answer = rw (le-leb (length l) (min (slots a) 65536) k, m);
        output = λ j q. let i : n ≡ j = cc in record { counted = omega arith; few = omega arith; inside = omega arith; wrote = r ∙ w.bytes ∙ rw (made.bytes, made.written) };
      }

pub answered_fits : (a : List ℕ) (o p : Output) (l : List Rec) (n : ℕ) → n ≡ p.written → Empty a o → Wrote o l p (Ok tt) → Fits w32 n
unfolding space
answered_fits a o p l n e made (all w) = let k : o.room ≡ min (slots a) 65536 = made.room in omega (arith, w.within)

-- ---- its number

module _ (r : Answer) where
  pub number_accepted : (n x : ℕ) → r ≡ Ok n → x ≡ accepted n → x ≡ number_of r
  unfolding number_of
  number_accepted n x e f = f ∙ rw e

  pub number_refused : (f : Refused) (x : ℕ) → r ≡ Err f → x ≡ refusal_of f → x ≡ number_of r
  unfolding number_of
  number_refused f x e g = g ∙ rw e

  pub number_fits : (n : ℕ) → r ≡ Ok n → Countable r → n < 16777216
  unfolding Countable
  number_fits n e c = let d : n ≤ 65536 = rw e at c in omega arith

-- an answer promised has a number
pub answered_countable : (wanted : Answer) (l : List Rec) (a b : List ℕ) (r : Answer) → Answered wanted l a b r → Countable r
unfolding Countable
answered_countable wanted l a b (Ok n) v = (v.output n refl).few
answered_countable wanted l a b (Err f) v = tt

-- ---- the end of an entry

pub finish_refused : (answer : Answer) (a b : List ℕ) (r : ℕ) → b ≡ replicate (length a) 0 → r ≡ number_of answer → ((n : ℕ) → answer ≡ Ok n → ⊥) → Finished answer a b r
unfolding cleared
finish_refused (Ok n) a b r e f h = absurd (h n refl)
finish_refused (Err g) a b r e f h = record { number = f; output = e }

pub finish_accepted : (answer : Answer) (a b : List ℕ) (n r : ℕ) → b ≡ take (n * 24) a ++ replicate (length a - n * 24) 0 → r ≡ number_of (Ok n) → answer ≡ Ok n → Finished answer a b r
unfolding cleared
finish_accepted answer a b n r e f h = record { number = f ∙ rw h; output = e ∙ rw h }

-- the output is that of the answer wanted, and so is the number
pub finished_output : (wanted : Answer) (l : List Rec) (a b c : List ℕ) (r : Answer) (x : ℕ) → Answered wanted l a b r → Finished r b c x → length b ≡ length a → c ≡ output_of wanted l (length a)
unfolding cleared output_of
finished_output wanted l a b c r x v f s = rw (← v.answer) (go r v f.output)
  where
    go : (r : Answer) → Answered wanted l a b r → c ≡ cleared r b → c ≡ output_of r l (length a)
    go (Ok n) v e =
        let w = v.output n refl in
        let d : c ≡ take (n * 24) (writes a 0 l) ++ replicate (length a - n * 24) 0 = e ∙ rw (s, w.wrote) in
        d ∙ writes-cleared l a n w.counted w.inside
    go (Err f) v e = e ∙ rw s

pub finished_number : (wanted : Answer) (l : List Rec) (a b c : List ℕ) (r : Answer) (x : ℕ) → Answered wanted l a b r → Finished r b c x → x ≡ number_of wanted
finished_number wanted l a b c r x v f = f.number ∙ ap number_of v.answer
