-- The ways through judging the whole order. Assumes nothing.
use mathlib.Core.Path.{◌≡◌, refl, sym, ap, ◌∙◌}
use mathlib.Core.Option.{Option, none, some}
use mathlib.Core.List.{List, [], ◌++◌, append-nil}
use Prim.Native.Nat.{ℕ, ◌+◌, ◌<◌, ◌≤◌}
use native.Mathlib.Nat.{add-zero, zero-add}
use native.Mathlib.Omega.{arith}
use lib.ListN.{length, take, drop}
use Rattle.std.proofs.lemmas.List.{length-take-le}
use Rattle.trees.specs.Tree.{Trees, firsts, records_all, trees_of}
use Rattle.records.specs.Slots.{slots, recs}
use Rattle.forms.specs.Lists.{first_is, kinds_all, macro_arg, first_macro_arg}
use Rattle.forms.specs.Depth.{depths_all, too_deep, first_deep_in}
use Rattle.forms.proofs.FirstLaws.{first-at, first-before, length-kinds_all, length-depths_all}
use Rattle.forms.proofs.SkipLaws.{macro_arg_agrees}
use Rattle.forms.proofs.DepthLaws.{deep_agrees}
use Rattle.expansion.specs.Expansion.{Extractors, extractors}
use Rattle.expansion.specs.Flat.{Placed, All}
use Rattle.expansion.proofs.ListLaws.{list-records}
use Rattle.grounds.specs.Stages.{Refusal, refusal, ◌or_else◌, first_from, found, verdict, only, marks_all}
use Rattle.grounds.specs.Order.{macro_args, too_deeps, call_flaw, calls, too_many, extractor_places, of_definitions, of_both, of_pattern, order, grounds}
use Rattle.grounds.specs.Opening.{tree_of}
use Rattle.grounds.proofs.FirstLaws.{shifted, flaw_there, flaw_nowhere, flaw_shifted}
use Rattle.grounds.proofs.ShapeLaws.{only_at, only_zero}
use Rattle.grounds.proofs.StageLaws.{verdict_++, or_else_none}
use Rattle.grounds.proofs.At.{length-recs}
use Rattle.std.specs.Prelude.{Option as Maybe, Some, None, Result, Ok, Err, IfSome, unwrap_or}
use Rattle.records.specs.declared.Ground.{Ground}
use Rattle.records.specs.Grounds as grounds
use Rattle.records.specs.declared.Ground.TheVariants.{MacroArg, TooDeep}
use Rattle.judging.specs.declared.Flaw.{Flaw}
use Rattle.judging.specs.declared.table.Entry.{Entry}
use Rattle.judging.specs.Table.{Table}
use Rattle.judging.specs.Judging.{flaw, Judged, given, Low, Answers, judged_at, moved, Known, known_all, its_flaw, Scanned, turns, ListJudged}
use Rattle.judging.specs.Whole.{DefinitionsShaped, PatternShaped, Tabled, OthersJudged, FoundIn, both, Grounded}
use Rattle.judging.proofs.GivenLaws.{flawed_first, fine-next, flawed_fine}
use Rattle.judging.proofs.RowLaws.{table_known}

-- ---- one ground after another

low_by : {A : Type 0} (m n : ℕ) (j : Result A Flaw) → m ≤ n → Low m j → Low n j
unfolding Low
low_by m n (Ok k) h l = tt
low_by m n (Err f) h l = omega arith

wider : {A : Type 0} (g : Option Refusal) (m k : ℕ) (j : Result A Flaw) → m ≤ k → Answers g m j → Answers g k j
wider g m k j h q = record { gives = q.gives; low = low_by m k j h q.low }

-- a refusal, whatever a fine answer would be
same-flaw : {A B : Type 0} (g : Option Refusal) (m : ℕ) (f : Flaw) → Answers {A = A} g m (Err f) → Answers {A = B} g m (Err f)
unfolding Low
same-flaw g m f a = record { gives = a.gives; low = a.low }

first-answers : {A B : Type 0} (g h : Option Refusal) (m : ℕ) (f : Flaw) → Answers {A = A} g m (Err f) → Answers {A = B} (g or_else h) m (Err f)
unfolding Low
first-answers g h m f a = record { gives = flawed_first f g h a.gives; low = a.low }

-- a fine answer gives none
answers-none : {A : Type 0} (g : Option Refusal) (m : ℕ) (n : A) → Answers g m (Ok n) → g ≡ none
answers-none g m n a = sym a.gives

next-answers : {A B : Type 0} (g h : Option Refusal) (m : ℕ) (n : A) (j : Result B Flaw) → Answers g m (Ok n) → Answers h m j → Answers (g or_else h) m j
next-answers g h m n j a b = record { gives = fine-next j g h a.gives b.gives; low = b.low }

-- ---- 4 and 8 in one list

module _ (number v : ℕ) (p : 0 < number) (xs : List ℕ) (d a : ℕ) (is : first_is v xs ≡ a) where
  listed-there : a < length xs → first_from d (only number v xs) ≡ some (refusal number (d + a))
  listed-there h =
      flaw_there d number a (only number v xs) (only_at number v xs a h (rw is at (first-at v xs (omega arith)))) p (λ j l. only_zero number v xs j (λ q m. first-before v xs j (omega arith) q))

  listed_nowhere : length xs ≤ a → first_from d (only number v xs) ≡ none
  listed_nowhere h = flaw_nowhere d (only number v xs) (λ j. only_zero number v xs j (λ q m. first-before v xs j (omega arith) q))

size : (b : List ℕ) → All Placed (recs b) → length (records_all (trees_of (recs b))) ≡ slots b
size b a = ap length (list-records (recs b) a) ∙ length-recs b

module _ (src : List ℕ) (d : ℕ) (placed : All Placed (recs src)) where
  abbrev ts : Trees
  ts = trees_of (recs src)

  -- what is wrong is at the first value v of a list as long as the records, o being its index
  module _ (g : Ground) (v : ℕ) (xs : List ℕ) (long : length xs ≡ slots src) (p : 0 < grounds.number g) where
    index_judged : (o : Maybe ℕ) → IfSome o (λ i. i < slots src) → unwrap_or o (slots src) ≡ first_is v xs → Answers (first_from d (only (grounds.number g) v xs)) (d + slots src) (judged_at o g d)
    unfolding Low
    index_judged (Some a) i e = record { gives = sym (listed-there (grounds.number g) v p xs d a (sym e) (omega (arith, i, long))); low = omega (arith, i) }
    index_judged None i e = record { gives = sym (listed_nowhere (grounds.number g) v p xs d (slots src) (sym e) (omega (arith, long))); low = tt }

  pub args_judged : (o : Maybe ℕ) → IfSome o (λ i. i < slots src) → unwrap_or o (slots src) ≡ first_macro_arg (recs src) → (r : Result (Unit {0}) Flaw) → r ≡ judged_at o MacroArg d → Answers (found (macro_args ts d)) (d + slots src) r
  args_judged o i e r is =
      rw is (index_judged MacroArg macro_arg (kinds_all ts) (length-kinds_all ts ∙ size src placed) (omega arith) o i (e ∙ macro_arg_agrees ts (recs src) (list-records (recs src) placed)))

  pub deep_judged : (o : Maybe ℕ) → IfSome o (λ i. i < slots src) → unwrap_or o (slots src) ≡ first_deep_in (recs src) → (r : Result (Unit {0}) Flaw) → r ≡ judged_at o TooDeep d → Answers (found (too_deeps ts d)) (d + slots src) r
  deep_judged o i e r is =
      rw is (index_judged TooDeep too_deep (depths_all 0 ts) (length-depths_all ts 0 ∙ size src placed) (omega arith) o i (e ∙ deep_agrees ts (recs src) (list-records (recs src) placed)))

-- ---- 33, and the extractors

module _ (text defs : List ℕ) (t : List Entry) where
  abbrev many : Option Refusal
  many = found (too_many (extractor_places 0 (trees_of (recs defs))))

  abbrev all-turns : Option Refusal
  all-turns = turns text (extractors text (trees_of (recs defs))) 0 [] (trees_of (recs defs))

  pub others-many : (f : Flaw) → Tabled defs t (Err f) → OthersJudged text defs t (Err f)
  unfolding of_definitions verdict
  others-many f q = record { answers = first-answers many all-turns (slots defs) f q.answers; within = λ n d. absurd (flawed_fine f n d); table = λ n d. absurd (flawed_fine f n d) }

  pub table-within : (n : ℕ) → Tabled defs t (Ok n) → n ≤ length t
  table-within n q = q.within n refl

  pub table_is : (n : ℕ) (u : List ℕ) (rows : List Entry) → u ≡ text → rows ≡ take n t → Tabled defs t (Ok n) → Table u defs rows
  table_is n u rows e f q = rw (e, f) (q.table n refl text)

  module _ (n : ℕ) (q : Tabled defs t (Ok n)) where
    pub others_flawed : (u : List ℕ) → u ≡ text → (f : Flaw) → ListJudged u defs (Err f) → OthersJudged text defs t (Err f)
    unfolding of_definitions verdict
    others_flawed u e f l = record { answers = next-answers many all-turns (slots defs) n (Err f) q.answers (same-flaw all-turns (slots defs) f (rw e at l)); within = λ m c. absurd (flawed_fine f m c); table = λ m c. absurd (flawed_fine f m c) }

    pub others-fine : (u : List ℕ) → u ≡ text → (m : Unit {0}) → ListJudged u defs (Ok m) → OthersJudged text defs t (Ok n)
    unfolding of_definitions verdict Low
    others-fine u e m l =
        record {
          answers = next-answers many all-turns (slots defs) n (Ok n) q.answers (record { gives = sym (answers-none all-turns (slots defs) m (rw e at l)); low = tt });
          within = λ k c. let same : n ≡ k = cc in rw (← same) (q.within n refl);
          table = λ k c. let same : n ≡ k = cc in rw (← same) (q.table n refl text);
        }

pub found_all : (text defs : List ℕ) (t : List Entry) (a b : Result (Unit {0}) Flaw) (c : Judged) → Answers (found (macro_args (trees_of (recs defs)) 0)) (0 + slots defs) a → Answers (found (too_deeps (trees_of (recs defs)) 0)) (0 + slots defs) b → OthersJudged text defs t c
    → FoundIn text defs t (record { args = a; deep = b; others = c })
found_all text defs t a b c p q r = record { args = rw (zero-add (slots defs)) at p; deep = rw (zero-add (slots defs)) at q; others = r }

-- ---- 4 of both lists, then 8 of both

module _ (defs pattern : List ℕ) where
  abbrev end : ℕ
  end = slots defs + slots pattern

  pub both-args : (args : Result (Unit {0}) Flaw) (f : Flaw) → args ≡ Err f → Answers (found (macro_args (trees_of (recs defs)) 0)) (slots defs) args → Answers {A = Unit {0}} (both defs pattern) end (Err f)
  both-args args f p a = first-answers _ _ end f (wider _ (slots defs) end (Err f) (omega arith) (rw p at a))

  module _ (args : Result (Unit {0}) Flaw) (m : Unit {0}) (p : args ≡ Ok m) (a : Answers (found (macro_args (trees_of (recs defs)) 0)) (slots defs) args) where
    a' : Answers (found (macro_args (trees_of (recs defs)) 0)) end (Ok m)
    a' = wider _ (slots defs) end (Ok m) (omega arith) (rw p at a)

    pub both-more : (d : ℕ) (f : Flaw) → d ≡ slots defs → Answers {A = Unit {0}} (found (macro_args (trees_of (recs pattern)) d)) (d + slots pattern) (Err f) → Answers {A = Unit {0}} (both defs pattern) end (Err f)
    both-more d f e q = next-answers _ _ end m (Err f) a' (first-answers _ _ end f (rw e at q))

    module _ (c : ℕ) (n : Unit {0}) (r : c ≡ slots defs) (b : Answers (found (macro_args (trees_of (recs pattern)) c)) (c + slots pattern) (Ok n)) where
      b' : Answers (found (macro_args (trees_of (recs pattern)) (slots defs))) end (Ok n)
      b' = rw r at b

      pub both-deep : (deep : Result (Unit {0}) Flaw) (f : Flaw) → deep ≡ Err f → Answers (found (too_deeps (trees_of (recs defs)) 0)) (slots defs) deep → Answers {A = Unit {0}} (both defs pattern) end (Err f)
      both-deep deep f s x = next-answers _ _ end m (Err f) a' (next-answers _ _ end n (Err f) b' (first-answers _ _ end f (wider _ (slots defs) end (Err f) (omega arith) (rw s at x))))

      pub both-last : (deep : Result (Unit {0}) Flaw) (o : Unit {0}) → deep ≡ Ok o → Answers (found (too_deeps (trees_of (recs defs)) 0)) (slots defs) deep
          → (j : Result (Unit {0}) Flaw) (d : ℕ) → d ≡ slots defs → Answers (found (too_deeps (trees_of (recs pattern)) d)) (d + slots pattern) j → Answers (both defs pattern) end j
      both-last deep o s x j d e q = next-answers _ _ end m j a' (next-answers _ _ end n j b' (next-answers _ _ end o j (wider _ (slots defs) end (Ok o) (omega arith) (rw s at x)) (rw e at q)))

-- ---- places that go on after d records

pub moved-fine : (j : Judged) (m n d : ℕ) → j ≡ Ok m → Ok n ≡ moved j n d
moved-fine j m n d e = rw e

pub moved_flawed : (j : Judged) (f : Flaw) (n d : ℕ) → j ≡ Err f → Err (flaw f.reason (d + f.place)) ≡ moved j n d
moved_flawed j f n d e = rw e

pub moved-low : (j : Judged) (m : ℕ) (f : Flaw) → j ≡ Err f → Low m j → f.place < m
unfolding Low
moved-low j m f e l = rw e at l

moved-given : (j : Judged) (m d : ℕ) → given (moved j m d) ≡ shifted d (given j)
moved-given (Ok x) m d = refl
moved-given (Err f) m d = refl

moved-counts : (j : Judged) (n d m : ℕ) → moved j n d ≡ Ok m → m ≡ n
moved-counts (Ok x) n d m e = cc
moved-counts (Err f) n d m e = absurd (let z : ◌≡◌ {A = ℕ} 0 1 = cc in omega arith)

moved_under : (j : Judged) (m d p : ℕ) → Low p j → Low (d + p) (moved j m d)
unfolding Low
moved_under (Ok x) m d p l = tt
moved_under (Err f) m d p l = omega arith

pub scanned_low : (text : List ℕ) (t : List Entry) (earlier : ℕ) (src : List ℕ) (at trees : ℕ) (j : Judged) → slots src ≤ 65536 → Scanned (its_flaw text t earlier) src at trees j → Low 65536 j
scanned_low text t earlier src at trees j h c = low_by (slots src) 65536 j h c.low

-- ---- the pattern after the definitions

module _ (text defs pattern : List ℕ) (t : List Entry) (d : DefinitionsShaped defs) (s : PatternShaped pattern) where
  abbrev D : Extractors
  D = extractors text (trees_of (recs defs))

  abbrev its : Option Refusal
  its = found (calls text D D (trees_of (recs pattern)) (slots defs))

  abbrev others : Option Refusal
  others = verdict (of_definitions text (trees_of (recs defs)))

  -- the trees and the place of the first record of the pattern are those of the lent list
  both_is : verdict (of_both (trees_of (recs defs)) (tree_of (recs pattern))) ≡ both defs pattern
  unfolding of_both verdict
  both_is = rw (← s.one, size defs d.placed, or_else_none (found (too_deeps (trees_of (recs pattern)) (slots defs))))

  pattern-is : verdict (of_pattern text (trees_of (recs defs)) (tree_of (recs pattern))) ≡ its
  unfolding of_pattern verdict
  pattern-is = rw (← s.one, size defs d.placed) (or_else_none its)

  order_is : grounds text (trees_of (recs defs)) (tree_of (recs pattern)) ≡ both defs pattern or_else others or_else its
  unfolding order
  order_is =
      verdict_++ (of_both (trees_of (recs defs)) (tree_of (recs pattern))) (of_definitions text (trees_of (recs defs)) ++ of_pattern text (trees_of (recs defs)) (tree_of (recs pattern)))
      ∙ ap (verdict (of_both (trees_of (recs defs)) (tree_of (recs pattern))) or_else◌) (verdict_++ (of_definitions text (trees_of (recs defs))) (of_pattern text (trees_of (recs defs)) (tree_of (recs pattern))))
      ∙ rw (both_is, pattern-is)

  pub by_both : (f : Flaw) → Answers {A = Unit {0}} (both defs pattern) (slots defs + slots pattern) (Err f) → Grounded text defs pattern t (Err f)
  by_both f q = record { answers = rw order_is (first-answers _ _ _ f q); within = λ n c. absurd (flawed_fine f n c); table = λ n c. absurd (flawed_fine f n c) }

  module _ (m : Unit {0}) (l : Answers (both defs pattern) (slots defs + slots pattern) (Ok m)) where
    pub by_others : (o : Judged) (f : Flaw) → o ≡ Err f → OthersJudged text defs t o → Grounded text defs pattern t (Err f)
    by_others o f w q' =
        let q : OthersJudged text defs t (Err f) = rw w at q' in
        record {
          answers = rw order_is (next-answers _ _ _ m (Err f) l (first-answers _ _ _ f (wider _ (slots defs) (slots defs + slots pattern) (Err f) (omega arith) q.answers)));
          within = λ n c. absurd (flawed_fine f n c);
          table = λ n c. absurd (flawed_fine f n c);
        }

    module _ (o : Judged) (n : ℕ) (w : o ≡ Ok n) (q' : OthersJudged text defs t o) where
      q : OthersJudged text defs t (Ok n)
      q = rw w at q'

      pub others_within : n ≤ length t
      others_within = q.within n refl

      abbrev rows : List Entry
      rows = take n t

      table : Table text defs rows
      table = q.table n refl

      rows_are : length rows ≡ n
      rows_are = length-take-le n t (q.within n refl)

      known : Known text rows n
      known = table_known text defs rows n D [] d.placed table (sym (append-nil D)) (table.size ∙ rows_are)

      calls_are : marks_all (call_flaw text (known_all known) known.first) (firsts 1 (trees_of (drop 0 (recs pattern)))) ≡ marks_all (call_flaw text D D) (trees_of (recs pattern))
      unfolding firsts known table_known
      calls_are =
          ap (λ (F : Extractors). marks_all (call_flaw text F D) (firsts 1 (trees_of (drop 0 (recs pattern))))) (append-nil D)
          ∙ ap (marks_all (call_flaw text D D)) (ap (firsts 1) s.one ∙ sym s.one)

      pub by_pattern : (j r : Judged) (c : ℕ) (u : List ℕ) (rs : List Entry) → u ≡ text → rs ≡ take n t → c ≡ slots defs → r ≡ moved j n c → Scanned (its_flaw u rs n) pattern 0 1 j → Grounded text defs pattern t r
      by_pattern j r c u rs a b v z x' =
          let x : Scanned (its_flaw text rows n) pattern 0 1 j = rw (a, b) at x' in
          rw (z, v) (record {
            answers = rw order_is (next-answers _ _ _ m (moved j n (slots defs)) l (next-answers _ _ _ n (moved j n (slots defs)) (wider _ (slots defs) (slots defs + slots pattern) (Ok n) (omega arith) q.answers)
                (record {
                  gives = moved-given j n (slots defs) ∙ ap (shifted (slots defs)) (x.gives known ∙ ap (first_from 0) calls_are) ∙ sym (ap (λ (k : ℕ). first_from k (marks_all (call_flaw text D D) (trees_of (recs pattern)))) (sym (add-zero (slots defs))) ∙ flaw_shifted (slots defs) 0 (marks_all (call_flaw text D D) (trees_of (recs pattern))));
                  low = moved_under j n (slots defs) (slots pattern) x.low;
                })));
            within = λ k y. rw (moved-counts j n (slots defs) k y) others_within;
            table = λ k y. rw (moved-counts j n (slots defs) k y) table;
          })

      pub rows-there : (rs : List Entry) → rs ≡ take n t → n ≤ length rs
      rows-there rs e = rw e (omega (arith, rows_are))
