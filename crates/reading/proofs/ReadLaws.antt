-- One law for each way through reading. Assumes nothing.
use Prim.Native.Nat.{ℕ, ◌-◌, ◌*◌, ◌/◌, ◌%◌, ◌<◌, ◌≤◌}
use native.Mathlib.Omega.{arith}
use mathlib.Core.Path.{◌≡◌, refl, ap, ◌∙◌}
use mathlib.Core.List.{List, ◌++◌}
use mathlib.Core.Bool.{Bool, true, false}
use lib.ListN.{length, take, replicate}
use lib.Dec.{leb, ltb, eqb}
use mir.Syntax.{w32}
use mir.Val.{Fits}
use borrow.Author.Tests.{lt-ltb, le-ltb, le-leb, lt-leb, eq-eqb, ne_eqb, leb-true}
use Rattle.trees.specs.Choice.{pick, choose}
use Rattle.trees.specs.Tree.{Trees, records_all}
use Rattle.records.specs.Slots.{slots, writes}
use Rattle.records.specs.Result.{accepted, refused}
use Rattle.records.proofs.BackLaws.{writes-cleared}
use Rattle.tokens.specs.Lent.{first_bad}
use Rattle.tokens.specs.Input.{Input, size}
use Rattle.std.specs.Prelude.{Result, Ok, Err, MatchResult}
use Rattle.std.specs.Result.{IfOk, IsErr, IsErrAnd}
use Rattle.std.proofs.lemmas.Result.{err_from_is_err_and}
use Rattle.records.specs.Grounds.{number as ground_number}
use Rattle.steps.specs.declared.State.{State}
use Rattle.steps.specs.declared.Stop.{Stop}
use Rattle.steps.specs.declared.Refusal.{Refusal}
use Rattle.steps.specs.Outcome.{Outcome, accept, refuse, refusal}
use Rattle.steps.specs.Outcome as outcome
use Rattle.steps.specs.Met.{told, told_as, state, number_of, Met, Chained, Ready, Within}
use Rattle.parser.specs.Defs.{parse_defs}
use Rattle.parser.specs.Reading.{done, stopped, fitted, judged, reading, number, bytes}
use Rattle.reading.specs.Answered.{Answered, cleared, Finished, FinishedAs, Countable, CountableAs}
use Rattle.reading.specs.Checked.{unread, parse_good, parse_checked, Passed, Checked}

pub stops : (code place r : ℕ) (l l' : List ℕ) → l' ≡ replicate (length l) 0 → r ≡ refused code place → Answered (stopped code place) (length l) l' r
unfolding number bytes
stops code place r l l' a b = record { returns = b; output = a }

-- ---- settling

pub settle-full : (n r : ℕ) (l l' : List ℕ) → length l / 24 < n → Answered (stopped 6 0) (length l) l' r → Finished (Ok (state 0 n 0)) l l' r
unfolding number bytes number_of cleared
settle-full n r l l' h a = record { returns = rw (lt-leb n (length l / 24) h) a.returns; output = rw (lt-leb n (length l / 24) h) a.output }

pub settle-kept : (n r : ℕ) (l l' : List ℕ) → n ≤ length l / 24 → l' ≡ take (n * 24) l ++ replicate (length l - n * 24) 0 → r ≡ accepted n → Finished (Ok (state 0 n 0)) l l' r
unfolding number_of cleared
settle-kept n r l l' h a b = record { returns = rw (le-leb n (length l / 24) h) b; output = rw (le-leb n (length l / 24) h) a }

-- ---- the end, which looks at the count alone

pub finish_refused : (d : Stop) (r : ℕ) (l l' : List ℕ) → Answered (stopped (ground_number d.why) d.place) (length l) l' r → Finished (Err d) l l' r
unfolding number bytes number_of cleared
finish_refused d r l l' a = record { returns = a.returns; output = a.output }

pub finish_settled : (q : State) (r : ℕ) (l l' : List ℕ) → Finished (Ok (state 0 q.count 0)) l l' r → Finished (Ok q) l l' r
unfolding number_of cleared
finish_settled q r l l' t = record { returns = t.returns; output = t.output }

pub countable_count : (q : State) → Countable (Ok q) → q.count < 16777216
unfolding Countable
countable_count q c = c

-- where the refusal is told in document 01's number
pub countable_as_count : (q : State) → CountableAs (Ok q) → q.count < 16777216
unfolding CountableAs
countable_as_count q c = countable_count q c

pub finish_refused_as : (e : Refusal) (r : ℕ) (l l' : List ℕ) → Answered (stopped e.code e.place) (length l) l' r → FinishedAs (Err e) l l' r
unfolding FinishedAs
finish_refused_as e r l l' a = a

pub finish_settled_as : (q : State) (r : ℕ) (l l' : List ℕ) → Finished (Ok (state 0 q.count 0)) l l' r → FinishedAs (Ok q) l l' r
unfolding FinishedAs
finish_settled_as q r l l' t = finish_settled q r l l' t

-- x is p with its refusal told in document 01's number
module _ (post : Stop → Refusal → Type 0) (k : (d : Stop) (e : Refusal) → post d e → told_as e ≡ told d) where
  pub told_countable : (p : Result State Stop) (x : Result State Refusal) → MatchResult p (λ q. x ≡ Ok q) (λ d. IsErrAnd x (post d)) → Countable p → CountableAs x
  unfolding CountableAs
  told_countable (Ok q) x m c = rw m c
  told_countable (Err d) (Ok q) m c = absurd m
  told_countable (Err d) (Err e) m c = tt

  pub told_finished : (p : Result State Stop) (x : Result State Refusal) (r : ℕ) (l l' : List ℕ) → MatchResult p (λ q. x ≡ Ok q) (λ d. IsErrAnd x (post d)) → FinishedAs x l l' r → Finished p l l' r
  unfolding FinishedAs
  told_finished (Ok q) x r l l' m t = rw m at t
  told_finished (Err d) (Ok q) r l l' m t = absurd m
  told_finished (Err d) (Err e) r l l' m t =
      let a : e.code ≡ ground_number d.why = ap (λ (x : outcome.Refusal). x.code) (k d e m) in
      let b : e.place ≡ d.place = ap (λ (x : outcome.Refusal). x.place) (k d e m) in
      finish_refused d r l l' (rw (a, b) at t)

-- ---- good tokens

pub begins : (s : Input) → size s ≤ 16385 → length s.text ≤ 65536 → Ready 4 s (state 0 0 0)
begins s a b = record { few = a; short = b; here = omega arith; room = omega arith; kids = omega arith; slack = omega arith }

fits_by : (ts : Trees) (n r : ℕ) (l l₁ l₂ : List ℕ) → n ≡ length (records_all ts) → length l₁ ≡ length l → l₁ ≡ writes l 0 (records_all ts) → (j k : ℕ) → Finished (Ok (state j n k)) l₁ l₂ r → (b : Bool) → leb n (slots l) ≡ b
    → Answered (pick (leb (length (records_all ts)) (slots l)) (done ts) (stopped 6 0)) (length l) l₂ r
unfolding number bytes number_of cleared
fits_by ts n r l l₁ l₂ c z w j k t true e =
    let y : leb n (slots l₁) ≡ true = ap (λ (x : ℕ). leb n (x / 24)) z ∙ e in
    rw (← c, e)
    (record {
      returns = t.returns ∙ rw y (ap accepted c);
      output = t.output ∙ rw (y, z, w) (writes-cleared (records_all ts) l n c (leb-true n (slots l) e));
    })
fits_by ts n r l l₁ l₂ c z w j k t false e =
    let y : leb n (slots l₁) ≡ false = ap (λ (x : ℕ). leb n (x / 24)) z ∙ e in
    rw (← c, e) (record { returns = t.returns ∙ rw y; output = t.output ∙ rw (y, z) })

-- what finishing leaves is what the outcome leaves
pub met_finished : (o : Outcome) (p : Result State Stop) (r : ℕ) (l l₁ l₂ : List ℕ) → Met o 0 0 l l₁ p → length l₁ ≡ length l → Finished p l₁ l₂ r → Answered (fitted (slots l) o) (length l) l₂ r
unfolding Met fitted number bytes number_of cleared
met_finished (accept ts x) (Ok q) r l l₁ l₂ h z t = fits_by ts q.count r l l₁ l₂ (omega (arith, h.counted)) z h.wrote q.next q.items t (leb q.count (slots l)) refl
met_finished (accept ts x) (Err e) r l l₁ l₂ h z t = absurd h
met_finished (refuse d) (Ok q) r l l₁ l₂ h z t = absurd h
met_finished (refuse d) (Err e) r l l₁ l₂ h z t = rw (← h, ← z) (record { returns = t.returns; output = t.output })

pub good_countable : (s : Input) (p : Result State Stop) → size s ≤ 16385 → IfOk p (Within 0 0 0 s (state 0 0 0)) → Countable p
unfolding Countable
good_countable s (Ok q) a w = omega (arith, a, w.inside (omega arith), w.room)
good_countable s (Err d) a w = tt

-- ---- the checks

module _ (s : Input) (d : Stop) where
  pub too_many : 16384 < size s → told d ≡ refusal 7 0 0 → Checked s (Err d)
  unfolding Checked parse_checked
  too_many h e = rw (lt-ltb 16384 (size s) h, e) refl

  pub too_long : size s ≤ 16384 → 65536 < length s.text → told d ≡ refusal 7 0 0 → Checked s (Err d)
  unfolding Checked parse_checked
  too_long h k e = rw (le-ltb 16384 (size s) h, lt-ltb 65536 (length s.text) k, e) refl

  pub cut_short : size s ≤ 16384 → length s.text ≤ 65536 → (length s.tokens % 24 ≡ 0 → ⊥) → told d ≡ refusal 1 0 0 → Checked s (Err d)
  unfolding Checked parse_checked
  cut_short h k n e = rw (le-ltb 16384 (size s) h, le-ltb 65536 (length s.text) k, ne_eqb (length s.tokens % 24) 0 n, e) refl

  pub bad-token : (b : ℕ) → size s ≤ 16384 → length s.text ≤ 65536 → length s.tokens % 24 ≡ 0 → b ≡ first_bad s.tokens s.text s.end → b < size s → told d ≡ refusal 2 b 0 → Checked s (Err d)
  unfolding Checked parse_checked parse_good
  bad-token b h k n f g e = rw (le-ltb 16384 (size s) h, le-ltb 65536 (length s.text) k, eq-eqb (length s.tokens % 24) 0 n, ← f, lt-ltb b (size s) g, e) refl

pub all-good : (s : Input) → size s ≤ 16384 → length s.text ≤ 65536 → length s.tokens % 24 ≡ 0 → size s ≡ first_bad s.tokens s.text s.end → Checked s (Ok tt)
unfolding Checked parse_checked parse_good
all-good s h k n f =
    record { few = h; short = k; reads = rw (le-ltb 16384 (size s) h, le-ltb 65536 (length s.text) k, eq-eqb (length s.tokens % 24) 0 n, ← f, le-ltb (size s) (size s) (omega arith)) refl }

-- ---- after the checks

module _ (p : Result State Stop) (d : Stop) (h : IsErr p × IsErrAnd p (λ e. e ≡ d)) where
  pub unchecked_met : (s : Input) (l : List ℕ) → Checked s (Err d) → Met (parse_checked s) 0 0 l l p
  unfolding Checked Met
  unchecked_met s l c = let e = err_from_is_err_and p h.1 in rw (c, e.1, e.2) refl

  pub unchecked_countable : Countable p
  unfolding Countable
  unchecked_countable = let e = err_from_is_err_and p h.1 in rw e.1 tt

module _ (s : Input) (c : Checked s (Ok tt)) where
  passed_all : Passed s
  unfolding Checked
  passed_all = c

  pub checked_ready : Ready 4 s (state 0 0 0)
  checked_ready = begins s (omega (arith, passed_all.few)) passed_all.short

  pub checked_met : (p : Result State Stop) (l l₁ : List ℕ) → Chained (parse_defs s) (state 0 0 0) l l₁ p → Met (parse_checked s) 0 0 l l₁ p
  checked_met p l l₁ h = rw passed_all.reads h.met

  pub checked_countable : (p : Result State Stop) → IfOk p (Within 0 0 0 s (state 0 0 0)) → Countable p
  checked_countable p w = good_countable s p (omega (arith, passed_all.few)) w

-- what is answered, by the space
fitted_checked : (s : Input) (space : ℕ) → fitted space (parse_checked s) ≡ reading s space
unfolding fitted parse_checked parse_good reading judged
fitted_checked s space = go (ltb 16384 (size s)) (ltb 65536 (length s.text)) (eqb (length s.tokens % 24) 0) (ltb (first_bad s.tokens s.text s.end) (size s))
  where
    go : (x y z w : Bool) → fitted space (choose x (λ _. unread 7 0) (λ _. choose y (λ _. unread 7 0) (λ _. choose z (λ _. choose w (λ _. unread 2 (first_bad s.tokens s.text s.end)) (λ _. parse_defs s 0)) (λ _. unread 1 0)))) ≡ choose x (λ _. stopped 7 0) (λ _. choose y (λ _. stopped 7 0) (λ _. choose z (λ _. choose w (λ _. stopped 2 (first_bad s.tokens s.text s.end)) (λ _. fitted space (parse_defs s 0))) (λ _. stopped 1 0)))
    go true y z w = refl
    go false true z w = refl
    go false false true true = refl
    go false false true false = refl
    go false false false w = refl

pub read_finished : (s : Input) (p : Result State Stop) (r : ℕ) (l l₁ l₂ : List ℕ) → Met (parse_checked s) 0 0 l l₁ p → length l₁ ≡ length l → Finished p l₁ l₂ r → Answered (reading s (slots l)) (length l) l₂ r
read_finished s p r l l₁ l₂ h z t = rw (fitted_checked s (slots l)) at (met_finished (parse_checked s) p r l l₁ l₂ h z t)

pub place-fits : (b n : ℕ) → b < n → n ≤ 16384 → Fits w32 b
place-fits b n h k = omega arith
