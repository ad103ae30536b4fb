-- THE THEOREM: what reading writes, opening takes. Assumes nothing.
use Prim.Native.Nat.{ℕ, ◌/◌, ◌≤◌}
use native.Mathlib.Omega.{arith}
use mathlib.Core.Path.{◌≡◌, refl, sym, subst, ◌∙◌}
use mathlib.Core.List.{List, []}
use lib.ListN.{length}
use Rattle.trees.specs.Tree.{Trees, records_all}
use Rattle.tokens.specs.Input.{Input}
use Rattle.records.specs.Result.{refusal_of, count_of}
use Rattle.records.proofs.ResultLaws.{accepted_apart}
use Rattle.records.proofs.BackLaws.{AllSized}
use Rattle.parser.specs.Reading.{done, reading, number, bytes}
use Rattle.grammar.specs.Meaning.{Derived, Worth, accepted, refused}
use Rattle.grammar.proofs.Theorem.{three, exact, positive_if_refused}
use Rattle.forms.specs.Kinds.{definition}
use Rattle.forms.proofs.Exact.{complete}
use Rattle.forms.proofs.SkipLaws.{macro_arg_agrees}
use Rattle.forms.proofs.DepthLaws.{deep_agrees}
use Rattle.forms.proofs.FirstLaws.{length-kinds_all, length-depths_all}
use Rattle.closed.specs.Closed.{Taken, NoEmptyName, kept, Closed}
use Rattle.closed.proofs.Lent.{Lent}
use Rattle.closed.proofs.Rows.{Several, several_kinds, several_plain}
use Rattle.closed.proofs.Depths.{absent_first, plain-trees, shallow-trees}
use Rattle.closed.proofs.Sizes.{sized-trees, named-trees, Again, again}
use Rattle.closed.proofs.Parts.{parts, manner, listed, Holds}

definitions : {s : Input} {ts : Trees} → Derived s ts → Several s definition ts
unfolding manner listed Holds
definitions d = parts d.list-good d.derives

few-records : {s : Input} {ts : Trees} → Derived s ts → length (records_all ts) ≤ 65535
few-records {s} {ts} d = omega (arith, three s ts d.derives, d.list-good.limited.few)

-- of every list that the grammar derives
pub taken : {s : Input} {ts : Trees} → Derived s ts → Taken (length s.text) (records_all ts)
taken {s} {ts} d =
    let q = definitions d in
    record {
      few = omega (arith, few-records d);
      short = d.list-good.limited.short;
      fits = complete ts (length s.text) definition [] (several_kinds q);
      no_arg = macro_arg_agrees ts (records_all ts) refl ∙ absent_first (plain-trees (several_plain q)) ∙ length-kinds_all ts;
      shallow = deep_agrees ts (records_all ts) refl ∙ absent_first (shallow-trees ts (length s.text) definition [] 0 (several_kinds q) (omega (arith, d.shallow))) ∙ length-depths_all ts 0;
    }

pub no_empty_name : {s : Input} {ts : Trees} → Derived s ts → NoEmptyName (records_all ts)
no_empty_name {s} {ts} d = named-trees (several_plain (definitions d)) (few-records d)

-- and so of every list that reading accepts
pub read_taken : (s : Input) (space : ℕ) (ts : Trees) → reading s space ≡ done ts → Taken (length s.text) (records_all ts)
read_taken s space ts e = taken ((exact s space ts).0 e).0

-- ---- the same of the bytes

pub sized : {s : Input} {ts : Trees} → Derived s ts → Lent s → AllSized (records_all ts)
sized d l = sized-trees (several_plain (definitions d)) l (few-records d)

-- the count that is returned is that of the records
counted : {s : Input} {ts : Trees} → Derived s ts → count_of (number (done ts)) ≡ length (records_all ts)
unfolding number
counted {s} {ts} d = (accepted_apart (length (records_all ts)) (omega (arith, (taken d).few))).count-is

kept_again : {s : Input} {ts : Trees} (n : ℕ) → Derived s ts → Lent s → length (records_all ts) ≤ n / 24 → Again (records_all ts) (kept (number (done ts)) (bytes n (done ts)))
unfolding bytes
kept_again {s} {ts} n d l h = again (records_all ts) n (count_of (number (done ts))) (counted d) (sized d l) (omega (arith, counted d))

pub accepted-closed : {s : Input} {ts : Trees} (n : ℕ) → Derived s ts → Lent s → length (records_all ts) ≤ n / 24 → Closed s (number (done ts)) (bytes n (done ts))
accepted-closed {s} {ts} n d l h =
    let b = kept_again n d l h in
    record { trees = ts; derived = d; whole = b.whole; back = b.back; taken = subst (Taken (length s.text)) (sym b.back) (taken d); no_empty_name = subst NoEmptyName (sym b.back) (no_empty_name d) }

-- CLOSED: where reading accepts with an output of n bytes, what is lent on is a list that opening takes
pub closed : (s : Input) (n : ℕ) (ts : Trees) → Lent s → reading s (n / 24) ≡ done ts → Closed s (number (done ts)) (bytes n (done ts))
closed s n ts l e = let d = (exact s (n / 24) ts).0 e in accepted-closed n d.0 l d.1

-- the same from what `isle_read` promises: if the returned number says that it accepted
pub worth_closed : {s : Input} {n r : ℕ} {l : List ℕ} → Lent s → Worth s (n / 24) n r l → refusal_of r ≡ 0 → Closed s r l
worth_closed {n = n} b (accepted a) e = accepted-closed n a.derived b a.fits
worth_closed b (refused f) e = absurd (omega (arith, positive_if_refused f))
