-- The theorems on reading text at real texts. Assumes nothing.
use Prim.Native.Nat.{ℕ}
use native.Mathlib.Omega.{arith}
use mathlib.Core.Path.{◌≡◌, refl}
use mathlib.Core.List.{List}
use lib.ListN.{length}
use Rattle.trees.specs.Tree.{Trees, records_all}
use Rattle.grammar.specs.Examples.{tree}
use Rattle.exprs.specs.Examples.{id}
use Rattle.records.specs.Slots.{recs}
use Rattle.records.specs.Result.{refusal_of, accepted, refused}
use Rattle.parser.specs.Reading as left
use Rattle.parser.specs.Reading.{done, stopped, number, reading}
use Rattle.lexer.specs.Quoted.{bytes}
use Rattle.texts.specs.TextReading.{token_input, text_reading}
use Rattle.closed.specs.Closed.{NoEmptyName, kept}
use Rattle.text_grammar.specs.TextMeaning.{TextDerived, TextAccepted, BadToken, FirstHigh, TextRefused, TextMeaning, TextTooLong, TextClosed}
use Rattle.text_grammar.proofs.Theorem.{meaning, worth}
use Rattle.text_grammar.proofs.Exactly.{forty, exactly, closed}
use Rattle.text_grammar.proofs.AsLent.{as_lent}
use Rattle.text_examples.specs.Examples.{with_byte}
use Rattle.text_examples.proofs.Examples.{computed}

accepted-is : {text : List ℕ} {space : ℕ} {ts : Trees} → TextMeaning text space (done ts) → TextAccepted text space ts
unfolding TextMeaning
accepted-is h = h

refused-is : {text : List ℕ} {space code place : ℕ} → TextMeaning text space (stopped code place) → TextRefused text space code place
unfolding TextMeaning
refused-is h = h

-- ---- `(rule (A x) y)` is accepted, and its tree is the one that is derived

pub rule : List ℕ
rule = bytes "(rule (A x) y)"

read : text_reading rule 7 ≡ done tree
unfolding rule computed tree id
read = refl

pub rule-derived : TextDerived rule tree
rule-derived = (accepted-is (rw read at (meaning rule 7))).derived

-- and it is read as its tokens are
pub rule-lent : (space : ℕ) → text_reading rule space ≡ reading (token_input rule rule-derived.tokens) space
rule-lent = as_lent rule-derived.whole

-- with space for one record less it is 6, and with that number it is derived and too long
read_short : text_reading rule 6 ≡ stopped 6 0
unfolding rule computed
read_short = refl

pub rule_too_long : TextTooLong rule 6
rule_too_long = (exactly (worth rule 6 150)).six.0 (rw read_short refl)

-- ---- `(decl -` is refused with 40 at the `-`, where the lexer refuses

pub sign : List ℕ
sign = bytes "(decl -"

read_sign : text_reading sign 7 ≡ stopped 40 6
unfolding sign computed
read_sign = refl

pub sign_refused : BadToken sign 6
sign_refused = forty (refused-is (rw read_sign at (meaning sign 7))) refl

-- ---- `)` and then a byte of 195 are refused with 41 at it

pub foreign : List ℕ
foreign = with_byte ")" 195

read_foreign : text_reading foreign 7 ≡ stopped 41 1
unfolding foreign computed
read_foreign = refl

pub foreign_first : FirstHigh foreign 1
foreign_first = ((exactly (worth foreign 7 168)).forty_one 1 (omega arith)).0 (rw read_foreign refl)

-- ---- `(extern const $ T)` is refused with 16 at the `$`, and nothing is derived

pub alone : List ℕ
alone = bytes "(extern const $ T)"

read-alone : (space : ℕ) → text_reading alone space ≡ stopped 16 14
unfolding alone computed
read-alone space = refl

pub alone-refused : (space : ℕ) → TextRefused alone space 16 14
alone-refused space = refused-is (rw (read-alone space) at (meaning alone space))

refusal_sixteen : refusal_of (number (stopped 16 14)) ≡ 16
unfolding number refused
refusal_sixteen = refl

pub alone_underived : (us : Trees) → TextDerived alone us → ⊥
alone_underived us d =
    let n = length (records_all us) in
    let z = (exactly (worth alone n n)).accepts.1 (record { trees = us; derived = d; fits = omega arith }) in
    omega (arith, refusal_sixteen, rw (read-alone n) at z)

-- ---- `(extern const $a T)` is accepted, and no name among its records is empty

pub constant : List ℕ
constant = bytes "(extern const $a T)"

accepts : refusal_of (number (text_reading constant 3)) ≡ 0
unfolding constant computed number accepted
accepts = refl

pub constant-closed : TextClosed constant (number (text_reading constant 3)) (left.bytes 72 (text_reading constant 3))
constant-closed = closed (worth constant 3 72) accepts

pub constant-named : NoEmptyName (recs (kept (number (text_reading constant 3)) (left.bytes 72 (text_reading constant 3))))
constant-named = constant-closed.closed.no_empty_name
