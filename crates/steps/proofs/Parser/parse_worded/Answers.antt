use Rattle.tokens.specs.Token.{is_lparen}
use Rattle.steps.proofs.ReadLaws.{◌▷◌, stop, exit, second_next}
use Rattle.steps.proofs.Parser.parse_worded.Goals as goal

pub returns-in_err-expect_lparen-clause-reads : goal.returns-in_err-expect_lparen-clause-reads
returns-in_err-expect_lparen-clause-reads g c = exit c.from_residual.ensures (stop _ (stop _ (stop _ c.in_err-expect_lparen.ensures.reads)))

pub expect_word_of-requires : goal.expect_word_of-requires
expect_word_of-requires g c = second_next (λ _. is_lparen) c.requires.second c.in_ok-expect_lparen.ensures.reads

pub returns-in_err-expect_word_of-clause-reads : goal.returns-in_err-expect_word_of-clause-reads
returns-in_err-expect_word_of-clause-reads g c = exit c.from_residual-in_err-expect_word_of.ensures (stop _ (stop _ (c.in_ok-expect_lparen.ensures.reads ▷ c.in_err-expect_word_of.ensures.reads)))

pub returns-in_err-parse-clause-reads : goal.returns-in_err-parse-clause-reads
returns-in_err-parse-clause-reads g c = exit c.from_residual-in_err-parse.ensures (stop _ (c.in_ok-expect_lparen.ensures.reads ▷ c.in_ok-expect_word_of.ensures.reads ▷ c.in_err-parse.ensures.reads))

pub returns-clause-reads : goal.returns-clause-reads
returns-clause-reads g c = c.in_ok-expect_lparen.ensures.reads ▷ c.in_ok-expect_word_of.ensures.reads ▷ c.in_ok-parse.ensures.reads ▷ c.expect_rparen.ensures.reads
