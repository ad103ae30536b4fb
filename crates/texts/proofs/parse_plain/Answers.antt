use Rattle.texts.proofs.ReadLaws.{short_table, long_table}
use Rattle.texts.proofs.parse_plain.Goals as goal

pub parse_with-requires-clause-room : goal.parse_with-requires-clause-room
parse_with-requires-clause-room c = short_table _ 6144 c.if-text-le256.true

pub parse_with-requires-then-text-le1024-clause-room : goal.parse_with-requires-then-text-le1024-clause-room
parse_with-requires-then-text-le1024-clause-room c = short_table _ 24576 c.if-text-le1024.true

pub parse_with-requires-then-text-le4096-clause-room : goal.parse_with-requires-then-text-le4096-clause-room
parse_with-requires-then-text-le4096-clause-room c = short_table _ 98304 c.if-text-le4096.true

pub parse_with-requires-2-clause-room : goal.parse_with-requires-2-clause-room
parse_with-requires-2-clause-room c = long_table _
