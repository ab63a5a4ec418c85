use Rattle.std.proofs.Common.{arith}
use Rattle.fws_pf_words.proofs.Found.{in_at}
use Rattle.fws_pf_words.proofs.tables.own_ranges.Goals as goal

pub table_at-requires : goal.table_at-requires
table_at-requires c = c.requires _ (in_at c.args.places.now c.loop-place.place-index (omega arith))
