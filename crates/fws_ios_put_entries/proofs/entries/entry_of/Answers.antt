use Rattle.fws_ios_put_entries.proofs.Spelled.{entry_done}
use Rattle.fws_ios_put_entries.proofs.entries.entry_of.Goals as goal

pub returns : goal.returns
returns c = entry_done c.args.act c.args.path c.in_ok-cond_for.field-0 c.requires.writable c.requires.tcp c.requires.keeps c.in_ok-cond_for.ensures
