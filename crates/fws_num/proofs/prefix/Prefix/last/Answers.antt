use Rattle.std.proofs.Common.{arith}
use Rattle.fws_num.proofs.Masks.{last_fits}
use Rattle.fws_num.proofs.prefix.Prefix.last.Goals as goal

pub overflow_add-result : goal.overflow_add-result
overflow_add-result c =
    let size = c.addresses.ensures in
    omega (arith, last_fits c.args.self.now.addr c.args.self.now.len (omega arith) c.requires.len_in c.requires.clear)
