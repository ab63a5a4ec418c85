use Rattle.std.proofs.Common.{◌++◌}
use Rattle.fws_ios_put.proofs.Assembling.{ahead_of}
use Rattle.fws_ios_put.proofs.Joining.{three_behind}
use Rattle.fws_ios_put.proofs.blocks.put_ahead.Goals as goal

pub returns : goal.returns
returns c =
    let a = c.in_ok-put_marked.ensures in
    let b = c.in_ok-put_denied.ensures in
    let d = c.in_ok-put_lacking.ensures in (
      a.0 ++ b.0 ++ d.0,
      three_behind c.args.entries.now c.put_marked.new.entries c.put_denied.new.entries c.put_lacking.new.entries a.0 b.0 d.0 a.1 b.1 d.1,
      ahead_of c.args.site.now c.args.c.now a.0 b.0 d.0 a.2 b.2 d.2,
    )
