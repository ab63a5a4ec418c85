use Rattle.std.proofs.Common.{◌++◌}
use Rattle.fws_ios_put.proofs.Assembling.{back_of}
use Rattle.fws_ios_put.proofs.Joining.{three_behind}
use Rattle.fws_ios_put.proofs.MadeTrees.{values_listed}
use Rattle.fws_ios_put.proofs.blocks.put_back.Goals as goal

pub put_list-requires-clause-listed : goal.put_list-requires-clause-listed
put_list-requires-clause-listed c = values_listed c.args.site.now c.args.c.now.fresh c.requires.askable.fresh

pub returns : goal.returns
returns c =
    let a = c.in_ok-put_marked.ensures in
    let b = c.in_ok-put_lacking.ensures in
    let d = c.in_ok-put_list.ensures in (
      a.0 ++ b.0 ++ d.0,
      three_behind c.args.entries.now c.put_marked.new.entries c.put_lacking.new.entries c.put_list.new.entries a.0 b.0 d.0 a.1 b.1 d.1,
      back_of c.args.site.now c.args.c.now a.0 b.0 d.0 c.requires.askable.fresh a.2 b.2 d.2,
    )
