use Rattle.std.proofs.Common.{arith}
use Rattle.fws_unfold.proofs.Bodies.{put_end_jump}
use Rattle.fws_unfold.proofs.BodiesUsed.{put_end_jump_used}
use Rattle.fws_unfold.proofs.emitting.put_end.Goals as goal

pub returns-clause-does : goal.returns-clause-does
returns-clause-does c = put_end_jump c.args.back c.args.out.now.items c.put_jump.new.out.items (omega (arith, c.requires)) c.in_ok-put_jump.ensures

pub returns-clause-uses : goal.returns-clause-uses
returns-clause-uses c = put_end_jump_used c.args.back c.args.out.now.items c.put_jump.new.out.items c.in_ok-put_jump.ensures
