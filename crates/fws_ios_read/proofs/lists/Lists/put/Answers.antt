use Rattle.std.proofs.Common.{refl, ap}
use Rattle.fws_ios_read.proofs.Listed.{put_first, put_more}
use Rattle.fws_ios_read.proofs.lists.Lists.put.Goals as goal

pub returns-in_ok-put-in-Some : goal.returns-in_ok-put-in-Some
returns-in_ok-put-in-Some c =
    put_more c.args.name.now c.args.entry c.self.inside.entries.entries _ _ _ _ c.self.view_is c.in-Some.ensures.value c.in_ok-put-in-Some.ensures.ok
    (c.get_mut.follows.holds _).0

pub returns-in_ok-insert-in-None : goal.returns-in_ok-insert-in-None
returns-in_ok-insert-in-None c =
    put_first c.args.name.now c.args.name.now c.args.entry c.self.inside.entries.entries _ _ _ _ c.self.view_is c.in-None.ensures.value
    (ap (λ m. m.entries) c.get_mut.follows.holds-at-none) refl c.in_ok-entries-in-None.ensures c.in_ok-insert-in-None.ensures
