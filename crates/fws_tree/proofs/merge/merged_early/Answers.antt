use Rattle.std.proofs.Common.{sym}
use Rattle.fws_tree.proofs.Known.{known-extends, known_merge}
use Rattle.fws_tree.proofs.merge.merged_early.Goals as goal

pub returns-in-Some-clause-known : goal.returns-in-Some-clause-known
returns-in-Some-clause-known g c =
    known-extends (g.M.Merging.gives c.args.by.now) (g.M.Merging.gives c.early.new.self) c.args.store.now c.early.new.store c.args.memo.now (g.met.M.Merging.kept c.args.by.now c.early.new.self c.early.ensures.later)
    c.early.ensures.extends c.requires.known

pub returns-in-Some-recall-clause-found : goal.returns-in-Some-recall-clause-found
returns-in-Some-recall-clause-found g c =
    known_merge (g.M.Merging.gives c.args.by.now) (g.M.Merging.gives c.early.new.self) c.args.store.now c.early.new.store c.args.memo.now c.args.a c.args.b _ (g.met.M.Merging.kept c.args.by.now c.early.new.self c.early.ensures.later)
    c.early.ensures.extends c.requires.known (sym c.in-Some-recall.ensures)

pub returns-in-Some-recall-clause-known : goal.returns-in-Some-recall-clause-known
returns-in-Some-recall-clause-known g c =
    known-extends (g.M.Merging.gives c.args.by.now) (g.M.Merging.gives c.early.new.self) c.args.store.now c.early.new.store c.args.memo.now (g.met.M.Merging.kept c.args.by.now c.early.new.self c.early.ensures.later)
    c.early.ensures.extends c.requires.known

pub returns-clause-known : goal.returns-clause-known
returns-clause-known g c =
    known-extends (g.M.Merging.gives c.args.by.now) (g.M.Merging.gives c.early.new.self) c.args.store.now c.early.new.store c.args.memo.now (g.met.M.Merging.kept c.args.by.now c.early.new.self c.early.ensures.later)
    c.early.ensures.extends c.requires.known
