use Rattle.fws_top.proofs.loading.loaded.Goals as goal

pub returns : goal.returns
returns c = λ walk does. c.load_of.ensures walk (c.in_ok-tables.ensures.walked walk does)

pub load_of-requires-clause-regular : goal.load_of-requires-clause-regular
load_of-requires-clause-regular c = let r = c.requires.regular in c.in_ok-tables.ensures.regular r.0 r.1 r.2
