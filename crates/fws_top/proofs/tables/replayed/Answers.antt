use Rattle.fws_top.proofs.tables.replayed.Goals as goal

pub returns : goal.returns
returns c = λ walk does.
    let made = c.in_ok-tables.ensures.walked walk does in
    c.put_run.ensures.walked walk made.fresh_walked made.est_walked
