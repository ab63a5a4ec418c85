use Rattle.fws_ios_put.proofs.telling.known_tree.Goals as goal

pub accepted_somewhere-requires : goal.accepted_somewhere-requires
accepted_somewhere-requires c = c.requires.est_tops

pub returns : goal.returns
returns c =
    let told = c.views_are_told.ensures c.args.site.now c.args.tables.now c.requires in
    record {
      tops = c.in_ok-made.ensures.tops;
      told = told.packet c.in_ok-made.made.1 c.in_ok-made.ensures.tells;
      tells = c.in_ok-made.ensures.tells;
    }
