use Rattle.fws_ios_put.proofs.lists.own_list.Goals as goal

pub returns : goal.returns
returns c = record { name = c.in_ok-name.ensures; decides = c.in_ok-entries.ensures }
