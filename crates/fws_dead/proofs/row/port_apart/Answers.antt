use Rattle.std.proofs.Common.{sym, ◌∙◌}
use Rattle.fws_dead.proofs.Writing.{none_found, dport_found, sport_found}
use Rattle.fws_dead.proofs.row.port_apart.Goals as goal

pub returns-then-is_some : goal.returns-then-is_some
returns-then-is_some c tops row within h ports =
    dport_found tops c.args.sides.now c.args.point.now c.args.first c.args.second c.laid_port.result c.laid_port-2.result c.moved-dport.result row within h ports c.laid_port.ensures c.laid_port-2.ensures
    (sym c.is_some.ensures ∙ c.if-is_some.true) c.moved-dport.ensures

pub returns : goal.returns
returns c tops row within h ports =
    sport_found tops c.args.sides.now c.args.point.now c.args.first c.args.second c.laid_port.result c.laid_port-2.result c.laid_port-3.result c.laid_port-4.result c.moved-sport.result row within h ports
    c.laid_port.ensures c.laid_port-2.ensures c.laid_port-3.ensures c.laid_port-4.ensures
    (none_found _ _ c.moved-dport.result (sym c.is_some.ensures ∙ c.if-is_some.false) c.moved-dport.ensures) c.moved-sport.ensures
