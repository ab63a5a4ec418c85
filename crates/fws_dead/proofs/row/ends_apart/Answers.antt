use Rattle.std.proofs.Common.{sym, ◌∙◌}
use Rattle.fws_dead.proofs.Writing.{none_found, dst_found, src_found, ends_by_ports}
use Rattle.fws_dead.proofs.row.ends_apart.Goals as goal

pub returns-then-is_some : goal.returns-then-is_some
returns-then-is_some c tops row within h =
    dst_found tops c.args.sides.now c.args.point.now c.args.first c.args.second c.laid_addr.result c.laid_addr-2.result c.moved-dst.result row within h c.laid_addr.ensures c.laid_addr-2.ensures
    (sym c.is_some.ensures ∙ c.if-is_some.true) c.moved-dst.ensures

pub returns-then-is_some-2 : goal.returns-then-is_some-2
returns-then-is_some-2 c tops row within h =
    src_found tops c.args.sides.now c.args.point.now c.args.first c.args.second c.laid_addr-3.result c.laid_addr-4.result c.moved-src.result row within h c.laid_addr-3.ensures c.laid_addr-4.ensures
    (sym c.is_some-2.ensures ∙ c.if-is_some-2.true) c.moved-src.ensures

pub returns : goal.returns
returns c tops row within h =
    ends_by_ports tops c.args.sides.now c.args.first c.args.second c.laid_addr.result c.laid_addr-2.result c.laid_addr-3.result c.laid_addr-4.result c.ports_apart-ports.result row
    c.laid_addr.ensures c.laid_addr-2.ensures c.laid_addr-3.ensures c.laid_addr-4.ensures
    (none_found _ _ c.moved-dst.result (sym c.is_some.ensures ∙ c.if-is_some.false) c.moved-dst.ensures)
    (none_found _ _ c.moved-src.result (sym c.is_some-2.ensures ∙ c.if-is_some-2.false) c.moved-src.ensures)
    (c.ports_apart-ports.ensures tops row within h)
