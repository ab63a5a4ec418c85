use Rattle.std.proofs.Common.{◌≡◌, List, [], length, get_or, sym, ◌∙◌, ap}
use Rattle.std.proofs.lemmas.List.{get_or_default}
use Rattle.fws_events.specs.Listing.{joined}
use Rattle.fws_events.proofs.Chunked.{left_out_empty}
use Rattle.fws_net.specs.declared.connection.Conn.{Conn}
use Rattle.fws_events.proofs.listing.leave_out_empty.Goals as goal

pub returns-then-len-eq0 : goal.returns-then-len-eq0
returns-then-len-eq0 c =
    let items : List (List Conn) = c.args.chunks.now.items in
    let at = c.args.at in
    let chunk : List Conn = c.index.result.now in
    let none : length (get_or items at []) ≡ 0 =
    ap length (sym (get_or_default items at chunk [] c.requires)) ∙ ap length (sym c.index.ensures) ∙ sym c.len.ensures ∙ c.if-len-eq0.true in
    ap joined c.remove.ensures.items ∙ left_out_empty items at c.requires none
