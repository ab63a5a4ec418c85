use Rattle.std.proofs.Common.{◌∷◌, [], take, get_or, sym, ◌∙◌, ap}
use Rattle.std.proofs.lemmas.List.{take_more}
use Rattle.fws_net.specs.declared.connection.Conn.{Conn}
use Rattle.fws_net.specs.declared.connection.Tuple.{Tuple}
use Rattle.fws_net.specs.Connections.{class_of}
use Rattle.fws_trace.specs.Classes.{first_class}
use Rattle.fws_why.proofs.saying.classes_of.Goals as goal

pub loop-conn-preserved : goal.loop-conn-preserved
loop-conn-preserved c t =
    let tuple : Tuple = record { proto = 0; dst = 0; dport = 0; src = 0; sport = 0 } in
    let other : Conn = record { orig = tuple; reply = tuple } in
    let conns = c.args.conns.now in
    let k = c.loop-conn.conn-index in
    let conn : Conn = get_or conns k other in
    c.in_ok-add.ensures.noted t ∙ ap (λ l. first_class l (class_of (conn ∷ []) t)) (c.loop-conn.invariant t)
    ∙ sym (c.classes_are_found_in_order.ensures.behind (take k conns) (conn ∷ []) t) ∙ ap (λ xs. class_of xs t) (sym (take_more conns k other c.loop-conn-test.true))
