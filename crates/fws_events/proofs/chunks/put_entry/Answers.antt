use Rattle.std.proofs.Common.{ℕ, ◌-◌, List, [], ◌∷◌, length, take, sym, ◌∙◌, ap}
use Rattle.fws_events.proofs.Entries.{taken_back}
use Rattle.fws_net.specs.declared.connection.Conn.{Conn}
use Rattle.fws_net.specs.declared.connection.Kind.{Kind}
use Rattle.fws_net.specs.Connections.{class_of}
use Rattle.fws_trace.specs.Classes.{first_class}
use Rattle.fws_events.proofs.chunks.put_entry.Goals as goal

pub returns-in_err-push-clause-known : goal.returns-in_err-push-clause-known
returns-in_err-push-clause-known c are t = are t ∙ ap (λ (cs : List Conn). class_of cs t) (sym c.in_err-push.ensures.items)

pub returns-in-Ok-clause-known : goal.returns-in-Ok-clause-known
returns-in-Ok-clause-known c are t =
    let conns = c.args.list.now.items in
    c.in-Ok.ensures.noted t ∙ ap (λ (k : Kind). first_class k (class_of (c.args.conn ∷ []) t)) (are t)
    ∙ sym (c.classes_are_found_in_order.ensures.behind conns (c.args.conn ∷ []) t) ∙ ap (λ (cs : List Conn). class_of cs t) (sym c.in_ok-push.ensures.items)

pub returns-in-Err-clause-kept : goal.returns-in-Err-clause-kept
returns-in-Err-clause-kept c =
    c.pop.ensures.rest ∙ ap (λ (n : ℕ). take (n - 1) c.push.new.self.items) c.push.new.self.ok.0 ∙ ap (λ (cs : List Conn). take (length cs - 1) cs) c.in_ok-push.ensures.items
    ∙ taken_back c.args.list.now.items c.args.conn

pub returns-in-Err-clause-known : goal.returns-in-Err-clause-known
returns-in-Err-clause-known c are t = c.in-Err.ensures.kept t ∙ are t ∙ ap (λ (cs : List Conn). class_of cs t) (sym (returns-in-Err-clause-kept c))
